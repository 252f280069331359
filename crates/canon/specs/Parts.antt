-- The parts of a file, read and printed one behind the other.
use Rattle.std.specs.Prelude.{◌≡◌, ℕ, ◌-◌, ◌<◌, ◌≤◌, true, List, [], ◌∷◌, ◌++◌, drop}
use Rattle.std.specs.Prelude.{length}
use Rattle.proc_macro2.specs.Token.{Token}
use Rattle.writer_print.specs.Sheets.{Shows}
use Rattle.writer_print.specs.declared.sheet.Sheet.{Sheet}
use Rattle.reader_steps.specs.Answers.{tokens}
use Rattle.syn_buffer.specs.Entries.{is_whole}
use Rattle.syn_buffer.specs.declared.entry.Entry.{Entry}
use Rattle.syn_grammar.specs.Kept.{kept}
use Rattle.syn_grammar.specs.Kind.{AnItem, InnerAttributes}
use Rattle.syn_grammar.specs.Normal.{normal}
use Rattle.syn_grammar.specs.Read.{IsDerived}
use Rattle.syn_grammar.specs.Tree.{Tree, flat}

-- the last n entries; all, if there are no more
abbrev pub left_of : ℕ → List Entry → List Entry
left_of n es = drop (length es - n) es

-- There are so many entries at least, and the last so many are whole.
pub record AreLeft (es : List Entry) (left : ℕ) : Type 0 where
  pub within : left ≤ length es
  pub whole : is_whole (left_of left es) ≡ true

-- the tokens that are written of a part
abbrev pub written_as : Tree → List Token
written_as x = flat (normal (kept x))

-- Entries begin with inner attributes, so many are left behind these, and what is written of the attributes is printed
-- behind what the sheet shows.
pub record PrintsAttributes (es : List Entry) (left : ℕ) (old new : Sheet) : Type 0 where
  pub behind : AreLeft es left
  pub tree : Tree
  pub derived : IsDerived InnerAttributes (tokens es) tree (tokens (left_of left es))
  pub shows : (ts : List Token) → Shows old ts → Shows new (ts ++ written_as tree)

-- Tokens begin with items, one behind the other, and these others follow them.
abbrev pub Follow : List Tree → List Token → List Token → Type 0
Follow [] ts us = ts ≡ us
Follow (i ∷ items) ts us = (vs : List Token) × IsDerived AnItem ts i vs × Follow items vs us

-- the tokens that are written of parts, one behind the other
abbrev pub all_written : List Tree → List Token
all_written [] = []
all_written (i ∷ items) = written_as i ++ all_written items

-- Entries begin with items, one at least, so many are left behind these, and what is written of the items is printed
-- behind what the sheet shows.
pub record PrintsItems (es : List Entry) (left : ℕ) (old new : Sheet) : Type 0 where
  pub behind : AreLeft es left
  pub some : left < length es
  pub items : List Tree
  pub follow : Follow items (tokens es) (tokens (left_of left es))
  pub shows : (ts : List Token) → Shows old ts → Shows new (ts ++ all_written items)
