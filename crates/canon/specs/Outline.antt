-- What an outline lists.
use Rattle.std.specs.Prelude.{◌≡◌, ℕ, List, [], ◌∷◌, map, codes, Option, Some, slice_get}
use Rattle.std.specs.Option.{option_map}
use Rattle.rust_leaf.specs.Leaf.{text_of}
use Rattle.rust_map.specs.Answers.{start_place}
use Rattle.rust_map.specs.Sources.{Sources}
use Rattle.rust_map.specs.declared.place.LineColumn.{LineColumn}
use Rattle.proc_macro2.specs.Token.{Token, Ident, Spanned}
use Rattle.syn_grammar.specs.Names.{Named, Name, names}
use Rattle.syn_grammar.specs.Names as kinds
use Rattle.reader_rust.specs.Names.{name_of}
use Rattle.reader_rust.specs.declared.names.Name as read
use Rattle.laws_programs.specs.Faults.{token_place}
use Rattle.laws_programs.specs.Program.{IsProgram, Program}
use Rattle.laws_programs.specs.Stands.{StandsAt}
use Rattle.canon.specs.declared.outlines.Row.{Row}

-- the word of a kind of items
abbrev pub kind_word : Named → List ℕ
kind_word kinds.Const = codes "const"
kind_word kinds.Enum = codes "enum"
kind_word kinds.ExternCrate = codes "extern-crate"
kind_word kinds.Fn = codes "fn"
kind_word kinds.Macro = codes "macro"
kind_word kinds.Mod = codes "mod"
kind_word kinds.Static = codes "static"
kind_word kinds.Struct = codes "struct"
kind_word kinds.Trait = codes "trait"
kind_word kinds.TraitAlias = codes "trait-alias"
kind_word kinds.Alias = codes "type"
kind_word kinds.Union = codes "union"

-- what a row says: the word of its kind, the name, and where that begins
pub record Line : Type 0 where
  pub kind : List ℕ
  pub name : List ℕ
  pub place : Option LineColumn

abbrev pub line_of : Row → Line
line_of row = record { kind = row.kind.now; name = text_of row.name; place = Some row.place }

-- what is to be said of a name, by where tokens begin
abbrev pub line_for : (ℕ → Option LineColumn) → Name → Line
line_for place name = record { kind = kind_word name.kind; name = name.text; place = place name.index }

abbrev pub lines_of : List Row → List Line
lines_of rows = map line_of rows

abbrev pub lines_for : (ℕ → Option LineColumn) → List Name → List Line
lines_for place ns = map (line_for place) ns

-- The rows of a text that has a program: one for each of its names, in their order, with the place where the token
-- begins that is the name.
pub record IsOutline (text : List ℕ) (rows : List Row) : Type 0 where
  pub program : Program
  pub is_program : IsProgram text program
  pub are : lines_of rows
      ≡ lines_for (λ index. token_place text is_program.tokens (Some index)) (names program.tree)

-- Each row's name stands in the text, character by character, at the row's line and column.
abbrev pub RowsStand : List ℕ → List Row → Type 0
RowsStand text [] = Unit {0}
RowsStand text (row ∷ rows) = StandsAt text (text_of row.name) row.place × RowsStand text rows

-- where the map has a token
abbrev pub span_begins : Sources → List Spanned → ℕ → Option LineColumn
span_begins map tokens index = option_map (λ s. start_place map s.span) (slice_get tokens index)

-- Each name is the token of its index.
abbrev pub AreThere : List Token → List Name → Type 0
AreThere tokens [] = Unit {0}
AreThere tokens (n ∷ ns) = (slice_get tokens n.index ≡ Some (Ident n.text)) × AreThere tokens ns

-- the names of items, as the grammar has them
abbrev pub names_of : List read.Name → List Name
names_of ns = map name_of ns
