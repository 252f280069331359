-- The trees that leaves are, that lists are, and what may be missing or was chosen. Where it is said of the parts of a
-- type, here or beside, that there is no tree, what is given has not the shape of the entry.
use Rattle.std.specs.Prelude.{List, Option, Some, None, map}
use Rattle.rust_leaf.specs.Leaf.{ident_text, literal_text}
use Rattle.rust_leaf.specs.declared.ident.Ident.{Ident}
use Rattle.rust_leaf.specs.declared.literal.Literal.{Literal}
use Rattle.syn_grammar.specs.Name.{Part}
use Rattle.syn_grammar.specs.Tree as t
use Rattle.syn_grammar.specs.Tree.{Tree}
use Rattle.reader_table.specs.Ops.{separator_of}
use Rattle.reader_table.specs.Words.{sign_text}
use Rattle.reader_tree.specs.Forms.{elements, ending, mark_of, seconds, turns}
use Rattle.syn_buffer.specs.Entries.{entry_token}
use Rattle.syn_buffer.specs.declared.entry.Entry.{Entry}
use Rattle.syn_part.specs.declared.leaf.Mark.{Mark}
use Rattle.syn_part.specs.declared.leaf.Lifetime.{Lifetime}
use Rattle.syn_part.specs.declared.list.Elements.{Elements}
use Rattle.syn_part.specs.declared.list.Turns.{Turns}
use Rattle.syn_part.specs.declared.take.Choice.{Choice}
use Rattle.syn_part.specs.declared.take.Choice.TheVariants as choices
use Rattle.syn_part.specs.declared.take.Behind.{Behind}
use Rattle.syn_part.specs.declared.take.Behind.TheVariants as behinds
use Rattle.syn_part.specs.declared.take.Step.{Step}
use Rattle.syn_part.specs.declared.take.Step.TheVariants as steps
use Rattle.syn_part.specs.declared.take.Choice3.{Choice3}
use Rattle.syn_part.specs.declared.take.Choice3.TheVariants as choices3
use Rattle.syn_part.specs.declared.take.Choice4.{Choice4}
use Rattle.syn_part.specs.declared.take.Choice4.TheVariants as choices4
use Rattle.syn_part.specs.declared.take.Choice5.{Choice5}
use Rattle.syn_part.specs.declared.take.Choice5.TheVariants as choices5
use denote.Bor.{Bor}

-- an identifier or a keyword, by its text
abbrev pub word_tree : Bor Ident → Tree
word_tree i = t.AWord (ident_text i.now)

-- a literal, by its text
abbrev pub literal_tree : Bor Literal → Tree
literal_tree l = t.ALiteral (literal_text l.now)

-- a punctuation, and how its last mark is spaced
abbrev pub mark_tree : Mark → Tree
mark_tree m = mark_of (sign_text m.sign) m.spacing

-- a lifetime, by the text of the word behind its '
abbrev pub lifetime_tree : Lifetime → Tree
lifetime_tree l = t.ALifetime (ident_text l.ident.now)

-- a tree that is lent
abbrev pub node_tree : Bor Tree → Tree
node_tree x = x.now

-- what stands there, if anything does
abbrev pub optional_tree : {A : Type 0} → (A → Tree) → Option A → Tree
optional_tree f None = t.Second t.Nil
optional_tree f (Some x) = t.First (f x)

-- a part by its name
abbrev pub part_tree : {A : Type 0} → Part → (A → Tree) → A → Tree
part_tree m f x = t.Called m (f x)

-- the elements that the separator follows, each with how that is spaced, and the last one, if none follows it
abbrev pub list_tree : Elements → Tree
list_tree l = elements (separator_of l.separator) l.before.now (ending node_tree l.last)

-- turns, one behind the other
abbrev pub turns_tree : Turns → Tree
turns_tree r = turns r.each.now

-- which of two was chosen
abbrev pub choice_tree : Choice → Tree
choice_tree (choices.First x) = t.First x.now
choice_tree (choices.Second x) = t.Second x.now

-- of a choice among several, what stands behind alternatives that were not chosen: so many times the second, and behind
-- these the first, or a tree of which nothing is said
abbrev pub behind_tree : Behind → Tree
behind_tree (behinds.First n x) = seconds n (t.First x.now)
behind_tree (behinds.Second n x) = seconds n x.now

-- of a choice among several: the first was chosen, or this stands behind it
abbrev pub step_tree : Step → Tree
step_tree (steps.First x) = t.First x.now
step_tree (steps.Behind b) = t.Second (behind_tree b)

-- which of three was chosen
abbrev pub choice3_tree : Choice3 → Tree
choice3_tree (choices3.First x) = t.First x.now
choice3_tree (choices3.Second x) = t.Second (t.First x.now)
choice3_tree (choices3.Third x) = t.Second (t.Second x.now)

-- which of four was chosen
abbrev pub choice4_tree : Choice4 → Tree
choice4_tree (choices4.First x) = t.First x.now
choice4_tree (choices4.Second x) = t.Second (t.First x.now)
choice4_tree (choices4.Third x) = t.Second (t.Second (t.First x.now))
choice4_tree (choices4.Fourth x) = t.Second (t.Second (t.Second x.now))

-- which of five was chosen
abbrev pub choice5_tree : Choice5 → Tree
choice5_tree (choices5.First x) = t.First x.now
choice5_tree (choices5.Second x) = t.Second (t.First x.now)
choice5_tree (choices5.Third x) = t.Second (t.Second (t.First x.now))
choice5_tree (choices5.Fourth x) = t.Second (t.Second (t.Second (t.First x.now)))
choice5_tree (choices5.Fifth x) = t.Second (t.Second (t.Second (t.Second x.now)))

-- tokens that are kept as they are, spacing included
abbrev pub raw_tree : Bor (List Entry) → Tree
raw_tree r = t.Raw (map entry_token r.now)
