-- The tokens that leaves are.
use Rattle.std.specs.Prelude.{List, [], ◌∷◌, ◌++◌, map}
use Rattle.rust_leaf.specs.Leaf.{ident_text, literal_text}
use Rattle.rust_leaf.specs.declared.punct.Spacing.TheVariants.{Joint}
use Rattle.proc_macro2.specs.Token.{Token, Opens, Closes, Ident, Literal, Punct}
use Rattle.syn_buffer.specs.Entries.{entry_token}
use Rattle.syn_grammar.specs.Tree.{flat}
use Rattle.reader_table.specs.Ops.{separator_of}
use Rattle.reader_table.specs.Words.{sign_text}
use Rattle.reader_tree.specs.Forms.{mark_of}
use Rattle.syn_tokens.specs.declared.leaf.Leaf.{Leaf}
use Rattle.syn_tokens.specs.declared.leaf.Leaf.TheVariants as leaves

-- of a leaf: a word, a literal, the marks of a punctuation, all joint but the last, ' and a word, the mark between two
-- elements, the mark that opens or closes a group, or the tokens that are kept as they are
abbrev pub leaf_tokens : Leaf → List Token
leaf_tokens (leaves.Ident i) = Ident (ident_text i.now) ∷ []
leaf_tokens (leaves.Literal l) = Literal (literal_text l.now) ∷ []
leaf_tokens (leaves.Punct s spacing span) = flat (mark_of (sign_text s) spacing)
leaf_tokens (leaves.Lifetime span i) = Punct 39 Joint ∷ Ident (ident_text i.now) ∷ []
leaf_tokens (leaves.Separator s spacing) = Punct (separator_of s) spacing ∷ []
leaf_tokens (leaves.Open d span) = Opens d ∷ []
leaf_tokens (leaves.Close d span) = Closes d ∷ []
leaf_tokens (leaves.Raw es) = map entry_token es.now

-- of some leaves, one behind the other
abbrev pub leaves_tokens : List Leaf → List Token
leaves_tokens [] = []
leaves_tokens (l ∷ ls) = leaf_tokens l ++ leaves_tokens ls
