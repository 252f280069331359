-- A token tree as the list of its tokens. A group's stream is seen as its list already, and a
-- group's span stands at its opening and at its closing token.
use Rattle.std.specs.Prelude.{List, [], ◌∷◌, ◌++◌, Option, None, Some}
use Rattle.std.specs.List.{flat_map}
use Rattle.std.specs.declared.rc.Rc.{Rc}
use Rattle.std.specs.declared.vec.Vec.{Vec}
use Rattle.rust_map.specs.declared.span.Span.{Span}
use Rattle.rust_leaf.specs.Leaf.{ident_span, ident_text, literal_span, literal_text, punct_char, punct_spacing}
use Rattle.rust_leaf.specs.Leaf.{punct_span}
use Rattle.proc_macro2.specs.Token.{Token, Opens, Closes, Ident, Literal, Punct, Spanned}
use Rattle.proc_macro2.specs.declared.tree.Group.{Group}
use Rattle.proc_macro2.specs.declared.tree.TokenTree.{TokenTree}
use Rattle.proc_macro2.specs.declared.tree.TokenTree.TheVariants as tree

-- a token that stands there
abbrev pub spanned : Token → Span → Spanned
spanned t span = record { token = t; span = span }

-- a group's: its opening token, those of its stream, its closing token
abbrev pub group_tokens : Group → List Spanned
group_tokens g = spanned (Opens g.delimiter) g.span ∷ g.stream ++ spanned (Closes g.delimiter) g.span ∷ []

-- a tree's: a group's, or one token
abbrev pub tree_tokens : TokenTree → List Spanned
tree_tokens (tree.Group g) = group_tokens g
tree_tokens (tree.Ident i) = spanned (Ident (ident_text i)) (ident_span i) ∷ []
tree_tokens (tree.Punct p) = spanned (Punct (punct_char p) (punct_spacing p)) (punct_span p) ∷ []
tree_tokens (tree.Literal l) = spanned (Literal (literal_text l)) (literal_span l) ∷ []

-- those of trees, in their order
abbrev pub trees_tokens : List TokenTree → List Spanned
trees_tokens ts = flat_map tree_tokens ts

-- those of the list of a stream, which an empty one may do without
abbrev pub held_tokens : {Z Y : Type 0} → Option (Rc (Vec TokenTree Y) Z) → List Spanned
held_tokens None = []
held_tokens (Some trees) = trees_tokens trees.value.items
