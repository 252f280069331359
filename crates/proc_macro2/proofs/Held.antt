-- A map that holds the spans of a stream holds those of its trees, and of the streams in their groups.
use Rattle.std.proofs.Common.{zero, suc, List, [], ◌∷◌, ◌∙◌, sym, arith, All}
use Rattle.std.specs.Prelude.{IsTrue, ◌&&◌}
use Rattle.std.proofs.lemmas.Bool.{and_parts}
use Rattle.std.proofs.lemmas.List.Folds.{list_all-append}
use Rattle.rust_map.specs.Sources.{Sources, is_held}
use Rattle.proc_macro2.specs.Token.{Closes}
use Rattle.proc_macro2.specs.Flat.{group_tokens, spanned, tree_tokens, trees_tokens}
use Rattle.proc_macro2.specs.Held.{are_held}
use Rattle.proc_macro2.specs.Trees.{tree_span}
use Rattle.proc_macro2.specs.declared.tree.Group.{Group}
use Rattle.proc_macro2.specs.declared.tree.TokenTree.{TokenTree}
use Rattle.proc_macro2.specs.declared.tree.TokenTree.TheVariants as tree

front_held : (map : Sources) (t : TokenTree) (ts : List TokenTree) → IsTrue (are_held map (trees_tokens (t ∷ ts)))
    → IsTrue (are_held map (tree_tokens t)) × IsTrue (are_held map (trees_tokens ts))
front_held map t ts h = and_parts _ _
    (sym (list_all-append (λ s. is_held map s.span) (tree_tokens t) (trees_tokens ts)) ∙ h)

-- each tree's
pub trees_held : (map : Sources) (ts : List TokenTree) → IsTrue (are_held map (trees_tokens ts))
    → All (λ t. IsTrue (are_held map (tree_tokens t))) ts
trees_held map [] h k d l = absurd (omega arith)
trees_held map (t ∷ ts) h zero d l = (front_held map t ts h).0
trees_held map (t ∷ ts) h (suc k) d l = trees_held map ts (front_held map t ts h).1 k d (omega arith)

-- the stream's in a group
pub inside_held : (map : Sources) (g : Group) → IsTrue (are_held map (group_tokens g)) → IsTrue (are_held map g.stream)
inside_held map g h =
    let all : IsTrue (are_held map g.stream && are_held map (spanned (Closes g.delimiter) g.span ∷ [])) =
    sym (list_all-append (λ s. is_held map s.span) g.stream _) ∙ (and_parts _ _ h).1 in
    (and_parts _ _ all).0

-- the tree's own
pub tree_held : (map : Sources) (t : TokenTree) → IsTrue (are_held map (tree_tokens t))
    → IsTrue (is_held map (tree_span t))
tree_held map (tree.Group g) h = (and_parts _ _ h).0
tree_held map (tree.Ident i) h = (and_parts _ _ h).0
tree_held map (tree.Punct p) h = (and_parts _ _ h).0
tree_held map (tree.Literal l) h = (and_parts _ _ h).0
