-- The tokens of trees.
use Rattle.std.proofs.Common.{◌≡◌, ℕ, zero, suc, ◌<◌, ◌≤◌, ◌==◌, Bool, IsTrue, List, [], ◌∷◌, ◌++◌, length}
use Rattle.std.proofs.Common.{refl, sym, ap, ◌∙◌, append_assoc, arith, get_or, length-append}
use Rattle.std.proofs.lemmas.Bool.{eqb-true, eq-eqb}
use Rattle.std.proofs.lemmas.List.{append-nil, nil_from_length}
use Rattle.proc_macro2.specs.Token.{Spanned}
use Rattle.proc_macro2.specs.Flat.{tree_tokens, trees_tokens}
use Rattle.proc_macro2.specs.declared.tree.TokenTree.{TokenTree}
use Rattle.proc_macro2.specs.declared.tree.TokenTree.TheVariants as tree

-- one more tree
pub trees_more : (ts : List TokenTree) (t : TokenTree) → trees_tokens (ts ++ t ∷ []) ≡ trees_tokens ts ++ tree_tokens t
trees_more [] t = append-nil (tree_tokens t)
trees_more (u ∷ ts) t = ap (λ r. tree_tokens u ++ r) (trees_more ts t)
    ∙ sym (append_assoc (tree_tokens u) (trees_tokens ts) (tree_tokens t))

-- a tree has no more tokens than the trees among which it stands
pub tree_length : (ts : List TokenTree) (i : ℕ) (d : TokenTree) → i < length ts
    → length (tree_tokens (get_or ts i d)) ≤ length (trees_tokens ts)
tree_length [] i d h = absurd (omega arith)
tree_length (t ∷ ts) zero d h = omega (arith, length-append (tree_tokens t) (trees_tokens ts))
tree_length (t ∷ ts) (suc i) d h =
    omega (arith, tree_length ts i d (omega arith), length-append (tree_tokens t) (trees_tokens ts))

-- each tree has tokens
pub no_trees : (ts : List TokenTree) → trees_tokens ts ≡ [] → ts ≡ []
no_trees [] e = refl
no_trees (tree.Group g ∷ ts) e = cc
no_trees (tree.Ident i ∷ ts) e = cc
no_trees (tree.Punct p ∷ ts) e = cc
no_trees (tree.Literal l ∷ ts) e = cc

-- no tokens, no trees
pub empty_view : (items : List TokenTree) (tokens : List Spanned) (n : ℕ) (empty : Bool) → trees_tokens items ≡ tokens
    → length items ≡ n → empty ≡ (n == 0) →
    (IsTrue empty → tokens ≡ []) × (tokens ≡ [] → IsTrue empty)
empty_view items tokens n empty v l e = (
  λ t. sym v ∙ ap trees_tokens (nil_from_length items (l ∙ eqb-true n 0 (sym e ∙ t))),
  λ h. e
      ∙ eq-eqb n 0 (sym l ∙ ap length (no_trees items (v ∙ h))),
)
