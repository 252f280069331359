-- The trees of a stream, each with the one behind it.
use Rattle.std.proofs.Common.{◌≡◌, ℕ, ◌+◌, ◌<◌, List, [], ◌∷◌, length, get_or, drop, Bool, ◌&&◌, Option, Some, None}
use Rattle.std.proofs.Common.{Bor, MatchOption, sym, ap, subst, ◌∙◌}
use Rattle.std.proofs.lemmas.List.{drop_all, drop_more}
use Rattle.std.specs.Slice.{IsItemAt}
use Rattle.proc_macro2.specs.Token.{plain}
use Rattle.proc_macro2.specs.Flat.{tree_tokens, trees_tokens}
use Rattle.proc_macro2.specs.Stands.{all_stand, tokens_behind}
use Rattle.proc_macro2.specs.declared.tree.TokenTree.{TokenTree}
use Rattle.proc_macro2.proofs.Standing.{and_true, stand_last, stand_next}

-- the first of the trees from a place on, if there is one
next_first : (items : List TokenTree) (j : ℕ) (next : Option (Bor TokenTree)) → IsItemAt items j next
    → MatchOption next (drop j items ≡ []) (λ y. drop j items ≡ y.now ∷ drop (j + 1) items)
next_first items j None h = drop_all j items h.3
next_first items j (Some y) h = drop_more items j y.now h.3.0 ∙ ap (λ z. z ∷ drop (j + 1) items) (sym h.1)

some_none : {X : Type 0} {x : X} {xs : List X} → x ∷ xs ≡ [] → ⊥
some_none e = cc

head_same : {X : Type 0} {x y : X} {xs ys : List X} → x ∷ xs ≡ y ∷ ys → x ≡ y
head_same e = cc

-- a tree stands before the next one, or before the end, and the others stand
stand_rest : (x : TokenTree) (rest us : List TokenTree) (next : Option (Bor TokenTree))
    → MatchOption next (rest ≡ []) (λ y. rest ≡ y.now ∷ us) →
    all_stand (plain (trees_tokens (x ∷ rest))) []
    ≡ (all_stand (plain (tree_tokens x)) (tokens_behind next) && all_stand (plain (trees_tokens rest)) [])
stand_rest x [] us None h = stand_last x ∙ sym (and_true (all_stand (plain (tree_tokens x)) []))
stand_rest x [] us (Some next) h = absurd (some_none (sym h))
stand_rest x (y ∷ ts) us None h = absurd (some_none h)
stand_rest x (y ∷ ts) us (Some next) h =
    stand_next x y ts
    ∙ ap (λ z. all_stand (plain (tree_tokens x)) (plain (tree_tokens z))
    && all_stand (plain (trees_tokens (y ∷ ts))) []) (head_same h)

-- the trees from a place on: the answer at that place, and the trees behind it
pub stand_from : (items list : List TokenTree) (i behind : ℕ) (x : TokenTree) (next : Option (Bor TokenTree))
    (answer : Bool) → list ≡ items → behind ≡ i →
    i < length items → x ≡ get_or items i x → IsItemAt list (behind + 1) next
    → answer ≡ all_stand (plain (tree_tokens x)) (tokens_behind next) →
    all_stand (plain (trees_tokens (drop i items))) []
    ≡ (answer && all_stand (plain (trees_tokens (drop (i + 1) items))) [])
stand_from items list i behind x next answer same at lt is h a =
    let next_is = subst (λ k. IsItemAt items (k + 1) next) at (subst (λ l. IsItemAt l (behind + 1) next) same h) in
    ap (λ ts. all_stand (plain (trees_tokens ts)) [])
    (drop_more items i x lt ∙ ap (λ y. y ∷ drop (i + 1) items) (sym is))
    ∙ stand_rest x (drop (i + 1) items) (drop (i + 1 + 1) items) next (next_first items (i + 1) next next_is)
    ∙ ap (λ b. b && all_stand (plain (trees_tokens (drop (i + 1) items))) []) (sym a)
