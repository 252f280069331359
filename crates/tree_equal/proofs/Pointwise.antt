-- Lists that are compared element by element: as far as they have been, what is left decides.
use Rattle.std.specs.Prelude.{◌≡◌, ℕ, suc, ◌+◌, ◌<◌, List, ◌∷◌, length, map}
use Rattle.std.proofs.Common.{add-one, ap, ap₂, arith, drop, drop-cons, drop_of_length-le, get_or, sym, ◌∙◌}
use Rattle.std.proofs.lemmas.List.{get_or-map, get_or_default, length-map}

-- by what is seen of each element
pub one_more : {A B : Type 0} (f : A → B) (xs ys : List A) (i : ℕ) (x y : A) → i < length xs → i < length ys
    → x ≡ get_or xs i x → y ≡ get_or ys i y → f x ≡ f y
    → (map f (drop i xs) ≡ map f (drop i ys) → map f xs ≡ map f ys)
    → map f (drop (i + 1) xs) ≡ map f (drop (i + 1) ys) → map f xs ≡ map f ys
one_more f xs ys i x y h j d e s r t =
    let p : map f (drop i xs) ≡ f (get_or xs i x) ∷ map f (drop (suc i) xs) = ap (map f) (drop-cons xs i x h) in
    let q : map f (drop i ys) ≡ f (get_or ys i y) ∷ map f (drop (suc i) ys) = ap (map f) (drop-cons ys i y j) in
    let u : f (get_or xs i x) ≡ f (get_or ys i y) = ap f (sym d) ∙ s ∙ ap f e in
    let v : map f (drop (suc i) xs) ≡ map f (drop (suc i) ys) = rw (add-one i) at t in
    r (p ∙ ap₂ (λ z zs. z ∷ zs) u v ∙ sym q)

pub one_seen : {A B : Type 0} (f : A → B) (xs ys : List A) (i : ℕ) (x y : A) → i < length xs → i < length ys
    → x ≡ get_or xs i x → y ≡ get_or ys i y → map f xs ≡ map f ys → f x ≡ f y
one_seen f xs ys i x y h j d e s =
    ap f d ∙ sym (get_or-map f xs i x (f y) h) ∙ ap (λ zs. get_or zs i (f y)) s ∙ get_or-map f ys i y (f y) j
    ∙ ap f (sym e)

pub one_length : {A B : Type 0} (f : A → B) (xs ys : List A) → map f xs ≡ map f ys → length xs ≡ length ys
one_length f xs ys s = sym (length-map xs f) ∙ ap length s ∙ length-map ys f

-- by the elements themselves
pub one_same : {A : Type 0} (xs ys : List A) (i : ℕ) (x y : A) → i < length xs → i < length ys
    → x ≡ get_or xs i x → y ≡ get_or ys i y → x ≡ y
    → (drop i xs ≡ drop i ys → xs ≡ ys) → drop (i + 1) xs ≡ drop (i + 1) ys → xs ≡ ys
one_same xs ys i x y h j d e s r t =
    let u : get_or xs i x ≡ get_or ys i y = sym d ∙ s ∙ e in
    let v : drop (suc i) xs ≡ drop (suc i) ys = rw (add-one i) at t in
    r (drop-cons xs i x h ∙ ap₂ (λ z zs. z ∷ zs) u v ∙ sym (drop-cons ys i y j))

pub one_at : {A : Type 0} (xs ys : List A) (i : ℕ) (x y : A) → i < length xs → x ≡ get_or xs i x → y ≡ get_or ys i y
    → xs ≡ ys → x ≡ y
one_at xs ys i x y h d e s = d ∙ get_or_default xs i x y h ∙ ap (λ zs. get_or zs i y) s ∙ sym e

-- at the end nothing is left
pub one_end : {A : Type 0} (xs ys : List A) (i j : ℕ) → i ≡ length xs → j ≡ length ys → drop i xs ≡ drop j ys
one_end xs ys i j h k = drop_of_length-le xs {i = i} (omega arith) ∙ sym (drop_of_length-le ys {i = j} (omega arith))
