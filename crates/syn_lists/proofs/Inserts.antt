-- A value that is put at an end.
use Rattle.std.proofs.Common.{◌≡◌, ℕ, List, [], ◌∷◌, ◌++◌, length, take, arith, sym, ap, ◌∙◌}
use Rattle.std.proofs.lemmas.List.{drop_all, take_all}
use Rattle.std.specs.Prelude.{insert}

pub inserted_last : {X : Type 0} (xs ys : List X) (x : X) (index : ℕ) → index ≡ length xs → ys ≡ xs ++ x ∷ [] → ys
    ≡ insert xs index x
inserted_last xs ys x index at e =
    e ∙ ap (λ zs. zs ++ x ∷ []) (sym (take_all index xs (omega arith)))
    ∙ ap (λ zs. take index xs ++ x ∷ zs) (sym (drop_all index xs (omega arith)))
