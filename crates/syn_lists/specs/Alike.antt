-- Lists that are compared place by place.
use Rattle.std.specs.Prelude.{Bool, IsTrue, List, [], ◌∷◌}

-- as many elements, each like the one at its place
abbrev pub AreAlike : {A : Type 0} → (A → A → Bool) → List A → List A → Type 0
AreAlike alike [] [] = Unit {0}
AreAlike alike (x ∷ xs) (y ∷ ys) = IsTrue (alike x y) × AreAlike alike xs ys
AreAlike alike [] (y ∷ ys) = ⊥
AreAlike alike (x ∷ xs) [] = ⊥
