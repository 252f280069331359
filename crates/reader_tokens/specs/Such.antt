-- Words by their first character and their length.
use Rattle.std.specs.Prelude.{ℕ, Bool, true, false, ◌==◌, ◌&&◌, ◌||◌, cond, List, [], ◌∷◌, length}
use Rattle.rust_leaf.specs.Keywords.{same_text}

-- The word passes, if it begins with that character and has so many.
abbrev pub is_such : ℕ → ℕ → (List ℕ → Bool) → List ℕ → Bool
is_such first n p [] = true
is_such first n p (c ∷ cs) = cond (c == first && length (c ∷ cs) == n) (p (c ∷ cs)) true

-- it is the one or the other
abbrev pub is_either : List ℕ → List ℕ → List ℕ → Bool
is_either one other cs = same_text one cs || same_text other cs

-- none passes
abbrev pub neither : List ℕ → Bool
neither cs = false
