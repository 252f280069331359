-- What loops over the characters of a text keep.
use Rattle.std.proofs.Common.{◌≡◌, ℕ, ◌≤◌, List}
use Rattle.text_chars.specs.Places.{rest_at, IsPlace}

-- from the place on the answer is what it was from the start on
pub record Walks {X : Type 0} (find : List ℕ → X) (bytes : List ℕ) (start at : ℕ) : Type 0 where
  pub same : find (rest_at bytes at) ≡ find (rest_at bytes start)
  pub place : IsPlace bytes at
  pub on : start ≤ at
