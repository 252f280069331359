-- What loops over the characters of a text keep.
use Rattle.std.proofs.Common.{◌≡◌, ℕ, ◌≤◌, List, drop}
use Rattle.rust_lex.specs.Word.{begins_word}
use Rattle.rust_lex.specs.Places.{rest_at, IsPlace}
pub use Rattle.text_chars.proofs.Walks.{Walks}

-- the same as `Walks`, within n more comments
pub record WalksIn {X : Type 0} (find : ℕ → List ℕ → X) (n : ℕ) (bytes : List ℕ) (start at : ℕ) : Type 0 where
  pub same : find n (rest_at bytes at) ≡ find 0 (rest_at bytes start)
  pub place : IsPlace bytes at
  pub on : start ≤ at
  pub few : n ≤ at

-- the same, with n more to come of the m at the start
pub record WalksDown {X : Type 0} (find : ℕ → List ℕ → X) (m n : ℕ) (bytes : List ℕ) (start at : ℕ) : Type 0 where
  pub same : find n (rest_at bytes at) ≡ find m (rest_at bytes start)
  pub place : IsPlace bytes at
  pub on : start ≤ at

-- the same, i characters of a word having been read
pub record WalksWord (word : List ℕ) (i : ℕ) (bytes : List ℕ) (start at : ℕ) : Type 0 where
  pub same : begins_word (drop i word) (rest_at bytes at) ≡ begins_word word (rest_at bytes start)
  pub place : IsPlace bytes at
  pub on : start ≤ at
