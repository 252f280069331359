-- The piece at a place in the bytes of a text.
use Rattle.std.specs.Prelude.{◌≡◌, ◌-◌, ◌↔◌, ℕ, IsTrue, false, List, length, Option, MatchOption}
pub use Rattle.text_chars.specs.Places.{rest_at, IsPlace, IsBehind, IsNext, between_places}
use Rattle.rust_lex.specs.Chars.{begins, is_narrow_white}
use Rattle.rust_lex.specs.Piece.{IsJoint, Mark, PieceKind, White, FitsAt}
use Rattle.rust_lex.specs.declared.piece.NarrowPiece.{NarrowPiece}
use Rattle.rust_lex.specs.Cover.{NoPieceAt}

-- the place behind a white character of ASCII that stands at a place, or none stands there
abbrev pub IsWhiteAt : List ℕ → ℕ → Option ℕ → Type 0
IsWhiteAt bytes at result = MatchOption result (begins is_narrow_white (rest_at bytes at) ≡ false)
    (λ next. FitsAt at White (between_places bytes at next) (rest_at bytes next) × IsBehind bytes at next)

-- the piece that stands at a place, and the place behind it, or there is none
abbrev pub IsPieceAt : List ℕ → ℕ → Option (PieceKind × ℕ) → Type 0
IsPieceAt bytes at result = MatchOption result (NoPieceAt at (rest_at bytes at))
    (λ p. FitsAt at p.0 (between_places bytes at p.1) (rest_at bytes p.1) × IsBehind bytes at p.1)

-- a piece stands at a place whose characters are one byte each, and whether it is joint is said if it is a mark
pub record IsNarrowAt (bytes : List ℕ) (at : ℕ) (piece : NarrowPiece) : Type 0 where
  pub fits : FitsAt at piece.kind (between_places bytes at piece.end) (rest_at bytes piece.end)
  pub behind : IsBehind bytes at piece.end
  pub count : length (between_places bytes at piece.end) ≡ piece.end - at
  pub joint : piece.kind ≡ Mark → IsTrue piece.is_joint ↔ IsJoint (rest_at bytes at)
