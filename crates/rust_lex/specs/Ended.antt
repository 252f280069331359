-- Where what is sought ends, in the bytes of a text.
use Rattle.std.specs.Prelude.{◌≡◌, ℕ, true, false, List, length, drop, Option, Some, None, MatchOption}
use Rattle.rust_escape.specs.declared.mode.Mode.{Mode}
use Rattle.rust_lex.specs.Quoted.{LiteralKind, opening_of, opener_of}
use Rattle.rust_lex.specs.Number.{past_number, number_kind}
use Rattle.rust_lex.specs.Word.{begins_raw_mark}
use Rattle.rust_lex.specs.Piece.{PieceKind}
use Rattle.rust_lex.specs.Places.{rest_at, IsBehind}
pub use Rattle.text_chars.specs.Places.{IsFrom}
use Rattle.rust_lex.specs.Scan.{Scanned, Nowhere, Ends}

-- the place is where the rest begins that is sought, or there is none
abbrev pub IsEnd : List ℕ → ℕ → Option ℕ → Option (List ℕ) → Type 0
IsEnd bytes start result sought =
    MatchOption result (sought ≡ None) (λ at. (sought ≡ Some (rest_at bytes at)) × IsFrom bytes start at)

-- the piece that is found, and the place behind it, or there is none
abbrev pub IsScanned : List ℕ → ℕ → Option (PieceKind × ℕ) → Scanned → Type 0
IsScanned bytes start result sought =
    MatchOption result (sought ≡ Nowhere) (λ p. (sought ≡ Ends p.0 (rest_at bytes p.1)) × IsBehind bytes start p.1)

-- what the number at a place is, and the place behind it
abbrev pub IsNumberEnd : List ℕ → ℕ → Option (LiteralKind × ℕ) → Type 0
IsNumberEnd bytes at result = MatchOption result (past_number (rest_at bytes at) ≡ None)
    (λ p. (past_number (rest_at bytes at) ≡ Some (rest_at bytes p.1)) × (number_kind (rest_at bytes at) ≡ p.0) × IsFrom
    bytes at p.1)

-- the place behind the mark of a raw identifier
abbrev pub IsRawMark : List ℕ → ℕ → Option ℕ → Type 0
IsRawMark bytes at result = MatchOption result (begins_raw_mark (rest_at bytes at) ≡ false)
    (λ next. (begins_raw_mark (rest_at bytes at) ≡ true) × (rest_at bytes next ≡ drop 2 (rest_at bytes at)) × IsBehind
    bytes at next)

-- the opening of a literal with a prefix, and the place behind it
abbrev pub IsOpener : List ℕ → ℕ → Option (Mode × ℕ) → Type 0
IsOpener bytes at result = MatchOption result (opener_of (rest_at bytes at) ≡ None)
    (λ p. (opener_of (rest_at bytes at) ≡ Some p.0) ×
    (rest_at bytes p.1 ≡ drop (length (opening_of p.0)) (rest_at bytes at)) × IsBehind bytes at p.1)
