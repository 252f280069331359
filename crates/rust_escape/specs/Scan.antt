-- Which unit a text begins with: a tool of the proofs.
use Rattle.std.specs.Prelude.{ℕ, ◌+◌, ◌*◌, ◌&&◌, ◌==◌, not, nat_lt, List, [], ◌∷◌, Option, Some, None, if◌then◌else◌}
use lib.Utf8.{scalar}
use Rattle.rust_escape.specs.Chars.{is_hex_digit, hex_value, is_blank, past}
use Rattle.rust_escape.specs.Escape.{simple_value, may_hold, may_hold_byte}
use Rattle.rust_escape.specs.Mode.{Mode, in_double_quotes, is_raw, holds_bytes}
use Rattle.rust_escape.specs.Unit.{Strict, is_plain}
use Rattle.rust_escape.specs.Value.{Value, Character, byte_value}

-- a unit's value, and what stands behind it
pub data Scanned : Type 0 where
  Malformed : Scanned
  Reads : Option Value → List ℕ → Scanned

abbrev pub simple : Mode → Option ℕ → List ℕ → Scanned
simple mode None cs = Malformed
simple mode (Some n) cs = if may_hold mode n then Reads (Some (Character n)) cs else Malformed

-- a byte by its number
abbrev pub numbered : Mode → ℕ → List ℕ → Scanned
numbered mode n cs = if may_hold_byte mode n then Reads (Some (byte_value n)) cs else Malformed

-- a character by its number
abbrev pub named : Mode → ℕ → List ℕ → Scanned
named mode n cs = if not (holds_bytes mode)
    && (scalar n && may_hold mode n) then Reads (Some (Character n)) cs else Malformed

-- behind x
unfoldable pub byte_escape : Mode → List ℕ → Scanned
byte_escape mode [] = Malformed
byte_escape mode (c ∷ []) = Malformed
byte_escape mode (c ∷ d ∷ cs) = if is_hex_digit c
    && is_hex_digit d then numbered mode (16 * hex_value c + hex_value d) cs else Malformed

-- behind count digits of the number
unfoldable pub digits : Mode → ℕ → ℕ → List ℕ → Scanned
digits mode count n [] = Malformed
digits mode count n (c ∷ cs) = if c == 125 then named mode n cs else (if c == 95 then digits mode count n cs
    else (if is_hex_digit c && nat_lt count 6 then digits mode (count + 1) (16 * n + hex_value c) cs else Malformed))

-- behind u
unfoldable pub unicode_escape : Mode → List ℕ → Scanned
unicode_escape mode [] = Malformed
unicode_escape mode (b ∷ []) = Malformed
unicode_escape mode (b ∷ c ∷ cs) = if b == 123 && is_hex_digit c then digits mode 0 0 (c ∷ cs) else Malformed

-- behind a backslash
unfoldable pub escape : Mode → List ℕ → Scanned
escape mode [] = Malformed
escape mode (c ∷ cs) = if c == 120 then byte_escape mode cs else
    (if c == 117 then unicode_escape mode cs else simple mode (simple_value c) cs)

-- behind a backslash, with skips
unfoldable pub slash : Mode → List ℕ → Scanned
slash mode [] = Malformed
slash mode (c ∷ cs) = if c == 10 && in_double_quotes mode then Reads None (past is_blank cs) else escape mode (c ∷ cs)

-- one character
abbrev pub one : Mode → ℕ → List ℕ → Scanned
one mode c cs = if is_plain Strict mode c then Reads (Some (Character c)) cs else Malformed

-- a unit
unfoldable pub scan : Mode → List ℕ → Scanned
scan mode [] = Malformed
scan mode (c ∷ cs) = if c == 92 && not (is_raw mode) then slash mode cs else one mode c cs
