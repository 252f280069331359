-- How far a malformed unit reaches: one character, or a backslash and as much of an escape as stands behind it, up
-- to and with the first character that doesn't go on with it.
use Rattle.std.specs.Prelude.{ℕ, ◌&&◌, ◌==◌, not, List, [], ◌∷◌, drop, if◌then◌else◌}
use Rattle.rust_escape.specs.Chars.{begins, is_hex_digit, past}
use Rattle.rust_escape.specs.Escape.{is_hex_part}
use Rattle.rust_escape.specs.Mode.{Mode, is_raw}

-- behind x: two characters, the first of which is a hexadecimal digit, or one
abbrev pub past_byte : List ℕ → List ℕ
past_byte [] = []
past_byte (c ∷ cs) = if is_hex_digit c then drop 1 cs else cs

-- behind an opening brace: hexadecimal digits and underscores, as many as there are, and the character behind them
abbrev pub past_digits : List ℕ → List ℕ
past_digits cs = drop 1 (past is_hex_part cs)

-- behind u: an opening brace and what stands behind it, which is one character if it is no digit; or one character
abbrev pub past_unicode : List ℕ → List ℕ
past_unicode [] = []
past_unicode (b ∷ cs) = if b == 123 then (if begins is_hex_digit cs then past_digits cs else drop 1 cs) else cs

-- behind a backslash
abbrev pub past_escape : List ℕ → List ℕ
past_escape [] = []
past_escape (c ∷ cs) = if c == 120 then past_byte cs else (if c == 117 then past_unicode cs else cs)

-- behind a malformed unit
abbrev pub past_wrong : Mode → List ℕ → List ℕ
past_wrong mode [] = []
past_wrong mode (c ∷ cs) = if c == 92 && not (is_raw mode) then past_escape cs else cs
