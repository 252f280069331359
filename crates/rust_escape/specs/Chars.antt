-- Characters, as numbers, and texts as lists of them.
use Rattle.std.specs.Prelude.{ℕ, ◌+◌, ◌*◌, Bool, not, nat_lt, List, [], ◌∷◌, filter}
use Rattle.std.specs.List.{fold}
use Rattle.std.specs.Char.{digit_value, is_whitespace}
pub use Rattle.text_chars.specs.Chars.{is_among, begins, passes, past, is_line_feed, is_underscore}

-- a space, a tab, a line feed, a carriage return
abbrev pub is_blank : ℕ → Bool
is_blank c = is_among (32 ∷ 9 ∷ 10 ∷ 13 ∷ []) c

-- any white space
unfoldable pub is_white : ℕ → Bool
is_white c = is_whitespace c

-- 0 to 9, a to f, A to F
unfoldable pub is_hex_digit : ℕ → Bool
is_hex_digit c = nat_lt (digit_value c) 16

-- and the number that it stands for
unfoldable pub hex_value : ℕ → ℕ
hex_value c = digit_value c

-- the digits among digits and underscores
abbrev pub digits_of : List ℕ → List ℕ
digits_of cs = filter (λ c. not (is_underscore c)) cs

-- the number that digits go on to spell behind those of n
abbrev pub number_from : ℕ → List ℕ → ℕ
number_from n ds = fold (λ m d. 16 * m + hex_value d) n ds

-- the number that hexadecimal digits spell, the highest first
abbrev pub hex_number : List ℕ → ℕ
hex_number ds = number_from 0 ds
