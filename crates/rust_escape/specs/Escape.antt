-- The escapes: which characters behind a backslash spell which value.
use Rattle.std.specs.Prelude.{◌≡◌, ℕ, ◌+◌, ◌*◌, ◌≤◌, Bool, true, false, ◌&&◌, ◌||◌, ◌==◌, not, nat_lt, List, []}
use Rattle.std.specs.Prelude.{◌∷◌, ◌++◌, length, Option, Some, None, if◌then◌else◌}
use Rattle.std.specs.Char.{IsScalar}
use Rattle.rust_escape.specs.Chars.{begins, passes, is_hex_digit, hex_value, is_underscore, digits_of, hex_number}
use Rattle.rust_escape.specs.Mode.{Mode, holds_bytes, holds_c}
use Rattle.rust_escape.specs.Value.{Value, Character, byte_value}

-- n r t \ 0 ' " and the characters that they stand for
unfoldable pub simple_value : ℕ → Option ℕ
simple_value c = if c == 110 then Some 10 else
    (if c == 114 then Some 13 else (if c == 116 then Some 9 else (if c == 92 then Some 92
    else (if c == 48 then Some 0 else (if c == 39 then Some 39 else (if c == 34 then Some 34 else None))))))

-- a C string holds no zero, in any spelling
abbrev pub may_hold : Mode → ℕ → Bool
may_hold mode n = not (holds_c mode && n == 0)

-- a byte may be given by its number: below 128 in texts
abbrev pub may_hold_byte : Mode → ℕ → Bool
may_hold_byte mode n = may_hold mode n && (nat_lt n 128 || (holds_bytes mode || holds_c mode))

-- a hexadecimal digit or an underscore
abbrev pub is_hex_part : ℕ → Bool
is_hex_part c = is_underscore c || is_hex_digit c

-- the characters behind the backslash are an escape that spells the value
pub data IsEscape (mode : Mode) : List ℕ → Value → Type 0 where
  -- one of n r t \ 0 ' "
  simple : {c n : ℕ} → simple_value c ≡ Some n → may_hold mode n ≡ true → IsEscape mode (c ∷ []) (Character n)
  -- x and two hexadecimal digits
  byte : {high low : ℕ} → is_hex_digit high ≡ true → is_hex_digit low ≡ true
      → may_hold_byte mode (16 * hex_value high + hex_value low) ≡ true
      → IsEscape mode (120 ∷ high ∷ low ∷ []) (byte_value (16 * hex_value high + hex_value low))
  -- u and in braces 1 to 6 hexadecimal digits, with underscores after the first, that name a character;
  -- not in byte literals
  unicode : (inner : List ℕ) → holds_bytes mode ≡ false → begins is_hex_digit inner ≡ true
      → passes is_hex_part inner ≡ true → length (digits_of inner) ≤ 6
      → IsScalar (hex_number (digits_of inner)) → may_hold mode (hex_number (digits_of inner)) ≡ true
      → IsEscape mode (117 ∷ 123 ∷ inner ++ 125 ∷ []) (Character (hex_number (digits_of inner)))
