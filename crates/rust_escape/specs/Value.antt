-- What units stand for: a character, or a byte from 128 on that is no text by itself.
use Rattle.std.specs.Prelude.{ℕ, ◌<◌, ◌≤◌, if◌then◌else◌, nat_lt}
use Rattle.std.specs.Int.NonZero.{non_zero_u8_get}
use Rattle.std.specs.declared.num.NonZeroU8.{NonZeroU8}
pub use Rattle.rust_escape.specs.declared.value.Value.{Value}
pub use Rattle.rust_escape.specs.declared.value.Value.TheVariants.{Character, HighByte}
use Rattle.rust_escape.specs.declared.mixed_unit.MixedUnit.{MixedUnit}
use Rattle.rust_escape.specs.declared.mixed_unit.MixedUnit.TheVariants.{Char as mixed_char, HighByte as mixed_byte}

-- a byte by its number: below 128 it is a character
abbrev pub byte_value : ℕ → Value
byte_value n = if nat_lt n 128 then Character n else HighByte n

-- what a C string's unit stands for
abbrev pub mixed_value : MixedUnit → Value
mixed_value (mixed_char c) = Character c
mixed_value (mixed_byte b) = HighByte (non_zero_u8_get b)

-- a byte that isn't zero, as a C string's unit
abbrev pub mixed_of_byte : NonZeroU8 → MixedUnit
mixed_of_byte b = if nat_lt (non_zero_u8_get b) 128 then mixed_char (non_zero_u8_get b) else mixed_byte b

-- a text's value
abbrev pub IsCharacter : Value → Type 0
IsCharacter (Character c) = Unit {0}
IsCharacter (HighByte b) = ⊥

-- a byte literal's value
abbrev pub IsByte : Value → Type 0
IsByte (Character c) = c < 128
IsByte (HighByte b) = 128 ≤ b

-- a raw C string's value
abbrev pub IsNonZeroCharacter : Value → Type 0
IsNonZeroCharacter (Character c) = 0 < c
IsNonZeroCharacter (HighByte b) = ⊥

-- a C string's value
abbrev pub IsMixed : Value → Type 0
IsMixed (Character c) = 0 < c
IsMixed (HighByte b) = 128 ≤ b
