-- The kinds of literals.
use Rattle.std.specs.Prelude.{ℕ, Bool, true, false, List, [], codes, if◌then◌else◌}
pub use Rattle.rust_escape.specs.declared.mode.Mode.{Mode}
pub use Rattle.rust_escape.specs.declared.mode.Mode.TheVariants.{Char, Byte, Str, RawStr, ByteStr, RawByteStr, CStr}
pub use Rattle.rust_escape.specs.declared.mode.Mode.TheVariants.{RawCStr}

-- all but characters and bytes stand in double quotes
abbrev pub in_double_quotes : Mode → Bool
in_double_quotes Char = false
in_double_quotes Byte = false
in_double_quotes _ = true

-- raw literals have no escapes
abbrev pub is_raw : Mode → Bool
is_raw RawStr = true
is_raw RawByteStr = true
is_raw RawCStr = true
is_raw _ = false

-- byte literals hold ASCII characters, and bytes by their numbers
abbrev pub holds_bytes : Mode → Bool
holds_bytes Byte = true
holds_bytes ByteStr = true
holds_bytes RawByteStr = true
holds_bytes _ = false

-- C strings hold no zero
abbrev pub holds_c : Mode → Bool
holds_c CStr = true
holds_c RawCStr = true
holds_c _ = false

-- what stands before the quote and a raw literal's r: b, c or nothing
abbrev pub prefix_noraw : Mode → List ℕ
prefix_noraw mode = if holds_bytes mode then codes "b" else (if holds_c mode then codes "c" else [])
