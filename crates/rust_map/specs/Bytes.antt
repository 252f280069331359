-- The characters of a text and its bytes.
use Rattle.std.specs.Prelude.{ℕ, ◌-◌, Bool, ◌||◌, nat_lt, nat_le, List, take, drop, count_by}
pub use Rattle.text_chars.specs.Places.{byte_length, rest_at, IsPlace}

-- how many bytes spell the first k characters of a text
abbrev pub byte_count : List ℕ → ℕ → ℕ
byte_count text k = byte_length (take k text)

-- the characters of a text between two counts of them
abbrev pub between_counts : List ℕ → ℕ → ℕ → List ℕ
between_counts text from to = take (to - from) (drop from text)

-- a byte of a text begins a character, and none goes on with it: those that go on are 128 to 191
abbrev pub begins_character : ℕ → Bool
begins_character b = nat_lt b 128 || nat_le 192 b

-- so many characters begin in bytes of a text
abbrev pub begun : List ℕ → ℕ
begun bytes = count_by begins_character bytes

-- a character of ASCII, which is one byte
abbrev pub is_narrow : ℕ → Bool
is_narrow c = nat_lt c 128
