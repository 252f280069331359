-- Literals in quotes: what they hold, and where their insides stand.
use Rattle.std.specs.Prelude.{ℕ, List, ◌++◌, codes}
use Rattle.rust_escape.specs.declared.mode.Mode.{Mode}
use Rattle.rust_escape.specs.declared.mode.Mode.TheVariants.{Str, RawStr, ByteStr, RawByteStr, CStr, RawCStr}
use Rattle.rust_lex.specs.Quoted.{hashes, opening_of, raw_closing}
use Rattle.rust_leaf.specs.declared.quoted.Content.{Content}
use Rattle.rust_leaf.specs.declared.quoted.Content.TheVariants.{Text, Bytes, CText}

-- the modes of the literals that hold the same: one has escapes, the raw one has none
abbrev pub cooked : Content → Mode
cooked Text = Str
cooked Bytes = ByteStr
cooked CText = CStr

abbrev pub raw : Content → Mode
raw Text = RawStr
raw Bytes = RawByteStr
raw CText = RawCStr

-- an inside in quotes, and around these as many hashes on either side
abbrev pub fenced : ℕ → List ℕ → List ℕ
fenced n inside = hashes n ++ (codes "\"" ++ inside ++ raw_closing n)

-- the text is a literal without a suffix, of the mode and with the inside: behind its opening, which ends with the
-- quote, the inside and a quote; a raw one's opening ends with the r, and then any number of hashes may stand around
-- the quotes
pub data IsQuoted (content : Content) : Mode → List ℕ → List ℕ → Type 0 where
  in_quotes : {inside : List ℕ}
      → IsQuoted content (cooked content) (opening_of (cooked content) ++ (inside ++ codes "\"")) inside
  behind_r : {inside : List ℕ} (n : ℕ)
      → IsQuoted content (raw content) (opening_of (raw content) ++ fenced n inside) inside

-- the text is a literal that holds such content
abbrev pub IsLiteralOf : Content → List ℕ → Type 0
IsLiteralOf content text = (mode : Mode) × (inside : List ℕ) × IsQuoted content mode text inside

-- the text of a character literal, and of a byte literal, with this inside
abbrev pub in_single_quotes : List ℕ → List ℕ
in_single_quotes inside = codes "'" ++ inside ++ codes "'"

abbrev pub in_byte_quotes : List ℕ → List ℕ
in_byte_quotes inside = codes "b" ++ in_single_quotes inside
