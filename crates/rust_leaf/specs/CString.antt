-- How the bytes of a C string are written inside quotes.
use Rattle.std.specs.Prelude.{◌≡◌, ℕ, Bool, ◌==◌, List, [], ◌∷◌, ◌++◌, codes}
use Rattle.std.specs.Char.{encode_utf8, IsScalar}
use Rattle.std.specs.List.{flat_map, list_any}
use Rattle.std.specs.Str.{StartsWithNoChar}
use Rattle.rust_leaf.specs.Escaped.{escaped, by_byte}

-- a part of a C string: a character of UTF-8, or a byte that is part of none
pub data Part : Type 0 where
  Character : (c : ℕ) → Part
  Loose : (b : ℕ) → Part

-- bytes are read from their front: a character where one begins, else one byte
abbrev pub AreParts : List Part → List ℕ → Type 0
AreParts [] bs = bs ≡ []
AreParts (Character c ∷ ps) bs = (rest : List ℕ) × IsScalar c × (bs ≡ encode_utf8 c ++ rest) × AreParts ps rest
AreParts (Loose b ∷ ps) bs = (rest : List ℕ) × StartsWithNoChar bs × (bs ≡ b ∷ rest) × AreParts ps rest

-- a character is written as in a string, and a loose byte by its number
abbrev pub part_text : Part → List ℕ
part_text (Character c) = escaped 34 c []
part_text (Loose b) = by_byte b

-- what bytes are written as
pub record AreWritten (bs text : List ℕ) : Type 0 where
  pub parts : List Part
  pub read : AreParts parts bs
  pub same : text ≡ flat_map part_text parts

-- the text of a C string literal
pub record IsCString (bs text : List ℕ) : Type 0 where
  pub inside : List ℕ
  pub written : AreWritten bs inside
  pub quoted : text ≡ codes "c\"" ++ inside ++ codes "\""

-- a zero stands among bytes
abbrev pub has_zero : List ℕ → Bool
has_zero bs = list_any (λ b. b == 0) bs
