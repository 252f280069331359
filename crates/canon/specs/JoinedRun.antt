-- What a run of joined texts writes.
use Rattle.std.specs.Prelude.{◌≡◌, ℕ, false, List, [], ◌∷◌, ◌++◌, encode_utf8_all, map}
use denote.Ref.{Bor}
use Rattle.std.specs.Str.{chars, IsUtf8}
use Rattle.rust_map.specs.Sources.{empty_from}
use Rattle.laws_programs.specs.Joined.{IsJoinedOutput}
use Rattle.canon.specs.Joined.{IsFaultAmong, LacksRoom, put_in}
use Rattle.canon.specs.declared.fault.Fault.{Fault}
use Rattle.canon.specs.declared.fault.Fault.TheVariants.{NotUtf8, Lexical, Syntax, NotFirst, MapFull, Memory}
use Rattle.canon.specs.declared.fault.Fault.TheVariants.{Reading, Writing}

-- the bytes of each
abbrev pub bytes_of : List (Bor (List ℕ)) → List (List ℕ)
bytes_of texts = map (λ bytes. bytes.now) texts

-- the characters of each
abbrev pub characters_of : List (List ℕ) → List (List ℕ)
characters_of texts = map chars texts

-- each is a text
abbrev pub AreUtf8 : List (List ℕ) → Type 0
AreUtf8 [] = Unit {0}
AreUtf8 (bytes ∷ texts) = IsUtf8 bytes × AreUtf8 texts

-- the canonical form of what the texts are joined to, and a line feed, as bytes
pub record IsJoinedPage (texts : List (List ℕ)) (page : List ℕ) : Type 0 where
  pub text : AreUtf8 texts
  pub output : List ℕ
  pub canonical : IsJoinedOutput (characters_of texts) output
  pub is : page ≡ encode_utf8_all output ++ 10 ∷ []

-- a map of its own has no room for one of the texts, or for what they are joined to
abbrev pub IsTooLong : List (List ℕ) → Type 0
IsTooLong texts = LacksRoom false (empty_from 1) (put_in (characters_of texts))

-- The fault of a run of joined texts: one of them is no UTF-8; or they are too long; or the fault of the first of them
-- that may not stand where it does.
abbrev pub IsJoinedFault : List (List ℕ) → Fault → Type 0
IsJoinedFault texts NotUtf8 = AreUtf8 texts → ⊥
IsJoinedFault texts MapFull = AreUtf8 texts × IsTooLong texts
IsJoinedFault texts (Lexical place) = AreUtf8 texts × IsFaultAmong (characters_of texts) (Lexical place)
IsJoinedFault texts (Syntax error place) = AreUtf8 texts × IsFaultAmong (characters_of texts) (Syntax error place)
IsJoinedFault texts (NotFirst index) = AreUtf8 texts × IsFaultAmong (characters_of texts) (NotFirst index)
IsJoinedFault texts Memory = Unit {0}
IsJoinedFault texts Reading = ⊥
IsJoinedFault texts Writing = Unit {0}
