-- Texts, character by character.
use Rattle.std.proofs.Common.{◌≡◌, ℕ, List, [], ◌∷◌, ◌++◌, length}
use Rattle.std.specs.Char.{encode_utf8}
use Rattle.std.specs.Str.{chars, IsUtf8}
use Rattle.std.proofs.lemmas.Str.{chars-nil, chars_past_char}

pub first_so : (bs rest : List ℕ) (c : ℕ) → IsUtf8 bs → bs ≡ encode_utf8 c ++ rest → chars bs ≡ c ∷ chars rest
first_so bs rest c u e = chars_past_char bs rest c u e

pub none_left : (bs : List ℕ) → length bs ≡ 0 → chars bs ≡ []
none_left [] h = chars-nil
none_left (b ∷ bs) h = cc
