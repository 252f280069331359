-- Words by their first byte and their length.
use Rattle.std.proofs.Common.{◌≡◌, ℕ, ◌≤◌, List, [], ◌∷◌, length, take, sym, ap, ◌∙◌, arith}
use Rattle.std.specs.Prelude.{encode_utf8_all, slice_index_or}
use Rattle.std.specs.Str.{IsUtf8, chars}
use Rattle.std.proofs.lemmas.Str.{encodes-chars}

-- a word that is a text begins as it does, and has as many bytes
pub same_first : (cs bs ws : List ℕ) (own : ℕ) → IsUtf8 bs → cs ≡ chars bs → ws ≡ bs → 1 ≤ length ws
    → take 1 (encode_utf8_all cs) ≡ own ∷ [] → own ≡ slice_index_or ws 0 0
same_first cs bs ws own u e v filled f =
    first ws filled (sym f ∙ ap (λ x. take 1 (encode_utf8_all x)) e ∙ ap (take 1) (encodes-chars bs u)
    ∙ ap (take 1) (sym v))
  where
    first : (ws : List ℕ) → 1 ≤ length ws → own ∷ [] ≡ take 1 ws → own ≡ slice_index_or ws 0 0
    first [] filled h = absurd (omega arith)
    first (w ∷ ws) filled h = cc h

pub same_length : (cs bs : List ℕ) → IsUtf8 bs → cs ≡ chars bs → length (encode_utf8_all cs) ≡ length bs
same_length cs bs u e = ap (λ x. length (encode_utf8_all x)) e ∙ ap length (encodes-chars bs u)
