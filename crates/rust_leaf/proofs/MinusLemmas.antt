-- A minus at the front of a text, in bytes and in characters.
use Rattle.std.proofs.Common.{◌≡◌, ◌≢◌, ℕ, List, [], ◌∷◌, refl, sym, ap, ◌∙◌, encode_utf8_all, false, Bor, Option}
use Rattle.std.proofs.Common.{Some, None, MatchOption, IfNone, IfSome}
use Rattle.std.specs.Str.{chars, IsUtf8}
use Rattle.std.proofs.lemmas.Bool.{ne_eqb}
use Rattle.std.proofs.lemmas.Str.{chars_past_char, encodes-chars}
use Rattle.rust_leaf.specs.Minus.{minus, starts_with_minus}

pub minus_some : (bs rest : List ℕ) → IsUtf8 bs → bs ≡ minus ∷ rest → chars bs ≡ minus ∷ chars rest
unfolding lib.Utf8.encode
minus_some bs rest utf8 e = chars_past_char bs rest minus utf8 e

pub minus_none : (bs : List ℕ) → IsUtf8 bs → ((rest : List ℕ) → bs ≢ minus ∷ rest)
    → starts_with_minus (chars bs) ≡ false
unfolding lib.Utf8.encode
minus_none bs utf8 none = begins (chars bs) (encodes-chars bs utf8)
  where
    begins : (cs : List ℕ) → encode_utf8_all cs ≡ bs → starts_with_minus cs ≡ false
    begins [] e = refl
    begins (c ∷ cs) e = ne_eqb c minus (λ m. none (encode_utf8_all cs) (sym e ∙ ap (λ d. encode_utf8_all (d ∷ cs)) m))

-- what is left of a text behind a minus, in characters
pub minus_cases : (bs : List ℕ) (r : Option (Bor (List ℕ))) → IsUtf8 bs
    → MatchOption r ((rest : List ℕ) → bs ≢ minus ∷ rest) (λ x. bs ≡ minus ∷ x.now) →
    IfNone r (starts_with_minus (chars bs) ≡ false) × IfSome r (λ x. chars bs ≡ minus ∷ chars x.now)
minus_cases bs None utf8 m = (minus_none bs utf8 m, tt)
minus_cases bs (Some x) utf8 m = (tt, minus_some bs x.now utf8 m)
