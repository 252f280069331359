-- A walk past digits, one character after the other.
use Rattle.std.proofs.Common.{◌≡◌, ℕ, List, [], ◌∷◌, ◌++◌, length, sym, ap, ◌∙◌}
use Rattle.std.specs.Prelude.{Bool, true, false, if◌then◌else◌}
use Rattle.std.specs.Char.{encode_utf8}
use Rattle.std.specs.Str.{chars, IsUtf8}
use Rattle.std.proofs.lemmas.Str.{chars-nil, chars_past_char, IsUtf8-past_char}
use Rattle.rust_lex.specs.Chars.{past}

abbrev Passes : (ℕ → Bool) → List ℕ → List ℕ → Type 0
Passes p bs whole = past p (chars bs) ≡ whole

pub passed : (p : ℕ → Bool) (c : ℕ) (bs rest whole : List ℕ) → IsUtf8 bs → bs ≡ encode_utf8 c ++ rest → p c ≡ true
    → past p (chars bs) ≡ whole → IsUtf8 rest × (past p (chars rest) ≡ whole)
passed p c bs rest whole u e t w = (
  IsUtf8-past_char bs rest c u e,
  sym (ap (λ v. if v then past p (chars rest) else c ∷ chars rest) t)
      ∙ ap (past p) (sym (chars_past_char bs rest c u e)) ∙ w,
)

pub stopped : (p : ℕ → Bool) (c : ℕ) (bs rest whole : List ℕ) → IsUtf8 bs → bs ≡ encode_utf8 c ++ rest → p c ≡ false
    → past p (chars bs) ≡ whole → chars bs ≡ whole
stopped p c bs rest whole u e t w =
    chars_past_char bs rest c u e ∙ sym (ap (λ v. if v then past p (chars rest) else c ∷ chars rest) t)
    ∙ ap (past p) (sym (chars_past_char bs rest c u e)) ∙ w

pub ended : (p : ℕ → Bool) (bs whole : List ℕ) → length bs ≡ 0 → past p (chars bs) ≡ whole → chars bs ≡ whole
ended p [] whole l w = chars-nil ∙ sym (ap (past p) chars-nil) ∙ w
ended p (b ∷ bs) whole l w = cc
