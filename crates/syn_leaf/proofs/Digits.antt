-- The digits of a number, one by one.
use Rattle.std.proofs.Common.{◌≡◌, ℕ, ◌+◌, ◌*◌, ◌<◌, ◌≤◌, List, [], ◌∷◌, ◌++◌, length, refl, sym, ap, ◌∙◌, subst, arith}
use Rattle.std.proofs.Math.Nat.{le-mul_of_pos_right}
use Rattle.std.specs.Prelude.{Bool, true, false, ◌==◌, if◌then◌else◌}
use Rattle.std.specs.Char.{digit_value, encode_utf8}
use Rattle.std.specs.Str.{chars, IsUtf8}
use Rattle.std.proofs.lemmas.Str.{chars-nil, chars_past_char, IsUtf8-past_char}
use Rattle.std.proofs.lemmas.Bool.Decides.{nat_tests}
use Rattle.std.proofs.lemmas.Bool.{ne_eqb}
use Rattle.rust_lex.specs.Number.{base_by, is_digit_of}
use Rattle.syn_leaf.specs.Integers.{int_base, int_digits, number_from}

-- a turn: an underscore, a digit, or what is none
from_line : (b n c : ℕ) (cs : List ℕ) → (c == 95) ≡ true → number_from b n (c ∷ cs) ≡ number_from b n cs
from_line b n c cs l = ap
    (λ v. if v then number_from b n cs else (if is_digit_of b c then number_from b (n * b + digit_value c) cs else n)) l

pub line_turn : (b n c whole : ℕ) (bs rest : List ℕ) → IsUtf8 bs → bs ≡ encode_utf8 c ++ rest → c ≡ 95
    → number_from b n (chars bs) ≡ whole
    → IsUtf8 rest × (number_from b n (chars rest) ≡ whole)
line_turn b n c whole bs rest u e l w = (
  IsUtf8-past_char bs rest c u e,
  sym (from_line b n c (chars rest) (ap (λ d. d == 95) l))
      ∙ ap (number_from b n) (sym (chars_past_char bs rest c u e)) ∙ w,
)

from_digit : (b n c : ℕ) (cs : List ℕ) → (c == 95) ≡ false → is_digit_of b c ≡ true
    → number_from b n (c ∷ cs) ≡ number_from b (n * b + digit_value c) cs
from_digit b n c cs l d =
    ap (λ v. if v then number_from b n cs else (if is_digit_of b c then number_from b
    (n * b + digit_value c) cs else n)) l
    ∙ ap (λ v. if v then number_from b (n * b + digit_value c) cs else n) d

from_none : (b n c : ℕ) (cs : List ℕ) → (c == 95) ≡ false → is_digit_of b c ≡ false → number_from b n (c ∷ cs) ≡ n
from_none b n c cs l d =
    ap (λ v. if v then number_from b n cs else (if is_digit_of b c then number_from b
    (n * b + digit_value c) cs else n)) l
    ∙ ap (λ v. if v then number_from b (n * b + digit_value c) cs else n) d

is_digit : (b c : ℕ) → digit_value c < b → is_digit_of b c ≡ true
is_digit b c h = grind (arith, nat_tests)

no_digit : (b c : ℕ) → (digit_value c < b → ⊥) → is_digit_of b c ≡ false
no_digit b c h = grind (arith, nat_tests)

pub digit_turn : (b n c d more whole : ℕ) (bs rest : List ℕ) → IsUtf8 bs → bs ≡ encode_utf8 c ++ rest → (c ≡ 95
    → ⊥) → digit_value c < b → d ≡ digit_value c
    → more ≡ n * b + d → number_from b n (chars bs) ≡ whole → IsUtf8 rest × (number_from b more (chars rest) ≡ whole)
digit_turn b n c d more whole bs rest u e l s t m w = (
  IsUtf8-past_char bs rest c u e,
  ap (λ k. number_from b k (chars rest)) (m ∙ ap (λ k. n * b + k) t)
      ∙ sym (from_digit b n c (chars rest) (ne_eqb c 95 l) (is_digit b c s))
      ∙ ap (number_from b n) (sym (chars_past_char bs rest c u e)) ∙ w,
)

pub none_turn : (b n c whole : ℕ) (bs rest : List ℕ) → IsUtf8 bs → bs ≡ encode_utf8 c ++ rest → (c ≡ 95 → ⊥)
    → (digit_value c < b → ⊥)
    → number_from b n (chars bs) ≡ whole → n ≡ whole
none_turn b n c whole bs rest u e l d w = sym (from_none b n c (chars rest) (ne_eqb c 95 l) (no_digit b c d))
    ∙ ap (number_from b n) (sym (chars_past_char bs rest c u e)) ∙ w

pub over : (b n whole : ℕ) (bs : List ℕ) → length bs ≡ 0 → number_from b n (chars bs) ≡ whole → n ≡ whole
over b n whole [] l w = ap (number_from b n) (sym chars-nil) ∙ w
over b n whole (x ∷ bs) l w = cc

-- a number only grows
by_digit : (v : Bool) (n more result : ℕ) → n ≤ more → more ≤ result → n ≤ (if v then result else n)
by_digit true n more result h i = omega arith
by_digit false n more result h i = omega arith

by_line : (v : Bool) (n line other : ℕ) → n ≤ line → n ≤ other → n ≤ (if v then line else other)
by_line true n line other h i = h
by_line false n line other h i = i

grows : (b : ℕ) → 1 ≤ b → (n : ℕ) (cs : List ℕ) → n ≤ number_from b n cs
grows b h n [] = omega arith
grows b h n (c ∷ cs) =
    let times : n ≤ n * b + digit_value c = omega (arith, le-mul_of_pos_right n h) in
    by_line (c == 95) n _ _ (grows b h n cs) (by_digit (is_digit_of b c) n (n * b + digit_value c) _ times
    (grows b h (n * b + digit_value c) cs))

-- it is past a bound where one with fewer digits is
pub past_bound : (bound b n c d whole : ℕ) (bs rest : List ℕ) → 1 ≤ b → IsUtf8 bs → bs ≡ encode_utf8 c ++ rest
    → (c ≡ 95 → ⊥) → digit_value c < b → d ≡ digit_value c
    → bound ≤ n * b + d → number_from b n (chars bs) ≡ whole → bound ≤ whole
past_bound bound b n c d whole bs rest h u e l s t m w =
    let same : number_from b (n * b + digit_value c) (chars rest)
    ≡ whole = sym (from_digit b n c (chars rest) (ne_eqb c 95 l) (is_digit b c s))
    ∙ ap (number_from b n) (sym (chars_past_char bs rest c u e)) ∙ w in
    omega (arith, ap (λ k. n * b + k) t, grows b h (n * b + digit_value c) (chars rest))

-- a number's prefix: there is none where fewer than two characters stand
pub split_none : (bs : List ℕ) → length bs ≡ 0 → (int_base (chars bs) ≡ 10) × (chars bs ≡ int_digits (chars bs))
split_none [] h = (ap int_base chars-nil, chars-nil ∙ sym (ap int_digits chars-nil))
split_none (b ∷ bs) h = cc

lone : (c : ℕ) (cs : List ℕ) → cs ≡ [] → (int_base (c ∷ cs) ≡ 10) × (c ∷ cs ≡ int_digits (c ∷ cs))
lone c [] h = (refl, refl)
lone c (d ∷ cs) h = cc

no_more : (bs : List ℕ) → length bs ≡ 0 → chars bs ≡ []
no_more [] h = chars-nil
no_more (b ∷ bs) h = cc

abbrev Plain : List ℕ → Type 0
Plain cs = (int_base cs ≡ 10) × (cs ≡ int_digits cs)

pub split_one : (bs rest : List ℕ) (c : ℕ) → IsUtf8 bs → bs ≡ encode_utf8 c ++ rest → length rest ≡ 0
    → (int_base (chars bs) ≡ 10) × (chars bs ≡ int_digits (chars bs))
split_one bs rest c u e h = subst Plain (sym (chars_past_char bs rest c u e)) (lone c (chars rest) (no_more rest h))

two : (bs mid rest : List ℕ) (c d : ℕ) → IsUtf8 bs → bs ≡ encode_utf8 c ++ mid → mid ≡ encode_utf8 d ++ rest
    → chars bs ≡ c ∷ d ∷ chars rest
two bs mid rest c d u e f = chars_past_char bs mid c u e
    ∙ ap (λ cs. c ∷ cs) (chars_past_char mid rest d (IsUtf8-past_char bs mid c u e) f)

plain_two : (c d n : ℕ) (cs : List ℕ) → base_by c d ≡ n → n ≡ 0 → Plain (c ∷ d ∷ cs)
plain_two c d n cs e z =
    let none : (base_by c d == 0) ≡ true = ap (λ k. k == 0) (e ∙ z) in
    (ap (λ v. if v then 10 else base_by c d) none, sym (ap (λ v. if v then c ∷ d ∷ cs else cs) none))

based_two : (c d n : ℕ) (cs : List ℕ) → n ≡ base_by c d → (n ≡ 0 → ⊥)
    → (n ≡ int_base (c ∷ d ∷ cs)) × (cs ≡ int_digits (c ∷ d ∷ cs))
based_two c d n cs e z =
    let some : (base_by c d == 0) ≡ false = ne_eqb (base_by c d) 0 (λ h. z (e ∙ h)) in
    (e ∙ sym (ap (λ v. if v then 10 else base_by c d) some), sym (ap (λ v. if v then c ∷ d ∷ cs else cs) some))

pub split_plain : (bs mid rest : List ℕ) (c d n : ℕ) → IsUtf8 bs → bs ≡ encode_utf8 c ++ mid
    → mid ≡ encode_utf8 d ++ rest → n ≡ base_by c d → n ≡ 0
    → (int_base (chars bs) ≡ 10) × (chars bs ≡ int_digits (chars bs))
split_plain bs mid rest c d n u e f g z = subst Plain (sym (two bs mid rest c d u e f)) (plain_two c d n
    (chars rest) (sym g) z)

pub split_based : (bs mid rest : List ℕ) (c d n : ℕ) → IsUtf8 bs → bs ≡ encode_utf8 c ++ mid
    → mid ≡ encode_utf8 d ++ rest → n ≡ base_by c d → (n ≡ 0 → ⊥)
    → (n ≡ int_base (chars bs)) × (chars rest ≡ int_digits (chars bs))
split_based bs mid rest c d n u e f g z =
    let Based : List ℕ → Type 0 = λ cs. (n ≡ int_base cs) × (chars rest ≡ int_digits cs) in
    subst Based (sym (two bs mid rest c d u e f)) (based_two c d n (chars rest) g z)

pub ruleset splits = (split_none, split_one, split_plain, split_based)
