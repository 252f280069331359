-- Numbers in hexadecimal digits.
use Rattle.std.proofs.Common.{◌≡◌, ℕ, zero, suc, ◌+◌, ◌<◌, ◌≤◌, ◌^◌, arith, List, [], ◌∷◌, length, refl, ap, ◌∙◌}
use Rattle.std.proofs.Common.{subst, lit≤, ⊎_elim}
use Rattle.std.specs.Prelude.{true, false, ◌==◌, ◌*◌, ◌/◌, ◌%◌, nat_lt}
use Rattle.std.specs.Char.{digit_value}
use Rattle.std.specs.Fmt.{digits, digits_onto, digit_glyph}
use Rattle.std.specs.Str.Parse.{AllDigits, IsNumeral, digits_value_after}
use Rattle.std.proofs.Math.Nat.{mod-lt, pow-suc}
use Rattle.std.proofs.lemmas.Nat.{div-add-mod'}
use Rattle.std.proofs.lemmas.Bool.{cases_Bool, eqb-false, ne_eqb, lt-ltb, le-ltb, ltb-true, ltb-false, and_from}
use Rattle.std.proofs.lemmas.Bool.{or_right}
use Rattle.std.proofs.lemmas.Fmt.{digits_is_IsNumeral}
use Rattle.std.proofs.lemmas.Str.{digit_value-digit_char}
use Rattle.rust_escape.specs.Chars.{begins, passes, is_hex_digit, hex_value, is_underscore, digits_of, number_from}
use Rattle.rust_escape.specs.Chars.{hex_number}
use Rattle.rust_escape.specs.Escape.{is_hex_part}

hex_digit : (c : ℕ) → digit_value c < 16 → is_hex_digit c ≡ true
unfolding is_hex_digit
hex_digit c l = lt-ltb (digit_value c) 16 l

no_line : (c : ℕ) → digit_value c < 16 → is_underscore c ≡ false
no_line c l = ne_eqb c 95 (λ e. let k : digit_value 95 < 16 = subst (λ x. digit_value x < 16) e l in omega arith)

hex_part : (c : ℕ) → digit_value c < 16 → is_hex_part c ≡ true
hex_part c l = or_right (is_underscore c) (is_hex_digit c) (hex_digit c l)

all_parts : (ds : List ℕ) → AllDigits 16 ds → passes is_hex_part ds ≡ true
all_parts [] a = refl
all_parts (c ∷ cs) a = and_from (is_hex_part c) (passes is_hex_part cs) (hex_part c a.0) (all_parts cs a.1)

all_digits : (ds : List ℕ) → AllDigits 16 ds → digits_of ds ≡ ds
all_digits [] a = refl
all_digits (c ∷ cs) a = rw (no_line c a.0) (ap (λ x. c ∷ x) (all_digits cs a.1))

first_digit : (ds : List ℕ) → IsNumeral 16 ds → begins is_hex_digit ds ≡ true
first_digit [] n = absurd (omega (arith, n.0))
first_digit (c ∷ cs) n = hex_digit c n.1.0

same_step : (n c : ℕ) → 16 * n + hex_value c ≡ n * 16 + digit_value c
unfolding hex_value
same_step n c = omega arith

same_number : (n : ℕ) (ds : List ℕ) → number_from n ds ≡ digits_value_after 16 n ds
same_number n [] = refl
same_number n (c ∷ cs) = ap (λ m. number_from m cs) (same_step n c) ∙ same_number (n * 16 + digit_value c) cs

-- a number below 16 ^ (j + 1) has at most j + 1 digits
few : (k j n : ℕ) (acc : List ℕ) → n < 16 ^ suc j → length (digits_onto k 16 false n acc) ≤ suc j + length acc
few zero j n acc h = omega arith
few (suc k) j n acc h =
    ⊎_elim
    (λ e. rw e (omega arith))
    (λ e. rw e (fewer j h (eqb-false (n / 16) 0 e) (λ i. few k i (n / 16) (digit_glyph false (n % 16) ∷ acc))))
    (cases_Bool (n / 16 == 0))
  where
    fewer : (j : ℕ) → n < 16 ^ suc j → (n / 16 ≡ 0 → ⊥)
        → ((i : ℕ) → n / 16 < 16 ^ suc i
        → length (digits_onto k 16 false (n / 16) (digit_glyph false (n % 16) ∷ acc)) ≤ suc i + length
        (digit_glyph false (n % 16) ∷ acc))
        → length (digits_onto k 16 false (n / 16) (digit_glyph false (n % 16) ∷ acc)) ≤ suc j + length acc
    fewer zero h z on = absurd (z (let q = div-add-mod' n 16 in omega arith))
    fewer (suc i) h z on =
        let low : n / 16 < 16 ^ suc i = (let q = div-add-mod' n 16 in let p = pow-suc 16 (suc i) in omega arith) in
        let most = on i low in
        omega arith

few_digits : (n : ℕ) → n < 1114112 → length (digits 16 false n) ≤ 6
unfolding digits
few_digits n l = let most = few 64 5 n [] (omega arith) in omega arith

-- the digits of a character's number
pub record IsHex (n : ℕ) (ds : List ℕ) : Type 0 where
  pub first : begins is_hex_digit ds ≡ true
  pub parts : passes is_hex_part ds ≡ true
  pub digits : digits_of ds ≡ ds
  pub few : length ds ≤ 6
  pub number : hex_number ds ≡ n

pub is_hex : (n : ℕ) → n < 1114112 → IsHex n (digits 16 false n)
is_hex n l =
    let ds = digits 16 false n in
    let (numeral, value) = digits_is_IsNumeral 16 false (lit≤ tt) (lit≤ tt) n (omega arith) in
    record {
      first = first_digit ds numeral;
      parts = all_parts ds numeral.1;
      digits = all_digits ds numeral.1;
      few = few_digits n l;
      number = same_number 0 ds ∙ value;
    }

-- the two digits of a byte
low_glyph : (d : ℕ) → d < 10 → digit_glyph true d ≡ digit_glyph false d
low_glyph d h = rw (lt-ltb d 10 h) refl

high_glyph : (d : ℕ) → 10 ≤ d → digit_glyph true d ≡ 55 + d
high_glyph d h = rw (le-ltb d 10 h) refl

high_value : (d : ℕ) → 10 ≤ d → d < 16 → digit_value (55 + d) ≡ d
high_value d h k = rw (
  le-ltb (55 + d) 48 (omega arith),
  le-ltb (55 + d) 58 (omega arith),
  le-ltb (55 + d) 65 (omega arith),
  lt-ltb (55 + d) 91 (omega arith),
) (omega arith)

glyph_value : (d : ℕ) → d < 16 → digit_value (digit_glyph true d) ≡ d
glyph_value d h =
    ⊎_elim
    (λ y. ap digit_value (low_glyph d (ltb-true d 10 y)) ∙ digit_value-digit_char d (omega arith))
    (λ y. ap digit_value (high_glyph d (ltb-false d 10 y)) ∙ high_value d (ltb-false d 10 y) h)
    (cases_Bool (nat_lt d 10))

pub record AreBoth (b high low : ℕ) : Type 0 where
  pub first : is_hex_digit high ≡ true
  pub second : is_hex_digit low ≡ true
  pub number : 16 * hex_value high + hex_value low ≡ b

pub are_both : (b : ℕ) → b < 256 → AreBoth b (digit_glyph true (b / 16)) (digit_glyph true (b % 16))
unfolding hex_value
are_both b l =
    let q = div-add-mod' b 16 in
    let low : b % 16 < 16 = mod-lt b (omega arith) in
    let high : b / 16 < 16 = omega arith in
    let x = glyph_value (b / 16) high in
    let y = glyph_value (b % 16) low in
    record {
      first = hex_digit (digit_glyph true (b / 16)) (omega arith);
      second = hex_digit (digit_glyph true (b % 16)) (omega arith);
      number = omega arith;
    }
