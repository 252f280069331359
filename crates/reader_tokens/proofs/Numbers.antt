-- The numbers that digits write.
use Rattle.std.proofs.Common.{inl, inr, ◌≡◌, ℕ, ◌+◌, ◌*◌, ◌<◌, ◌≤◌, List, [], ◌∷◌, refl, sym, ap, ◌∙◌, arith}
use Rattle.std.proofs.Math.Nat.{le-mul_of_pos_right}
use Rattle.std.specs.Prelude.{Bool, true, false, ◌==◌, nat_lt, if◌then◌else◌, Option, Some, None, ◌⊎◌}
use Rattle.std.proofs.lemmas.Bool.Decides.{nat_tests}
use Rattle.std.proofs.lemmas.Bool.{ne_eqb}
use Rattle.syn_grammar.specs.Words.{digit, is_below, number_behind}

from_line : (b n c : ℕ) (cs : List ℕ) → (c == 95) ≡ true → number_behind b n (c ∷ cs) ≡ number_behind b n cs
from_line b n c cs l =
    ap (λ v. if v then number_behind b n cs else if nat_lt (digit c) b then number_behind b (n * b + digit c) cs
    else None) l

from_digit : (b n c : ℕ) (cs : List ℕ) → (c == 95) ≡ false → nat_lt (digit c) b ≡ true
    → number_behind b n (c ∷ cs) ≡ number_behind b (n * b + digit c) cs
from_digit b n c cs l d =
    ap (λ v. if v then number_behind b n cs else if nat_lt (digit c) b then number_behind b (n * b + digit c) cs
    else None) l
    ∙ ap (λ v. if v then number_behind b (n * b + digit c) cs else None) d

from_none : (b n c : ℕ) (cs : List ℕ) → (c == 95) ≡ false → nat_lt (digit c) b ≡ false
    → number_behind b n (c ∷ cs) ≡ None
from_none b n c cs l d =
    ap (λ v. if v then number_behind b n cs else if nat_lt (digit c) b then number_behind b (n * b + digit c) cs
    else None) l
    ∙ ap (λ v. if v then number_behind b (n * b + digit c) cs else None) d

pub next_line : (b n c : ℕ) (cs ds : List ℕ) (whole : Option ℕ) → ds ≡ c ∷ cs → c ≡ 95
    → number_behind b n ds ≡ whole → number_behind b n cs ≡ whole
next_line b n c cs ds whole e l w =
    sym (from_line b n c cs (ap (λ d. d == 95) l)) ∙ ap (number_behind b n) (sym e) ∙ w

pub next_digit : (b n c more : ℕ) (cs ds : List ℕ) (whole : Option ℕ) → ds ≡ c ∷ cs → (c ≡ 95 → ⊥)
    → nat_lt (digit c) b ≡ true → more ≡ n * b + digit c → number_behind b n ds ≡ whole
    → number_behind b more cs ≡ whole
next_digit b n c more cs ds whole e l d m w =
    ap (λ k. number_behind b k cs) m ∙ sym (from_digit b n c cs (ne_eqb c 95 l) d)
    ∙ ap (number_behind b n) (sym e) ∙ w

-- a number only grows
too_large : (n : ℕ) → 4294967296 ≤ n → nat_lt n 4294967296 ≡ false
too_large n h = grind (arith, nat_tests)

grown : (b n c : ℕ) → 1 ≤ b → 4294967296 ≤ n → 4294967296 ≤ n * b + digit c
grown b n c h g = omega (arith, le-mul_of_pos_right n h)

stays_large : (b : ℕ) → 1 ≤ b → (n : ℕ) (cs : List ℕ) → 4294967296 ≤ n
    → is_below 4294967296 (number_behind b n cs) ≡ false
stays_large b h n [] g = too_large n g
stays_large b h n (c ∷ cs) g =
    by (c == 95) (nat_lt (digit c) b) _ _ (stays_large b h n cs g)
    (stays_large b h (n * b + digit c) cs (grown b n c h g))
  where
    by : (v w : Bool) (x y : Option ℕ) → is_below 4294967296 x ≡ false → is_below 4294967296 y ≡ false
        → is_below 4294967296 (if v then x else if w then y else None) ≡ false
    by true w x y p q = p
    by false true x y p q = q
    by false false x y p q = refl

pub wrong_digit : (b n c : ℕ) (cs ds : List ℕ) (whole : Option ℕ) → 1 ≤ b → ds ≡ c ∷ cs → (c ≡ 95 → ⊥)
    → (nat_lt (digit c) b ≡ false) ⊎ (4294967296 ≤ n * b + digit c) → number_behind b n ds ≡ whole
    → is_below 4294967296 whole ≡ false
wrong_digit b n c cs ds whole h e l s w =
    ap (is_below 4294967296) (sym w ∙ ap (number_behind b n) e)
    ∙ by (nat_lt (digit c) b) refl s
  where
    by : (v : Bool) → nat_lt (digit c) b ≡ v → (nat_lt (digit c) b ≡ false) ⊎ (4294967296 ≤ n * b + digit c)
        → is_below 4294967296 (number_behind b n (c ∷ cs)) ≡ false
    by false d s = ap (is_below 4294967296) (from_none b n c cs (ne_eqb c 95 l) d)
    by true d (inl f) = cc
    by true d (inr g) =
        ap (is_below 4294967296) (from_digit b n c cs (ne_eqb c 95 l) d) ∙ stays_large b h (n * b + digit c) cs g

pub ended : (b n : ℕ) (ds : List ℕ) (whole : Option ℕ) → ds ≡ [] → number_behind b n ds ≡ whole → whole ≡ Some n
ended b n ds whole e w = sym w ∙ ap (number_behind b n) e

pub below : (n : ℕ) (x : Option ℕ) → n < 4294967296 → x ≡ Some n → is_below 4294967296 x ≡ true
below n x h e = ap (is_below 4294967296) e ∙ less n h
  where
    less : (n : ℕ) → n < 4294967296 → nat_lt n 4294967296 ≡ true
    less n h = grind (arith, nat_tests)
