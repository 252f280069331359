-- A text before which whatever ends before another text ends too.
use Rattle.std.proofs.Common.{◌≡◌, ℕ, List, [], ◌∷◌, ◌++◌, refl, sym, ap, ◌∙◌, subst, ⊎_elim}
use Rattle.std.specs.Prelude.{Bool, true, false, not, ◌&&◌, ◌==◌}
use Rattle.std.proofs.lemmas.Bool.{and_parts, cases_Bool, eqb-true}
use Rattle.unicode_ident.proofs.Computing.{unicode_ident}
use Rattle.rust_lex.specs.Chars.{is_first, is_next, is_digit, begins, passes, is_underscore, past}
use Rattle.rust_lex.specs.Number.{is_digit_or_line, is_sign, is_dot_or_first, is_exponent_letter, begins_fraction}
use Rattle.rust_lex.specs.Number.{begins_exponent, past_sign, past_lead}
use Rattle.rust_lex.specs.Piece.{IsSuffix}
use Rattle.rust_lex.proofs.Fronts.{among_each}
use Rattle.rust_lex.specs.Calm.{calm, IsCalm}

-- what passes none of the calm characters begins no calm text
pub calm_begins : (p : ℕ → Bool) (rest : List ℕ) → p 32 ≡ false → p 41 ≡ false → p 93 ≡ false → IsCalm rest
    → begins p rest ≡ false
calm_begins p [] a b c k = refl
calm_begins p (d ∷ ds) a b c k = among_each (λ d. p d ≡ false) calm (a, (b, (c, tt))) d k

-- tests that no calm character passes
pub record Shuns (p : ℕ → Bool) : Type 0 where
  pub space : p 32 ≡ false
  pub round : p 41 ≡ false
  pub square : p 93 ≡ false

pub calm_shuns : (p : ℕ → Bool) (rest : List ℕ) → Shuns p → IsCalm rest → begins p rest ≡ false
calm_shuns p rest s k = calm_begins p rest s.space s.round s.square k

pub shuns_next : Shuns is_next
unfolding is_next unicode_ident
shuns_next = record { space = refl; round = refl; square = refl }

pub shuns_first : Shuns is_first
unfolding is_first unicode_ident
shuns_first = record { space = refl; round = refl; square = refl }

pub shuns_digit : Shuns is_digit
unfolding is_digit
shuns_digit = record { space = refl; round = refl; square = refl }

pub shuns_digit_or_line : Shuns is_digit_or_line
unfolding is_digit
shuns_digit_or_line = record { space = refl; round = refl; square = refl }

pub shuns_dot_or_first : Shuns is_dot_or_first
unfolding is_first unicode_ident
shuns_dot_or_first = record { space = refl; round = refl; square = refl }

pub shuns_sign : Shuns is_sign
shuns_sign = record { space = refl; round = refl; square = refl }

pub shuns_underscore : Shuns is_underscore
shuns_underscore = record { space = refl; round = refl; square = refl }

pub shuns_exponent : Shuns is_exponent_letter
shuns_exponent = record { space = refl; round = refl; square = refl }

calm_fraction : (rest : List ℕ) → IsCalm rest → begins_fraction rest ≡ false
calm_fraction [] k = refl
calm_fraction (c ∷ cs) k =
    among_each (λ d. (d == 46 && not (begins is_dot_or_first cs)) ≡ false) calm (refl, (refl, (refl, tt))) c k

calm_exponent : (rest : List ℕ) → IsCalm rest → begins_exponent rest ≡ false
calm_exponent [] k = refl
calm_exponent (c ∷ cs) k =
    among_each (λ d. (is_exponent_letter d && begins is_digit (past_lead cs)) ≡ false) calm (refl, (refl, (refl, tt))) c
    k

calm_past : (p : ℕ → Bool) (rest : List ℕ) → Shuns p → IsCalm rest → past p rest ≡ rest
calm_past p [] s k = refl
calm_past p (c ∷ cs) s k = rw (calm_shuns p (c ∷ cs) s k) refl

calm_sign : (rest : List ℕ) → IsCalm rest → past_sign rest ≡ rest
calm_sign rest k = rw (calm_shuns is_sign rest shuns_sign k) refl

calm_lead : (rest : List ℕ) → IsCalm rest → begins is_digit (past_lead rest) ≡ false
calm_lead rest k = rw (calm_past is_underscore rest shuns_underscore k)
    (rw (calm_sign rest k) (rw (calm_past is_underscore rest shuns_underscore k)
    (calm_shuns is_digit rest shuns_digit k)))

-- the first text may be replaced by the second
pub record Quieter (x y : List ℕ) : Type 0 where
  pub one : (p : ℕ → Bool) → Shuns p → begins p x ≡ false → begins p y ≡ false
  pub fraction : begins_fraction x ≡ false → begins_fraction y ≡ false
  pub exponent : begins_exponent x ≡ false → begins_exponent y ≡ false

pub not_char : (p : ℕ → Bool) (c d : ℕ) → p d ≡ false → p c ≡ true → (c == d) ≡ false
not_char p c d h k =
    ⊎_elim
    (λ e. let q : p d ≡ true = subst (λ x. p x ≡ true) (eqb-true c d e) k in cc)
    (λ e. e)
    (cases_Bool (c == d))

next_sign : (c : ℕ) → is_next c ≡ true → is_sign c ≡ false
unfolding is_next unicode_ident
next_sign c h = rw (not_char is_next c 43 refl h, not_char is_next c 45 refl h) refl

first_dot : (c : ℕ) → is_first c ≡ true → (c == 46) ≡ false
unfolding is_first unicode_ident
first_dot c h = not_char is_first c 46 refl h

-- behind characters of an identifier that aren't underscores alone, no sign or underscore is left
lead_stops : (c : ℕ) (cs : List ℕ) → is_next c ≡ true → (c == 95) ≡ false → past_lead (c ∷ cs) ≡ c ∷ cs
lead_stops c cs h n = rw n (rw (next_sign c h) (rw n refl))

lead_line : (c : ℕ) (cs : List ℕ) → (c == 95) ≡ true → past_lead (c ∷ cs) ≡ past_lead cs
lead_line c cs h = rw h refl

lead_quiet : (cs rest calmer : List ℕ) → passes is_next cs ≡ true → IsCalm calmer
    → begins is_digit (past_lead (cs ++ rest)) ≡ false → begins is_digit (past_lead (cs ++ calmer)) ≡ false
lead_quiet [] rest calmer h k e = calm_lead calmer k
lead_quiet (c ∷ cs) rest calmer h k e =
    let (n, more) = and_parts (is_next c) (passes is_next cs) h in
    ⊎_elim
    (λ y. ap (begins is_digit) (lead_line c (cs ++ calmer) y) ∙ lead_quiet cs rest calmer more k
    (sym (ap (begins is_digit) (lead_line c (cs ++ rest) y)) ∙ e))
    (λ y. ap (begins is_digit) (lead_stops c (cs ++ calmer) n y) ∙ sym
    (ap (begins is_digit) (lead_stops c (cs ++ rest) n y)) ∙ e)
    (cases_Bool (c == 95))

-- behind a suffix a calm text may stand instead of any rest
pub suffix_quieter : (suffix rest calmer : List ℕ) → IsSuffix suffix rest → IsCalm calmer
    → Quieter (suffix ++ rest) (suffix ++ calmer)
suffix_quieter [] rest calmer s k =
    record {
      one = λ p h e. calm_shuns p calmer h k;
      fraction = λ e. calm_fraction calmer k;
      exponent = λ e. calm_exponent calmer k;
    }
suffix_quieter (c ∷ cs) rest calmer s k = record {
  one = λ p h e. e;
  fraction = λ e. rw (first_dot c s.0) refl;
  exponent = λ e. ⊎_elim
      (λ y. let f : begins is_digit (past_lead (cs ++ rest))
      ≡ false = rw y at e in rw y (lead_quiet cs rest calmer s.1 k f))
      (λ y. rw y refl)
      (cases_Bool (is_exponent_letter c));
}

-- a suffix stands before any calm text
pub suffix_calm : (cs rest calmer : List ℕ) → IsSuffix cs rest → IsCalm calmer → IsSuffix cs calmer
suffix_calm [] rest calmer h k = calm_shuns is_first calmer shuns_first k
suffix_calm (c ∷ cs) rest calmer h k = (h.0, h.1, calm_shuns is_next calmer shuns_next k)
