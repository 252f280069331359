-- What the characters that pass are, and what stands behind them.
use Rattle.std.proofs.Common.{◌≡◌, ℕ, List, [], ◌∷◌, ◌++◌, append_assoc, refl, sym, ap, ◌∙◌, subst, ⊎_elim, drop}
use Rattle.std.specs.Prelude.{Bool, true, false, not, ◌&&◌, ◌==◌, Some}
use Rattle.std.proofs.lemmas.Bool.{and_parts, and_from, cases_Bool}
use Rattle.rust_lex.specs.Chars.{is_first, is_next, is_digit, begins, passes, is_underscore, past}
use Rattle.rust_lex.specs.Ends.{past_suffix}
use Rattle.rust_lex.specs.Number.{is_digit_or_line, is_digit_of, is_digit_of_or_line, is_sign, begins_fraction}
use Rattle.rust_lex.specs.Number.{past_fraction, past_sign, past_lead, begins_exponent, past_exponent, past_decimal}
use Rattle.rust_lex.specs.Number.{past_based, base_of, past_number}
use Rattle.rust_lex.specs.Piece.{IsSuffix}
use Rattle.rust_lex.proofs.Fronts.{first-next}
use Rattle.rust_lex.proofs.Taken.{chosen}

pub past_all : (p : ℕ → Bool) (cs rest : List ℕ) → passes p cs ≡ true → begins p rest ≡ false → past p (cs ++ rest)
    ≡ rest
past_all p [] [] h s = refl
past_all p [] (c ∷ rest) h s = rw s refl
past_all p (c ∷ cs) rest h s = let (a, b) = and_parts (p c) (passes p cs) h in rw a (past_all p cs rest b s)

pub record Passed (p : ℕ → Bool) (text : List ℕ) : Type 0 where
  pub front : List ℕ
  pub joined : text ≡ front ++ past p text
  pub pass : passes p front ≡ true
  pub stops : begins p (past p text) ≡ false

pub passed : (p : ℕ → Bool) (text : List ℕ) → Passed p text
passed p [] = record { front = []; joined = refl; pass = refl; stops = refl }
passed p (c ∷ cs) =
    let more = passed p cs in
    ⊎_elim
    (λ y. record {
      front = c ∷ more.front;
      joined = rw y (ap (λ r. c ∷ r) more.joined);
      pass = and_from _ _ y more.pass;
      stops = rw y more.stops;
    })
    (λ n. record { front = []; joined = rw n refl; pass = refl; stops = rw n n })
    (cases_Bool (p c))

pub past_word : (c : ℕ) (cs : List ℕ) → is_first c ≡ true → past is_next (c ∷ cs) ≡ past is_next cs
past_word c cs h = rw (first-next c h) refl

pub suffix_ended : (cs rest : List ℕ) → IsSuffix cs rest → past_suffix (cs ++ rest) ≡ rest
suffix_ended [] rest h = rw h refl
suffix_ended (c ∷ cs) rest h = rw (h.0, first-next c h.0) (past_all is_next cs rest h.1 h.2)

-- a suffix is found behind each literal
pub record Suffixed (text rest : List ℕ) : Type 0 where
  pub suffix : List ℕ
  pub joined : text ≡ suffix ++ rest
  pub is : IsSuffix suffix rest

suffix_word : (c : ℕ) (cs : List ℕ) → is_first c ≡ true → past_suffix (c ∷ cs) ≡ past is_next cs
suffix_word c cs h = rw (h, first-next c h) refl

pub suffix_found : (cs : List ℕ) → Suffixed cs (past_suffix cs)
suffix_found [] = record { suffix = []; joined = refl; is = refl }
suffix_found (c ∷ cs) =
    ⊎_elim
    (λ y. let p = passed is_next cs in
    let e : past_suffix (c ∷ cs) ≡ past is_next cs = suffix_word c cs y in
    subst (λ r. Suffixed (c ∷ cs) r) (sym e)
    (record { suffix = c ∷ p.front; joined = ap (λ x. c ∷ x) p.joined; is = (y, p.pass, p.stops) }))
    (λ n. rw n (record { suffix = []; joined = refl; is = n }))
    (cases_Bool (is_first c))

-- the rest is what stands behind some front
pub record Tail (text rest : List ℕ) : Type 0 where
  pub front : List ℕ
  pub joined : text ≡ front ++ rest

tail_same : (text : List ℕ) → Tail text text
tail_same text = record { front = []; joined = refl }

tail_more : (text r s : List ℕ) → Tail text r → Tail r s → Tail text s
tail_more text r s a b = record {
  front = a.front ++ b.front;
  joined = a.joined ∙ ap (λ x. a.front ++ x) b.joined ∙ sym (append_assoc a.front b.front s);
}

tail_past : (p : ℕ → Bool) (text : List ℕ) → Tail text (past p text)
tail_past p text = let k = passed p text in record { front = k.front; joined = k.joined }

tail_drop : (text : List ℕ) → Tail text (drop 1 text)
tail_drop [] = record { front = []; joined = refl }
tail_drop (c ∷ cs) = record { front = c ∷ []; joined = refl }

tail_fraction : (text : List ℕ) → Tail text (past_fraction text)
tail_fraction text =
    ⊎_elim
    (λ h. rw h (tail_more text (drop 1 text) _ (tail_drop text) (tail_past is_digit_or_line (drop 1 text))))
    (λ h. rw h (tail_same text))
    (cases_Bool (begins_fraction text))

tail_sign : (text : List ℕ) → Tail text (past_sign text)
tail_sign text =
    ⊎_elim (λ h. rw h (tail_drop text)) (λ h. rw h (tail_same text)) (cases_Bool (begins is_sign text))

tail_lead : (text : List ℕ) → Tail text (past_lead text)
tail_lead text =
    tail_more text (past is_underscore text) _ (tail_past is_underscore text)
    (tail_more (past is_underscore text) (past_sign (past is_underscore text)) _ (tail_sign (past is_underscore text))
    (tail_past is_underscore _))

tail_exponent : (text : List ℕ) → Tail text (past_exponent text)
tail_exponent text =
    ⊎_elim
    (λ h. rw h (tail_more text (drop 1 text) _ (tail_drop text)
    (tail_more (drop 1 text) (past_lead (drop 1 text)) _ (tail_lead (drop 1 text)) (tail_past is_digit_or_line _))))
    (λ h. rw h (tail_same text))
    (cases_Bool (begins_exponent text))

tail_parts : (text : List ℕ) → Tail text (past_exponent (past_fraction text))
tail_parts text = tail_more text (past_fraction text) _ (tail_fraction text) (tail_exponent (past_fraction text))

tail_based : (base : ℕ) (text rest : List ℕ) → past_based base text ≡ Some rest → Tail text rest
tail_based base text rest e =
    ⊎_elim
    (λ h. let same : past (is_digit_of_or_line base) text
    ≡ rest = cc in subst (λ r. Tail text r) same (tail_past (is_digit_of_or_line base) text))
    (λ h. cc)
    (chosen (begins (is_digit_of base) (past is_underscore text)
    && not (begins is_digit (past (is_digit_of_or_line base) text))) _ _ _ e)

decimal_found : (c : ℕ) (cs : List ℕ) → is_digit c ≡ true → Tail cs (past_decimal (c ∷ cs))
decimal_found c cs h = rw h
    (tail_more cs (past is_digit_or_line cs) _ (tail_past is_digit_or_line cs) (tail_parts (past is_digit_or_line cs)))

-- a number, without its first digit
pub number_found : (c : ℕ) (cs rest : List ℕ) → is_digit c ≡ true → past_number (c ∷ cs) ≡ Some rest → Tail cs rest
unfolding past_number
number_found c [] rest h e = let same : past_decimal (c ∷ []) ≡ rest =
    cc in subst (λ r. Tail [] r) same (decimal_found c [] h)
number_found c (d ∷ cs) rest h e =
    ⊎_elim
    (λ k. let same : past_decimal (c ∷ d ∷ cs)
    ≡ rest = cc in subst (λ r. Tail (d ∷ cs) r) same (decimal_found c (d ∷ cs) h))
    (λ k. let more = tail_based (base_of (c ∷ d ∷ cs)) cs rest k.1 in record
    { front = d ∷ more.front; joined = ap (λ x. d ∷ x) more.joined })
    (chosen (base_of (c ∷ d ∷ cs) == 0) _ _ _ e)
