-- A number before a text is one before a quieter text.
use Rattle.std.proofs.Common.{◌≡◌, ℕ, arith, List, [], ◌∷◌, ◌++◌, length, length-append, append_assoc, drop, refl}
use Rattle.std.proofs.Common.{sym, ap, ◌∙◌, ⊎_elim}
use Rattle.std.specs.Prelude.{Bool, true, false, not, ◌&&◌, ◌==◌, nat_lt, if◌then◌else◌, Some}
use Rattle.std.proofs.lemmas.Bool.{and_parts, and_from, cases_Bool, eqb-true, or_parts, or_right, not-true, not-false}
use Rattle.std.proofs.lemmas.List.{append_cancel_right}
use Rattle.rust_lex.specs.Chars.{is_digit, begins, is_underscore, past}
use Rattle.rust_lex.specs.declared.piece.LiteralKind.{LiteralKind}
use Rattle.rust_lex.specs.Number.{is_digit_or_line, is_digit_of, is_digit_of_or_line, is_dot_or_first, is_sign}
use Rattle.rust_lex.specs.Number.{is_exponent_letter, begins_fraction, past_fraction, past_sign, past_lead}
use Rattle.rust_lex.specs.Number.{begins_exponent, past_exponent, past_decimal, past_based, base_by, base_of}
use Rattle.rust_lex.specs.Number.{past_number, number_kind, decimal_kind, IsNumber}
use Rattle.rust_lex.proofs.Ends.{passed, Tail}
use Rattle.rust_lex.proofs.Taken.{chosen}
use Rattle.rust_lex.proofs.Quieter.{Shuns, Quieter, shuns_digit, shuns_digit_or_line, shuns_dot_or_first}
use Rattle.rust_lex.proofs.Quieter.{shuns_sign, shuns_underscore}

-- a text is no shorter part of itself
longer : (c : ℕ) (front rest : List ℕ) → c ∷ (front ++ rest) ≡ rest → ⊥
longer c front rest e = let l = ap length e in let m = length-append front rest in omega arith

longer_tail : (c : ℕ) (text rest : List ℕ) → Tail text (c ∷ rest) → text ≡ rest → ⊥
longer_tail c text rest t e = let l = ap length (sym e ∙ t.joined) in let m =
    length-append t.front (c ∷ rest) in omega arith

tail_same : (text : List ℕ) → Tail text text
tail_same text = record { front = []; joined = refl }

tail_more : (text r s : List ℕ) → Tail text r → Tail r s → Tail text s
tail_more text r s a b = record {
  front = a.front ++ b.front;
  joined = a.joined ∙ ap (λ x. a.front ++ x) b.joined ∙ sym (append_assoc a.front b.front s);
}

tail_one : (c : ℕ) (cs : List ℕ) → Tail (c ∷ cs) cs
tail_one c cs = record { front = c ∷ []; joined = refl }

tail_past : (p : ℕ → Bool) (text : List ℕ) → Tail text (past p text)
tail_past p text = let k = passed p text in record { front = k.front; joined = k.joined }

tail_drop : (text : List ℕ) → Tail text (drop 1 text)
tail_drop [] = record { front = []; joined = refl }
tail_drop (c ∷ cs) = tail_one c cs

tail_sign : (text : List ℕ) → Tail text (past_sign text)
tail_sign text =
    ⊎_elim (λ h. rw h (tail_drop text)) (λ h. rw h (tail_same text)) (cases_Bool (begins is_sign text))

tail_lead : (text : List ℕ) → Tail text (past_lead text)
tail_lead text =
    tail_more text (past is_underscore text) _ (tail_past is_underscore text)
    (tail_more (past is_underscore text) (past_sign (past is_underscore text)) _ (tail_sign (past is_underscore text))
    (tail_past is_underscore _))

tail_exponent : (text : List ℕ) → Tail text (past_exponent text)
tail_exponent text =
    ⊎_elim
    (λ h. rw h (tail_more text (drop 1 text) _ (tail_drop text)
    (tail_more (drop 1 text) (past_lead (drop 1 text)) _ (tail_lead (drop 1 text)) (tail_past is_digit_or_line _))))
    (λ h. rw h (tail_same text))
    (cases_Bool (begins_exponent text))

tail_fraction : (text : List ℕ) → Tail text (past_fraction text)
tail_fraction text =
    ⊎_elim
    (λ h. rw h (tail_more text (drop 1 text) _ (tail_drop text) (tail_past is_digit_or_line (drop 1 text))))
    (λ h. rw h (tail_same text))
    (cases_Bool (begins_fraction text))

-- what goes on to a text before it stops at it
past_stops : (p : ℕ → Bool) (x : List ℕ) → past p x ≡ x → begins p x ≡ false
past_stops p [] e = refl
past_stops p (c ∷ x) e =
    ⊎_elim
    (λ y. let f : past p x ≡ c ∷ x = rw y at e in absurd
    (longer_tail c (past p x) x (record { front = []; joined = f }) (absurd (longer_past p c x f))))
    (λ n. n)
    (cases_Bool (p c))
  where
    longer_past : (p : ℕ → Bool) (c : ℕ) (x : List ℕ) → past p x ≡ c ∷ x → ⊥
    longer_past p c x f = let k =
        passed p x in longer c k.front (c ∷ x) (ap (λ r. c ∷ (k.front ++ r)) (sym f) ∙ ap (λ r. c ∷ r) (sym k.joined))

stops_past : (p : ℕ → Bool) (y : List ℕ) → begins p y ≡ false → past p y ≡ y
stops_past p [] h = refl
stops_past p (c ∷ y) h = rw h refl

-- what ends within the front of a text, or at its rest, ends there before the quieter rest too
past_same : (p : ℕ → Bool) (cs left x y : List ℕ) → Shuns p → Quieter x y → past p (cs ++ x) ≡ left ++ x
    → past p (cs ++ y) ≡ left ++ y
past_same p [] left x y s q e =
    let none = nothing_left left x (past p x) (tail_past p x) e in
    let same : past p x ≡ x = rw none at e in
    rw none (stops_past p y (q.one p s (past_stops p x same)))
  where
    nothing_left : (left x z : List ℕ) → Tail x z → z ≡ left ++ x → left ≡ []
    nothing_left [] x z t e = refl
    nothing_left (c ∷ left) x z t e =
        let l = ap length t.joined in let m = length-append t.front z in let n = ap length e in let o =
        length-append left x in
        absurd (omega arith)
past_same p (c ∷ cs) left x y s q e =
    ⊎_elim
    (λ h. let f : past p (cs ++ x) ≡ left ++ x = rw h at e in rw h (past_same p cs left x y s q f))
    (λ h.
    let f : c ∷ (cs ++ x) ≡ left ++ x = rw h at e in
    let same : c ∷ cs ≡ left = append_cancel_right (c ∷ cs) left x f in
    rw h (ap (λ l. l ++ y) same))
    (cases_Bool (p c))

sign_same : (cs left x y : List ℕ) → Quieter x y → past_sign (cs ++ x) ≡ left ++ x → past_sign (cs ++ y) ≡ left ++ y
sign_same [] left x y q e =
    ⊎_elim
    (λ h. absurd (no_drop x left h (rw h at e)))
    (λ h. let f : x ≡ left ++ x = rw h at e in
    let none : [] ≡ left = append_cancel_right [] left x f in
    rw (sym none) (rw (q.one is_sign shuns_sign h) refl))
    (cases_Bool (begins is_sign x))
  where
    no_drop : (x left : List ℕ) → begins is_sign x ≡ true → drop 1 x ≡ left ++ x → ⊥
    no_drop [] left h e = cc
    no_drop (c ∷ x) left h e = let l = ap length e in let m = length-append left (c ∷ x) in omega arith
sign_same (c ∷ cs) left x y q e =
    ⊎_elim
    (λ h. let f : cs ++ x ≡ left ++ x = rw h at e in rw h (ap (λ l. l ++ y) (append_cancel_right cs left x f)))
    (λ h. let f : c ∷ (cs ++ x)
    ≡ left ++ x = rw h at e in rw h (ap (λ l. l ++ y) (append_cancel_right (c ∷ cs) left x f)))
    (cases_Bool (is_sign c))

-- each step's text in turn
lead_same : (cs left x y : List ℕ) → Quieter x y → past_lead (cs ++ x) ≡ left ++ x → past_lead (cs ++ y) ≡ left ++ y
lead_same cs left x y q e =
    let one = past is_underscore (cs ++ x) in
    let three = tail_past is_underscore (past_sign one) in
    let two = tail_sign one in
    let second : past_sign one ≡ (three.front ++ left) ++ x =
    three.joined ∙ ap (λ r. three.front ++ r) e ∙ sym (append_assoc three.front left x) in
    let first : one ≡ (two.front ++ (three.front ++ left)) ++ x =
    two.joined ∙ ap (λ r. two.front ++ r) second ∙ sym (append_assoc two.front (three.front ++ left) x) in
    let a = past_same is_underscore cs (two.front ++ (three.front ++ left)) x y shuns_underscore q first in
    let b = sign_same (two.front ++ (three.front ++ left)) (three.front ++ left) x y q
    (ap past_sign (sym first) ∙ second) in
    let c = past_same is_underscore (three.front ++ left) left x y shuns_underscore q
    (ap (past is_underscore) (sym second) ∙ e) in
    ap (λ r. past is_underscore (past_sign r)) a ∙ ap (past is_underscore) b ∙ c

-- an exponent
record ExponentSame (cs x y : List ℕ) : Type 0 where
  begins_same : begins_exponent (cs ++ x) ≡ begins_exponent (cs ++ y)
  past_is : past_exponent (cs ++ y) ≡ y

no_exponent : (x : List ℕ) → past_exponent x ≡ x → begins_exponent x ≡ false
no_exponent [] e = refl
no_exponent (c ∷ x) e =
    ⊎_elim
    (λ h. let f : past is_digit_or_line (past_lead x) ≡ c ∷ x = rw h at e in
    let t = tail_more x (past_lead x) (past is_digit_or_line (past_lead x)) (tail_lead x)
    (tail_past is_digit_or_line (past_lead x)) in
    absurd (longer c t.front (c ∷ x) (ap (λ r. c ∷ (t.front ++ r)) (sym f) ∙ ap (λ r. c ∷ r) (sym t.joined))))
    (λ h. h)
    (cases_Bool (begins_exponent (c ∷ x)))

digits_left : (left x : List ℕ) → past is_digit_or_line (left ++ x) ≡ x → begins is_digit (left ++ x) ≡ true
    → (d : ℕ) × (more : List ℕ) × (left ≡ d ∷ more) × (is_digit d ≡ true)
digits_left [] [] e h = cc
digits_left [] (c ∷ x) e h = let n = past_stops is_digit_or_line (c ∷ x) e in let (m, _) =
    or_parts (is_digit c) (c == 95) n in cc
digits_left (d ∷ more) x e h = (d, more, refl, h)

exponent_same : (cs x y : List ℕ) → Quieter x y → past_exponent (cs ++ x) ≡ x → ExponentSame cs x y
exponent_same [] x y q e =
    let n = no_exponent x e in
    let m = q.exponent n in
    record { begins_same = n ∙ sym m; past_is = rw m refl }
exponent_same (c ∷ cs) x y q e =
    ⊎_elim
    (λ h. long h (rw h at e))
    (λ h. absurd (longer c cs x (rw h at e)))
    (cases_Bool (begins_exponent (c ∷ (cs ++ x))))
  where
    long : begins_exponent (c ∷ (cs ++ x)) ≡ true → past is_digit_or_line (past_lead (cs ++ x)) ≡ x
        → ExponentSame (c ∷ cs) x y
    long h f =
        let (letter, number) = and_parts (is_exponent_letter c) (begins is_digit (past_lead (cs ++ x))) h in
        let t = tail_past is_digit_or_line (past_lead (cs ++ x)) in
        let lead : past_lead (cs ++ x) ≡ t.front ++ x = t.joined ∙ ap (λ r. t.front ++ r) f in
        let (d, more, is, digit) =
        digits_left t.front x (ap (past is_digit_or_line) (sym lead) ∙ f) (ap (begins is_digit) (sym lead) ∙ number)
        in
        let other = lead_same cs t.front x y q lead in
        let numbers : begins is_digit (past_lead (cs ++ y)) ≡ true =
        ap (begins is_digit) other ∙ ap (λ l. begins is_digit (l ++ y)) is ∙ digit in
        let ends : past is_digit_or_line (t.front ++ y) ≡ y =
        past_same is_digit_or_line t.front [] x y shuns_digit_or_line q (ap (past is_digit_or_line) (sym lead) ∙ f)
        in
        let begun : begins_exponent (c ∷ (cs ++ y)) ≡ true =
        and_from (is_exponent_letter c) (begins is_digit (past_lead (cs ++ y))) letter numbers in
        record { begins_same = h ∙ sym begun; past_is = rw begun (ap (past is_digit_or_line) other ∙ ends) }

-- a fraction and an exponent behind the digits
record PartsSame (cs x y : List ℕ) : Type 0 where
  fraction_same : begins_fraction (cs ++ x) ≡ begins_fraction (cs ++ y)
  exponent_same : begins_exponent (cs ++ x) ≡ begins_exponent (cs ++ y)
  past_is : past_exponent (past_fraction (cs ++ y)) ≡ y

no_fraction : (x : List ℕ) → past_exponent (past_fraction x) ≡ x → begins_fraction x ≡ false
no_fraction [] e = refl
no_fraction (c ∷ x) e =
    ⊎_elim
    (λ h. let f : past_exponent (past is_digit_or_line x) ≡ c ∷ x = rw h at e in
    let t = tail_more x (past is_digit_or_line x) (past_exponent (past is_digit_or_line x))
    (tail_past is_digit_or_line x) (tail_exponent (past is_digit_or_line x)) in
    absurd (longer c t.front (c ∷ x) (ap (λ r. c ∷ (t.front ++ r)) (sym f) ∙ ap (λ r. c ∷ r) (sym t.joined))))
    (λ h. h)
    (cases_Bool (begins_fraction (c ∷ x)))

dot_exponent : (c : ℕ) (cs : List ℕ) → (c == 46) ≡ true → begins_exponent (c ∷ cs) ≡ false
dot_exponent c cs h = rw (eqb-true c 46 h) refl

behind_dot : (cs x y : List ℕ) → Quieter x y → begins is_dot_or_first (cs ++ x) ≡ false
    → begins is_dot_or_first (cs ++ y) ≡ false
behind_dot [] x y q h = q.one is_dot_or_first shuns_dot_or_first h
behind_dot (c ∷ cs) x y q h = h

parts_same : (cs x y : List ℕ) → Quieter x y → past_exponent (past_fraction (cs ++ x)) ≡ x → PartsSame cs x y
parts_same [] x y q e =
    let n = no_fraction x e in
    let m = q.fraction n in
    let f : past_exponent x ≡ x = rw n at e in
    let g = exponent_same [] x y q f in
    record { fraction_same = n ∙ sym m; exponent_same = g.begins_same; past_is = rw m g.past_is }
parts_same (c ∷ cs) x y q e =
    ⊎_elim
    (λ h. ⊎_elim (λ f. dotted h f (rw f at e)) (λ f. absurd (undotted h (rw f at e)))
    (cases_Bool (begins_fraction (c ∷ (cs ++ x)))))
    (λ h. plain h (rw h at e))
    (cases_Bool (c == 46))
  where
    undotted : (c == 46) ≡ true → past_exponent (c ∷ (cs ++ x)) ≡ x → ⊥
    undotted h e = let n = dot_exponent c (cs ++ x) h in longer c cs x (rw n at e)

    dotted : (c == 46) ≡ true → begins_fraction (c ∷ (cs ++ x)) ≡ true → past_exponent (past is_digit_or_line (cs ++ x))
        ≡ x → PartsSame (c ∷ cs) x y
    dotted h f e =
        let (_, n) = and_parts (c == 46) (not (begins is_dot_or_first (cs ++ x))) f in
        let m = behind_dot cs x y q (not-true _ n) in
        let there : begins_fraction (c ∷ (cs ++ y)) ≡ true = rw (h, m) refl in
        let t = tail_exponent (past is_digit_or_line (cs ++ x)) in
        let digits : past is_digit_or_line (cs ++ x) ≡ t.front ++ x = t.joined ∙ ap (λ r. t.front ++ r) e in
        let other = past_same is_digit_or_line cs t.front x y shuns_digit_or_line q digits in
        let exponent = exponent_same t.front x y q (ap past_exponent (sym digits) ∙ e) in
        record {
          fraction_same = f ∙ sym there;
          exponent_same = dot_exponent c (cs ++ x) h ∙ sym (dot_exponent c (cs ++ y) h);
          past_is = rw there (ap past_exponent other ∙ exponent.past_is);
        }

    plain : (c == 46) ≡ false → past_exponent (c ∷ (cs ++ x)) ≡ x → PartsSame (c ∷ cs) x y
    plain h e =
        let exponent = exponent_same (c ∷ cs) x y q e in
        record { fraction_same = rw h refl; exponent_same = exponent.begins_same; past_is = rw h exponent.past_is }

-- a number without a prefix
record DecimalSame (cs x y : List ℕ) : Type 0 where
  kind_same : decimal_kind (cs ++ x) ≡ decimal_kind (cs ++ y)
  past_is : past_decimal (cs ++ y) ≡ y

decimal_same : (cs x y : List ℕ) → Quieter x y → past_decimal (cs ++ x) ≡ x → DecimalSame cs x y
decimal_same cs x y q e =
    let z = past is_digit_or_line (cs ++ x) in
    let t = tail_more z (past_fraction z) (past_decimal (cs ++ x)) (tail_fraction z) (tail_exponent (past_fraction z))
    in
    let digits : z ≡ t.front ++ x = t.joined ∙ ap (λ r. t.front ++ r) e in
    let other = past_same is_digit_or_line cs t.front x y shuns_digit_or_line q digits in
    let parts = parts_same t.front x y q (ap (λ r. past_exponent (past_fraction r)) (sym digits) ∙ e) in
    let fraction : begins_fraction z ≡ begins_fraction (past is_digit_or_line (cs ++ y)) =
    ap begins_fraction digits ∙ parts.fraction_same ∙ ap begins_fraction (sym other) in
    let exponent : begins_exponent z ≡ begins_exponent (past is_digit_or_line (cs ++ y)) =
    ap begins_exponent digits ∙ parts.exponent_same ∙ ap begins_exponent (sym other) in
    record {
      kind_same = rw (fraction, exponent) refl;
      past_is = ap (λ r. past_exponent (past_fraction r)) other ∙ parts.past_is;
    }

-- an integer with a prefix
shuns_base : (base : ℕ) → nat_lt 36 base ≡ false → Shuns (is_digit_of_or_line base)
shuns_base base h = record { space = rw h refl; round = rw h refl; square = rw h refl }

base_cases : (a b c d : Bool) → nat_lt 36 (if a then (if b then 16 else (if c then 8 else (if d then 2 else 0))) else 0)
    ≡ false
base_cases false b c d = refl
base_cases true true c d = refl
base_cases true false true d = refl
base_cases true false false true = refl
base_cases true false false false = refl

pub base_small : (c d : ℕ) → nat_lt 36 (base_by c d) ≡ false
base_small c d = base_cases (c == 48) (d == 120) (d == 111) (d == 98)

based_begins : (base : ℕ) (cs x y : List ℕ) → past (is_digit_of_or_line base) (cs ++ x) ≡ x
    → begins (is_digit_of base) (past is_underscore (cs ++ x)) ≡ true
    → begins (is_digit_of base) (past is_underscore (cs ++ y)) ≡ true
based_begins base [] [] y e h = cc
based_begins base [] (c ∷ x) y e h =
    let (n, m) = or_parts (is_digit_of base c) (c == 95) (past_stops (is_digit_of_or_line base) (c ∷ x) e) in
    let k : is_digit_of base c ≡ true = rw m at h in
    cc
based_begins base (c ∷ cs) x y e h =
    ⊎_elim
    (λ l. rw l (based_begins base cs x y (rw (or_right (is_digit_of base c) (c == 95) l) at e) (rw l at h)))
    (λ l. rw l (rw l at h))
    (cases_Bool (c == 95))

some_same : (a b : List ℕ) → Some a ≡ Some b → a ≡ b
some_same a b e = cc

based_same : (base : ℕ) (cs x y : List ℕ) → nat_lt 36 base ≡ false → Quieter x y → past_based base (cs ++ x) ≡ Some x
    → past_based base (cs ++ y) ≡ Some y
based_same base cs x y s q e =
    ⊎_elim
    (λ h.
    let ends : past (is_digit_of_or_line base) (cs ++ x) ≡ x = some_same _ x h.1 in
    let (a, b) = and_parts (begins (is_digit_of base) (past is_underscore (cs ++ x)))
    (not (begins is_digit (past (is_digit_of_or_line base) (cs ++ x)))) h.0 in
    let other : past (is_digit_of_or_line base) (cs ++ y) ≡ y =
    past_same (is_digit_of_or_line base) cs [] x y (shuns_base base s) q ends in
    let some : begins is_digit (past (is_digit_of_or_line base) (cs ++ x)) ≡ false = not-true _ b in
    let none : begins is_digit x ≡ false = rw ends at some in
    rw (based_begins base cs x y ends a, other, q.one is_digit shuns_digit none) refl)
    (λ h. cc)
    (chosen (begins (is_digit_of base) (past is_underscore (cs ++ x))
    && not (begins is_digit (past (is_digit_of_or_line base) (cs ++ x)))) _ _ _ e)

-- which base
abbrev has_base : ℕ → ℕ → Bool
has_base c d = not (base_by c d == 0)

zero_base : (a : Bool) → not ((if a then 0 else 0) == 0) ≡ false
zero_base true = refl
zero_base false = refl

base_shuns : (c : ℕ) → Shuns (has_base c)
base_shuns c = record { space = zero_base (c == 48); round = zero_base (c == 48); square = zero_base (c == 48) }

no_base : (c : ℕ) (x : List ℕ) → begins (has_base c) x ≡ false → base_of (c ∷ x) ≡ 0
no_base c [] h = refl
no_base c (d ∷ x) h = eqb-true (base_by c d) 0 (not-false _ h)

a_base : (c : ℕ) (x : List ℕ) → past_number (c ∷ x) ≡ Some x → begins (has_base c) x ≡ false
unfolding past_number
a_base c [] e = refl
a_base c (d ∷ x) e =
    ⊎_elim
    (λ h. rw h refl)
    (λ h.
    let f : past_based (base_by c d) x ≡ Some (d ∷ x) = rw h at e in
    ⊎_elim
    (λ k. let t = tail_past (is_digit_of_or_line (base_by c d)) x in
    absurd (longer d t.front (d ∷ x)
    (ap (λ r. d ∷ (t.front ++ r)) (sym (some_same _ (d ∷ x) k.1)) ∙ ap (λ r. d ∷ r) (sym t.joined))))
    (λ k. cc)
    (chosen (begins (is_digit_of (base_by c d)) (past is_underscore x)
    && not (begins is_digit (past (is_digit_of_or_line (base_by c d)) x))) _ _ _ f))
    (cases_Bool (base_by c d == 0))

-- a number
record NumberSame (cs x y : List ℕ) : Type 0 where
  kind_same : number_kind (cs ++ x) ≡ number_kind (cs ++ y)
  past_is : past_number (cs ++ y) ≡ Some y

plain_number : (cs x y : List ℕ) → base_of (cs ++ x) ≡ 0 → base_of (cs ++ y) ≡ 0 → Quieter x y → past_number (cs ++ x)
    ≡ Some x → NumberSame cs x y
unfolding past_number number_kind
plain_number cs x y a b q e =
    let f : Some (past_decimal (cs ++ x)) ≡ Some x = rw a at e in
    let same = decimal_same cs x y q (some_same _ x f) in
    record { kind_same = rw (a, b) same.kind_same; past_is = rw b (ap (λ r. Some r) same.past_is) }

based_number : (c d : ℕ) (cs x y : List ℕ) → (base_by c d == 0) ≡ false → Quieter x y → past_number (c ∷ d ∷ (cs ++ x))
    ≡ Some x → NumberSame (c ∷ d ∷ cs) x y
unfolding past_number number_kind
based_number c d cs x y h q e =
    let f : past_based (base_by c d) (cs ++ x) ≡ Some x = rw h at e in
    record { kind_same = rw h refl; past_is = rw h (based_same (base_by c d) cs x y (base_small c d) q f) }

number_same : (cs x y : List ℕ) → begins is_digit cs ≡ true → Quieter x y → past_number (cs ++ x) ≡ Some x
    → NumberSame cs x y
number_same [] x y d q e = cc
number_same (c ∷ []) x y d q e =
    let n = a_base c x e in
    plain_number (c ∷ []) x y (no_base c x n) (no_base c y (q.one (has_base c) (base_shuns c) n)) q e
number_same (c ∷ f ∷ cs) x y d q e =
    ⊎_elim
    (λ h. let z = eqb-true (base_by c f) 0 h in plain_number (c ∷ f ∷ cs) x y z z q e)
    (λ h. based_number c f cs x y h q e)
    (cases_Bool (base_by c f == 0))

-- a number before a text is one before a quieter text
pub number_quieter : (kind : LiteralKind) (cs x y : List ℕ) → Quieter x y → IsNumber kind cs x → IsNumber kind cs y
number_quieter kind cs x y q h =
    let same = number_same cs x y h.0 q h.1 in
    (h.0, same.past_is, h.2 ∙ same.kind_same)
