-- What the lexer takes as an inside spells values, where it is raw or holds no carriage return.
use Rattle.std.proofs.Common.{◌≡◌, ℕ, arith, List, [], ◌∷◌, ◌++◌, refl, sym, ap, ◌∙◌, subst, ⊎_elim}
use Rattle.std.specs.Prelude.{Bool, true, false, ◌&&◌, ◌||◌, ◌==◌, Option}
use Rattle.std.specs.List.{list_any}
use Rattle.std.proofs.lemmas.Bool.{and_parts, and_from, or_parts, or_cases, cases_Bool, false≢true}
use Rattle.rust_escape.specs.Chars.{begins, passes, is_blank, is_line_feed}
use Rattle.rust_escape.specs.Mode.{in_double_quotes, is_raw}
use Rattle.rust_escape.specs.Unit.{Rule, Lexical, Strict, IsUnit, plain, escape, skip, return, barred, is_plain}
use Rattle.rust_escape.specs.Unit.{is_skipped, are_returns_paired, return_value, IsInside, empty, more}
use Rattle.rust_escape.specs.declared.mode.Mode.{Mode}
use Rattle.rust_escape.specs.declared.value.Value.{Value}
use Rattle.rust_leaf.specs.Value.{has_return, has_barred_return, value_rule}
use Rattle.rust_leaf.proofs.Quotes.{apart, heads}

pub any_parts : (p : ℕ → Bool) (xs ys : List ℕ) → list_any p (xs ++ ys) ≡ false
    → (list_any p xs ≡ false) × (list_any p ys ≡ false)
any_parts p [] ys h = (refl, h)
any_parts p (x ∷ xs) ys h =
    let (a, b) = or_parts (p x) (list_any p (xs ++ ys)) h in
    let (c, d) = any_parts p xs ys b in
    (rw a c, d)

no_return : (cs : List ℕ) → has_return cs ≡ false → begins (λ c. c == 13) cs ≡ false
no_return [] h = refl
no_return (c ∷ cs) h = (or_parts (c == 13) (has_return cs) h).0

skipped_strict : (rule : Rule) (cs : List ℕ) → has_return cs ≡ false → is_skipped rule cs ≡ true
    → is_skipped Strict cs ≡ true
skipped_strict Strict cs n h = h
skipped_strict Lexical cs n h =
    let (front, behind) = and_parts (begins is_line_feed cs || begins (λ c. c == 13) cs)
    (passes is_blank cs && are_returns_paired cs) h in
    let (blank, _) = and_parts (passes is_blank cs) (are_returns_paired cs) behind in
    and_from (begins is_line_feed cs) (passes is_blank cs)
    (⊎_elim (λ y. y) (λ y. absurd (false≢true (sym (no_return cs n) ∙ y)))
    (or_cases (begins is_line_feed cs) (begins (λ c. c == 13) cs) front))
    blank

same_barred : (rule : Rule) (mode : Mode) → in_double_quotes mode ≡ true → barred rule mode ≡ barred Strict mode
same_barred rule mode d = rw d refl

plain_strict : (rule : Rule) (mode : Mode) (c : ℕ) → in_double_quotes mode ≡ true → is_plain rule mode c ≡ true
    → is_plain Strict mode c ≡ true
plain_strict rule mode c d h = rw (same_barred rule mode d) at h

unit_strict : (rule : Rule) (mode : Mode) (cs rest : List ℕ) (v : Option Value) → in_double_quotes mode ≡ true
    → has_return cs ≡ false → IsUnit rule mode cs rest v → IsUnit Strict mode cs rest v
unit_strict rule mode _ rest _ d n (plain {c = c} h) = plain (plain_strict rule mode c d h)
unit_strict rule mode _ rest _ d n (escape r h) = escape r h
unit_strict rule mode _ rest _ d n (skip {cs = cs} r q h s) =
    skip r q (skipped_strict rule cs (or_parts (92 == 13) (has_return cs) n).1 h) s
unit_strict rule mode _ _ _ d n (return q) = cc

inside_strict : (mode : Mode) (inside rest : List ℕ) (values : List Value) → in_double_quotes mode ≡ true
    → has_return inside ≡ false → IsInside Lexical mode inside rest values → IsInside Strict mode inside rest values
inside_strict mode _ rest _ d n empty = empty
inside_strict mode _ rest _ d n (more {cs = cs} {inside = inside} {value = v} {values = vs} u i) =
    let (a, b) = any_parts (λ c. c == 13) cs inside n in
    more (unit_strict Lexical mode cs (inside ++ rest) v d a u) (inside_strict mode inside rest vs d b i)

-- no unit of an inside needs the closing quote
blank_end : (inside rest : List ℕ) → begins is_blank (inside ++ 34 ∷ rest) ≡ false
    → begins is_blank (inside ++ []) ≡ false
blank_end [] rest h = refl
blank_end (c ∷ cs) rest h = h

return_alone : (mode : Mode) (inside rest after : List ℕ) (v : Option Value) → in_double_quotes mode ≡ true
    → 10 ∷ after ≡ inside ++ 34 ∷ rest → return_value mode ≡ v → IsUnit Lexical mode (13 ∷ []) (inside ++ []) v
return_alone mode [] rest after v d e k = absurd (apart 10 34 after rest (omega arith) e)
return_alone mode (c ∷ cs) rest after v d e k =
    let (same, _) = heads 10 c after (cs ++ 34 ∷ rest) e in
    subst (λ x. IsUnit Lexical mode (13 ∷ []) (x ∷ (cs ++ [])) v) same
    (subst (λ w. IsUnit Lexical mode (13 ∷ []) (10 ∷ (cs ++ [])) w) k (return d))

unit_alone : (rule : Rule) (mode : Mode) (cs text inside rest : List ℕ) (v : Option Value) → rule ≡ Lexical
    → text ≡ inside ++ 34 ∷ rest → IsUnit rule mode cs text v → IsUnit Lexical mode cs (inside ++ []) v
unit_alone rule mode _ text inside rest _ r e (plain {c = c} h) = plain (rw r at h)
unit_alone rule mode _ text inside rest _ r e (escape n h) = escape n h
unit_alone rule mode _ text inside rest _ r e (skip {cs = cs} n q h s) =
    skip n q (rw r at h) (blank_end inside rest (ap (begins is_blank) (sym e) ∙ s))
unit_alone rule mode _ _ inside rest _ r e (return {rest = after} q) =
    return_alone mode inside rest after (return_value mode) q e refl

inside_alone : (mode : Mode) (inside text rest : List ℕ) (values : List Value) → text ≡ 34 ∷ rest
    → IsInside Lexical mode inside text values → IsInside Lexical mode inside [] values
inside_alone mode _ text rest _ e empty = empty
inside_alone mode _ text rest _ e (more {cs = cs} {inside = inside} {value = v} {values = vs} u i) =
    more (unit_alone Lexical mode cs (inside ++ text) inside rest v refl (ap (λ x. inside ++ x) e) u)
    (inside_alone mode inside text rest vs e i)

pub value_inside : (mode : Mode) (inside rest : List ℕ) (values : List Value) → in_double_quotes mode ≡ true
    → has_barred_return mode inside ≡ false → IsInside Lexical mode inside (34 ∷ rest) values
    → IsInside (value_rule mode) mode inside [] values
value_inside mode inside rest values d n i =
    let alone = inside_alone mode inside (34 ∷ rest) rest values refl i in
    ⊎_elim (λ y. rw y alone) (λ no. let none : has_return inside
    ≡ false = rw no at n in rw no (inside_strict mode inside [] values d none alone)) (cases_Bool (is_raw mode))
