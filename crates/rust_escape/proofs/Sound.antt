-- What is found at the front of a text is a unit.
use Rattle.std.proofs.Common.{◌≡◌, ℕ, ◌+◌, ◌*◌, ◌≤◌, ◌<◌, arith, List, [], ◌∷◌, ◌++◌, refl, sym, ap, ◌∙◌, subst}
use Rattle.std.proofs.Common.{inl, inr, ⊎_elim, append_assoc, length, zero-add}
use Rattle.std.specs.Prelude.{Bool, true, false, cond, ◌⊎◌, ◌&&◌, ◌==◌, Option, Some, None, not, nat_lt}
use Rattle.std.proofs.lemmas.Bool.{and_parts, and_from, or_left, or_right, cases_Bool, eqb-true, ltb-true}
use Rattle.std.proofs.lemmas.Bool.{false≢true, not-true}
use lib.Utf8.{scalar}
use Rattle.rust_escape.specs.Chars.{begins, passes, is_blank, is_hex_digit, hex_value, is_underscore, digits_of}
use Rattle.rust_escape.specs.Chars.{number_from, hex_number, past}
use Rattle.rust_escape.specs.Escape.{IsEscape, simple, byte, unicode, simple_value, may_hold, may_hold_byte}
use Rattle.rust_escape.specs.Escape.{is_hex_part}
use Rattle.rust_escape.specs.Mode.{Mode, in_double_quotes, is_raw, holds_bytes}
use Rattle.rust_escape.specs.Unit.{Strict, IsUnit, plain, escape, skip, is_plain}
use Rattle.rust_escape.specs.Value.{Value, Character, byte_value}
use Rattle.rust_escape.specs.Scan as scan
use Rattle.rust_escape.specs.Scan.{Scanned, Malformed, Reads, named, numbered}
use Rattle.rust_escape.proofs.Steps.{brace_digit}

pub chosen : {X : Type 0} (b : Bool) (x y z : X) → cond b x y ≡ z → ((b ≡ true) × (x ≡ z)) ⊎ ((b ≡ false) × (y ≡ z))
chosen true x y z e = inl (refl, e)
chosen false x y z e = inr (refl, e)

-- what is found has passed the test
pub passed_test : (b : Bool) (v w : Option Value) (cs rest : List ℕ) → cond b (Reads v cs) Malformed ≡ Reads w rest
    → (b ≡ true) × (v ≡ w) × (cs ≡ rest)
passed_test true v w cs rest e = (refl, (cc), (cc))
passed_test false v w cs rest e = cc

-- an escape that is found
pub record FoundEscape (mode : Mode) (text rest : List ℕ) (found : Option Value) : Type 0 where
  pub chars : List ℕ
  pub value : Value
  pub joined : text ≡ chars ++ rest
  pub is : IsEscape mode chars value
  pub same : found ≡ Some value

record FoundDigits (mode : Mode) (count n : ℕ) (text rest : List ℕ) (found : Option Value) : Type 0 where
  inner : List ℕ
  after : List ℕ
  joined : text ≡ inner ++ 125 ∷ after
  passing : passes is_hex_part inner ≡ true
  few : count + length (digits_of inner) ≤ 6
  name : named mode (number_from n (digits_of inner)) after ≡ Reads found rest

more_line : (mode : Mode) (c : ℕ) (cs rest : List ℕ) (count n : ℕ) (v : Option Value) → (c == 95) ≡ true
    → FoundDigits mode count n cs rest v → FoundDigits mode count n (c ∷ cs) rest v
more_line mode c cs rest count n v y f =
    let same : digits_of (c ∷ f.inner) ≡ digits_of f.inner = rw y refl in
    record {
      inner = c ∷ f.inner;
      after = f.after;
      joined = ap (λ x. c ∷ x) f.joined;
      passing = and_from _ _ (or_left (is_underscore c) (is_hex_digit c) y) f.passing;
      few = subst (λ ds. count + length ds ≤ 6) (sym same) f.few;
      name = subst (λ ds. named mode (number_from n ds) f.after ≡ Reads v rest) (sym same) f.name;
    }

more_digit : (mode : Mode) (c : ℕ) (cs rest : List ℕ) (count n : ℕ) (v : Option Value) → (c == 95) ≡ false
    → is_hex_digit c ≡ true → FoundDigits mode (count + 1) (16 * n + hex_value c) cs rest v
    → FoundDigits mode count n (c ∷ cs) rest v
more_digit mode c cs rest count n v y hex f =
    let same : digits_of (c ∷ f.inner) ≡ c ∷ digits_of f.inner = rw y refl in
    let few : count + length (c ∷ digits_of f.inner) ≤ 6 = omega arith in
    record {
      inner = c ∷ f.inner;
      after = f.after;
      joined = ap (λ x. c ∷ x) f.joined;
      passing = and_from _ _ (or_right (is_underscore c) (is_hex_digit c) hex) f.passing;
      few = subst (λ ds. count + length ds ≤ 6) (sym same) few;
      name = subst (λ ds. named mode (number_from n ds) f.after ≡ Reads v rest) (sym same) f.name;
    }

digits_found : (mode : Mode) (text : List ℕ) (count n : ℕ) (rest : List ℕ) (v : Option Value) → count ≤ 6
    → scan.digits mode count n text ≡ Reads v rest → FoundDigits mode count n text rest v
unfolding scan.digits
digits_found mode [] count n rest v l e = cc
digits_found mode (c ∷ cs) count n rest v l e =
    ⊎_elim
    (λ h. record {
      inner = [];
      after = cs;
      joined = ap (λ x. x ∷ cs) (eqb-true c 125 h.0);
      passing = refl;
      few = omega arith;
      name = h.1;
    })
    (λ h. ⊎_elim
    (λ k. more_line mode c cs rest count n v k.0 (digits_found mode cs count n rest v l k.1))
    (λ k. ⊎_elim
    (λ m. let (hex, more) = and_parts (is_hex_digit c) (nat_lt count 6) m.0 in
    let lt : count < 6 = ltb-true count 6 more in
    more_digit mode c cs rest count n v k.0 hex
    (digits_found mode cs (count + 1) (16 * n + hex_value c) rest v (omega arith) m.1))
    (λ m. cc)
    (chosen (is_hex_digit c && nat_lt count 6) _ _ _ k.1))
    (chosen (c == 95) _ _ _ h.1))
    (chosen (c == 125) _ _ _ e)

begins_same : (c d : ℕ) (cs inner after : List ℕ) → is_hex_digit c ≡ true → is_hex_digit d ≡ false → c ∷ cs
    ≡ inner ++ d ∷ after → begins is_hex_digit inner ≡ true
begins_same c d cs [] after h k e = let same : c ≡ d =
    cc in absurd (false≢true (sym k ∙ subst (λ x. is_hex_digit x ≡ true) same h))
begins_same c d cs (a ∷ inner) after h k e = let same : c ≡ a = cc in subst (λ x. is_hex_digit x ≡ true) same h

braced : (b : ℕ) (text inner after rest : List ℕ) → b ≡ 123 → text ≡ inner ++ 125 ∷ after → after ≡ rest
    → 117 ∷ b ∷ text ≡ (117 ∷ 123 ∷ inner ++ 125 ∷ []) ++ rest
braced b text inner after rest e j a = rw (append_assoc inner (125 ∷ []) rest, e, j, a) refl

unicode_found : (mode : Mode) (text rest : List ℕ) (v : Option Value) → scan.unicode_escape mode text ≡ Reads v rest
    → FoundEscape mode (117 ∷ text) rest v
unfolding scan.unicode_escape
unicode_found mode [] rest v e = cc
unicode_found mode (b ∷ []) rest v e = cc
unicode_found mode (b ∷ c ∷ cs) rest v e =
    ⊎_elim
    (λ h. let (brace, hex) = and_parts (b == 123) (is_hex_digit c) h.0 in
    let f = digits_found mode (c ∷ cs) 0 0 rest v (omega arith) h.1 in
    let n = hex_number (digits_of f.inner) in
    let (test, value, after) =
    passed_test (not (holds_bytes mode) && (scalar n && may_hold mode n)) _ v f.after rest f.name in
    let (no_bytes, more) = and_parts (not (holds_bytes mode)) (scalar n && may_hold mode n) test in
    let (is_scalar, held) = and_parts (scalar n) (may_hold mode n) more in
    record {
      chars = 117 ∷ 123 ∷ f.inner ++ 125 ∷ [];
      value = Character n;
      joined = braced b (c ∷ cs) f.inner f.after rest (eqb-true b 123 brace) f.joined after;
      is = unicode f.inner (not-true (holds_bytes mode) no_bytes)
          (begins_same c 125 cs f.inner f.after hex brace_digit f.joined) f.passing
          (let p = f.few in omega (arith, zero-add (length (digits_of f.inner)))) is_scalar held;
      same = sym value;
    })
    (λ h. cc)
    (chosen (b == 123 && is_hex_digit c) _ _ _ e)

byte_found : (mode : Mode) (text rest : List ℕ) (v : Option Value) → scan.byte_escape mode text ≡ Reads v rest
    → FoundEscape mode (120 ∷ text) rest v
unfolding scan.byte_escape
byte_found mode [] rest v e = cc
byte_found mode (c ∷ []) rest v e = cc
byte_found mode (c ∷ d ∷ cs) rest v e =
    ⊎_elim
    (λ h. let (high, low) = and_parts (is_hex_digit c) (is_hex_digit d) h.0 in
    let n = 16 * hex_value c + hex_value d in
    let (test, value, after) = passed_test (may_hold_byte mode n) _ v cs rest h.1 in
    record {
      chars = 120 ∷ c ∷ d ∷ [];
      value = byte_value n;
      joined = ap (λ x. 120 ∷ c ∷ d ∷ x) after;
      is = byte high low test;
      same = sym value;
    })
    (λ h. cc)
    (chosen (is_hex_digit c && is_hex_digit d) _ _ _ e)

simple_found : (mode : Mode) (c : ℕ) (o : Option ℕ) (cs rest : List ℕ) (v : Option Value) → simple_value c ≡ o
    → scan.simple mode o cs ≡ Reads v rest → FoundEscape mode (c ∷ cs) rest v
simple_found mode c None cs rest v o e = cc
simple_found mode c (Some n) cs rest v o e =
    let (test, value, after) = passed_test (may_hold mode n) _ v cs rest e in
    record { chars = c ∷ []; value = Character n; joined = ap (λ x. c ∷ x) after; is = simple o test; same = sym value }

pub escape_found : (mode : Mode) (text rest : List ℕ) (v : Option Value) → scan.escape mode text ≡ Reads v rest
    → FoundEscape mode text rest v
unfolding scan.escape
escape_found mode [] rest v e = cc
escape_found mode (c ∷ cs) rest v e =
    ⊎_elim
    (λ h. rw (eqb-true c 120 h.0) (byte_found mode cs rest v h.1))
    (λ h. ⊎_elim
    (λ k. rw (eqb-true c 117 k.0) (unicode_found mode cs rest v k.1))
    (λ k. simple_found mode c (simple_value c) cs rest v refl k.1)
    (chosen (c == 117) _ _ _ h.1))
    (chosen (c == 120) _ _ _ e)

pub record FoundUnit (mode : Mode) (text rest : List ℕ) (value : Option Value) : Type 0 where
  pub chars : List ℕ
  pub joined : text ≡ chars ++ rest
  pub is : IsUnit Strict mode chars rest value

pub record Passed (p : ℕ → Bool) (text : List ℕ) : Type 0 where
  pub front : List ℕ
  pub joined : text ≡ front ++ past p text
  pub pass : passes p front ≡ true
  pub stops : begins p (past p text) ≡ false

pub passed : (p : ℕ → Bool) (text : List ℕ) → Passed p text
passed p [] = record { front = []; joined = refl; pass = refl; stops = refl }
passed p (c ∷ cs) =
    let more = passed p cs in
    ⊎_elim
    (λ y. record {
      front = c ∷ more.front;
      joined = rw y (ap (λ r. c ∷ r) more.joined);
      pass = and_from _ _ y more.pass;
      stops = rw y more.stops;
    })
    (λ n. record { front = []; joined = rw n refl; pass = refl; stops = rw n n })
    (cases_Bool (p c))

slash_found : (mode : Mode) (text rest : List ℕ) (v : Option Value) → is_raw mode ≡ false → scan.slash mode text
    ≡ Reads v rest → FoundUnit mode (92 ∷ text) rest v
unfolding scan.slash
slash_found mode [] rest v r e = cc
slash_found mode (c ∷ cs) rest v r e =
    ⊎_elim
    (λ h. let (feed, quoted) = and_parts (c == 10) (in_double_quotes mode) h.0 in
    let p = passed is_blank cs in
    let after : past is_blank cs ≡ rest = cc in
    let nothing : None ≡ v = cc in
    let blank : is_blank c ≡ true = rw (eqb-true c 10 feed) refl in
    subst (λ v. FoundUnit mode (92 ∷ c ∷ cs) rest v) nothing
    (record {
      chars = 92 ∷ c ∷ p.front;
      joined = rw (← after) (ap (λ x. 92 ∷ c ∷ x) p.joined);
      is = skip r quoted (and_from _ _ feed (and_from _ _ blank p.pass)) (rw (← after) p.stops);
    }))
    (λ h. let f = escape_found mode (c ∷ cs) rest v h.1 in
    subst (λ v. FoundUnit mode (92 ∷ c ∷ cs) rest v) (sym f.same)
    (record { chars = 92 ∷ f.chars; joined = ap (λ x. 92 ∷ x) f.joined; is = escape r f.is }))
    (chosen (c == 10 && in_double_quotes mode) _ _ _ e)

pub unit_found : (mode : Mode) (text rest : List ℕ) (v : Option Value) → scan.scan mode text ≡ Reads v rest
    → FoundUnit mode text rest v
unfolding scan.scan
unit_found mode [] rest v e = cc
unit_found mode (c ∷ cs) rest v e =
    ⊎_elim
    (λ h. let (slash, cooked) = and_parts (c == 92) (not (is_raw mode)) h.0 in
    rw (eqb-true c 92 slash) (slash_found mode cs rest v (not-true (is_raw mode) cooked) h.1))
    (λ h. let (test, value, after) = passed_test (is_plain Strict mode c) _ v cs rest h.1 in
    subst (λ v. FoundUnit mode (c ∷ cs) rest v) value
    (record { chars = c ∷ []; joined = ap (λ x. c ∷ x) after; is = plain test }))
    (chosen (c == 92 && not (is_raw mode)) _ _ _ e)
