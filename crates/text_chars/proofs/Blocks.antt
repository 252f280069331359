-- Characters of ASCII that pass, many at once.
use Rattle.std.proofs.Common.{◌≡◌, ℕ, ◌+◌, ◌-◌, ◌≤◌, ◌<◌, arith, List, [], ◌∷◌, ◌++◌, refl, sym, ap, ◌∙◌, subst}
use Rattle.std.proofs.Common.{append_assoc, length, drop, take, get_or, inl, inr}
use Rattle.std.specs.Prelude.{Bool, true, false, ◌&&◌, nat_lt, encode_utf8_all}
use Rattle.std.specs.List.{list_all}
use Rattle.std.proofs.lemmas.List.{drop_more, length-drop, length-take-le}
use Rattle.std.proofs.lemmas.List.Folds.{list_all-append}
use Rattle.std.proofs.lemmas.Bool.{and_parts, ltb-true, cases_lt, lt-ltb, le-ltb}
use Rattle.std.proofs.lemmas.Str.{encode_ascii, encodes-chars}
use Rattle.text_chars.specs.Chars.{narrow, past}
use Rattle.text_chars.specs.Places.{rest_at, IsPlace, IsFrom, IsPassed}
use Rattle.text_chars.proofs.Steps.{ascii_step}
use Rattle.text_chars.proofs.Walks.{Walks}

-- a test that is right of ASCII
pub narrow_is : (p : ℕ → Bool) (b : ℕ) (r : Bool) → (b < 128 → r ≡ p b) → (nat_lt b 128 && r) ≡ narrow p b
narrow_is p b r h = elim (cases_lt b 128) [
  | inl l ↦ rw (lt-ltb b 128 l, h l) refl
  | inr g ↦ rw (le-ltb b 128 g) refl
]

pub none_passed : (p : ℕ → Bool) (bytes : List ℕ) (at : ℕ) → IsPlace bytes at → IsPassed p bytes at at
none_passed p bytes at place = record { passed = []; joined = refl; pass = refl; place = place; on = omega arith }

-- behind the first are others
pub passed_on : (p : ℕ → Bool) (bytes : List ℕ) (start at end : ℕ) → IsPassed p bytes start at
    → IsPassed p bytes at end → IsPassed p bytes start end
passed_on p bytes start at end a b = record {
  passed = a.passed ++ b.passed;
  joined = a.joined ∙ ap (λ r. a.passed ++ r) b.joined ∙ sym (append_assoc a.passed b.passed (rest_at bytes end));
  pass = list_all-append p a.passed b.passed ∙ rw (a.pass, b.pass) refl;
  place = b.place;
  on = omega (arith, a.on, b.on);
}

-- bytes of ASCII that pass are characters that do
pub run : (p : ℕ → Bool) (xs bytes : List ℕ) (at : ℕ) → IsPlace bytes at → at + length xs ≤ length bytes
    → take (length xs) (drop at bytes) ≡ xs → list_all (narrow p) xs ≡ true
    → IsPassed (narrow p) bytes at (at + length xs)
run p [] bytes at place l e q =
    let none : at ≡ at + length {A = ℕ} [] = omega arith in
    subst (IsPassed (narrow p) bytes at) none (none_passed (narrow p) bytes at place)
run p (x ∷ xs) bytes at place l e q =
    let c = get_or bytes at 0 in
    let more = drop_more bytes at 0 (omega arith) in
    let front : c ∷ take (length xs) (drop (at + 1) bytes) ≡ x ∷ xs = ap (take (length (x ∷ xs))) (sym more) ∙ e in
    let head : c ≡ x = cc in
    let tail : take (length xs) (drop (at + 1) bytes) ≡ xs = cc in
    let (here, others) = and_parts (narrow p x) (list_all (narrow p) xs) q in
    let passes : narrow p c ≡ true = ap (narrow p) head ∙ here in
    let small = ltb-true c 128 (and_parts (nat_lt c 128) (p c) passes).0 in
    let step = ascii_step bytes at place (omega arith) small in
    let one : IsPassed (narrow p) bytes at (at + 1) = record {
      passed = c ∷ [];
      joined = step.rest;
      pass = rw passes refl;
      place = step.behind.place;
      on = omega arith;
    } in
    let rest = run p xs bytes (at + 1) step.behind.place (omega arith) tail others in
    let all : at + 1 + length xs ≡ at + length (x ∷ xs) = omega arith in
    subst (IsPassed (narrow p) bytes at) all (passed_on (narrow p) bytes at (at + 1) (at + 1 + length xs) one rest)

-- the next sixteen bytes
pub block_on : (p : ℕ → Bool) (bytes text : List ℕ) (start at : ℕ) → bytes ≡ text
    → IsPassed (narrow p) text start at → 16 ≤ length bytes - at
    → list_all (narrow p) (take (at + 16 - at) (drop at bytes)) ≡ true → IsPassed (narrow p) text start (at + 16)
block_on p bytes text start at same r l q =
    let w = r.place.within in
    let long : at + 16 ≤ length text = let e = ap length same in omega arith in
    let k : at + 16 - at ≡ 16 = omega arith in
    let block = take 16 (drop at text) in
    let size : length block ≡ 16 = length-take-le 16 (drop at text) (omega (arith, length-drop at text)) in
    let pass : list_all (narrow p) block ≡ true =
    ap (λ m. list_all (narrow p) (take m (drop at text))) (sym k)
    ∙ ap (λ b. list_all (narrow p) (take (at + 16 - at) (drop at b))) (sym same) ∙ q in
    let is : take (length block) (drop at text) ≡ block = ap (λ m. take m (drop at text)) size in
    let more = run p block text at r.place (omega arith) is pass in
    passed_on (narrow p) text start at (at + 16) r (subst (λ m. IsPassed (narrow p) text at (at + m)) size more)

past_run : (p : ℕ → Bool) (xs rest : List ℕ) → list_all (narrow p) xs ≡ true → past p (xs ++ rest) ≡ past p rest
past_run p [] rest h = refl
past_run p (x ∷ xs) rest h =
    let (here, others) = and_parts (narrow p x) (list_all (narrow p) xs) h in
    rw (and_parts (nat_lt x 128) (p x) here).1 (past_run p xs rest others)

-- what stands behind the characters that pass is the same behind some of them
pub past_behind : (p : ℕ → Bool) (bytes : List ℕ) (start at : ℕ) → IsPassed (narrow p) bytes start at
    → past p (rest_at bytes at) ≡ past p (rest_at bytes start)
past_behind p bytes start at h = sym (ap (past p) h.joined ∙ past_run p h.passed (rest_at bytes at) h.pass)

pub passed_from : (p : ℕ → Bool) (bytes : List ℕ) (start at : ℕ) → IsPassed p bytes start at → IsFrom bytes start at
passed_from p bytes start at h = record { place = h.place; on = h.on }

-- where a byte stands that is no character of ASCII that passes, no such character stands
stopped : (p : ℕ → Bool) (cs bytes : List ℕ) (b : ℕ) → encode_utf8_all cs ≡ b ∷ bytes → narrow p b ≡ false
    → past (narrow p) cs ≡ cs
stopped p [] bytes b e h = refl
stopped p (c ∷ cs) bytes b e h = elim (cases_lt c 128) [
  | inl l ↦
      let first : c ∷ encode_utf8_all cs ≡ b ∷ bytes = ap (λ x. x ++ encode_utf8_all cs) (sym (encode_ascii c l)) ∙ e in
      let same : c ≡ b = cc in
      let fails : narrow p c ≡ false = ap (narrow p) same ∙ h in
      rw fails refl
  | inr g ↦ rw (le-ltb c 128 g) refl
]

pub past_stopped : (p : ℕ → Bool) (bytes : List ℕ) (at : ℕ) → IsPlace bytes at → at < length bytes
    → narrow p (get_or bytes at 0) ≡ false → past (narrow p) (rest_at bytes at) ≡ rest_at bytes at
past_stopped p bytes at place more h =
    stopped p (rest_at bytes at) (drop (at + 1) bytes) (get_or bytes at 0)
    (encodes-chars (drop at bytes) place.cut ∙ drop_more bytes at 0 more) h

-- the next character of ASCII that passes
pub narrow_on : (p : ℕ → Bool) (bytes text : List ℕ) (start at : ℕ) → bytes ≡ text
    → Walks (past (narrow p)) text start at → at < length bytes → narrow p (get_or bytes at 0) ≡ true
    → Walks (past (narrow p)) text start (at + 1)
narrow_on p bytes text start at same w more h =
    let long : at < length text = let l = ap length same in omega arith in
    let pass : narrow p (get_or text at 0) ≡ true = ap (λ b. narrow p (get_or b at 0)) (sym same) ∙ h in
    let c = get_or text at 0 in
    let small = ltb-true c 128 (and_parts (nat_lt c 128) (p c) pass).0 in
    let step = ascii_step text at w.place long small in
    record {
      same = sym (ap (past (narrow p)) step.rest ∙ rw pass refl) ∙ w.same;
      place = step.behind.place;
      on = omega (arith, w.on);
    }
