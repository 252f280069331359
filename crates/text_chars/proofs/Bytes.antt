-- Characters that pass or aren't of ASCII, told by their bytes.
use Rattle.std.proofs.Common.{◌≡◌, ℕ, ◌+◌, ◌-◌, ◌≤◌, ◌<◌, arith, List, [], ◌∷◌, ◌++◌, refl, sym, ap, ◌∙◌, subst}
use Rattle.std.proofs.Common.{append_assoc, length, drop, take, get_or, inl, inr}
use Rattle.std.specs.Prelude.{Bool, true, false, encode_utf8, encode_utf8_all}
use Rattle.std.specs.List.{list_all}
use Rattle.std.specs.Str.{chars, IsUtf8, IsCharBoundary}
use Rattle.std.proofs.lemmas.List.{drop_more, length-drop, length-append, length-take-le, take-append-drop, drop-drop}
use Rattle.std.proofs.lemmas.List.{get_or-drop}
use Rattle.std.proofs.lemmas.List.Folds.{list_all-append}
use Rattle.std.proofs.lemmas.Bool.{and_parts, cases_lt, le-ltb}
use Rattle.std.proofs.lemmas.Str.{encode_ascii, encodes-chars, chars-append, IsUtf8-take, IsUtf8-drop}
use Rattle.std.proofs.lemmas.Str.{IsCharBoundary-before_ascii, IsCharBoundary-end, char_from_byte}
use Rattle.text_chars.specs.Chars.{or_wide, past}
use Rattle.text_chars.specs.Places.{rest_at, IsPlace, IsFrom}
use Rattle.text_chars.proofs.Steps.{rest_end}

-- all bytes between two places are of characters that pass or aren't of ASCII
pub record ArePassed (p : ℕ → Bool) (bytes : List ℕ) (start at : ℕ) : Type 0 where
  pub passed : List ℕ
  pub joined : drop start bytes ≡ passed ++ drop at bytes
  pub pass : list_all (or_wide p) passed ≡ true
  pub size : at ≡ start + length passed
  pub within : at ≤ length bytes

pub none_passed : (p : ℕ → Bool) (bytes : List ℕ) (at : ℕ) → IsPlace bytes at → ArePassed p bytes at at
none_passed p bytes at place =
    record { passed = []; joined = refl; pass = refl; size = omega arith; within = place.within }

-- behind some bytes are others
passed_on : (p : ℕ → Bool) (bytes more : List ℕ) (start at end : ℕ) → ArePassed p bytes start at
    → drop at bytes ≡ more ++ drop end bytes → list_all (or_wide p) more ≡ true → end ≡ at + length more
    → end ≤ length bytes → ArePassed p bytes start end
passed_on p bytes more start at end a joined pass size within = record {
  passed = a.passed ++ more;
  joined = a.joined ∙ ap (λ r. a.passed ++ r) joined ∙ sym (append_assoc a.passed more (drop end bytes));
  pass = list_all-append (or_wide p) a.passed more ∙ rw (a.pass, pass) refl;
  size = omega (arith, size, a.size, length-append a.passed more);
  within = within;
}

-- the next byte
pub byte_on : (p : ℕ → Bool) (bytes text : List ℕ) (start at : ℕ) → bytes ≡ text → ArePassed p text start at
    → at < length bytes → or_wide p (get_or bytes at 0) ≡ true → ArePassed p text start (at + 1)
byte_on p bytes text start at same a more pass =
    let long : at < length text = let l = ap length same in omega arith in
    let is : or_wide p (get_or text at 0) ≡ true = ap (λ b. or_wide p (get_or b at 0)) (sym same) ∙ pass in
    passed_on p text (get_or text at 0 ∷ []) start at (at + 1) a (drop_more text at 0 long) (rw is refl) refl
    (omega arith)

-- the next sixteen bytes
pub block_on : (p : ℕ → Bool) (bytes text : List ℕ) (start at : ℕ) → bytes ≡ text → ArePassed p text start at
    → 16 ≤ length bytes - at → list_all (or_wide p) (take (at + 16 - at) (drop at bytes)) ≡ true
    → ArePassed p text start (at + 16)
block_on p bytes text start at same a more pass =
    let l = ap length same in
    let k : at + 16 - at ≡ 16 = omega arith in
    let block = take 16 (drop at text) in
    let size : length block ≡ 16 = length-take-le 16 (drop at text) (omega (arith, length-drop at text)) in
    let is : list_all (or_wide p) block ≡ true =
    ap (λ m. list_all (or_wide p) (take m (drop at text))) (sym k)
    ∙ ap (λ b. list_all (or_wide p) (take (at + 16 - at) (drop at b))) (sym same) ∙ pass in
    let joined : drop at text ≡ block ++ drop (at + 16) text =
    sym (take-append-drop 16 (drop at text)) ∙ ap (λ r. block ++ r) (drop-drop 16 at text) in
    passed_on p text block start at (at + 16) a joined is (omega arith) (omega arith)

-- characters pass whose bytes do
chars_pass : (p : ℕ → Bool) (cs : List ℕ) → list_all (or_wide p) (encode_utf8_all cs) ≡ true
    → list_all (or_wide p) cs ≡ true
chars_pass p [] h = refl
chars_pass p (c ∷ cs) h =
    let both = sym (list_all-append (or_wide p) (encode_utf8 c) (encode_utf8_all cs)) ∙ h in
    let ones = list_all (or_wide p) (encode_utf8 c) in
    let (here, others) = and_parts ones (list_all (or_wide p) (encode_utf8_all cs)) both in
    let first : or_wide p c ≡ true = elim (cases_lt c 128) [
      | inl l ↦
          let one : list_all (or_wide p) (c ∷ []) ≡ true = ap (list_all (or_wide p)) (sym (encode_ascii c l)) ∙ here in
          (and_parts (or_wide p c) true one).0
      | inr g ↦ rw (le-ltb c 128 g) refl
    ] in
    rw first (chars_pass p cs others)

past_all : (q : ℕ → Bool) (xs rest : List ℕ) → list_all q xs ≡ true → past q (xs ++ rest) ≡ past q rest
past_all q [] rest h = refl
past_all q (x ∷ xs) rest h =
    let (here, others) = and_parts (q x) (list_all q xs) h in
    rw here (past_all q xs rest others)

-- where no byte is left, or one of ASCII stands, a character ends
seam : (bytes : List ℕ) (at : ℕ) → at ≤ length bytes → (at < length bytes → get_or bytes at 0 < 128)
    → IsCharBoundary bytes at
seam bytes at within small = elim (cases_lt at (length bytes)) [
  | inl l ↦ IsCharBoundary-before_ascii bytes at l (small l)
  | inr g ↦
      let is : length bytes ≡ at = omega arith in
      subst (IsCharBoundary bytes) is (IsCharBoundary-end bytes)
]

-- a byte that is none of a character that passes or isn't of ASCII
narrow_stop : (p : ℕ → Bool) (b : ℕ) → or_wide p b ≡ false → b < 128
narrow_stop p b h = elim (cases_lt b 128) [
  | inl l ↦ l
  | inr g ↦ absurd (let e : or_wide p b ≡ true = rw (le-ltb b 128 g) refl in cc)
]

-- the character that such a byte is
stopped : (p : ℕ → Bool) (bytes cs : List ℕ) → encode_utf8_all cs ≡ bytes → 0 < length bytes
    → or_wide p (get_or bytes 0 0) ≡ false → past (or_wide p) cs ≡ cs
stopped p bytes [] e l h = refl
stopped p bytes (c ∷ cs) e l h =
    let small = narrow_stop p (get_or bytes 0 0) h in
    let is = char_from_byte bytes (encode_utf8_all cs) c (sym e) small l in
    let fails : or_wide p c ≡ false = ap (or_wide p) is ∙ h in
    rw fails refl

-- where no byte is left, or one that doesn't pass stands, no character passes
stands : (p : ℕ → Bool) (text : List ℕ) (at : ℕ) → IsPlace text at
    → (at < length text → or_wide p (get_or text at 0) ≡ false) → past (or_wide p) (rest_at text at) ≡ rest_at text at
stands p text at place stops = elim (cases_lt at (length text)) [
  | inl l ↦
      let byte : get_or (drop at text) 0 0 ≡ get_or text at 0 =
      get_or-drop at text 0 0 ∙ ap (λ m. get_or text m 0) (omega arith) in
      let fails : or_wide p (get_or (drop at text) 0 0) ≡ false = ap (or_wide p) byte ∙ stops l in
      stopped p (drop at text) (rest_at text at) (encodes-chars (drop at text) place.cut)
      (omega (arith, length-drop at text)) fails
  | inr g ↦ rw (rest_end text at g) refl
]

take_front : (xs ys : List ℕ) → take (length xs) (xs ++ ys) ≡ xs
take_front [] ys = refl
take_front (x ∷ xs) ys = ap (λ r. x ∷ r) (take_front xs ys)

-- behind bytes that pass, where none is left or the next one doesn't, the characters that pass end
over : (p : ℕ → Bool) (text : List ℕ) (start at : ℕ) → IsPlace text start → ArePassed p text start at
    → (at < length text → or_wide p (get_or text at 0) ≡ false)
    → (rest_at text at ≡ past (or_wide p) (rest_at text start)) × IsFrom text start at
over p text start at place a stops =
    let bytes = drop start text in
    let n = length a.passed in
    let end : drop n bytes ≡ drop at text = drop-drop n start text ∙ ap (λ m. drop m text) (sym a.size) in
    let long : length bytes ≡ length text - start = length-drop start text in
    let byte : get_or bytes n 0 ≡ get_or text at 0 =
    get_or-drop start text n 0 ∙ ap (λ m. get_or text m 0) (sym a.size) in
    let size = a.size in
    let within = a.within in
    let small : n < length bytes → get_or bytes n 0 < 128 = λ l.
    subst (λ b. b < 128) (sym byte) (narrow_stop p (get_or text at 0) (stops (omega arith))) in
    let cut = seam bytes n (omega arith) small in
    let rest : IsUtf8 (drop at text) = subst IsUtf8 end (IsUtf8-drop bytes n place.cut cut) in
    let front : take n bytes ≡ a.passed = ap (take n) a.joined ∙ take_front a.passed (drop at text) in
    let first : IsUtf8 a.passed = subst IsUtf8 front (IsUtf8-take bytes n place.cut cut) in
    let pass = chars_pass p (chars a.passed) (ap (list_all (or_wide p)) (encodes-chars a.passed first) ∙ a.pass) in
    let behind : past (or_wide p) (rest_at text start) ≡ past (or_wide p) (rest_at text at) =
    ap (λ bs. past (or_wide p) (chars bs)) a.joined
    ∙ ap (past (or_wide p)) (chars-append a.passed (drop at text) first)
    ∙ past_all (or_wide p) (chars a.passed) (rest_at text at) pass in
    let there : IsPlace text at = record { within = a.within; cut = rest } in
    (sym (behind ∙ stands p text at there stops), record { place = there; on = omega arith })

-- where the bytes end
pub past_end : (p : ℕ → Bool) (bytes text : List ℕ) (start at : ℕ) → bytes ≡ text → IsPlace text start
    → ArePassed p text start at → length bytes ≤ at
    → (rest_at text at ≡ past (or_wide p) (rest_at text start)) × IsFrom text start at
past_end p bytes text start at same place a end =
    let e = ap length same in
    over p text start at place a (λ l. absurd (omega (arith, e, end, l)))

-- where the next byte doesn't pass
pub past_stop : (p : ℕ → Bool) (bytes text : List ℕ) (start at : ℕ) → bytes ≡ text → IsPlace text start
    → ArePassed p text start at → or_wide p (get_or bytes at 0) ≡ false
    → (rest_at text at ≡ past (or_wide p) (rest_at text start)) × IsFrom text start at
past_stop p bytes text start at same place a fails =
    over p text start at place a (λ _. ap (λ b. or_wide p (get_or b at 0)) (sym same) ∙ fails)
