-- Characters and bytes.
use Rattle.std.proofs.Common.{◌≡◌, ℕ, zero, suc, ◌+◌, ◌-◌, ◌*◌, ◌/◌, ◌%◌, ◌≤◌, ◌<◌, arith, List, [], ◌∷◌, ◌++◌}
use Rattle.std.proofs.Common.{refl, sym, ap, ◌∙◌, length, take, drop, get_or, length-append, append_assoc, inl, inr}
use Rattle.std.proofs.Common.{true, subst}
use Rattle.std.specs.Prelude.{encode_utf8, encode_utf8_all, ◌==◌}
use Rattle.std.specs.List.{list_all}
use Rattle.std.specs.Str.{chars, IsUtf8}
use Rattle.std.specs.Char.{len_utf8}
use Rattle.std.proofs.Math.Utf8.{scalars}
use Rattle.std.proofs.Math.Seq.{drop-append_seam, take-append_seam}
use Rattle.std.proofs.lemmas.List.{take-append-drop, length-drop, length-take-le}
use Rattle.std.proofs.lemmas.Bool.{ne_eqb, eq-eqb, cases_eq, cases_lt, and_parts, and_from, ltb-true}
use Rattle.std.proofs.lemmas.Str.{encodes-append, length-encode, len_utf8_bounds, length-le-encodes, encodes-chars}
use Rattle.std.proofs.lemmas.Str.{scalars-chars, chars-encodes, len_utf8_ascii}
use Rattle.text_chars.specs.Chars.{narrow}
use Rattle.text_chars.specs.Places.{IsPassed}
use Rattle.text_chars.proofs.Blocks.{run}
use Rattle.rust_map.specs.Bytes.{rest_at, IsPlace, byte_length, byte_count, between_counts, is_narrow}
use Rattle.rust_map.specs.Tables.{byte_steps_from, byte_steps_of}

pub byte_length-cons : (c : ℕ) (cs : List ℕ) → byte_length (c ∷ cs) ≡ len_utf8 c + byte_length cs
byte_length-cons c cs = omega (arith, length-append (encode_utf8 c) (encode_utf8_all cs), length-encode c)

-- one character on
pub byte_behind_step : (rest next_rest : List ℕ) (at next c m : ℕ) → rest ≡ c ∷ next_rest → next ≡ at + len_utf8 c
    → 0 < m → next + byte_length (take (m - 1) next_rest) ≡ at + byte_length (take m rest)
byte_behind_step rest next_rest at next c zero e n h = absurd (omega arith)
byte_behind_step rest next_rest at next c (suc m) e n h =
    let k : suc m - 1 ≡ m = omega arith in
    rw (e, k) (omega (arith, byte_length-cons c (take m next_rest)))

pub there_step : (rest next_rest : List ℕ) (c m : ℕ) → rest ≡ c ∷ next_rest → m ≤ length rest → m - 1 ≤ length next_rest
there_step rest next_rest c m e h = let l : length rest ≡ length (c ∷ next_rest) = ap length e in omega arith

-- the table of bytes
pub steps_nil : (at count : ℕ) → byte_steps_from at count [] ≡ []
unfolding byte_steps_from
steps_nil at count = refl

pub steps_one : (at count next c : ℕ) (rest next_rest : List ℕ) → rest ≡ c ∷ next_rest → next ≡ at + len_utf8 c
    → (count + 1) % 128 ≡ 0 → byte_steps_from at count rest ≡ next ∷ byte_steps_from next (count + 1) next_rest
unfolding byte_steps_from
steps_one at count next c rest next_rest e n h = rw (e, n, h) refl

pub steps_none : (at count next c : ℕ) (rest next_rest : List ℕ) → rest ≡ c ∷ next_rest → next ≡ at + len_utf8 c
    → ((count + 1) % 128 ≡ 0 → ⊥) → byte_steps_from at count rest ≡ byte_steps_from next (count + 1) next_rest
unfolding byte_steps_from
steps_none at count next c rest next_rest e n h = rw (e, n, ne_eqb ((count + 1) % 128) 0 h) refl

-- the rest of the table, one entry on
pub append_one : (xs ys whole table : List ℕ) (y : ℕ) → xs ++ table ≡ whole → table ≡ y ∷ ys → (xs ++ (y ∷ [])) ++ ys
    ≡ whole
append_one xs ys whole table y e t = append_assoc xs (y ∷ []) ys ∙ (ap (λ l. xs ++ l) (sym t) ∙ e)

-- characters of ASCII take one byte each
narrow_length : (cs : List ℕ) → list_all (narrow is_narrow) cs ≡ true → byte_length cs ≡ length cs
narrow_length [] all = refl
narrow_length (c ∷ cs) all =
    let (here, others) = and_parts (narrow is_narrow c) (list_all (narrow is_narrow) cs) all in
    let one = len_utf8_ascii c (ltb-true c 128 (and_parts (is_narrow c) (is_narrow c) here).0) in
    let more = narrow_length cs others in
    byte_length-cons c cs ∙ omega arith

-- and so there are as many between two places
passed_count : (bytes : List ℕ) (start end : ℕ) → IsPlace bytes start
    → (h : IsPassed (narrow is_narrow) bytes start end) → length h.passed ≡ end - start
passed_count bytes start end place h =
    let parts : length (drop start bytes) ≡ byte_length h.passed + length (drop end bytes) =
    ap length (sym (encodes-chars (drop start bytes) place.cut)) ∙ ap byte_length h.joined ∙
    ap length (encodes-append h.passed (rest_at bytes end)) ∙ length-append (encode_utf8_all h.passed) _ ∙
    ap (λ l. byte_length h.passed + length l) (encodes-chars (drop end bytes) h.place.cut) in
    let within = h.place.within in
    omega (arith, narrow_length h.passed h.pass, length-drop start bytes, length-drop end bytes)

-- the entry behind the last of so many of them
block_entry : (cs rest : List ℕ) (at count q r : ℕ) → list_all (narrow is_narrow) cs ≡ true → count ≡ 128 * q + r
    → r + length cs ≡ 128 → 0 < length cs
    → byte_steps_from at count (cs ++ rest)
    ≡ (at + length cs) ∷ byte_steps_from (at + length cs) (count + length cs) rest
block_entry [] rest at count q r all e l more = absurd (omega arith)
block_entry (c ∷ []) rest at count q r all e l more =
    let (here, _) = and_parts (narrow is_narrow c) true all in
    let one = len_utf8_ascii c (ltb-true c 128 (and_parts (is_narrow c) (is_narrow c) here).0) in
    steps_one at count (at + 1) c (c ∷ rest) rest refl (omega arith) (omega arith)
block_entry (c ∷ d ∷ cs) rest at count q r all e l more =
    let (here, others) = and_parts (narrow is_narrow c) (list_all (narrow is_narrow) (d ∷ cs)) all in
    let one = len_utf8_ascii c (ltb-true c 128 (and_parts (is_narrow c) (is_narrow c) here).0) in
    let step = steps_none at count (at + 1) c (c ∷ d ∷ (cs ++ rest)) (d ∷ (cs ++ rest)) refl (omega arith)
    (λ z. omega arith) in
    let behind = block_entry (d ∷ cs) rest (at + 1) (count + 1) q (r + 1) others (omega arith) (omega arith)
    (omega arith) in
    let there : at + 1 + length (d ∷ cs) ≡ at + length (c ∷ d ∷ cs) = omega arith in
    let all_of : count + 1 + length (d ∷ cs) ≡ count + length (c ∷ d ∷ cs) = omega arith in
    step ∙ rw (there, all_of) at behind

-- the entry behind 128 bytes of ASCII
pub block_step : (bytes text : List ℕ) (at count : ℕ) → bytes ≡ text → IsPlace text at → at + 128 ≤ length text
    → count % 128 ≡ 0 → list_all (narrow is_narrow) (take (at + 128 - at) (drop at bytes)) ≡ true
    → IsPlace text (at + 128) × (byte_steps_from at count (rest_at text at)
    ≡ (at + 128) ∷ byte_steps_from (at + 128) (count + 128) (rest_at text (at + 128)))
block_step bytes text at count same place long whole all =
    let block = take (at + 128 - at) (drop at text) in
    let size : length block ≡ 128 = length-take-le (at + 128 - at) (drop at text) (omega (arith, length-drop at text)) ∙
    omega arith in
    let pass : list_all (narrow is_narrow) block ≡ true =
    ap (λ b. list_all (narrow is_narrow) (take (at + 128 - at) (drop at b))) (sym same) ∙ all in
    let size_is : length block ≡ at + 128 - at = omega arith in
    let is : take (length block) (drop at text) ≡ block = ap (λ m. take m (drop at text)) size_is in
    let passed = subst (λ m. IsPassed (narrow is_narrow) text at (at + m)) size
    (run is_narrow block text at place (omega arith) is pass) in
    let count_is : length passed.passed ≡ 128 = passed_count text at (at + 128) place passed ∙ omega arith in
    let entry = block_entry passed.passed (rest_at text (at + 128)) at count (count / 128) 0 passed.pass (omega arith)
    (omega arith) (omega arith) in
    (passed.place, ap (byte_steps_from at count) passed.joined ∙ rw count_is at entry)

-- the entry at 128 * j characters, of which so many lie behind
pub steps_at : (text : List ℕ) (at count j d : ℕ) → count < 128 * j → 128 * j ≤ count + length text
    → get_or (byte_steps_from at count text) (j - count / 128 - 1) d ≡ at + byte_count text (128 * j - count)
unfolding byte_steps_from
steps_at [] at count j d low high = absurd (omega arith)
steps_at (c ∷ cs) at count j d low high =
    let k : 128 * j - count ≡ suc (128 * j - (count + 1)) = omega arith in
    let len : byte_count (c ∷ cs) (128 * j - count) ≡ len_utf8 c + byte_count cs (128 * j - (count + 1)) =
    rw k (byte_length-cons c (take (128 * j - (count + 1)) cs)) in
    elim (cases_eq ((count + 1) % 128) 0) [
      | inl e ↦ elim (cases_lt (count + 1) (128 * j)) [
        | inl l ↦
            let i : j - count / 128 - 1 ≡ suc (j - (count + 1) / 128 - 1) = omega arith in
            let rest = steps_at cs (at + len_utf8 c) (count + 1) j d l (omega arith) in
            rw (e, i, rest, len) (omega arith)
        | inr g ↦
            let i : j - count / 128 - 1 ≡ 0 = omega arith in
            let z : 128 * j - (count + 1) ≡ 0 = omega arith in
            let n : byte_count (c ∷ cs) (128 * j - count) ≡ len_utf8 c = len ∙ rw z (omega arith) in
            rw (e, i, n) refl
      ]
      | inr n ↦
          let i : j - count / 128 - 1 ≡ j - (count + 1) / 128 - 1 = omega arith in
          let rest = steps_at cs (at + len_utf8 c) (count + 1) j d (omega arith) (omega arith) in
          rw (ne_eqb ((count + 1) % 128) 0 n, i, rest, len) (omega arith)
    ]

-- how many entries there are
pub length-steps : (text : List ℕ) (at count j : ℕ) → count < 128 * j → 128 * j ≤ count + length text
    → j - count / 128 - 1 < length (byte_steps_from at count text)
unfolding byte_steps_from
length-steps [] at count j low high = absurd (omega arith)
length-steps (c ∷ cs) at count j low high =
    elim (cases_eq ((count + 1) % 128) 0) [
      | inl e ↦ elim (cases_lt (count + 1) (128 * j)) [
        | inl l ↦ let rest = length-steps cs (at + len_utf8 c) (count + 1) j l (omega arith) in rw e (omega arith)
        | inr g ↦ rw e (omega arith)
      ]
      | inr n ↦ let rest = length-steps cs (at + len_utf8 c) (count + 1) j (omega arith) (omega arith) in rw
          (ne_eqb ((count + 1) % 128) 0 n) (omega arith)
    ]

-- where each character is one byte, counts of both agree
pub byte_count_narrow : (text : List ℕ) (k : ℕ) → byte_length text ≡ length text → k ≤ length text → byte_count text k
    ≡ k
byte_count_narrow text zero e h = refl
byte_count_narrow [] (suc k) e h = absurd (omega arith)
byte_count_narrow (c ∷ cs) (suc k) e h =
    let lens = len_utf8_bounds c in
    let more = length-le-encodes cs in
    let l = byte_length-cons c cs in
    let rest = byte_count_narrow cs k (omega arith) (omega arith) in
    byte_length-cons c (take k cs) ∙ omega arith

-- the characters of a part are characters
pub scalars-drop : (k : ℕ) (cs : List ℕ) → scalars cs ≡ true → scalars (drop k cs) ≡ true
scalars-drop zero cs h = h
scalars-drop (suc k) [] h = h
scalars-drop (suc k) (c ∷ cs) h = scalars-drop k cs (and_parts _ _ h).1

pub scalars-take : (k : ℕ) (cs : List ℕ) → scalars cs ≡ true → scalars (take k cs) ≡ true
scalars-take zero cs h = refl
scalars-take (suc k) [] h = h
scalars-take (suc k) (c ∷ cs) h = let both = and_parts _ _ h in and_from _ _ both.0 (scalars-take k cs both.1)

-- a text is its first k characters and the rest
pub encoded_parts : (text : List ℕ) (k : ℕ) → encode_utf8_all text
    ≡ encode_utf8_all (take k text) ++ encode_utf8_all (drop k text)
encoded_parts text k = ap encode_utf8_all (sym (take-append-drop k text)) ∙ encodes-append (take k text) (drop k text)

-- what stands at a count of characters
pub record IsCut (bytes : List ℕ) (k : ℕ) : Type 0 where
  pub place : IsPlace bytes (byte_count (chars bytes) k)
  pub rest : rest_at bytes (byte_count (chars bytes) k) ≡ drop k (chars bytes)
  pub bytes_on : drop (byte_count (chars bytes) k) bytes ≡ encode_utf8_all (drop k (chars bytes))

pub cut_at : (bytes : List ℕ) (k : ℕ) → IsUtf8 bytes → IsCut bytes k
cut_at bytes k u =
    let text = chars bytes in
    let front = encode_utf8_all (take k text) in
    let back = encode_utf8_all (drop k text) in
    let all : bytes ≡ front ++ back = sym (encodes-chars bytes u) ∙ encoded_parts text k in
    let on : drop (byte_count text k) bytes ≡ back =
    ap (λ l. drop (byte_count text k) l) all ∙ drop-append_seam front back in
    let good : scalars (drop k text) ≡ true = scalars-drop k text (scalars-chars bytes u) in
    let l : length bytes ≡ length (front ++ back) = ap length all in
    record {
      place = record { within = omega (arith, length-append front back); cut = (drop k text, (good, sym on)) };
      rest = ap chars on ∙ chars-encodes (drop k text) good;
      bytes_on = on;
    }

pub length_step : (rest next_rest : List ℕ) (c : ℕ) → rest ≡ c ∷ next_rest → length rest ≡ length next_rest + 1
length_step rest next_rest c e = ap length e ∙ omega arith

-- the bytes of more characters
pub byte_count_more : (text : List ℕ) (n m all : ℕ) → all ≡ n + m → byte_count text all
    ≡ byte_count text n + byte_length (take m (drop n text))
byte_count_more text zero m all e = let k : all ≡ m = omega arith in rw k (omega arith)
byte_count_more [] (suc n) m zero e = absurd (omega arith)
byte_count_more [] (suc n) zero (suc all) e = refl
byte_count_more [] (suc n) (suc m) (suc all) e = refl
byte_count_more (c ∷ cs) (suc n) m zero e = absurd (omega arith)
byte_count_more (c ∷ cs) (suc n) m (suc all) e =
    let more = byte_count_more cs n m all (omega arith) in
    byte_length-cons c (take all cs) ∙ omega (arith, byte_length-cons c (take n cs))

pub byte_length-chars : (bytes : List ℕ) → IsUtf8 bytes → byte_length (chars bytes) ≡ length bytes
byte_length-chars bytes u = ap length (encodes-chars bytes u)

-- a text of one byte has one character
pub one_byte : (bytes : List ℕ) → IsUtf8 bytes → length bytes ≡ 1 → 1 ≡ length (chars bytes)
one_byte bytes u one = some (chars bytes) (byte_length-chars bytes u ∙ one)
  where
    some : (cs : List ℕ) → byte_length cs ≡ 1 → 1 ≡ length cs
    some [] e = cc
    some (c ∷ cs) e = let few = length-le-encodes (c ∷ cs) in omega arith

-- the table of bytes of a text by what it asks
pub table_none : (text : List ℕ) → byte_length text ≡ length text → byte_steps_of text ≡ []
table_none text e = let t : (byte_length text == length text) ≡ true = eq-eqb _ _ e in rw t refl

pub table_some : (text : List ℕ) → (byte_length text ≡ length text → ⊥) → byte_steps_of text
    ≡ 0 ∷ byte_steps_from 0 0 text
table_some text wide = rw (ne_eqb (byte_length text) (length text) wide) refl

-- the byte of a step, as it is read in the table
pub step_at : (text steps : List ℕ) (step x : ℕ) → steps ≡ byte_steps_of text → (byte_length text ≡ length text → ⊥)
    → 128 * step ≤ length text → x ≡ get_or steps step x → x ≡ byte_count text (128 * step)
step_at text steps zero x table wide there e = rw (table ∙ table_some text wide) at e
step_at text steps (suc step) x table wide there e =
    let i : step ≡ suc step - 0 / 128 - 1 = omega arith in
    let k : 128 * suc step - 0 ≡ 128 * suc step = omega arith in
    let at = steps_at text 0 0 (suc step) x (omega arith) (omega arith) in
    let read : x ≡ get_or (byte_steps_from 0 0 text) step x = rw (table ∙ table_some text wide) at e in
    let entry = rw (← i, k) at at in
    read ∙ (entry ∙ omega arith)

pub step_within : (text steps : List ℕ) (step : ℕ) → steps ≡ byte_steps_of text → (byte_length text ≡ length text → ⊥)
    → 128 * step ≤ length text → step < length steps
step_within text steps zero table wide there = rw (table ∙ table_some text wide) (omega arith)
step_within text steps (suc step) table wide there =
    let i : step ≡ suc step - 0 / 128 - 1 = omega arith in
    let within = length-steps text 0 0 (suc step) (omega arith) (omega arith) in
    let inner = rw (← i) at within in
    rw (table ∙ table_some text wide) (omega arith)

-- the bytes between two counts of characters
pub between_bytes : (bytes : List ℕ) (from to start end : ℕ) → IsUtf8 bytes → from ≤ to → start
    ≡ byte_count (chars bytes) from → end ≡ byte_count (chars bytes) to → chars (take (end - start) (drop start bytes))
    ≡ between_counts (chars bytes) from to
between_bytes bytes from to start end u ordered s e =
    let text = chars bytes in
    let part = take (to - from) (drop from text) in
    let rest = drop (to - from) (drop from text) in
    let cut = cut_at bytes from u in
    let more = byte_count_more text from (to - from) to (omega arith) in
    let n : end - start ≡ byte_length part = omega arith in
    let here : drop start bytes ≡ encode_utf8_all part ++ encode_utf8_all rest =
    ap (λ k. drop k bytes) s ∙ (cut.bytes_on ∙ encoded_parts (drop from text) (to - from)) in
    let good = scalars-take (to - from) (drop from text) (scalars-drop from text (scalars-chars bytes u)) in
    rw (n, here, take-append_seam (encode_utf8_all part) (encode_utf8_all rest)) (chars-encodes part good)

-- what the look-up of a count of characters reads: the byte at which their step begins
pub record IsStepStart (bytes : List ℕ) (count start : ℕ) : Type 0 where
  pub place : IsPlace bytes start
  pub there : count % 128 ≤ length (rest_at bytes start)
  pub all : start + byte_length (take (count % 128) (rest_at bytes start)) ≡ byte_count (chars bytes) count

pub step_start : (bytes steps : List ℕ) (count start : ℕ) → IsUtf8 bytes → steps ≡ byte_steps_of (chars bytes)
    → (length bytes ≡ length (chars bytes) → ⊥) → count ≤ length (chars bytes) → start
    ≡ get_or steps (count / 128) start → IsStepStart bytes count start
step_start bytes steps count start u table wide there read =
    let text = chars bytes in
    let step = count / 128 in
    let same = byte_length-chars bytes u in
    let begins = step_at text steps step start table (λ e. wide (sym same ∙ e)) (omega arith) read in
    let cut = cut_at bytes (128 * step) u in
    let rest : rest_at bytes start ≡ drop (128 * step) text = rw begins cut.rest in
    let more = byte_count_more text (128 * step) (count % 128) count (omega arith) in
    record {
      place = rw begins cut.place;
      there = rw rest (omega (arith, length-drop (128 * step) text));
      all = ap (λ r. start + byte_length (take (count % 128) r)) rest ∙
          (ap (λ b. b + byte_length (take (count % 128) (drop (128 * step) text))) begins ∙ sym more);
    }
