-- Counts by the bytes of a text: of its characters, and of those before its lines.
use Rattle.std.proofs.Common.{◌≡◌, ℕ, ◌+◌, ◌/◌, ◌%◌, ◌≤◌, ◌<◌, arith, List, [], ◌∷◌, ◌++◌, refl, sym, ap, ◌∙◌}
use Rattle.std.proofs.Common.{length, drop, get_or, inl, inr, add-zero}
use Rattle.std.specs.Prelude.{true, false, encode_utf8, encode_utf8_all, cond, ◌==◌, if◌then◌else◌, ◌⊎◌}
use Rattle.std.specs.List.{list_all, list_any}
use Rattle.std.specs.Str.{chars, IsUtf8}
use Rattle.rust_map.specs.Places.{is_line_feed}
use Rattle.std.proofs.lemmas.Bool.{and_parts, cases_eq, cases_lt, eq-eqb, lt-ltb, le-ltb, ltb-true, ne_eqb, or_parts}
use Rattle.std.proofs.lemmas.Bool.Decides.{nat_tests}
use Rattle.std.proofs.lemmas.List.{drop_more}
use Rattle.std.proofs.lemmas.List.Sums.{sum_by-cons, sum_by-append}
use Rattle.std.proofs.lemmas.Str.{encodes-chars}
use Rattle.text_chars.specs.Chars.{narrow}
use Rattle.rust_map.specs.Bytes.{begins_character, begun, is_narrow}
use Rattle.rust_map.specs.Tables.{line_starts_from, starts_by}
use lib.Utf8.{encode}

-- bytes that go on with a character
abbrev GoOn : List ℕ → Type 0
GoOn [] = Unit {0}
GoOn (b ∷ bs) = (128 ≤ b) × (b < 192) × GoOn bs

-- the bytes of a wide character: one that begins it and those that go on
record IsWide (c : ℕ) : Type 0 where
  wide : 128 ≤ c
  byte : ℕ
  more : List ℕ
  are : encode_utf8 c ≡ byte ∷ more
  begins : 192 ≤ byte
  goes_on : GoOn more

spelled : (c : ℕ) → ((c < 128) × (encode_utf8 c ≡ c ∷ [])) ⊎ IsWide c
unfolding encode
spelled c = elim (cases_lt c 128) [
  | inl a ↦ inl (a, rw (lt-ltb c 128 a) refl)
  | inr a ↦ elim (cases_lt c 2048) [
    | inl b ↦ inr (record {
      wide = a;
      byte = 192 + c / 64;
      more = (128 + c % 64) ∷ [];
      are = rw (le-ltb c 128 a, lt-ltb c 2048 b) refl;
      begins = omega arith;
      goes_on = (omega arith, omega arith, tt);
    })
    | inr b ↦ elim (cases_lt c 65536) [
      | inl d ↦ inr (record {
        wide = a;
        byte = 224 + c / 4096;
        more = (128 + c / 64 % 64) ∷ (128 + c % 64) ∷ [];
        are = rw (le-ltb c 128 a, le-ltb c 2048 b, lt-ltb c 65536 d) refl;
        begins = omega arith;
        goes_on = (omega arith, omega arith, (omega arith, omega arith, tt));
      })
      | inr d ↦ inr (record {
        wide = a;
        byte = 240 + c / 262144;
        more = (128 + c / 4096 % 64) ∷ (128 + c / 64 % 64) ∷ (128 + c % 64) ∷ [];
        are = rw (le-ltb c 128 a, le-ltb c 2048 b, le-ltb c 65536 d) refl;
        begins = omega arith;
        goes_on = (omega arith, omega arith, (omega arith, omega arith, (omega arith, omega arith, tt)));
      })
    ]
  ]
]

pub begun_cons : (b : ℕ) (bs : List ℕ) → begun (b ∷ bs) ≡ cond (begins_character b) 1 0 + begun bs
begun_cons b bs = sum_by-cons (λ x. cond (begins_character x) 1 0) b bs

narrow_begins : (b : ℕ) → b < 128 → begins_character b ≡ true
narrow_begins b h = grind (arith, nat_tests)

wide_begins : (b : ℕ) → 192 ≤ b → begins_character b ≡ true
wide_begins b h = grind (arith, nat_tests)

inner : (b : ℕ) → 128 ≤ b → b < 192 → begins_character b ≡ false
inner b h l = grind (arith, nat_tests)

begun_on : (bs rest : List ℕ) → GoOn bs → begun (bs ++ rest) ≡ begun rest
begun_on [] rest h = refl
begun_on (b ∷ bs) rest h = begun_cons b (bs ++ rest) ∙ rw (inner b h.0 h.1) (omega (arith, begun_on bs rest h.2))

begun_encode : (c : ℕ) (rest : List ℕ) → begun (encode_utf8 c ++ rest) ≡ 1 + begun rest
begun_encode c rest = elim (spelled c) [
  | inl a ↦ rw a.1 (begun_cons c rest ∙ rw (narrow_begins c a.0) refl)
  | inr w ↦ rw w.are (begun_cons w.byte (w.more ++ rest) ∙
      rw (wide_begins w.byte w.begins, begun_on w.more rest w.goes_on) refl)
]

begun_encodes : (cs : List ℕ) → begun (encode_utf8_all cs) ≡ length cs
begun_encodes [] = refl
begun_encodes (c ∷ cs) = let h = begun_encodes cs in begun_encode c (encode_utf8_all cs) ∙ omega arith

pub begun_chars : (bytes : List ℕ) → IsUtf8 bytes → begun bytes ≡ length (chars bytes)
begun_chars bytes u = ap begun (sym (encodes-chars bytes u)) ∙ begun_encodes (chars bytes)

starts_on : (n : ℕ) (bs rest : List ℕ) → GoOn bs → starts_by n (bs ++ rest) ≡ starts_by n rest
starts_on n [] rest h = refl
starts_on n (b ∷ bs) rest h =
    rw (inner b h.0 h.1, ne_eqb b 10 (λ e. omega arith)) (rw add-zero (starts_on n bs rest h.2))

starts_encode : (n c : ℕ) (rest : List ℕ) → starts_by n (encode_utf8 c ++ rest)
    ≡ (if c == 10 then (n + 1) ∷ starts_by (n + 1) rest else starts_by (n + 1) rest)
starts_encode n c rest = elim (spelled c) [
  | inl a ↦ rw (a.1, narrow_begins c a.0) refl
  | inr w ↦ rw (
    w.are,
    wide_begins w.byte w.begins,
    ne_eqb w.byte 10 (λ e. let h = w.begins in omega arith),
    ne_eqb c 10 (λ e. let h = w.wide in omega arith),
  ) (starts_on (n + 1) w.more rest w.goes_on)
]

starts_encodes : (n : ℕ) (cs : List ℕ) → starts_by n (encode_utf8_all cs) ≡ line_starts_from n cs
unfolding line_starts_from
starts_encodes n [] = refl
starts_encodes n (c ∷ cs) =
    starts_encode n c (encode_utf8_all cs) ∙ ap (λ x. if c == 10 then (n + 1) ∷ x else x) (starts_encodes (n + 1) cs)

pub starts_chars : (n : ℕ) (bytes : List ℕ) → IsUtf8 bytes → starts_by n bytes ≡ line_starts_from n (chars bytes)
starts_chars n bytes u = ap (starts_by n) (sym (encodes-chars bytes u)) ∙ starts_encodes n (chars bytes)

-- bytes in two parts
pub begun_append : (xs ys : List ℕ) → begun (xs ++ ys) ≡ begun xs + begun ys
begun_append xs ys = sum_by-append (λ x. cond (begins_character x) 1 0) xs ys

pub starts_append : (n : ℕ) (xs ys : List ℕ) → starts_by n (xs ++ ys) ≡ starts_by n xs ++ starts_by (n + begun xs) ys
starts_append n [] ys = ap (λ m. starts_by m ys) (sym (add-zero n))
starts_append n (b ∷ bs) ys =
    let m = n + begun (b ∷ []) in
    let on : n + begun (b ∷ bs) ≡ m + begun bs = (let one = begun_append (b ∷ []) bs in omega arith) in
    let rest : starts_by m (bs ++ ys) ≡ starts_by m bs ++ starts_by (n + begun (b ∷ bs)) ys =
    starts_append m bs ys ∙ ap (λ k. starts_by m bs ++ starts_by k ys) (sym on) in
    elim (cases_eq b 10) [
      | inl e ↦ let t : (b == 10) ≡ true = eq-eqb b 10 e in rw t (ap (λ x. m ∷ x) rest)
      | inr e ↦ rw (ne_eqb b 10 e) rest
    ]

-- none begins without a line feed
pub starts_none : (n : ℕ) (bs : List ℕ) → list_any is_line_feed bs ≡ false → starts_by n bs ≡ []
starts_none n [] h = refl
starts_none n (b ∷ bs) h = let parts =
    or_parts (is_line_feed b) (list_any is_line_feed bs) h in rw parts.0 (starts_none (n + begun (b ∷ [])) bs parts.1)

-- each byte of ASCII begins a character
pub narrow_on : (bs : List ℕ) (i : ℕ) → i < length bs → list_all (narrow is_narrow) (drop i bs) ≡ true
    → begun (drop i bs) ≡ 1 + begun (drop (i + 1) bs)
narrow_on bs i h all =
    let b = get_or bs i 0 in
    let more = drop_more bs i 0 h in
    let (here, _) = and_parts (narrow is_narrow b) _ (ap (list_all (narrow is_narrow)) (sym more) ∙ all) in
    let small = ltb-true b 128 (and_parts (is_narrow b) (is_narrow b) here).0 in
    ap begun more ∙ begun_cons b (drop (i + 1) bs) ∙ rw (narrow_begins b small) refl
