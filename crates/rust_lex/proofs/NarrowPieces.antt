-- Pieces of ASCII, each character of which is one byte.
use Rattle.std.proofs.Common.{◌≡◌, ℕ, zero, suc, ◌<◌, arith, List, [], ◌∷◌, ◌++◌, length, refl, sym, ap}
use Rattle.std.proofs.Common.{◌∙◌, length-append, inl, inr, subst, ⊎_elim}
use Rattle.std.specs.Prelude.{Bool, true, false, not, None, ◌||◌, ◌==◌, nat_lt, encode_utf8, encode_utf8_all, IsTrue}
use Rattle.std.specs.Prelude.{◌↔◌}
use Rattle.std.proofs.Math.Bool.{and-false}
use Rattle.std.proofs.lemmas.Bool.{and_cases, and_from, and_parts, cases_Bool, cases_lt, lt-ltb, le-ltb, ltb-true}
use Rattle.std.proofs.lemmas.Bool.{ne_eqb, or_parts}
use Rattle.std.proofs.lemmas.Str.{length-encode, len_utf8_ascii}
use Rattle.text_chars.specs.Places.{byte_length}
use Rattle.rust_escape.proofs.Ranges.{end_is}
use Rattle.rust_lex.specs.Chars.{begins, begins_prefix, is_behind_prefix, is_first, is_next, is_wide, narrow, passes}
use Rattle.rust_lex.specs.Chars.{past}
use Rattle.rust_lex.specs.Ended.{IsFrom}
use Rattle.rust_lex.specs.Piece.{GroupMarks, Close, Ident, IsJoint, Mark, Open, PieceKind}
use Rattle.rust_lex.specs.Places.{rest_at, IsBehind, IsNarrowAt, IsPlace}
use Rattle.rust_lex.specs.Quoted.{opener_of}
use Rattle.rust_lex.specs.Scan.{Ends, Front, closes, first, front_of, is_joined, mark, may_open, opens, scan, scan_at}
use Rattle.rust_lex.specs.Scan.{word}
use Rattle.rust_lex.specs.Word.{begins_raw_mark}
use Rattle.rust_lex.specs.declared.piece.NarrowPiece.{NarrowPiece}
use Rattle.rust_lex.proofs.Ends.{passed, past_word}
use Rattle.rust_lex.proofs.Fronts.{Says, first-next, front-tick, front_says}
use Rattle.rust_lex.proofs.Joints.{joint_says}
use Rattle.rust_lex.proofs.Pieces.{chars_between, some_piece}
use Rattle.rust_lex.proofs.Scans.{plain_word, word_plain}

-- characters of ASCII take one byte each
narrow_length : (p : ℕ → Bool) (cs : List ℕ) → passes (narrow p) cs ≡ true → byte_length cs ≡ length cs
narrow_length p [] h = refl
narrow_length p (c ∷ cs) h =
    let (here, others) = and_parts (narrow p c) (passes (narrow p) cs) h in
    let one = len_utf8_ascii c (ltb-true c 128 (and_parts (nat_lt c 128) (p c) here).0) in
    let more = narrow_length p cs others in
    omega (arith, length-append (encode_utf8 c) (encode_utf8_all cs), length-encode c)

-- a piece that is scanned, whose characters are of ASCII
narrow_found : (bytes cs : List ℕ) (at end : ℕ) (k : PieceKind) (joint : Bool) (p : ℕ → Bool) → IsPlace bytes at
    → IsBehind bytes at end → rest_at bytes at ≡ cs ++ rest_at bytes end → passes (narrow p) cs ≡ true
    → scan_at at (rest_at bytes at) ≡ Ends k (rest_at bytes end)
    → (k ≡ Mark → IsTrue joint ↔ IsJoint (rest_at bytes at))
    → IsNarrowAt bytes at (record { kind = k; end = end; is_joint = joint })
narrow_found bytes cs at end k joint p place behind joined pass scanned j =
    let there = end_is bytes cs at end place behind.place joined in
    let size = narrow_length p cs pass in
    let same = ap length (chars_between bytes cs at end place behind joined) in
    record {
      fits = some_piece bytes at end k place scanned behind;
      behind = behind;
      count = omega arith;
      joint = j;
    }

-- the byte order mark alone is another piece at a text's front than within a text
scan_anywhere : (at c : ℕ) (cs : List ℕ) → c < 128 → scan_at at (c ∷ cs) ≡ scan (c ∷ cs)
scan_anywhere zero c cs h = let n : (c == 65279) ≡ false = ne_eqb c 65279 (λ e. absurd (omega arith)) in rw n refl
scan_anywhere (suc m) c cs h = refl

-- one character of ASCII
one_found : (bytes : List ℕ) (at next c : ℕ) (k : PieceKind) (joint : Bool) → IsPlace bytes at
    → rest_at bytes at ≡ c ∷ rest_at bytes next → IsBehind bytes at next → c < 128
    → scan (c ∷ rest_at bytes next) ≡ Ends k (rest_at bytes next)
    → (k ≡ Mark → IsTrue joint ↔ IsJoint (rest_at bytes at))
    → IsNarrowAt bytes at (record { kind = k; end = next; is_joint = joint })
one_found bytes at next c k joint place is behind small scanned j =
    narrow_found bytes (c ∷ []) at next k joint (λ d. true) place behind is (rw (lt-ltb c 128 small) refl)
    (ap (scan_at at) is ∙ scan_anywhere at c (rest_at bytes next) small ∙ scanned) j

pub opens_found : (bytes : List ℕ) (at next c : ℕ) (d : GroupMarks) → IsPlace bytes at
    → rest_at bytes at ≡ c ∷ rest_at bytes next → IsBehind bytes at next → c < 128 → front_of c ≡ opens d
    → IsNarrowAt bytes at (record { kind = Open d; end = next; is_joint = false })
opens_found bytes at next c d place is behind small e =
    one_found bytes at next c (Open d) false place is behind small (rw e refl) (λ m. cc)

pub closes_found : (bytes : List ℕ) (at next c : ℕ) (d : GroupMarks) → IsPlace bytes at
    → rest_at bytes at ≡ c ∷ rest_at bytes next → IsBehind bytes at next → c < 128 → front_of c ≡ closes d
    → IsNarrowAt bytes at (record { kind = Close d; end = next; is_joint = false })
closes_found bytes at next c d place is behind small e =
    one_found bytes at next c (Close d) false place is behind small (rw e refl) (λ m. cc)

-- a mark other than a quote is joint where what follows says so
joined_says : (c : ℕ) (cs text : List ℕ) (joint : Bool) → text ≡ c ∷ cs → (c ≡ 39 → ⊥) → joint ≡ is_joined cs
    → IsTrue joint ↔ IsJoint text
joined_says c cs text joint is n e = joint_says text joint (e ∙ sym (rw (is, ne_eqb c 39 n) refl))

pub mark_found : (bytes : List ℕ) (at next c : ℕ) (joint : Bool) → IsPlace bytes at
    → rest_at bytes at ≡ c ∷ rest_at bytes next → IsBehind bytes at next → c < 128 → front_of c ≡ mark
    → (c ≡ 47 → ⊥) → joint ≡ is_joined (rest_at bytes next)
    → IsNarrowAt bytes at (record { kind = Mark; end = next; is_joint = joint })
mark_found bytes at next c joint place is behind small e n j =
    let no_tick : c ≡ 39 → ⊥ = λ t. (let f : front_of 39 ≡ mark = rw t at e in let g = front-tick in cc) in
    one_found bytes at next c Mark joint place is behind small (rw (e, ne_eqb c 47 n) refl)
    (λ m. joined_says c (rest_at bytes next) (rest_at bytes at) joint is no_tick j)

-- behind characters of ASCII that pass stand no others that do, unless one that isn't of ASCII stands there
past_narrow_is : (p : ℕ → Bool) (cs : List ℕ) → begins is_wide (past (narrow p) cs) ≡ false
    → past p cs ≡ past (narrow p) cs
past_narrow_is p [] h = refl
past_narrow_is p (c ∷ cs) h = elim (cases_lt c 128) [
  | inl l ↦ elim (cases_Bool (p c)) [
    | inl y ↦ rw (lt-ltb c 128 l, y) (past_narrow_is p cs (rw (lt-ltb c 128 l, y) at h))
    | inr n ↦ rw (lt-ltb c 128 l, n) refl
  ]
  | inr g ↦
      let narrow_c : is_wide c ≡ false = rw (le-ltb c 128 g) at h in
      let e : true ≡ false = sym (ap not (le-ltb c 128 g)) ∙ narrow_c in
      absurd cc
]

-- no literal and no raw identifier begins so
no_opener : (c : ℕ) (cs : List ℕ) → begins is_behind_prefix cs ≡ false → opener_of (c ∷ cs) ≡ None
unfolding opener_of
no_opener c [] h = refl
no_opener c (d ∷ cs) h =
    let (a, b) = or_parts (d == 34 || d == 35) (d == 39 || d == 114) h in
    let (quote, hash) = or_parts (d == 34) (d == 35) a in
    let (tick, raw) = or_parts (d == 39) (d == 114) b in
    rw (a, quote, tick, raw) (rw (and-false (c == 114), and-false (c == 98), and-false (c == 99)) refl)

no_raw_mark : (c : ℕ) (cs : List ℕ) → begins is_behind_prefix cs ≡ false → begins_raw_mark (c ∷ cs) ≡ false
no_raw_mark c [] h = and-false (c == 114)
no_raw_mark c (d ∷ cs) h =
    let (a, b) = or_parts (d == 34 || d == 35) (d == 39 || d == 114) h in
    let (quote, hash) = or_parts (d == 34) (d == 35) a in
    rw hash (and-false (c == 114))

plain_start : (c : ℕ) (cs : List ℕ) → may_open c cs ≡ false → word (c ∷ cs) ≡ Ends Ident (past is_next (c ∷ cs))
plain_start c cs h =
    ⊎_elim
    (λ p. plain_word (c ∷ cs) cs c refl p)
    (λ b. word_plain (c ∷ cs) (no_raw_mark c cs b) (no_opener c cs b))
    (and_cases (begins_prefix c) (begins is_behind_prefix cs) h)

first_is : (c : ℕ) → front_of c ≡ first → is_first c ≡ true
first_is c e = let P : Front → Type 0 = λ f. Says f c in subst P e (front_says c)

pub word_found : (bytes : List ℕ) (at next end c : ℕ) → IsPlace bytes at → rest_at bytes at ≡ c ∷ rest_at bytes next
    → IsBehind bytes at next → c < 128 → front_of c ≡ first → may_open c (rest_at bytes next) ≡ false
    → rest_at bytes end ≡ past (narrow is_next) (rest_at bytes next) → IsFrom bytes next end
    → begins is_wide (rest_at bytes end) ≡ false
    → IsNarrowAt bytes at (record { kind = Ident; end = end; is_joint = false })
word_found bytes at next end c place is behind small e other rest from_next w =
    let cs = rest_at bytes next in
    let letter = first_is c e in
    let over : begins is_wide (past (narrow is_next) cs) ≡ false = ap (begins is_wide) (sym rest) ∙ w in
    let word_is : word (c ∷ cs) ≡ Ends Ident (rest_at bytes end) = plain_start c cs other
    ∙ ap (Ends Ident) (past_word c cs letter ∙ past_narrow_is is_next cs over ∙ sym rest) in
    let more = passed (narrow is_next) cs in
    let joined : rest_at bytes at ≡ (c ∷ more.front) ++ rest_at bytes end =
    is ∙ ap (λ x. c ∷ x) (more.joined ∙ ap (λ x. more.front ++ x) (sym rest)) in
    let here : narrow is_next c ≡ true =
    and_from (nat_lt c 128) (is_next c) (lt-ltb c 128 small) (first-next c letter) in
    let on : at < end = let a = behind.on in let b = from_next.on in omega arith in
    narrow_found bytes (c ∷ more.front) at end Ident false is_next place
    (record { place = from_next.place; on = on }) joined
    (and_from (narrow is_next c) (passes (narrow is_next) more.front) here more.pass)
    (ap (scan_at at) is ∙ scan_anywhere at c cs small ∙ rw e word_is) (λ m. cc)

-- a piece is what its parts are
pub made : (bytes : List ℕ) (at end : ℕ) (piece : NarrowPiece) (k : PieceKind) (joint : Bool) → piece.kind ≡ k
    → piece.end ≡ end → piece.is_joint ≡ joint
    → IsNarrowAt bytes at (record { kind = k; end = end; is_joint = joint }) → IsNarrowAt bytes at piece
made bytes at end piece k joint a b d h =
    subst (λ x. IsNarrowAt bytes at (record { kind = x; end = piece.end; is_joint = piece.is_joint })) (sym a)
    (subst (λ x. IsNarrowAt bytes at (record { kind = k; end = x; is_joint = piece.is_joint })) (sym b)
    (subst (λ x. IsNarrowAt bytes at (record { kind = k; end = end; is_joint = x })) (sym d) h))
