-- C strings, read from their front.
use Rattle.std.proofs.Common.{◌≡◌, ℕ, ◌+◌, ◌<◌, ◌≤◌, List, [], ◌∷◌, ◌++◌, length, take, drop, refl, sym, ◌∙◌, ap}
use Rattle.std.proofs.Common.{subst, arith, append_assoc, ◌-◌, min, inl, inr}
use Rattle.std.proofs.Math.Nat.{eq-or-lt_of_le}
use Rattle.std.specs.Char.{encode_utf8, IsScalar}
use Rattle.std.specs.Str.{IsUtf8, StartsWithNoChar}
use Rattle.std.specs.Char.{len_utf8}
use Rattle.std.proofs.Math.Seq.{take-append_seam}
use Rattle.std.proofs.lemmas.List.{append-nil, take-append-drop, take_rest, length-append, length-take}
use Rattle.std.proofs.lemmas.Str.{encode_same, IsUtf8-encode, length-encode, len_utf8_bounds, drop_past_char}
use Rattle.rust_leaf.specs.CString.{Part, Character, Loose, AreParts, AreWritten}
use Rattle.rust_leaf.specs.Escaped.{escaped, by_byte}

-- what is written behind a character, and behind a loose byte
pub character_written : (bs rest text : List ℕ) (c : ℕ) → IsScalar c → bs ≡ encode_utf8 c ++ rest → AreWritten rest text
    → AreWritten bs (escaped 34 c [] ++ text)
character_written bs rest text c s e w = record {
  parts = Character c ∷ w.parts;
  read = (rest, s, e, w.read);
  same = ap (λ x. escaped 34 c [] ++ x) w.same;
}

pub byte_written : (bs rest text : List ℕ) (b : ℕ) → StartsWithNoChar bs → bs ≡ b ∷ rest → AreWritten rest text
    → AreWritten bs (by_byte b ++ text)
byte_written bs rest text b n e w = record {
  parts = Loose b ∷ w.parts;
  read = (rest, n, e, w.read);
  same = ap (λ x. by_byte b ++ x) w.same;
}

pub nothing_written : (bs : List ℕ) → bs ≡ [] → AreWritten bs []
nothing_written bs e = record { parts = []; read = e; same = refl }

-- `out` has become `new`, which has what is written of `bs` up to `rest`
pub record HasWritten (bs rest out new : List ℕ) : Type 0 where
  pub done : List ℕ
  pub appended : new ≡ out ++ done
  pub goes_on : (text : List ℕ) → AreWritten rest text → AreWritten bs (done ++ text)

pub written_none : (bs out : List ℕ) → HasWritten bs bs out out
written_none bs out = record { done = []; appended = sym (append-nil out); goes_on = λ text w. w }

pub written_character : (bs rest next out new newer : List ℕ) (c : ℕ) → HasWritten bs rest out new → IsScalar c
    → rest ≡ encode_utf8 c ++ next → newer ≡ new ++ escaped 34 c [] → HasWritten bs next out newer
written_character bs rest next out new newer c h s e n = record {
  done = h.done ++ escaped 34 c [];
  appended = n ∙ ap (λ x. x ++ escaped 34 c []) h.appended ∙ append_assoc out h.done (escaped 34 c []);
  goes_on = λ text w. subst (AreWritten bs) (sym (append_assoc h.done (escaped 34 c []) text))
      (h.goes_on (escaped 34 c [] ++ text) (character_written rest next text c s e w));
}

pub written_byte : (bs rest next out new newer : List ℕ) (b : ℕ) → HasWritten bs rest out new → StartsWithNoChar rest
    → rest ≡ b ∷ next → newer ≡ new ++ by_byte b → HasWritten bs next out newer
written_byte bs rest next out new newer b h s e n = record {
  done = h.done ++ by_byte b;
  appended = n ∙ ap (λ x. x ++ by_byte b) h.appended ∙ append_assoc out h.done (by_byte b);
  goes_on = λ text w. subst (AreWritten bs) (sym (append_assoc h.done (by_byte b) text))
      (h.goes_on (by_byte b ++ text) (byte_written rest next text b s e w));
}

pub written_all : (bs rest out new : List ℕ) → HasWritten bs rest out new → length rest ≡ 0
    → (inside : List ℕ) × AreWritten bs inside × (new ≡ out ++ inside)
written_all bs [] out new h e =
    (h.done, subst (AreWritten bs) (append-nil h.done) (h.goes_on [] (nothing_written [] refl)), h.appended)
written_all bs (b ∷ rest) out new h e = cc

-- a front of the bytes begins with a character, and so do they
pub first_split : (bs r : List ℕ) (len c width : ℕ) → width ≡ len_utf8 c → take len bs ≡ encode_utf8 c ++ r
    → bs ≡ encode_utf8 c ++ take (length bs - width) (drop width bs)
first_split bs r len c width w e = whole
    ∙ ap (λ x. encode_utf8 c ++ x) (sym (take_rest bs width ∙ ap (λ n. drop n bs) w ∙ past))
  where
    whole : bs ≡ encode_utf8 c ++ (r ++ drop len bs)
    whole = sym (take-append-drop len bs) ∙ ap (λ x. x ++ drop len bs) e ∙ append_assoc (encode_utf8 c) r (drop len bs)

    past : drop (len_utf8 c) bs ≡ r ++ drop len bs
    past = let e : 0 + len_utf8 c ≡ len_utf8 c =
        omega arith in subst (λ n. drop n bs ≡ r ++ drop len bs) e (drop_past_char bs (r ++ drop len bs) 0 c whole)

-- a front that isn't empty has a character
pub front_filled : (bs text : List ℕ) (len most : ℕ) → text ≡ take len bs → length text ≡ 0 → 1 ≤ len → len < most + 1
    → most ≡ min (length bs) 4 → ⊥
front_filled bs text len most e z l m n = omega (arith, length-take len bs, ap length e)

-- where no short front is UTF-8, no character begins
pub no_char : (bs : List ℕ) (len most : ℕ) → most ≡ min (length bs) 4 → most < len
    → ((k : ℕ) → 0 < k → k < len → IsUtf8 (take k bs) → ⊥) → StartsWithNoChar bs
no_char bs len most m l none c rest s e =
    let w = length-encode c in
    let b = len_utf8_bounds c in
    let whole : length bs ≡ length (encode_utf8 c) + length rest = ap length e ∙ length-append (encode_utf8 c) rest in
    let front : take (length (encode_utf8 c)) bs ≡ encode_utf8 c = ap (take (length (encode_utf8 c))) e
    ∙ take-append_seam (encode_utf8 c) rest in
    none (length (encode_utf8 c)) (omega arith) (omega arith) (subst IsUtf8 (sym front) (IsUtf8-encode c s))

-- one more front is tried
pub one_more : (P : ℕ → Type 0) (len : ℕ) → ((k : ℕ) → 0 < k → k < len → P k → ⊥) → (P len → ⊥) → (k : ℕ) → 0 < k
    → k < len + 1 → P k → ⊥
one_more P len below here k z l p =
    elim (eq-or-lt_of_le {n = k} {m = len} (omega arith)) [ inl h ↦ here (subst P h p) | inr h ↦ below k z h p ]

-- a character takes a byte at least
pub shorter : (bs rest : List ℕ) (c : ℕ) → bs ≡ encode_utf8 c ++ rest → length rest < length bs
shorter bs rest c e = omega (arith, ap length e, length-append (encode_utf8 c) rest, length-encode c, len_utf8_bounds c)

no_char_in_none : (c : ℕ) (rest : List ℕ) → [] ≡ encode_utf8 c ++ rest → ⊥
no_char_in_none c rest e =
    omega (arith, ap length e, length-append (encode_utf8 c) rest, length-encode c, len_utf8_bounds c)

part_same : (ps qs : List Part) (p q : Part) → p ≡ q → ps ≡ qs → p ∷ ps ≡ q ∷ qs
part_same ps qs p q e f = cc

-- bytes are read in one way
pub one_reading : (ps qs : List Part) (bs : List ℕ) → AreParts ps bs → AreParts qs bs → ps ≡ qs
one_reading [] [] bs a b = refl
one_reading [] (Character c ∷ qs) bs a (rest, s, e, b) = absurd (no_char_in_none c rest (sym a ∙ e))
one_reading [] (Loose y ∷ qs) bs a (rest, n, e, b) = cc
one_reading (Character c ∷ ps) [] bs (rest, s, e, a) b = absurd (no_char_in_none c rest (sym b ∙ e))
one_reading (Loose x ∷ ps) [] bs (rest, n, e, a) b = cc
one_reading (Character c ∷ ps) (Character d ∷ qs) bs (rest, s, e, a) (next, t, f, b) =
    let (h, k) = encode_same c d rest next (sym e ∙ f) in
    part_same ps qs (Character c) (Character d) (ap Character h)
    (one_reading ps qs rest a (subst (AreParts qs) (sym k) b))
one_reading (Character c ∷ ps) (Loose y ∷ qs) bs (rest, s, e, a) (next, n, f, b) = absurd (n c rest s e)
one_reading (Loose x ∷ ps) (Character d ∷ qs) bs (rest, n, e, a) (next, t, f, b) = absurd (n d next t f)
one_reading (Loose x ∷ ps) (Loose y ∷ qs) bs (rest, n, e, a) (next, m, f, b) =
    let h : x ∷ rest ≡ y ∷ next = sym e ∙ f in
    let k : rest ≡ next = cc in
    part_same ps qs (Loose x) (Loose y) (cc) (one_reading ps qs rest a (subst (AreParts qs) (sym k) b))
