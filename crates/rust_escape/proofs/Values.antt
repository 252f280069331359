-- The values that the units of each kind of literal spell.
use Rattle.std.proofs.Common.{◌≡◌, ℕ, zero, suc, ◌≤◌, ◌<◌, arith, List, refl, subst, inl, inr, ⊎_elim}
use Rattle.std.specs.Prelude.{Bool, true, false, cond, ◌⊎◌, ◌||◌, ◌&&◌, ◌==◌, Option, Some, not, nat_lt, IfSome}
use Rattle.std.proofs.lemmas.Bool.{and_parts, or_left, or_right, cases_Bool, ltb-true, ltb-false, or_cases}
use Rattle.std.proofs.lemmas.Bool.{not_from_false}
use Rattle.rust_escape.specs.Escape.{IsEscape, simple, byte, unicode, simple_value, may_hold, may_hold_byte}
use Rattle.rust_escape.specs.Mode.{Mode, is_raw, holds_bytes, holds_c}
use Rattle.rust_escape.specs.Unit.{Rule, Strict, Lexical, IsUnit, plain, escape, skip, return, is_plain}
use Rattle.rust_escape.specs.Value.{Value, Character, HighByte, byte_value, IsCharacter, IsByte, IsNonZeroCharacter}
use Rattle.rust_escape.specs.Value.{IsMixed}
use Rattle.rust_escape.specs.Calls.{TakesUnits}

-- a literal of the kind may spell the value
abbrev Holds : Mode → Value → Type 0
Holds mode (Character c) = (may_hold mode c ≡ true) × ((nat_lt c 128 || not (holds_bytes mode)) ≡ true)
Holds mode (HighByte b) = (128 ≤ b) × ((holds_bytes mode || holds_c mode) ≡ true) × (is_raw mode ≡ false)

chosen : {X : Type 0} (b : Bool) (x y z : X) → cond b x y ≡ z → ((b ≡ true) × (x ≡ z)) ⊎ ((b ≡ false) × (y ≡ z))
chosen true x y z e = inl (refl, e)
chosen false x y z e = inr (refl, e)

below : (m n : ℕ) → nat_lt m 128 ≡ true → Some m ≡ Some n → nat_lt n 128 ≡ true
below m n h e = let same : m ≡ n = cc in subst (λ x. nat_lt x 128 ≡ true) same h

simple_small : (c n : ℕ) → simple_value c ≡ Some n → nat_lt n 128 ≡ true
unfolding simple_value
simple_small c n e =
    ⊎_elim (λ h. below 10 n refl h.1) (λ h.
    ⊎_elim (λ h. below 13 n refl h.1) (λ h.
    ⊎_elim (λ h. below 9 n refl h.1) (λ h.
    ⊎_elim (λ h. below 92 n refl h.1) (λ h.
    ⊎_elim (λ h. below 0 n refl h.1) (λ h.
    ⊎_elim (λ h. below 39 n refl h.1) (λ h.
    ⊎_elim (λ h. below 34 n refl h.1) (λ h. cc)
    (chosen (c == 34) _ _ _ h.1)) (chosen (c == 39) _ _ _ h.1)) (chosen (c == 48) _ _ _ h.1))
    (chosen (c == 92) _ _ _ h.1)) (chosen (c == 116) _ _ _ h.1)) (chosen (c == 114) _ _ _ h.1))
    (chosen (c == 110) _ _ _ e)

byte_holds : (mode : Mode) (n : ℕ) → is_raw mode ≡ false → may_hold_byte mode n ≡ true → Holds mode (byte_value n)
byte_holds mode n r h =
    let (held, more) = and_parts (may_hold mode n) (nat_lt n 128 || (holds_bytes mode || holds_c mode)) h in
    ⊎_elim
    (λ y. rw y (held, or_left (nat_lt n 128) (not (holds_bytes mode)) y))
    (λ no. rw no (ltb-false n 128 no, rw no at more, r))
    (cases_Bool (nat_lt n 128))

escape_holds : (mode : Mode) (cs : List ℕ) (v : Value) → is_raw mode ≡ false → IsEscape mode cs v → Holds mode v
escape_holds mode _ _ r (simple {c} {n} e h) = (h, or_left (nat_lt n 128) (not (holds_bytes mode)) (simple_small c n e))
escape_holds mode _ _ r (byte {high} {low} a b h) = byte_holds mode _ r h
escape_holds mode _ _ r (unicode inner a b c d e f) =
    (f, or_right (nat_lt _ 128) (not (holds_bytes mode)) (not_from_false (holds_bytes mode) a))

unit_holds : (rule : Rule) (mode : Mode) (cs rest : List ℕ) (o : Option Value) → rule ≡ Strict
    → IsUnit rule mode cs rest o → IfSome o (Holds mode)
unit_holds rule mode _ rest _ e (plain {c = c} h) =
    let (_, more) = and_parts (not
    (Rattle.rust_escape.specs.Chars.is_among (Rattle.rust_escape.specs.Unit.barred rule mode) c))
    (may_hold mode c && (nat_lt c 128 || not (holds_bytes mode))) h in
    and_parts (may_hold mode c) (nat_lt c 128 || not (holds_bytes mode)) more
unit_holds rule mode _ rest _ e (escape {cs = cs} {value = v} r h) = escape_holds mode cs v r h
unit_holds rule mode _ rest _ e (skip r q h s) = tt
unit_holds rule mode _ _ _ e (return q) = cc

holds : (mode : Mode) (cs rest : List ℕ) (v : Value) → IsUnit Strict mode cs rest (Some v) → Holds mode v
holds mode cs rest v h = unit_holds Strict mode cs rest (Some v) refl h

-- in texts
in_text : (mode : Mode) (v : Value) → (holds_bytes mode || holds_c mode) ≡ false → Holds mode v → IsCharacter v
in_text mode (Character c) f h = tt
in_text mode (HighByte b) f h = cc

in_bytes : (mode : Mode) (v : Value) → holds_bytes mode ≡ true → Holds mode v → IsByte v
in_bytes mode (Character c) f h =
    ltb-true c 128 (⊎_elim (λ y. y) (λ n. let k = rw f at n in cc)
    (or_cases (nat_lt c 128) (not (holds_bytes mode)) h.1))
in_bytes mode (HighByte b) f h = h.0

-- no zero
positive : (n : ℕ) → not (n == 0) ≡ true → 0 < n
positive zero h = cc
positive (suc n) h = omega arith

not_zero : (mode : Mode) (n : ℕ) → holds_c mode ≡ true → may_hold mode n ≡ true → 0 < n
not_zero mode n f h = let k : not (n == 0) ≡ true = rw f at h in positive n k

in_c : (mode : Mode) (v : Value) → holds_c mode ≡ true → Holds mode v → IsMixed v
in_c mode (Character c) f h = not_zero mode c f h.0
in_c mode (HighByte b) f h = h.0

in_raw_c : (mode : Mode) (v : Value) → holds_c mode ≡ true → is_raw mode ≡ true → Holds mode v → IsNonZeroCharacter v
in_raw_c mode (Character c) f r h = not_zero mode c f h.0
in_raw_c mode (HighByte b) f r h = cc

pub takes_texts : (mode : Mode) → (holds_bytes mode || holds_c mode) ≡ false → TakesUnits IsCharacter mode
takes_texts mode f cs rest v h = in_text mode v f (holds mode cs rest v h)

pub takes_bytes : (mode : Mode) → holds_bytes mode ≡ true → TakesUnits IsByte mode
takes_bytes mode f cs rest v h = in_bytes mode v f (holds mode cs rest v h)

pub takes_c : (mode : Mode) → holds_c mode ≡ true → TakesUnits IsMixed mode
takes_c mode f cs rest v h = in_c mode v f (holds mode cs rest v h)

pub takes_raw_c : (mode : Mode) → holds_c mode ≡ true → is_raw mode ≡ true → TakesUnits IsNonZeroCharacter mode
takes_raw_c mode f r cs rest v h = in_raw_c mode v f r (holds mode cs rest v h)
