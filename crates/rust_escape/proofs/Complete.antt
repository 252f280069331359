-- A unit that stands at the front of a text is found.
use Rattle.std.proofs.Common.{◌≡◌, ℕ, ◌+◌, ◌*◌, ◌≤◌, ◌<◌, arith, List, [], ◌∷◌, ◌++◌, refl, sym, ap, ◌∙◌, subst}
use Rattle.std.proofs.Common.{⊎_elim, append_assoc, length}
use Rattle.std.specs.Prelude.{Bool, true, false, ◌&&◌, ◌==◌, Option, Some, None, not}
use Rattle.std.proofs.lemmas.Bool.{and_parts, and_left, and_right, cases_Bool, or_cases, eqb-true, lt-ltb, false≢true}
use Rattle.rust_escape.specs.Chars.{begins, passes, is_blank, is_hex_digit, hex_value, is_underscore, digits_of}
use Rattle.rust_escape.specs.Chars.{number_from, past}
use Rattle.rust_escape.specs.Escape.{IsEscape, simple, byte, unicode, simple_value, may_hold, is_hex_part}
use Rattle.rust_escape.specs.Mode.{Mode, Char, Byte, Str, RawStr, ByteStr, RawByteStr, CStr, RawCStr}
use Rattle.rust_escape.specs.Mode.{in_double_quotes, is_raw, holds_bytes}
use Rattle.rust_escape.specs.Unit.{Rule, Strict, IsUnit, plain, escape, skip, return, is_plain, is_skipped, NoUnit}
use Rattle.rust_escape.specs.Value.{Value, Character}
use Rattle.rust_escape.specs.Scan as scan
use Rattle.rust_escape.specs.Scan.{Scanned, Malformed, Reads, named}

-- a character of which two tests say different things
pub apart : (p : ℕ → Bool) (c d : ℕ) → p c ≡ true → p d ≡ false → (c == d) ≡ false
apart p c d h k = ⊎_elim (λ y. absurd (false≢true (sym k ∙ subst (λ x. p x ≡ true) (eqb-true c d y) h))) (λ n. n)
    (cases_Bool (c == d))

hex_apart : (c : ℕ) → is_hex_digit c ≡ true → ((c == 125) ≡ false) × ((c == 95) ≡ false)
unfolding is_hex_digit
hex_apart c h = (apart is_hex_digit c 125 h refl, apart is_hex_digit c 95 h refl)

underscore_apart : (c : ℕ) → (c == 95) ≡ true → (c == 125) ≡ false
underscore_apart c h = apart (λ x. x == 95) c 125 h refl

pub past_all : (p : ℕ → Bool) (cs rest : List ℕ) → passes p cs ≡ true → begins p rest ≡ false → past p (cs ++ rest)
    ≡ rest
past_all p [] [] h s = refl
past_all p [] (c ∷ rest) h s = rw s refl
past_all p (c ∷ cs) rest h s = let (a, b) = and_parts (p c) (passes p cs) h in rw a (past_all p cs rest b s)

digits_read : (mode : Mode) (inner : List ℕ) (count n : ℕ) (rest : List ℕ) → passes is_hex_part inner ≡ true
    → count + length (digits_of inner) ≤ 6
    → scan.digits mode count n (inner ++ 125 ∷ rest) ≡ named mode (number_from n (digits_of inner)) rest
unfolding scan.digits
digits_read mode [] count n rest h few = refl
digits_read mode (c ∷ cs) count n rest h few =
    let (a, b) = and_parts (is_hex_part c) (passes is_hex_part cs) h in
    ⊎_elim
    (λ y. rw (underscore_apart c y, y) (digits_read mode cs count n rest b (rw y at few)))
    (λ no_line.
    ⊎_elim
    (λ y. absurd (false≢true (sym no_line ∙ y)))
    (λ y. let few' = rw no_line at few in
    let lt : count < 6 = omega arith in
    rw ((hex_apart c y).0, no_line, y, lt-ltb count 6 lt)
    (digits_read mode cs (count + 1) (16 * n + hex_value c) rest b (omega arith)))
    (or_cases (is_underscore c) (is_hex_digit c) a))
    (cases_Bool (c == 95))

named_read : (mode : Mode) (n : ℕ) (rest : List ℕ) → holds_bytes mode ≡ false → lib.Utf8.scalar n ≡ true
    → may_hold mode n ≡ true → named mode n rest ≡ Reads (Some (Character n)) rest
named_read mode n rest a b c = rw (a, b, c) refl

none_some : {o : Option ℕ} {n : ℕ} → o ≡ None → o ≡ Some n → ⊥
none_some e h = cc

-- what a simple escape begins with is no x, no u, no line feed and no carriage return
pub simple_apart : (c n : ℕ) → simple_value c ≡ Some n
    → ((c == 120) ≡ false) × ((c == 117) ≡ false) × ((c == 10) ≡ false) × ((c == 13) ≡ false)
unfolding simple_value
simple_apart c n h =
    let off = λ (d : ℕ) (k : simple_value d ≡ None). ⊎_elim
    (λ (y : (c == d) ≡ true). let e : simple_value c
    ≡ None = ap simple_value (eqb-true c d y) ∙ k in absurd (none_some e h)) (λ (n : (c == d) ≡ false). n)
    (cases_Bool (c == d)) in
    (off 120 refl, off 117 refl, off 10 refl, off 13 refl)

-- an escape begins with no line feed
escape_apart : (mode : Mode) (cs rest : List ℕ) (v : Value) → IsEscape mode cs v → scan.slash mode (cs ++ rest)
    ≡ scan.escape mode (cs ++ rest)
unfolding scan.slash
escape_apart mode _ rest _ (simple {c} {n} e h) = rw (simple_apart c n e).2 refl
escape_apart mode _ rest _ (byte a b h) = refl
escape_apart mode _ rest _ (unicode inner a b c d e f) = refl

unicode_read : (mode : Mode) (inner rest : List ℕ) → begins is_hex_digit inner ≡ true
    → scan.unicode_escape mode (123 ∷ (inner ++ 125 ∷ rest)) ≡ scan.digits mode 0 0 (inner ++ 125 ∷ rest)
unfolding scan.unicode_escape
unicode_read mode [] rest h = cc
unicode_read mode (c ∷ cs) rest h = rw h refl

pub escape_read : (mode : Mode) (cs rest : List ℕ) (v : Value) → IsEscape mode cs v → scan.escape mode (cs ++ rest)
    ≡ Reads (Some v) rest
unfolding scan.escape scan.byte_escape
escape_read mode _ rest _ (simple {c} {n} e h) = let a = simple_apart c n e in rw (a.0, a.1, e, h) refl
escape_read mode _ rest _ (byte a b h) = rw (a, b, h) refl
escape_read mode _ rest _ (unicode inner a b c d e f) =
    rw (
      append_assoc inner (125 ∷ []) rest,
      unicode_read mode inner rest b,
      digits_read mode inner 0 0 rest c (omega arith),
    ) (named_read mode _ rest a e f)

-- in cooked literals a backslash isn't plain
plain_apart : (mode : Mode) (c : ℕ) → is_plain Strict mode c ≡ true → (c == 92 && not (is_raw mode)) ≡ false
plain_apart RawStr c h = and_right (c == 92) false refl
plain_apart RawByteStr c h = and_right (c == 92) false refl
plain_apart RawCStr c h = and_right (c == 92) false refl
plain_apart Char c h = and_left (c == 92) true (apart (is_plain Strict Char) c 92 h refl)
plain_apart Byte c h = and_left (c == 92) true (apart (is_plain Strict Byte) c 92 h refl)
plain_apart Str c h = and_left (c == 92) true (apart (is_plain Strict Str) c 92 h refl)
plain_apart ByteStr c h = and_left (c == 92) true (apart (is_plain Strict ByteStr) c 92 h refl)
plain_apart CStr c h = and_left (c == 92) true (apart (is_plain Strict CStr) c 92 h refl)

skip_read : (mode : Mode) (cs rest : List ℕ) → in_double_quotes mode ≡ true → is_skipped Strict cs ≡ true
    → begins is_blank rest ≡ false → scan.slash mode (cs ++ rest) ≡ Reads None rest
unfolding scan.slash
skip_read mode [] rest q h s = cc
skip_read mode (c ∷ cs) rest q h s =
    let (a, b) = and_parts (c == 10) (passes is_blank (c ∷ cs)) h in
    let (_, k) = and_parts (is_blank c) (passes is_blank cs) b in
    rw (a, q) (ap (λ r. Reads None r) (past_all is_blank cs rest k s))

pub unit_read : (rule : Rule) (mode : Mode) (cs rest : List ℕ) (v : Option Value) → rule ≡ Strict
    → IsUnit rule mode cs rest v → scan.scan mode (cs ++ rest) ≡ Reads v rest
unfolding scan.scan
unit_read rule mode _ rest _ e (plain {c = c} h) = let k = rw e at h in rw (plain_apart mode c k, k) refl
unit_read rule mode _ rest _ e (escape {cs = cs} {value = v} r h) =
    rw (r, escape_apart mode cs rest v h) (escape_read mode cs rest v h)
unit_read rule mode _ rest _ e (skip {cs = cs} r q h s) = let k = rw e at h in rw r (skip_read mode cs rest q k s)
unit_read rule mode _ _ _ e (return q) = cc

pub none_read : (mode : Mode) (text : List ℕ) → scan.scan mode text ≡ Malformed → NoUnit Strict mode text
none_read mode text e cs rest v joined h = let k : scan.scan mode (cs ++ rest) ≡ Reads v rest =
    unit_read Strict mode cs rest v refl h in cc
