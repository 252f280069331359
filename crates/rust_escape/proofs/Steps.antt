-- What the search for a unit does at each character.
use Rattle.std.proofs.Common.{◌≡◌, ℕ, ◌+◌, ◌*◌, ◌^◌, ◌≤◌, ◌<◌, arith, List, [], ◌∷◌, refl, add-one}
use Rattle.std.proofs.Math.Nat.{pow-succ', pow-le-pow_right}
use Rattle.std.specs.Prelude.{Bool, true, false, ◌&&◌, ◌==◌, None, not, nat_lt}
use Rattle.std.proofs.lemmas.Bool.{ne_eqb, and_right, or_right, lt-ltb, le-ltb}
use Rattle.rust_escape.specs.Chars.{is_blank, is_hex_digit, is_underscore, hex_value, past}
use Rattle.rust_escape.specs.Escape.{is_hex_part, simple_value}
use Rattle.rust_escape.specs.Wrong.{past_digits}
use Rattle.rust_escape.specs.Mode.{Mode, in_double_quotes, is_raw}
use Rattle.rust_escape.specs.Places.{rest_at, IsPlace, IsScanned}
use Rattle.rust_escape.specs.Scan.{Scanned, Malformed, Reads, named, numbered, simple, byte_escape, unicode_escape}
use Rattle.rust_escape.specs.Scan.{digits, escape, slash, one, scan}
use Rattle.rust_escape.specs.declared.read.Reading.{Reading}
use Rattle.rust_escape.proofs.PlacesLemmas.{rest_end}

pub byte_none : (mode : Mode) → byte_escape mode [] ≡ Malformed
unfolding byte_escape
byte_none mode = refl

pub byte_short : (mode : Mode) (c : ℕ) → byte_escape mode (c ∷ []) ≡ Malformed
unfolding byte_escape
byte_short mode c = refl

pub byte_high : (mode : Mode) (c : ℕ) (cs : List ℕ) → is_hex_digit c ≡ false → byte_escape mode (c ∷ cs) ≡ Malformed
unfolding byte_escape
byte_high mode c [] h = refl
byte_high mode c (d ∷ cs) h = rw h refl

pub byte_low : (mode : Mode) (c d : ℕ) (cs : List ℕ) → is_hex_digit c ≡ true → is_hex_digit d ≡ false
    → byte_escape mode (c ∷ d ∷ cs) ≡ Malformed
unfolding byte_escape
byte_low mode c d cs h k = rw (h, k) refl

pub byte_both : (mode : Mode) (c d : ℕ) (cs : List ℕ) → is_hex_digit c ≡ true → is_hex_digit d ≡ true
    → byte_escape mode (c ∷ d ∷ cs) ≡ numbered mode (16 * hex_value c + hex_value d) cs
unfolding byte_escape
byte_both mode c d cs h k = rw (h, k) refl

pub ruleset bytes = (rest_end, byte_none, byte_short, byte_high, byte_low, byte_both)

pub digits_end : (mode : Mode) (count n : ℕ) → digits mode count n [] ≡ Malformed
unfolding digits
digits_end mode count n = refl

pub digits_close : (mode : Mode) (count n c : ℕ) (cs : List ℕ) → c ≡ 125 → digits mode count n (c ∷ cs)
    ≡ named mode n cs
unfolding digits
digits_close mode count n c cs e = rw e refl

pub digits_line : (mode : Mode) (count n c : ℕ) (cs : List ℕ) → c ≡ 95 → digits mode count n (c ∷ cs)
    ≡ digits mode count n cs
unfolding digits
digits_line mode count n c cs e = rw e refl

pub digits_wrong : (mode : Mode) (count n c : ℕ) (cs : List ℕ) → (c ≡ 125 → ⊥) → (c ≡ 95 → ⊥) → is_hex_digit c ≡ false
    → digits mode count n (c ∷ cs) ≡ Malformed
unfolding digits
digits_wrong mode count n c cs h k e = rw (ne_eqb c 125 h, ne_eqb c 95 k, e) refl

pub digits_over : (mode : Mode) (count n c : ℕ) (cs : List ℕ) → (c ≡ 125 → ⊥) → (c ≡ 95 → ⊥) → 6 ≤ count
    → digits mode count n (c ∷ cs) ≡ Malformed
unfolding digits
digits_over mode count n c cs h k e =
    rw (ne_eqb c 125 h, ne_eqb c 95 k, and_right (is_hex_digit c) (nat_lt count 6) (le-ltb count 6 e)) refl

pub digits_more : (mode : Mode) (count n c d : ℕ) (cs : List ℕ) → (c ≡ 125 → ⊥) → (c ≡ 95 → ⊥) → is_hex_digit c ≡ true
    → d ≡ hex_value c → count < 6 → digits mode count n (c ∷ cs) ≡ digits mode (count + 1) (16 * n + d) cs
unfolding digits
digits_more mode count n c d cs h k e v l = rw (ne_eqb c 125 h, ne_eqb c 95 k, e, lt-ltb count 6 l, v) refl

-- how far a malformed escape reaches, one character on
pub over_end : past_digits [] ≡ []
over_end = refl

pub over_digit : (c : ℕ) (cs : List ℕ) → is_hex_digit c ≡ true → past is_hex_part (c ∷ cs) ≡ past is_hex_part cs
over_digit c cs h = rw (h, or_right (is_underscore c) true refl) refl

pub over_line : (c : ℕ) (cs : List ℕ) → c ≡ 95 → past is_hex_part (c ∷ cs) ≡ past is_hex_part cs
over_line c cs e = rw e refl

pub over_other : (c : ℕ) (cs : List ℕ) → (c ≡ 95 → ⊥) → is_hex_digit c ≡ false → past is_hex_part (c ∷ cs) ≡ c ∷ cs
over_other c cs n h = rw (ne_eqb c 95 n, h) refl

pub brace_digit : is_hex_digit 125 ≡ false
unfolding is_hex_digit
brace_digit = refl

pub over_brace : (c : ℕ) (cs : List ℕ) → c ≡ 125 → past is_hex_part (c ∷ cs) ≡ c ∷ cs
over_brace c cs e = rw (e, brace_digit) refl

-- so many digits spell less
pub digit_fits : (count n d : ℕ) → n < 16 ^ count → d < 16 → 16 * n + d < 16 ^ (count + 1)
digit_fits count n d h k = rw (add-one, pow-succ') (omega arith)

pub digits_fit : (count n : ℕ) → n < 16 ^ count → count < 6 → n < 16 ^ 5
digits_fit count n h k =
    let some : 0 < 16 = omega arith in
    let few : count ≤ 5 = omega arith in
    let le : 16 ^ count ≤ 16 ^ 5 = pow-le-pow_right some few in omega arith

pub ruleset spelled = (
  rest_end,
  digits_end,
  digits_close,
  digits_line,
  digits_wrong,
  digits_over,
  digits_more,
  digit_fits,
  digits_fit,
  over_digit,
  over_line,
  over_other,
  over_brace,
)

pub ruleset overs = (rest_end, over_digit, over_line, over_other, over_brace)

-- count digits of the number are read
pub record Spells (mode : Mode) (bytes : List ℕ) (start at count n : ℕ) : Type 0 where
  pub same : digits mode count n (rest_at bytes at) ≡ digits mode 0 0 (rest_at bytes start)
  pub place : IsPlace bytes at
  pub on : start ≤ at
  pub few : count ≤ 6
  pub small : n < 16 ^ count
  pub over : past is_hex_part (rest_at bytes at) ≡ past is_hex_part (rest_at bytes start)

-- the loop stands at a place, up to which digits and underscores stand
pub record Goes (bytes : List ℕ) (start at : ℕ) : Type 0 where
  pub place : IsPlace bytes at
  pub on : start ≤ at
  pub over : past is_hex_part (rest_at bytes at) ≡ past is_hex_part (rest_at bytes start)

pub unicode_none : (mode : Mode) → unicode_escape mode [] ≡ Malformed
unfolding unicode_escape
unicode_none mode = refl

pub unicode_short : (mode : Mode) (c : ℕ) → unicode_escape mode (c ∷ []) ≡ Malformed
unfolding unicode_escape
unicode_short mode c = refl

pub unicode_no_brace : (mode : Mode) (c : ℕ) (cs : List ℕ) → (c ≡ 123 → ⊥) → unicode_escape mode (c ∷ cs) ≡ Malformed
unfolding unicode_escape
unicode_no_brace mode c [] h = refl
unicode_no_brace mode c (d ∷ cs) h = rw (ne_eqb c 123 h) refl

pub unicode_no_digit : (mode : Mode) (c d : ℕ) (cs : List ℕ) → is_hex_digit d ≡ false → unicode_escape mode (c ∷ d ∷ cs)
    ≡ Malformed
unfolding unicode_escape
unicode_no_digit mode c d cs h = rw (and_right (c == 123) (is_hex_digit d) h) refl

pub unicode_digits : (mode : Mode) (c d : ℕ) (cs : List ℕ) → c ≡ 123 → is_hex_digit d ≡ true
    → unicode_escape mode (c ∷ d ∷ cs) ≡ digits mode 0 0 (d ∷ cs)
unfolding unicode_escape
unicode_digits mode c d cs e h = rw (e, h) refl

pub ruleset unicodes = (rest_end, unicode_none, unicode_short, unicode_no_brace, unicode_no_digit, unicode_digits)

pub escape_none : (mode : Mode) → escape mode [] ≡ Malformed
unfolding escape
escape_none mode = refl

pub escape_x : (mode : Mode) (c : ℕ) (cs : List ℕ) → c ≡ 120 → escape mode (c ∷ cs) ≡ byte_escape mode cs
unfolding escape
escape_x mode c cs e = rw e refl

pub escape_u : (mode : Mode) (c : ℕ) (cs : List ℕ) → c ≡ 117 → escape mode (c ∷ cs) ≡ unicode_escape mode cs
unfolding escape
escape_u mode c cs e = rw e refl

pub escape_other : (mode : Mode) (c : ℕ) (cs : List ℕ) → (c ≡ 120 → ⊥) → (c ≡ 117 → ⊥) → escape mode (c ∷ cs)
    ≡ simple mode (simple_value c) cs
unfolding escape
escape_other mode c cs h k = rw (ne_eqb c 120 h, ne_eqb c 117 k) refl

pub ruleset escapes = (rest_end, escape_none, escape_x, escape_u, escape_other)

pub past_none : (p : ℕ → Bool) → past p [] ≡ []
past_none p = refl

pub past_more : (p : ℕ → Bool) (c : ℕ) (cs : List ℕ) → p c ≡ true → past p (c ∷ cs) ≡ past p cs
past_more p c cs h = rw h refl

pub past_here : (p : ℕ → Bool) (c : ℕ) (cs : List ℕ) → p c ≡ false → past p (c ∷ cs) ≡ c ∷ cs
past_here p c cs h = rw h refl

-- the blanks from the place on end where those from the start on do
pub record Passes (bytes : List ℕ) (start at : ℕ) : Type 0 where
  pub same : past is_blank (rest_at bytes at) ≡ past is_blank (rest_at bytes start)
  pub place : IsPlace bytes at
  pub on : start ≤ at

pub slash_none : (mode : Mode) → slash mode [] ≡ escape mode []
unfolding slash escape
slash_none mode = refl

pub slash_skip : (mode : Mode) (c : ℕ) (cs : List ℕ) → c ≡ 10 → in_double_quotes mode ≡ true → slash mode (c ∷ cs)
    ≡ Reads None (past is_blank cs)
unfolding slash
slash_skip mode c cs e h = rw (e, h) refl

pub slash_alone : (mode : Mode) (c : ℕ) (cs : List ℕ) → in_double_quotes mode ≡ false → slash mode (c ∷ cs)
    ≡ escape mode (c ∷ cs)
unfolding slash
slash_alone mode c cs h = rw (and_right (c == 10) (in_double_quotes mode) h) refl

pub slash_other : (mode : Mode) (c : ℕ) (cs : List ℕ) → (c ≡ 10 → ⊥) → slash mode (c ∷ cs) ≡ escape mode (c ∷ cs)
unfolding slash
slash_other mode c cs h = rw (ne_eqb c 10 h) refl

pub ruleset slashes = (rest_end, slash_none, slash_skip, slash_alone, slash_other)

pub scan_slash : (mode : Mode) (c : ℕ) (cs : List ℕ) → (c == 92 && not (is_raw mode)) ≡ true → scan mode (c ∷ cs)
    ≡ slash mode cs
unfolding scan
scan_slash mode c cs h = rw h refl

pub scan_one : (mode : Mode) (c : ℕ) (cs : List ℕ) → (c == 92 && not (is_raw mode)) ≡ false → scan mode (c ∷ cs)
    ≡ one mode c cs
unfolding scan
scan_one mode c cs h = rw h refl

-- what is read from the next place on is what is sought from this one on
pub scanned_next : (bytes : List ℕ) (start next : ℕ) (reading : Reading) (sought also : Scanned) → sought ≡ also
    → start ≤ next → IsScanned bytes next reading also → IsScanned bytes start reading sought
scanned_next bytes start next reading sought also e l s =
    record { same = rw e s.same; place = s.place; on = omega (arith, s.on) }
