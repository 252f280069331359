-- What is written in quotes is units that spell what was written, by either rule.
use Rattle.std.proofs.Common.{◌≡◌, ℕ, ◌<◌, ◌≤◌, arith, List, [], ◌∷◌, ◌++◌, length, refl, sym, ap, ◌∙◌, subst, ⊎_elim}
use Rattle.std.specs.Prelude.{Bool, true, false, cond, ◌&&◌, ◌||◌, ◌==◌, ◌/◌, ◌%◌, nat_lt, nat_le, not, Some, map}
use Rattle.std.specs.Char.{encode_utf8, IsScalar}
use Rattle.std.specs.Int.{is_in_range}
use Rattle.std.specs.List.{flat_map}
use Rattle.std.specs.Fmt.{digits, digit_glyph}
use Rattle.std.specs.Str.{StartsWithNoChar}
use Rattle.std.proofs.Math.Utf8.{scalar, scalars, scalar_cases}
use lib.Utf8.{low_scalar}
use Rattle.std.proofs.lemmas.Bool.{and_parts, and_from, or_parts, or_left, or_right, cases_Bool, eqb-true}
use Rattle.std.proofs.lemmas.Bool.{eqb-false, ne_eqb, lt-ltb, le-ltb, leb-true, ltb-true, ltb-false}
use Rattle.std.proofs.lemmas.Str.{encode_ascii}
use Rattle.rust_escape.specs.Chars.{is_among, is_hex_digit, hex_value, digits_of, hex_number}
use Rattle.rust_escape.specs.Escape.{simple, byte, unicode, simple_value, may_hold, may_hold_byte}
use Rattle.rust_escape.specs.Mode.{is_raw, holds_bytes, holds_c}
use Rattle.rust_escape.specs.Unit.{Rule, Lexical, Strict, IsUnit, plain, escape, barred, IsInside, empty, more}
use Rattle.rust_escape.specs.Value.{byte_value}
use Rattle.rust_escape.specs.declared.mode.Mode.{Mode}
use Rattle.rust_escape.specs.declared.mode.Mode.TheVariants.{Char, Byte, Str, ByteStr, CStr, RawStr, RawByteStr}
use Rattle.rust_escape.specs.declared.mode.Mode.TheVariants.{RawCStr}
use Rattle.rust_escape.specs.declared.value.Value.{Value}
use Rattle.rust_escape.specs.declared.value.Value.TheVariants.{Character, HighByte}
use Rattle.rust_leaf.specs.CString.{Part, AreParts, part_text, has_zero}
use Rattle.rust_leaf.specs.CString as written
use Rattle.rust_leaf.specs.Escaped.{is_bare, by_number, by_byte, zero_before, begins_octal, escaped_or, escaped}
use Rattle.rust_leaf.specs.Escaped.{escaped_all, escaped_byte, escaped_bytes}
use Rattle.rust_leaf.specs.Value.{AreBytes, value_bytes}
use Rattle.rust_leaf.proofs.Hex.{is_hex, are_both}

either : (P : List ℕ → Type 0) (b : Bool) (x y : List ℕ) → (b ≡ true → P x) → (b ≡ false → P y) → P (cond b x y)
either P true x y f g = f refl
either P false x y f g = g refl

-- what has no escape of its own
record IsOther (quote c : ℕ) : Type 0 where
  no_tab : (c == 9) ≡ false
  no_feed : (c == 10) ≡ false
  no_return : (c == 13) ≡ false
  no_slash : (c == 92) ≡ false
  no_quote : (c == quote) ≡ false

-- by its number
small : (c : ℕ) → scalar c ≡ true → c < 1114112
small c h = ⊎_elim (λ l. omega arith) (λ l. l.1) (scalar_cases c h)

-- bare
turned : (x y : ℕ) → (x == y) ≡ false → (y == x) ≡ false
turned x y h = ne_eqb y x (λ e. eqb-false x y h (sym e))

among_double : (c : ℕ) → IsOther 34 c → is_among (92 ∷ 34 ∷ 13 ∷ []) c ≡ false
among_double c h = rw (turned c 92 h.no_slash, turned c 34 h.no_quote, turned c 13 h.no_return) refl

among_single : (c : ℕ) → IsOther 39 c → is_among (92 ∷ 39 ∷ 13 ∷ 10 ∷ 9 ∷ []) c ≡ false
among_single c h = rw (
  turned c 92 h.no_slash,
  turned c 39 h.no_quote,
  turned c 13 h.no_return,
  turned c 10 h.no_feed,
  turned c 9 h.no_tab,
) refl

-- a byte
low_byte : (b : ℕ) → b < 128 → byte_value b ≡ Character b
low_byte b l = rw (lt-ltb b 128 l) refl

high_byte : (b : ℕ) → 128 ≤ b → byte_value b ≡ HighByte b
high_byte b l = rw (le-ltb b 128 l) refl

ascii : (b : ℕ) → is_in_range 32 126 b ≡ true → b < 128
ascii b h = let (_, k) = and_parts (nat_le 32 b) (nat_le b 126) h in let l = leb-true b 126 k in omega arith

-- C strings
abbrev pub part_value : Part → Value
part_value (written.Character c) = Character c
part_value (written.Loose b) = HighByte b

zero_has : (rest : List ℕ) → has_zero (encode_utf8 0 ++ rest) ≡ true
unfolding encode_utf8
zero_has rest = refl

no_zero : (c : ℕ) (rest : List ℕ) → has_zero (encode_utf8 c ++ rest) ≡ false → may_hold CStr c ≡ true
no_zero c rest h =
    ⊎_elim
    (λ y. let n : has_zero (encode_utf8 0 ++ rest)
    ≡ false = subst (λ x. has_zero (encode_utf8 x ++ rest) ≡ false) (eqb-true c 0 y) h in let k =
    zero_has rest in cc)
    (λ n. ap not n)
    (cases_Bool (c == 0))

no_zero_behind : (cs rest : List ℕ) → has_zero (cs ++ rest) ≡ false → has_zero rest ≡ false
no_zero_behind [] rest h = h
no_zero_behind (c ∷ cs) rest h = let (_, k) = or_parts (c == 0) (has_zero (cs ++ rest)) h in no_zero_behind cs rest k

bytes_behind : (cs rest : List ℕ) → AreBytes (cs ++ rest) → AreBytes rest
bytes_behind [] rest h = h
bytes_behind (c ∷ cs) rest h = bytes_behind cs rest h.1

-- a byte that begins no character is no ASCII
loose_high : (b : ℕ) (rest : List ℕ) → StartsWithNoChar (b ∷ rest) → 128 ≤ b
loose_high b rest n =
    ⊎_elim
    (λ y. let l = ltb-true b 128 y in absurd
    (n b rest (low_scalar b (omega arith)) (ap (λ x. x ++ rest) (sym (encode_ascii b l)))))
    (λ y. ltb-false b 128 y)
    (cases_Bool (nat_lt b 128))

-- what stands for itself by the strict rule does so by either
looser : (rule : Rule) (mode : Mode) (c : ℕ) → is_among (barred Strict mode) c ≡ false
    → is_among (barred rule mode) c ≡ false
looser Strict mode c h = h
looser Lexical Char c h = let (slash, _) = or_parts (92 == c) (is_among (39 ∷ 13 ∷ 10 ∷ 9 ∷ []) c) h in rw slash refl
looser Lexical Byte c h = let (slash, _) = or_parts (92 == c) (is_among (39 ∷ 13 ∷ 10 ∷ 9 ∷ []) c) h in rw slash refl
looser Lexical Str c h = h
looser Lexical ByteStr c h = h
looser Lexical CStr c h = h
looser Lexical RawStr c h = h
looser Lexical RawByteStr c h = h
looser Lexical RawCStr c h = h

module _ (rule : Rule) where
  -- the escapes with one letter
  letter : (mode : Mode) (d k c : ℕ) (rest : List ℕ) (v : Value) → is_raw mode ≡ false → simple_value d ≡ Some k
      → k < 128 → may_hold mode c ≡ true → (c < 128 → v ≡ Character c) → (c == k) ≡ true
      → IsUnit rule mode (92 ∷ d ∷ []) rest (Some v)
  letter mode d k c rest v r s l m f e =
      let same = eqb-true c k e in
      let value : v ≡ Character k = f (subst (λ x. x < 128) (sym same) l) ∙ ap Character same in
      subst (λ x. IsUnit rule mode (92 ∷ d ∷ []) rest (Some x)) (sym value)
      (escape r (simple s (subst (λ x. may_hold mode x ≡ true) same m)))

  zero_unit : (mode : Mode) (octal : Bool) (rest : List ℕ) → is_raw mode ≡ false → may_hold mode 0 ≡ true
      → IsUnit rule mode (zero_before octal) rest (Some (Character 0))
  unfolding simple_value is_hex_digit hex_value
  zero_unit mode true rest r m = escape r (byte refl refl (and_from (may_hold mode 0) true m refl))
  zero_unit mode false rest r m = escape r (simple refl m)

  zero : (mode : Mode) (octal : Bool) (c : ℕ) (rest : List ℕ) (v : Value) → is_raw mode ≡ false → may_hold mode c ≡ true
      → (c < 128 → v ≡ Character c) → (c == 0) ≡ true → IsUnit rule mode (zero_before octal) rest (Some v)
  zero mode octal c rest v r m f e =
      let same = eqb-true c 0 e in
      let value : v ≡ Character 0 = f (omega arith) ∙ ap Character same in
      subst (λ x. IsUnit rule mode (zero_before octal) rest (Some x)) (sym value)
      (zero_unit mode octal rest r (subst (λ x. may_hold mode x ≡ true) same m))

  or_unit : (mode : Mode) (quote c : ℕ) (next otherwise rest : List ℕ) (v : Value) → is_raw mode ≡ false
      → simple_value quote ≡ Some quote → quote < 128 → may_hold mode c ≡ true → (c < 128 → v ≡ Character c)
      → (IsOther quote c → IsUnit rule mode otherwise rest (Some v))
      → IsUnit rule mode (escaped_or quote c next otherwise) rest (Some v)
  unfolding simple_value
  or_unit mode quote c next otherwise rest v r s l m f g =
      let P = λ (x : List ℕ). IsUnit rule mode x rest (Some v) in
      either P (c == 9) _ _ (letter mode 116 9 c rest v r refl (omega arith) m f)
      (λ t. either P (c == 10) _ _ (letter mode 110 10 c rest v r refl (omega arith) m f)
      (λ n. either P (c == 13) _ _ (letter mode 114 13 c rest v r refl (omega arith) m f)
      (λ h. either P (c == 92) _ _ (letter mode 92 92 c rest v r refl (omega arith) m f)
      (λ b. either P (c == quote) _ _ (letter mode quote quote c rest v r s l m f)
      (λ q. either P (c == 0) _ _ (zero mode (begins_octal next) c rest v r m f)
      (λ z. g (record { no_tab = t; no_feed = n; no_return = h; no_slash = b; no_quote = q })))))))

  number_unit : (mode : Mode) (c : ℕ) (rest : List ℕ) → is_raw mode ≡ false → holds_bytes mode ≡ false → IsScalar c
      → may_hold mode c ≡ true → IsUnit rule mode (by_number c) rest (Some (Character c))
  unfolding by_number
  number_unit mode c rest r b s m =
      let h = is_hex c (small c s) in
      let ds = digits 16 false c in
      let same : hex_number (digits_of ds) ≡ c = ap hex_number h.digits ∙ h.number in
      subst (λ n. IsUnit rule mode (92 ∷ 117 ∷ 123 ∷ ds ++ 125 ∷ []) rest (Some (Character n))) same
      (escape r (unicode ds b h.first h.parts (subst (λ x. length x ≤ 6) (sym h.digits) h.few)
      (subst IsScalar (sym same) s) (subst (λ n. may_hold mode n ≡ true) (sym same) m)))

  byte_unit : (mode : Mode) (b : ℕ) (rest : List ℕ) → is_raw mode ≡ false → (holds_bytes mode || holds_c mode) ≡ true
      → may_hold mode b ≡ true → b < 256 → IsUnit rule mode (by_byte b) rest (Some (byte_value b))
  unfolding by_byte
  byte_unit mode b rest r k m l =
      let h = are_both b l in
      let held : may_hold_byte mode b ≡ true =
      and_from (may_hold mode b) (nat_lt b 128 || (holds_bytes mode || holds_c mode)) m
      (or_right (nat_lt b 128) (holds_bytes mode || holds_c mode) k) in
      subst (λ n. IsUnit rule mode (92 ∷ 120 ∷ digit_glyph true (b / 16) ∷ digit_glyph true (b % 16) ∷ []) rest
      (Some (byte_value n))) h.number
      (escape r (byte h.first h.second (subst (λ n. may_hold_byte mode n ≡ true) (sym h.number) held)))

  bare_unit : (mode : Mode) (c : ℕ) (rest : List ℕ) → is_among (barred Strict mode) c ≡ false → may_hold mode c ≡ true
      → (nat_lt c 128 || not (holds_bytes mode)) ≡ true → IsUnit rule mode (c ∷ []) rest (Some (Character c))
  bare_unit mode c rest a m n =
      plain (and_from (not (is_among (barred rule mode) c))
      (may_hold mode c && (nat_lt c 128 || not (holds_bytes mode))) (ap not (looser rule mode c a))
      (and_from (may_hold mode c) (nat_lt c 128 || not (holds_bytes mode)) m n))

  -- a character
  escaped_unit : (mode : Mode) (quote c : ℕ) (next rest : List ℕ) → is_raw mode ≡ false → holds_bytes mode ≡ false
      → simple_value quote ≡ Some quote → quote < 128
      → (IsOther quote c → is_among (barred Strict mode) c ≡ false) → IsScalar c → may_hold mode c ≡ true
      → IsUnit rule mode (escaped quote c next) rest (Some (Character c))
  unfolding escaped
  escaped_unit mode quote c next rest r b s l among sc m =
      or_unit mode quote c next _ rest (Character c) r s l m (λ _. refl)
      (λ h. either (λ x. IsUnit rule mode x rest (Some (Character c))) (is_bare c) _ _
      (λ _. bare_unit mode c rest (among h) m (or_right (nat_lt c 128) (not (holds_bytes mode)) (ap not b)))
      (λ _. number_unit mode c rest r b sc m))

  escaped_byte_unit : (mode : Mode) (quote b : ℕ) (next rest : List ℕ) → is_raw mode ≡ false → holds_bytes mode ≡ true
      → simple_value quote ≡ Some quote → quote < 128
      → (IsOther quote b → is_among (barred Strict mode) b ≡ false) → may_hold mode b ≡ true → b < 256
      → IsUnit rule mode (escaped_byte quote b next) rest (Some (byte_value b))
  unfolding escaped_byte
  escaped_byte_unit mode quote b next rest r k s l among m w =
      or_unit mode quote b next _ rest (byte_value b) r s l m (low_byte b)
      (λ h. either (λ x. IsUnit rule mode x rest (Some (byte_value b))) (is_in_range 32 126 b) _ _
      (λ y. subst (λ x. IsUnit rule mode (b ∷ []) rest (Some x)) (sym (low_byte b (ascii b y)))
      (bare_unit mode b rest (among h) m (or_left (nat_lt b 128) (not (holds_bytes mode)) (lt-ltb b 128 (ascii b y)))))
      (λ _. byte_unit mode b rest r (or_left (holds_bytes mode) (holds_c mode) k) m w))

  -- alone
  pub character_unit : (c : ℕ) (rest : List ℕ) → IsScalar c
      → IsUnit rule Char (escaped 39 c []) rest (Some (Character c))
  unfolding simple_value
  character_unit c rest s = escaped_unit Char 39 c [] rest refl refl refl (omega arith) (among_single c) s refl

  pub byte_character_unit : (b : ℕ) (rest : List ℕ) → b < 256
      → IsUnit rule Byte (escaped_byte 39 b []) rest (Some (byte_value b))
  unfolding simple_value
  byte_character_unit b rest l =
      escaped_byte_unit Byte 39 b [] rest refl refl refl (omega arith) (among_single b) refl l

  -- one behind the other
  pub string_inside : (cs rest : List ℕ) → scalars cs ≡ true
      → IsInside rule Str (escaped_all 34 cs) rest (map Character cs)
  unfolding simple_value
  string_inside [] rest h = empty
  string_inside (c ∷ cs) rest h =
      let (a, b) = and_parts (scalar c) (scalars cs) h in
      more (escaped_unit Str 34 c cs (escaped_all 34 cs ++ rest) refl refl refl (omega arith) (among_double c) a refl)
      (string_inside cs rest b)

  pub bytes_inside : (bs rest : List ℕ) → AreBytes bs
      → IsInside rule ByteStr (escaped_bytes 34 bs) rest (map byte_value bs)
  unfolding simple_value
  bytes_inside [] rest h = empty
  bytes_inside (b ∷ bs) rest h =
      more (escaped_byte_unit ByteStr 34 b bs (escaped_bytes 34 bs ++ rest) refl refl refl (omega arith)
      (among_double b) refl h.0) (bytes_inside bs rest h.1)

  loose_unit : (b : ℕ) (rest : List ℕ) → b < 256 → 128 ≤ b → may_hold CStr b ≡ true
      → IsUnit rule CStr (by_byte b) rest (Some (HighByte b))
  loose_unit b rest l h m = subst (λ x. IsUnit rule CStr (by_byte b) rest (Some x)) (high_byte b h)
      (byte_unit CStr b rest refl refl m l)

  -- C strings
  pub record Spells (behind text : List ℕ) (values : List Value) (bs : List ℕ) : Type 0 where
    pub units : IsInside rule CStr text behind values
    pub bytes : flat_map value_bytes values ≡ bs

  spell_on : (behind cs text : List ℕ) (v : Value) (values : List Value) (bs rest : List ℕ)
      → IsUnit rule CStr cs (text ++ behind) (Some v) → bs ≡ value_bytes v ++ rest → Spells behind text values rest
      → Spells behind (cs ++ text) (v ∷ values) bs
  spell_on behind cs text v values bs rest u e s =
      record { units = more u s.units; bytes = ap (λ x. value_bytes v ++ x) s.bytes ∙ sym e }

  pub c_inside : (behind : List ℕ) (ps : List Part) (bs : List ℕ) → AreParts ps bs → AreBytes bs → has_zero bs ≡ false
      → Spells behind (flat_map part_text ps) (map part_value ps) bs
  unfolding simple_value
  c_inside behind [] bs p b z = record { units = empty; bytes = sym p }
  c_inside behind (written.Character c ∷ ps) bs (rest, s, e, p) b z =
      let z' : has_zero (encode_utf8 c ++ rest) ≡ false = ap has_zero (sym e) ∙ z in
      let text = flat_map part_text ps in
      spell_on behind (escaped 34 c []) text (Character c) (map part_value ps) bs rest
      (escaped_unit CStr 34 c [] (text ++ behind) refl refl refl (omega arith) (among_double c) s (no_zero c rest z')) e
      (c_inside behind ps rest p (bytes_behind (encode_utf8 c) rest (subst AreBytes e b))
      (no_zero_behind (encode_utf8 c) rest z'))
  c_inside behind (written.Loose x ∷ ps) bs (rest, n, e, p) b z =
      let all : AreBytes (x ∷ rest) = subst AreBytes e b in
      let (k, l) = or_parts (x == 0) (has_zero rest) (ap has_zero (sym e) ∙ z) in
      let text = flat_map part_text ps in
      spell_on behind (by_byte x) text (HighByte x) (map part_value ps) bs rest
      (loose_unit x (text ++ behind) all.0 (loose_high x rest (subst StartsWithNoChar e n)) (ap not k)) e
      (c_inside behind ps rest p all.1 l)
