-- What is written for an integer is a literal.
use Rattle.std.proofs.Common.{◌≡◌, ℕ, zero, suc, ◌+◌, ◌<◌, arith, List, [], ◌∷◌, ◌++◌, refl, sym, ap, ◌∙◌, subst}
use Rattle.std.proofs.Common.{inl, inr, ⊎_elim, ℤ, pos, negsuc}
use Rattle.std.specs.Prelude.{Bool, true, false, ◌==◌, ◌/◌, ◌%◌, nat_le, Some, if◌then◌else◌}
use Rattle.std.specs.Fmt.{digits, digits_onto, digit_glyph, decimal, signed_decimal}
use Rattle.std.proofs.Math.Nat.{mod-lt}
use Rattle.std.proofs.lemmas.Bool.{and_parts, and_from, or_left, cases_Bool, lt-ltb, le-leb}
use Rattle.std.proofs.lemmas.List.{append-nil}
use Rattle.unicode_ident.proofs.Computing.{unicode_ident}
use Rattle.rust_lex.specs.Chars.{is_among, is_first, is_digit, begins, passes, past}
use Rattle.rust_lex.specs.declared.piece.LiteralKind.TheVariants.{Int}
use Rattle.rust_lex.specs.Number.{is_digit_or_line, begins_fraction, begins_exponent, past_fraction, past_exponent}
use Rattle.rust_lex.specs.Number.{past_decimal, base_by, base_of, past_number, number_kind, decimal_kind}
use Rattle.rust_lex.specs.Piece.{IsSuffix, IsBody, IsLiteral}
use Rattle.rust_lex.proofs.Ends.{past_all}
use Rattle.rust_lex.proofs.Fronts.{among_each}
use Rattle.rust_leaf.specs.Integer.{IsIntegerSuffix}
use Rattle.rust_leaf.specs.Parse.{IsLiteralLeaf, IsLiteralText}
use Rattle.rust_lex.proofs.Quieter.{not_char}

-- decimal digits
glyph_digit : (d : ℕ) → d < 10 → is_digit (digit_glyph false d) ≡ true
unfolding is_digit
glyph_digit d h = rw (lt-ltb d 10 h)
    (and_from (nat_le 48 (48 + d)) (nat_le (48 + d) 57) (le-leb 48 (48 + d) (omega arith))
    (le-leb (48 + d) 57 (omega arith)))

remainder : (n : ℕ) → n % 10 < 10
remainder n = mod-lt n (omega arith)

onto_last : (k n : ℕ) (acc : List ℕ) → (n / 10 == 0) ≡ true
    → digits_onto (suc k) 10 false n acc ≡ digit_glyph false (n % 10) ∷ acc
onto_last k n acc h = rw h refl

onto_more : (k n : ℕ) (acc : List ℕ) → (n / 10 == 0) ≡ false
    → digits_onto (suc k) 10 false n acc ≡ digits_onto k 10 false (n / 10) (digit_glyph false (n % 10) ∷ acc)
onto_more k n acc h = rw h refl

onto_pass : (k n : ℕ) (acc : List ℕ) → passes is_digit acc ≡ true
    → passes is_digit (digits_onto k 10 false n acc) ≡ true
onto_pass zero n acc h = h
onto_pass (suc k) n acc h =
    let more : passes is_digit (digit_glyph false (n % 10) ∷ acc) ≡ true =
    and_from (is_digit (digit_glyph false (n % 10))) (passes is_digit acc) (glyph_digit (n % 10) (remainder n)) h in
    ⊎_elim
    (λ e. ap (passes is_digit) (onto_last k n acc e) ∙ more)
    (λ e. ap (passes is_digit) (onto_more k n acc e) ∙ onto_pass k (n / 10) (digit_glyph false (n % 10) ∷ acc) more)
    (cases_Bool (n / 10 == 0))

onto_begins : (k n : ℕ) (acc : List ℕ) → begins is_digit acc ≡ true
    → begins is_digit (digits_onto k 10 false n acc) ≡ true
onto_begins zero n acc h = h
onto_begins (suc k) n acc h =
    ⊎_elim
    (λ e. ap (begins is_digit) (onto_last k n acc e) ∙ glyph_digit (n % 10) (remainder n))
    (λ e. ap (begins is_digit) (onto_more k n acc e)
    ∙ onto_begins k (n / 10) (digit_glyph false (n % 10) ∷ acc) (glyph_digit (n % 10) (remainder n)))
    (cases_Bool (n / 10 == 0))

some_begins : (k n : ℕ) → begins is_digit (digits_onto (suc k) 10 false n []) ≡ true
some_begins k n =
    ⊎_elim
    (λ e. ap (begins is_digit) (onto_last k n [] e) ∙ glyph_digit (n % 10) (remainder n))
    (λ e. ap (begins is_digit) (onto_more k n [] e)
    ∙ onto_begins k (n / 10) (digit_glyph false (n % 10) ∷ []) (glyph_digit (n % 10) (remainder n)))
    (cases_Bool (n / 10 == 0))

decimal_pass : (n : ℕ) → passes is_digit (decimal n) ≡ true
unfolding digits
decimal_pass n = onto_pass 64 n [] refl

decimal_begins : (n : ℕ) → begins is_digit (decimal n) ≡ true
unfolding digits
decimal_begins n = some_begins 63 n

-- a suffix goes on with no number
suffix_cases : (P : ℕ → Type 0) → P 117 → P 105 → (c : ℕ) → is_among (117 ∷ 105 ∷ []) c ≡ true → P c
suffix_cases P u i c h = among_each P (117 ∷ 105 ∷ []) (u, (i, tt)) c h

is_suffix : (s : List ℕ) → IsIntegerSuffix s → IsSuffix s []
unfolding is_first unicode_ident
is_suffix [] h = refl
is_suffix (c ∷ cs) h = (suffix_cases (λ c. is_first c ≡ true) refl refl c h.0, h.1, refl)

no_digit : (s : List ℕ) → IsIntegerSuffix s → begins is_digit_or_line s ≡ false
unfolding is_digit
no_digit [] h = refl
no_digit (c ∷ cs) h = suffix_cases (λ c. is_digit_or_line c ≡ false) refl refl c h.0

no_fraction : (s : List ℕ) → IsIntegerSuffix s → begins_fraction s ≡ false
no_fraction [] h = refl
no_fraction (c ∷ cs) h = suffix_cases (λ c. begins_fraction (c ∷ cs) ≡ false) refl refl c h.0

no_exponent : (s : List ℕ) → IsIntegerSuffix s → begins_exponent s ≡ false
no_exponent [] h = refl
no_exponent (c ∷ cs) h = suffix_cases (λ c. begins_exponent (c ∷ cs) ≡ false) refl refl c h.0

digits_or_lines : (ds : List ℕ) → passes is_digit ds ≡ true → passes is_digit_or_line ds ≡ true
digits_or_lines [] h = refl
digits_or_lines (d ∷ ds) h =
    let (a, b) = and_parts (is_digit d) (passes is_digit ds) h in
    and_from (is_digit_or_line d) (passes is_digit_or_line ds) (or_left (is_digit d) (d == 95) a) (digits_or_lines ds b)

past_digits : (ds s : List ℕ) → passes is_digit ds ≡ true → IsIntegerSuffix s → past is_digit_or_line (ds ++ s) ≡ s
past_digits ds s p h = past_all is_digit_or_line ds s (digits_or_lines ds p) (no_digit s h)

past_parts : (s : List ℕ) → IsIntegerSuffix s → past_exponent (past_fraction s) ≡ s
past_parts s h = rw (no_fraction s h) (rw (no_exponent s h) refl)

past_them : (ds s : List ℕ) → passes is_digit ds ≡ true → IsIntegerSuffix s → past_decimal (ds ++ s) ≡ s
past_them ds s p h = ap (λ r. past_exponent (past_fraction r)) (past_digits ds s p h) ∙ past_parts s h

an_int : (ds s : List ℕ) → passes is_digit ds ≡ true → IsIntegerSuffix s → decimal_kind (ds ++ s) ≡ Int
an_int ds s p h = rw (past_digits ds s p h) (rw (no_fraction s h, no_exponent s h) refl)

-- and begins no prefix
plain_base : (c d : ℕ) → (d == 120) ≡ false → (d == 111) ≡ false → (d == 98) ≡ false → base_by c d ≡ 0
plain_base c d x o b = rw (x, o, b) (both (c == 48))
  where
    both : (t : Bool) → ◌≡◌ {A = ℕ} (if t then 0 else 0) 0
    both true = refl
    both false = refl

no_base : (ds s : List ℕ) → passes is_digit ds ≡ true → IsIntegerSuffix s → base_of (ds ++ s) ≡ 0
unfolding is_digit
no_base [] [] p h = refl
no_base [] (c ∷ []) p h = refl
no_base [] (c ∷ d ∷ s) p h = suffix_cases (λ c. base_by c d ≡ 0) refl refl c h.0
no_base (c ∷ []) [] p h = refl
no_base (c ∷ []) (d ∷ s) p h =
    suffix_cases (λ d. base_by c d ≡ 0) (plain_base c 117 refl refl refl) (plain_base c 105 refl refl refl) d h.0
no_base (c ∷ d ∷ ds) s p h =
    let (_, more) = and_parts (is_digit c) (passes is_digit (d ∷ ds)) p in
    let (a, _) = and_parts (is_digit d) (passes is_digit ds) more in
    plain_base c d (not_char is_digit d 120 refl a) (not_char is_digit d 111 refl a) (not_char is_digit d 98 refl a)

past_plain : (cs rest : List ℕ) → base_of cs ≡ 0 → past_decimal cs ≡ rest → past_number cs ≡ Some rest
unfolding past_number
past_plain cs rest b e = rw b (ap (λ r. Some r) e)

kind_plain : (cs : List ℕ) → base_of cs ≡ 0 → decimal_kind cs ≡ Int → Int ≡ number_kind cs
unfolding number_kind
kind_plain cs b e = rw b (sym e)

pub integer_is : (n : ℕ) (suffix : List ℕ) → IsIntegerSuffix suffix → IsLiteral Int (decimal n ++ suffix) []
integer_is n suffix h =
    let p = decimal_pass n in
    let b = no_base (decimal n) suffix p h in (
      decimal n,
      suffix,
      refl,
      subst (λ r. IsBody Int (decimal n) r) (sym (append-nil suffix))
          (inr (
            decimal_begins n,
            past_plain (decimal n ++ suffix) suffix b (past_them (decimal n) suffix p h),
            kind_plain (decimal n ++ suffix) b (an_int (decimal n) suffix p h),
          )),
      is_suffix suffix h,
    )

pub integer_literal : (n : ℕ) (suffix : List ℕ) → IsIntegerSuffix suffix → IsLiteralLeaf (decimal n ++ suffix)
integer_literal n suffix h = (Int, integer_is n suffix h)

-- also below zero
pub signed_literal : (z : ℤ) (suffix : List ℕ) → IsIntegerSuffix suffix → IsLiteralText (signed_decimal z ++ suffix)
signed_literal (pos n) suffix h = inl (integer_literal n suffix h)
signed_literal (negsuc n) suffix h = inr (Int, decimal (suc n) ++ suffix, refl, integer_is (suc n) suffix h, refl)
