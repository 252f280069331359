-- The suffixes of numbers, and those of literals of a class.
use Rattle.std.proofs.Common.{◌≡◌, ℕ, List, [], ◌∷◌, ◌++◌, refl, sym, ap, ◌∙◌, subst, arith, drop, ⊎_elim}
use Rattle.std.specs.Prelude.{Bool, true, false, ◌==◌, ◌||◌, if◌then◌else◌, Some, None}
use Rattle.std.proofs.lemmas.Bool.{or_parts, false≢true}
use Rattle.std.proofs.lemmas.Bool.Decides.{nat_tests}
use Rattle.std.proofs.lemmas.List.{append-nil}
use Rattle.rust_lex.specs.Chars.{is_digit, past}
use Rattle.rust_lex.specs.Number.{IsNumber, base_of, begins_exponent, begins_fraction, decimal_kind, is_digit_of}
use Rattle.rust_lex.specs.Number.{is_digit_of_or_line, is_digit_or_line, is_split, number_kind, past_based}
use Rattle.rust_lex.specs.Number.{past_decimal}
use Rattle.rust_lex.specs.Number.{past_exponent, past_fraction, past_lead, past_number}
use Rattle.rust_lex.specs.Quoted.{IsQuotedLiteral}
use Rattle.rust_lex.specs.declared.piece.LiteralKind.{LiteralKind}
use Rattle.rust_lex.specs.declared.piece.LiteralKind.TheVariants as kinds
use Rattle.syn_leaf.specs.Integers.{int_suffix}
use Rattle.syn_leaf.specs.Kinds.{IsKind}
use Rattle.syn_leaf.specs.Quoted.{HasSuffix, is_quoted}
use Rattle.syn_leaf.proofs.Apart.{quoted_kind}
use Rattle.syn_leaf.proofs.OfClass.{kind_had}

-- the digits of base 10
digit_same : (c : ℕ) → is_digit c ≡ is_digit_of 10 c
unfolding is_digit
digit_same c = grind (arith, nat_tests)

past_same : (cs : List ℕ) → past (is_digit_of_or_line 10) cs ≡ past is_digit_or_line cs
past_same [] = refl
past_same (c ∷ cs) =
    ap (λ v. if v then past (is_digit_of_or_line 10) cs else c ∷ cs) (ap (λ v. v || c == 95) (sym (digit_same c)))
    ∙ ap (λ x. if is_digit_or_line c then x else c ∷ cs) (past_same cs)

-- an integer in decimal has neither fraction nor exponent
whole : (cs rest : List ℕ) (split : Bool) → is_split cs ≡ split → past_decimal cs ≡ rest
    → kinds.Int ≡ (if split then kinds.Float else kinds.Int) → past (is_digit_of_or_line 10) cs ≡ rest
whole cs rest true s e k = cc
whole cs rest false s e k =
    let x = past is_digit_or_line cs in
    let parts = or_parts (begins_fraction x) (begins_exponent x) s in
    let fraction : past_fraction x ≡ x = ap (λ v. if v then past is_digit_or_line (drop 1 x) else x) parts.0 in
    let exponent : past_exponent x ≡ x =
    ap (λ v. if v then past is_digit_or_line (past_lead (drop 1 x)) else x) parts.1 in
    past_same cs ∙ sym (ap past_exponent fraction ∙ exponent) ∙ e

chosen : (b : Bool) (x rest : List ℕ) → (if b then Some x else None) ≡ Some rest → x ≡ rest
chosen true x rest e = cc
chosen false x rest e = cc

by_base : (b : Bool) (cs rest : List ℕ) → (if b then Some (past_decimal cs) else past_based (base_of cs) (drop 2 cs))
    ≡ Some rest
    → kinds.Int ≡ (if b then decimal_kind cs else kinds.Int)
    → past (is_digit_of_or_line (if b then 10 else base_of cs)) (if b then cs else drop 2 cs) ≡ rest
by_base true cs rest e k = let same : past_decimal cs ≡ rest = cc in whole cs rest (is_split cs) refl same k
by_base false cs rest e k = chosen _ _ rest e

int_past : (cs rest : List ℕ) → past_number cs ≡ Some rest → kinds.Int ≡ number_kind cs → int_suffix cs ≡ rest
unfolding past_number number_kind int_suffix
int_past cs rest e k = by_base (base_of cs == 0) cs rest e k

float_by : (b : Bool) (cs rest : List ℕ) → (if b then Some (past_decimal cs) else past_based (base_of cs) (drop 2 cs))
    ≡ Some rest
    → kinds.Float ≡ (if b then decimal_kind cs else kinds.Int) → past_decimal cs ≡ rest
float_by true cs rest e k = cc
float_by false cs rest e k = cc

float_past : (cs rest : List ℕ) → past_number cs ≡ Some rest → kinds.Float ≡ number_kind cs → past_decimal cs ≡ rest
unfolding past_number number_kind
float_past cs rest e k = float_by (base_of cs == 0) cs rest e k

-- a number's suffix is what stands behind it
suffixed : (kind : LiteralKind) (text : List ℕ) (behind : List ℕ → List ℕ) → is_quoted kind ≡ false
    → ((cs rest : List ℕ) → past_number cs ≡ Some rest → kind ≡ number_kind cs → behind cs ≡ rest)
    → IsKind kind text → HasSuffix kind text (behind text)
unfolding IsKind
suffixed kind text behind q f (body, suffix, e, b, s) = ⊎_elim quoted number b
  where
    quoted : IsQuotedLiteral kind body → HasSuffix kind text (behind text)
    quoted (mode, tail, k, g, t) = absurd (false≢true (sym q ∙ ap is_quoted k ∙ quoted_kind mode))

    number : IsNumber kind body (suffix ++ []) → HasSuffix kind text (behind text)
    number n =
        let all : body ++ (suffix ++ []) ≡ text = ap (λ x. body ++ x) (append-nil suffix) ∙ sym e in
        let is : behind text ≡ suffix =
        sym (ap behind all) ∙ f (body ++ (suffix ++ [])) (suffix ++ []) n.1 n.2 ∙ append-nil suffix in
        subst (HasSuffix kind text) (sym is) (record { body = body; joined = e; is = b; ends = s })

pub int_suffixed : (text suffix : List ℕ) → IsKind kinds.Int text → suffix ≡ int_suffix text
    → HasSuffix kinds.Int text suffix
int_suffixed text suffix k e =
    subst (HasSuffix kinds.Int text) (sym e) (suffixed kinds.Int text int_suffix refl int_past k)

pub float_suffixed : (text suffix : List ℕ) → IsKind kinds.Float text → suffix ≡ past_decimal text
    → HasSuffix kinds.Float text suffix
float_suffixed text suffix k e =
    subst (HasSuffix kinds.Float text) (sym e) (suffixed kinds.Float text past_decimal refl float_past k)

-- of a token's text
pub had_of : (k : LiteralKind) (text shown token : List ℕ) → text ≡ shown → shown ≡ token → ∥ IsKind k token ∥₁
    → IsKind k text
had_of k text shown token e f t = subst (IsKind k) (sym (e ∙ f)) (kind_had k token t)

pub suffix_of : (k : LiteralKind) (text shown token suffix : List ℕ) → text ≡ shown → shown ≡ token
    → HasSuffix k text suffix → HasSuffix k token suffix
suffix_of k text shown token suffix e f h = subst (λ x. HasSuffix k x suffix) (e ∙ f) h
