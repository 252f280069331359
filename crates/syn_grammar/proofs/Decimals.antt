-- An index in plain decimal is written so, and holds no dot.
use Rattle.std.proofs.Common.{◌≡◌, ℕ, zero, suc, ◌+◌, ◌*◌, ◌<◌, List, [], ◌∷◌, refl, sym, ap, ◌∙◌, arith}
use Rattle.std.specs.Prelude.{Bool, true, false, ◌==◌, nat_lt, if◌then◌else◌, Option, Some, None, ◌/◌, ◌%◌}
use Rattle.std.proofs.lemmas.Bool.{eqb-true, ltb-true, lt-ltb}
use Rattle.std.specs.Fmt.{decimal, digits, digits_onto, digit_glyph}
use Rattle.syn_grammar.specs.Words.{number_behind, integer, before_dot, behind_dots, texts_of, indices, or_zero}
use Rattle.syn_grammar.specs.Words.{plain_decimal}

-- the digits below ten
digit_cases : (P : ℕ → Type 0) → P 0 → P 1 → P 2 → P 3 → P 4 → P 5 → P 6 → P 7 → P 8 → P 9 → (d : ℕ) → d < 10 → P d
digit_cases P p0 p1 p2 p3 p4 p5 p6 p7 p8 p9 zero h = p0
digit_cases P p0 p1 p2 p3 p4 p5 p6 p7 p8 p9 (suc zero) h = p1
digit_cases P p0 p1 p2 p3 p4 p5 p6 p7 p8 p9 (suc (suc zero)) h = p2
digit_cases P p0 p1 p2 p3 p4 p5 p6 p7 p8 p9 (suc (suc (suc zero))) h = p3
digit_cases P p0 p1 p2 p3 p4 p5 p6 p7 p8 p9 (suc (suc (suc (suc zero)))) h = p4
digit_cases P p0 p1 p2 p3 p4 p5 p6 p7 p8 p9 (suc (suc (suc (suc (suc zero))))) h = p5
digit_cases P p0 p1 p2 p3 p4 p5 p6 p7 p8 p9 (suc (suc (suc (suc (suc (suc zero)))))) h = p6
digit_cases P p0 p1 p2 p3 p4 p5 p6 p7 p8 p9 (suc (suc (suc (suc (suc (suc (suc zero))))))) h = p7
digit_cases P p0 p1 p2 p3 p4 p5 p6 p7 p8 p9 (suc (suc (suc (suc (suc (suc (suc (suc zero)))))))) h = p8
digit_cases P p0 p1 p2 p3 p4 p5 p6 p7 p8 p9 (suc (suc (suc (suc (suc (suc (suc (suc (suc zero))))))))) h = p9
digit_cases P p0 p1 p2 p3 p4 p5 p6 p7 p8 p9 (suc (suc (suc (suc (suc (suc (suc (suc (suc (suc d)))))))))) h =
    absurd (omega (arith, h))

-- read back, behind a number
digit_read : (n : ℕ) (cs : List ℕ) (d : ℕ) → d < 10
    → number_behind 10 n (digit_glyph false d ∷ cs) ≡ number_behind 10 (n * 10 + d) cs
digit_read n cs d h =
    digit_cases (λ d. number_behind 10 n (digit_glyph false d ∷ cs) ≡ number_behind 10 (n * 10 + d) cs) refl refl refl
    refl refl refl refl refl refl refl d h

rest_below : (n : ℕ) → n % 10 < 10
rest_below n = omega arith

same_number : (n : ℕ) → n / 10 * 10 + n % 10 ≡ n
same_number n = omega arith

-- numbers of k digits and one more
bound : ℕ → ℕ
bound zero = 10
bound (suc k) = 10 * bound k

none_left : (n : ℕ) → (n / 10 == 0) ≡ true → 0 * 10 + n % 10 ≡ n
none_left n e = let f : n / 10 ≡ 0 = eqb-true (n / 10) 0 e in omega (arith, f)

some_left : (n : ℕ) → n < 10 → (n / 10 == 0) ≡ true
some_left n h = let f : n / 10 ≡ 0 = omega (arith, h) in ap (λ k. k == 0) f

read_more : (b : Bool) (n : ℕ) (cs others : List ℕ) → (b ≡ true → 0 * 10 + n % 10 ≡ n)
    → (b ≡ false → number_behind 10 0 others ≡ number_behind 10 (n / 10) (digit_glyph false (n % 10) ∷ cs))
    → number_behind 10 0 (if b then digit_glyph false (n % 10) ∷ cs else others) ≡ number_behind 10 n cs
read_more true n cs others f g = digit_read 0 cs (n % 10) (rest_below n) ∙ ap (λ m. number_behind 10 m cs) (f refl)
read_more false n cs others f g = g refl ∙ digit_read (n / 10) cs (n % 10) (rest_below n)
    ∙ ap (λ m. number_behind 10 m cs) (same_number n)

onto_read : (k n : ℕ) (cs : List ℕ) → n < bound k
    → number_behind 10 0 (digits_onto (suc k) 10 false n cs) ≡ number_behind 10 n cs
unfolding bound
onto_read zero n cs h = read_more (n / 10 == 0) n cs (digit_glyph false (n % 10) ∷ cs) (none_left n)
    (λ e. let f : true ≡ false = sym (some_left n h) ∙ e in cc f)
onto_read (suc k) n cs h =
    read_more (n / 10 == 0) n cs (digits_onto (suc k) 10 false (n / 10) (digit_glyph false (n % 10) ∷ cs)) (none_left n)
    (λ e. onto_read k (n / 10) (digit_glyph false (n % 10) ∷ cs) (omega (arith, h)))

-- its first digit is not zero, unless it is all
record Starts (cs : List ℕ) : Type 0 where
  digit : ℕ
  others : List ℕ
  some : 0 < digit
  below : digit < 10
  is : cs ≡ digit_glyph false digit ∷ others

starts_more : (b : Bool) (n : ℕ) (cs others : List ℕ) → 0 < n → (b ≡ true → 0 * 10 + n % 10 ≡ n)
    → (b ≡ false → Starts others) → Starts (if b then digit_glyph false (n % 10) ∷ cs else others)
starts_more true n cs others h f g =
    record { digit = n % 10; others = cs; some = omega (arith, h, f refl); below = rest_below n; is = refl }
starts_more false n cs others h f g = g refl

not_none : (n : ℕ) → (n / 10 == 0) ≡ false → 0 < n / 10
not_none n e = go (n / 10) e
  where
    go : (m : ℕ) → (m == 0) ≡ false → 0 < m
    go zero e = cc
    go (suc m) e = omega arith

onto_starts : (k n : ℕ) (cs : List ℕ) → 0 < n → n < bound k → Starts (digits_onto (suc k) 10 false n cs)
unfolding bound
onto_starts zero n cs p h = starts_more (n / 10 == 0) n cs (digit_glyph false (n % 10) ∷ cs) p (none_left n)
    (λ e. let f : true ≡ false = sym (some_left n h) ∙ e in cc f)
onto_starts (suc k) n cs p h =
    starts_more (n / 10 == 0) n cs (digits_onto (suc k) 10 false (n / 10) (digit_glyph false (n % 10) ∷ cs)) p
    (none_left n)
    (λ e. onto_starts k (n / 10) (digit_glyph false (n % 10) ∷ cs) (not_none n e) (omega (arith, h)))

-- it holds no dot
dotless : List ℕ → Bool
dotless [] = true
dotless (c ∷ cs) = if c == 46 then false else dotless cs

glyph_dotless : (d : ℕ) (cs : List ℕ) → d < 10 → dotless cs ≡ true → dotless (digit_glyph false d ∷ cs) ≡ true
unfolding dotless
glyph_dotless d cs h e = digit_cases (λ d. dotless (digit_glyph false d ∷ cs) ≡ true) e e e e e e e e e e d h

either_dotless : (b : Bool) (xs ys : List ℕ) → dotless xs ≡ true → dotless ys ≡ true
    → dotless (if b then xs else ys) ≡ true
either_dotless true xs ys e f = e
either_dotless false xs ys e f = f

onto_dotless : (k n : ℕ) (cs : List ℕ) → dotless cs ≡ true → dotless (digits_onto k 10 false n cs) ≡ true
onto_dotless zero n cs e = e
onto_dotless (suc k) n cs e =
    let f = glyph_dotless (n % 10) cs (rest_below n) e in
    either_dotless (n / 10 == 0) (digit_glyph false (n % 10) ∷ cs)
    (digits_onto k 10 false (n / 10) (digit_glyph false (n % 10) ∷ cs)) f (onto_dotless k (n / 10) _ f)

step_before : (b : Bool) (c : ℕ) (cs xs : List ℕ) (d : Bool) → (if b then false else d) ≡ true → (d ≡ true → xs ≡ cs)
    → (if b then [] else c ∷ xs) ≡ c ∷ cs
step_before true c cs xs d e f = cc
step_before false c cs xs d e f = ap (λ ys. c ∷ ys) (f e)

before_all : (cs : List ℕ) → dotless cs ≡ true → before_dot cs ≡ cs
unfolding dotless
before_all [] e = refl
before_all (c ∷ cs) e = step_before (c == 46) c cs (before_dot cs) (dotless cs) e (before_all cs)

step_behind : (b : Bool) (text : List ℕ) (xs : List (List ℕ)) (d : Bool) → (if b then false else d) ≡ true
    → (d ≡ true → xs ≡ []) → (if b then text ∷ xs else xs) ≡ []
step_behind true text xs d e f = cc
step_behind false text xs d e f = f e

behind_none : (cs : List ℕ) → dotless cs ≡ true → behind_dots cs ≡ []
unfolding dotless
behind_none [] e = refl
behind_none (c ∷ cs) e = step_behind (c == 46) (before_dot cs) (behind_dots cs) (dotless cs) e (behind_none cs)

-- the index that it writes
small : (o : Option ℕ) → or_zero o < 4294967296
small None = omega arith
small (Some n) = go (nat_lt n 4294967296) refl
  where
    go : (b : Bool) → nat_lt n 4294967296 ≡ b → (if b then n else 0) < 4294967296
    go true e = ltb-true n 4294967296 e
    go false e = omega arith

of_small : (n : ℕ) → n < 4294967296 → or_zero (Some n) ≡ n
of_small n h = ap (λ b. if b then n else 0) (lt-ltb n 4294967296 h)

integer_starts : (d : ℕ) (cs : List ℕ) → 0 < d → d < 10
    → integer (digit_glyph false d ∷ cs) ≡ number_behind 10 0 (digit_glyph false d ∷ cs)
integer_starts d cs p h =
    digit_cases (λ d. 0 < d → integer (digit_glyph false d ∷ cs) ≡ number_behind 10 0 (digit_glyph false d ∷ cs))
    (λ q. absurd (omega (arith, q))) (λ q. refl) (λ q. refl) (λ q. refl) (λ q. refl) (λ q. refl) (λ q. refl) (λ q. refl)
    (λ q. refl) (λ q. refl) d h p

in_bound : (n : ℕ) → n < 4294967296 → n < bound 63
unfolding bound
in_bound n h = omega (arith, h)

pub integer_decimal : (n : ℕ) → n < 4294967296 → integer (decimal n) ≡ Some n
unfolding digits
integer_decimal zero h = refl
integer_decimal (suc n) h =
    let b : suc n < bound 63 = in_bound (suc n) h in
    let s = onto_starts 63 (suc n) [] (omega arith) b in
    ap integer s.is ∙ integer_starts s.digit s.others s.some s.below ∙ ap (number_behind 10 0) (sym s.is)
    ∙ onto_read 63 (suc n) [] b

pub decimal_twice : (cs : List ℕ) → plain_decimal (plain_decimal cs) ≡ plain_decimal cs
unfolding plain_decimal
decimal_twice cs =
    let n : ℕ = or_zero (integer cs) in
    let h : n < 4294967296 = small (integer cs) in
    ap (λ o. decimal (or_zero o)) (integer_decimal n h) ∙ ap decimal (of_small n h)

pub one_index : (cs : List ℕ) → indices (plain_decimal cs) ≡ plain_decimal cs ∷ []
unfolding plain_decimal digits dotless
one_index cs =
    let e = onto_dotless 64 (or_zero (integer cs)) [] refl in
    ap (λ xs. before_dot (plain_decimal cs) ∷ texts_of xs) (behind_none (plain_decimal cs) e)
    ∙ ap (λ x. x ∷ []) (before_all (plain_decimal cs) e)
