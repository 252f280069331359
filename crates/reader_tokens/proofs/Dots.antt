-- Dots in texts.
use Rattle.std.proofs.Common.{◌≡◌, ℕ, ◌+◌, ◌*◌, ◌<◌, ◌≤◌, List, [], ◌∷◌, refl, sym, ap, ◌∙◌, arith}
use Rattle.std.specs.Prelude.{Bool, true, false, ◌&&◌, ◌==◌, ◌⊎◌, nat_lt, if◌then◌else◌, Option, Some, None}
use Rattle.std.proofs.lemmas.Bool.Decides.{nat_tests}
use Rattle.std.proofs.lemmas.Bool.{eqb-true, ne_eqb}
use Rattle.syn_grammar.specs.Words.{based_number, before_dot, behind_dots, digit, indices, indices_to_dot, integer}
use Rattle.syn_grammar.specs.Words.{is_below}
use Rattle.syn_grammar.specs.Words.{is_index, last_is_dot, number_behind, texts_of}
use Rattle.reader_tokens.specs.Texts.{IsFrom, Reads}
use Rattle.reader_tokens.proofs.Numbers.{next_digit, next_line, wrong_digit}

-- whether the last of these characters is a dot; of none, what is said
abbrev pub last_behind : Bool → List ℕ → Bool
last_behind b [] = b
last_behind b (c ∷ cs) = last_behind (c == 46) cs

last_of : (c : ℕ) (cs : List ℕ) → last_behind (c == 46) cs ≡ last_is_dot (c ∷ cs)
last_of c [] = refl
last_of c (d ∷ cs) = last_of d cs

pub last_begun : (cs : List ℕ) → last_behind false cs ≡ last_is_dot cs
last_begun [] = refl
last_begun (c ∷ cs) = last_of c cs

pub last_next : (b : Bool) (c : ℕ) (cs ds : List ℕ) (w : Bool) → ds ≡ c ∷ cs → last_behind b ds ≡ w
    → last_behind (c == 46) cs ≡ w
last_next b c cs ds w e h = ap (last_behind b) (sym e) ∙ h

pub last_ended : (b : Bool) (ds : List ℕ) (w : Bool) → ds ≡ [] → last_behind b ds ≡ w → b ≡ w
last_ended b ds w e h = ap (last_behind b) (sym e) ∙ h

-- at a dot, and at another character
at_dot : (cs : List ℕ) → before_dot (46 ∷ cs) ≡ []
at_dot cs = refl

before_other : (c : ℕ) (cs : List ℕ) → (c ≡ 46 → ⊥) → before_dot (c ∷ cs) ≡ c ∷ before_dot cs
before_other c cs h = ap (λ v. if v then [] else c ∷ before_dot cs) (ne_eqb c 46 h)

behind_other : (c : ℕ) (cs : List ℕ) → (c ≡ 46 → ⊥) → behind_dots (c ∷ cs) ≡ behind_dots cs
behind_other c cs h = ap (λ v. if v then before_dot cs ∷ behind_dots cs else behind_dots cs) (ne_eqb c 46 h)

-- a number that is read, of more in front too
next : (c : ℕ) (cs ds : List ℕ) (v w : Option ℕ) (o : Option (ℕ × List ℕ)) → ds ≡ c ∷ cs → (c ≡ 46 → ⊥) → v ≡ w
    → Reads v cs o → Reads w ds o
next c cs ds v w None e h s i = ap (is_below 4294967296) (sym s) ∙ i
next c cs ds v w (Some r) e h s i =
    (sym s ∙ i.0, (i.1.0, i.1.1 ∙ sym (behind_other c cs h) ∙ ap behind_dots (sym e)))

same : (ds : List ℕ) (v w : Option ℕ) (o : Option (ℕ × List ℕ)) → v ≡ w → Reads v ds o → Reads w ds o
same ds v w None s i = ap (is_below 4294967296) (sym s) ∙ i
same ds v w (Some r) s i = (sym s ∙ i.0, i.1)

-- a number behind 0
pub based_end : (ds : List ℕ) → ds ≡ [] → Reads (based_number (before_dot ds)) ds (Some (0, ds))
based_end ds e = (ap (λ x. based_number (before_dot x)) e, (ap before_dot e, refl))

pub based_dot : (c : ℕ) (cs ds : List ℕ) → ds ≡ c ∷ cs → c ≡ 46 → Reads (based_number (before_dot ds)) ds (Some (0, ds))
based_dot c cs ds e h =
    let f : ds ≡ 46 ∷ cs = e ∙ ap (λ d. d ∷ cs) h in
    (ap (λ x. based_number (before_dot x)) f, (ap before_dot f, refl))

not_dot : (c d : ℕ) → c ≡ d → (d ≡ 46 → ⊥) → c ≡ 46 → ⊥
not_dot c d h f g = f (sym h ∙ g)

pub based_hex : (c : ℕ) (cs ds : List ℕ) (o : Option (ℕ × List ℕ)) → ds ≡ c ∷ cs → c ≡ 120
    → Reads (number_behind 16 0 (before_dot cs)) cs o → Reads (based_number (before_dot ds)) ds o
based_hex c cs ds o e h i =
    next c cs ds _ _ o e (λ g. omega (arith, g, h))
    (sym (ap (λ x. based_number (before_dot x)) (e ∙ ap (λ d. d ∷ cs) h))) i

pub based_octal : (c : ℕ) (cs ds : List ℕ) (o : Option (ℕ × List ℕ)) → ds ≡ c ∷ cs → c ≡ 111
    → Reads (number_behind 8 0 (before_dot cs)) cs o → Reads (based_number (before_dot ds)) ds o
based_octal c cs ds o e h i =
    next c cs ds _ _ o e (λ g. omega (arith, g, h))
    (sym (ap (λ x. based_number (before_dot x)) (e ∙ ap (λ d. d ∷ cs) h))) i

pub based_binary : (c : ℕ) (cs ds : List ℕ) (o : Option (ℕ × List ℕ)) → ds ≡ c ∷ cs → c ≡ 98
    → Reads (number_behind 2 0 (before_dot cs)) cs o → Reads (based_number (before_dot ds)) ds o
based_binary c cs ds o e h i =
    next c cs ds _ _ o e (λ g. omega (arith, g, h))
    (sym (ap (λ x. based_number (before_dot x)) (e ∙ ap (λ d. d ∷ cs) h))) i

plain : (c : ℕ) (cs : List ℕ) → (c == 120) ≡ false → (c == 111) ≡ false → (c == 98) ≡ false
    → number_behind 10 0 (c ∷ cs) ≡ based_number (c ∷ cs)
plain c cs x o b = sym (
    ap (λ v. if v then number_behind 16 0 cs else if c == 111 then number_behind 8 0 cs
    else if c == 98 then number_behind 2 0 cs else number_behind 10 0 (c ∷ cs)) x
    ∙ ap (λ v. if v then number_behind 8 0 cs else if c == 98 then number_behind 2 0 cs
    else number_behind 10 0 (c ∷ cs)) o
    ∙ ap (λ v. if v then number_behind 2 0 cs else number_behind 10 0 (c ∷ cs)) b)

pub based_plain : (c : ℕ) (cs ds : List ℕ) (o : Option (ℕ × List ℕ)) → ds ≡ c ∷ cs → (c ≡ 120 → ⊥) → (c ≡ 111 → ⊥)
    → (c ≡ 98 → ⊥) → (c ≡ 46 → ⊥) → Reads (number_behind 10 0 (before_dot ds)) ds o
    → Reads (based_number (before_dot ds)) ds o
based_plain c cs ds o e x y b h i =
    let f : before_dot ds ≡ c ∷ before_dot cs = ap before_dot e ∙ before_other c cs h in
    same ds _ _ o
    (ap (number_behind 10 0) f
    ∙ plain c (before_dot cs) (ne_eqb c 120 x) (ne_eqb c 111 y) (ne_eqb c 98 b)
    ∙ ap based_number (sym f)) i

-- an integer
pub integer_end : (ds : List ℕ) → ds ≡ [] → Reads (integer (before_dot ds)) ds None
integer_end ds e = ap (λ x. is_below 4294967296 (integer (before_dot x))) e

pub integer_dot : (c : ℕ) (cs ds : List ℕ) → ds ≡ c ∷ cs → c ≡ 46 → Reads (integer (before_dot ds)) ds None
integer_dot c cs ds e h =
    ap (λ x. is_below 4294967296 (integer (before_dot x))) (e ∙ ap (λ d. d ∷ cs) h)

pub integer_zero : (c : ℕ) (cs ds : List ℕ) (o : Option (ℕ × List ℕ)) → ds ≡ c ∷ cs → c ≡ 48
    → Reads (based_number (before_dot cs)) cs o → Reads (integer (before_dot ds)) ds o
integer_zero c cs ds o e h i =
    next c cs ds _ _ o e (λ g. omega (arith, g, h))
    (sym (ap (λ x. integer (before_dot x)) (e ∙ ap (λ d. d ∷ cs) h))) i

by_first : (c : ℕ) (cs : List ℕ) (v : Bool) → (c == 48) ≡ false → nat_lt (digit c) 10 ≡ v
    → integer (c ∷ cs) ≡ (if v then number_behind 10 0 (c ∷ cs) else None)
by_first c cs v z d =
    ap (λ b. if b then based_number cs else if nat_lt (digit c) 10 then number_behind 10 0 (c ∷ cs) else None) z
    ∙ ap (λ b. if b then number_behind 10 0 (c ∷ cs) else None) d

first_is : (c : ℕ) (cs ds : List ℕ) → ds ≡ c ∷ cs → (c ≡ 46 → ⊥) → before_dot ds ≡ c ∷ before_dot cs
first_is c cs ds e h = ap before_dot e ∙ before_other c cs h

is_digit : (c : ℕ) → digit c < 10 → nat_lt (digit c) 10 ≡ true
is_digit c h = grind (arith, nat_tests)

no_digit : (c : ℕ) → (digit c < 10 → ⊥) → nat_lt (digit c) 10 ≡ false
no_digit c h = grind (arith, nat_tests)

pub integer_digit : (c : ℕ) (cs ds : List ℕ) (o : Option (ℕ × List ℕ)) → ds ≡ c ∷ cs → (c ≡ 46 → ⊥) → (c ≡ 48 → ⊥)
    → digit c < 10 → Reads (number_behind 10 0 (before_dot ds)) ds o → Reads (integer (before_dot ds)) ds o
integer_digit c cs ds o e h z d i =
    let f = first_is c cs ds e h in
    same ds _ _ o
    (ap (number_behind 10 0) f ∙ sym (by_first c (before_dot cs) true (ne_eqb c 48 z) (is_digit c d))
    ∙ ap integer (sym f)) i

pub integer_other : (c : ℕ) (cs ds : List ℕ) → ds ≡ c ∷ cs → (c ≡ 46 → ⊥) → (c ≡ 48 → ⊥) → (digit c < 10 → ⊥)
    → Reads (integer (before_dot ds)) ds None
integer_other c cs ds e h z d =
    ap (λ x. is_below 4294967296 (integer x)) (first_is c cs ds e h)
    ∙ ap (is_below 4294967296) (by_first c (before_dot cs) false (ne_eqb c 48 z) (no_digit c d))

-- a text with a dot, and one without
abbrev dotted : List ℕ → Bool
dotted [] = false
dotted (c ∷ cs) = if c == 46 then true else dotted cs

undotted : (cs : List ℕ) → dotted cs ≡ false → (before_dot cs ≡ cs) × (behind_dots cs ≡ [])
undotted [] h = (refl, refl)
undotted (c ∷ cs) h = by (c == 46) refl h (undotted cs)
  where
    by : (v : Bool) → (c == 46) ≡ v → (if v then true else dotted cs) ≡ false
        → (dotted cs ≡ false → (before_dot cs ≡ cs) × (behind_dots cs ≡ []))
        → (before_dot (c ∷ cs) ≡ c ∷ cs) × (behind_dots (c ∷ cs) ≡ [])
    by true e g r = cc
    by false e g r =
        let i = r g in (
          ap (λ v. if v then [] else c ∷ before_dot cs) e ∙ ap (λ x. c ∷ x) i.0,
          ap (λ v. if v then before_dot cs ∷ behind_dots cs else behind_dots cs) e ∙ i.1,
        )

none_dotted : (cs : List ℕ) → behind_dots cs ≡ [] → dotted cs ≡ false
none_dotted [] h = refl
none_dotted (c ∷ cs) h = by (c == 46) h (none_dotted cs)
  where
    by : (v : Bool) → (if v then before_dot cs ∷ behind_dots cs else behind_dots cs) ≡ []
        → (behind_dots cs ≡ [] → dotted cs ≡ false) → (if v then true else dotted cs) ≡ false
    by true g r = cc
    by false g r = r g

no_number : (b : ℕ) → b ≤ 16 → (n : ℕ) (cs : List ℕ) → dotted cs ≡ true → number_behind b n cs ≡ None
no_number b h n [] d = cc
no_number b h n (c ∷ cs) d =
    by (c == 46) refl d (no_number b h n cs) (no_number b h (n * b + digit c) cs)
  where
    over : nat_lt 16 b ≡ false
    over = grind (arith, nat_tests)

    other : (v w : Bool) (x y : Option ℕ) → x ≡ None → y ≡ None → (if v then x else if w then y else None) ≡ None
    other true w x y p q = p
    other false true x y p q = q
    other false false x y p q = refl

    by : (v : Bool) → (c == 46) ≡ v → (if v then true else dotted cs) ≡ true
        → (dotted cs ≡ true → number_behind b n cs ≡ None)
        → (dotted cs ≡ true → number_behind b (n * b + digit c) cs ≡ None)
        → number_behind b n (c ∷ cs) ≡ None
    by true e g r s =
        ap (λ k. number_behind b n (k ∷ cs)) (eqb-true c 46 e)
        ∙ ap (λ v. if v then number_behind b (n * b + 16) cs else None) over
    by false e g r s = other (c == 95) (nat_lt (digit c) b) _ _ (r g) (s g)

tail_dotted : (c : ℕ) (cs : List ℕ) → (c ≡ 46 → ⊥) → dotted (c ∷ cs) ≡ true → dotted cs ≡ true
tail_dotted c cs h d = sym (ap (λ v. if v then true else dotted cs) (ne_eqb c 46 h)) ∙ d

if_none : (v : Bool) (x y : Option ℕ) → (v ≡ true → x ≡ None) → y ≡ None → (if v then x else y) ≡ None
if_none true x y p q = p refl
if_none false x y p q = q

no_based : (cs : List ℕ) → dotted cs ≡ true → based_number cs ≡ None
no_based [] d = cc
no_based (c ∷ cs) d =
    if_none (c == 120) _ _ (λ e. tails 120 16 e (omega arith) (λ g. omega (arith, g)))
    (if_none (c == 111) _ _ (λ e. tails 111 8 e (omega arith) (λ g. omega (arith, g)))
    (if_none (c == 98) _ _ (λ e. tails 98 2 e (omega arith) (λ g. omega (arith, g)))
    (no_number 10 (omega arith) 0 (c ∷ cs) d)))
  where
    tails : (k b : ℕ) → (c == k) ≡ true → b ≤ 16 → (k ≡ 46 → ⊥) → number_behind b 0 cs ≡ None
    tails k b e h f = no_number b h 0 cs (tail_dotted c cs (λ g. f (sym (eqb-true c k e) ∙ g)) d)

no_integer : (cs : List ℕ) → dotted cs ≡ true → integer cs ≡ None
no_integer [] d = cc
no_integer (c ∷ cs) d =
    if_none (c == 48) _ _
    (λ e. no_based cs (tail_dotted c cs (λ g. omega (arith, sym (eqb-true c 48 e) ∙ g)) d))
    (if_none (nat_lt (digit c) 10) _ _ (λ e. no_number 10 (omega arith) 0 (c ∷ cs) d) refl)

-- an index is an integer with nothing behind it
pub no_index : (ds : List ℕ) → Reads (integer (before_dot ds)) ds None → false ≡ is_index ds
unfolding is_index
no_index ds r = sym (by (dotted ds) refl)
  where
    by : (v : Bool) → dotted ds ≡ v → is_below 4294967296 (integer ds) ≡ false
    by true e = ap (is_below 4294967296) (no_integer ds e)
    by false e = ap (λ x. is_below 4294967296 (integer x)) (sym (undotted ds e).0) ∙ r

less : (n : ℕ) → n < 4294967296 → nat_lt n 4294967296 ≡ true
less n h = grind (arith, nat_tests)

pub index_ended : (n : ℕ) (ds left : List ℕ) → Reads (integer (before_dot ds)) ds (Some (n, left)) → left ≡ []
    → n < 4294967296 → true ≡ is_index ds
unfolding is_index
index_ended n ds left r e h =
    let f : dotted ds ≡ false = none_dotted ds (sym r.1.1 ∙ ap behind_dots e) in
    sym (ap (λ x. is_below 4294967296 (integer x)) (sym (undotted ds f).0) ∙ ap (is_below 4294967296) r.0 ∙ less n h)

-- where a dot stands first, what stands behind it
pub at_dot_is : (c : ℕ) (cs ds : List ℕ) → ds ≡ c ∷ cs → before_dot ds ≡ []
    → behind_dots ds ≡ before_dot cs ∷ behind_dots cs
at_dot_is c cs ds e h = ap behind_dots e ∙ by (c == 46) (sym (ap before_dot e) ∙ h)
  where
    by : (v : Bool) → (if v then [] else c ∷ before_dot cs) ≡ []
        → (if v then before_dot cs ∷ behind_dots cs else behind_dots cs) ≡ before_dot cs ∷ behind_dots cs
    by true g = refl
    by false g = cc

-- behind the last dot of a text, which ends it, stands one text more, and it is empty
pub behind_last : (c : ℕ) (cs ds left : List ℕ) → IsFrom ds left → left ≡ c ∷ cs → cs ≡ []
    → before_dot [] ∷ behind_dots [] ≡ behind_dots ds
behind_last c cs ds left f e g =
    ap (λ x. before_dot x ∷ behind_dots x) (sym g) ∙ sym (at_dot_is c cs left e f.0) ∙ f.1

texts_of_more : (d : ℕ) (es : List ℕ) → texts_of (before_dot (d ∷ es) ∷ behind_dots (d ∷ es)) ≡ indices (d ∷ es)
texts_of_more d es = by (d == 46)
  where
    by : (v : Bool) → texts_of ((if v then [] else d ∷ before_dot es)
        ∷ (if v then before_dot es ∷ behind_dots es else behind_dots es))
        ≡ (if v then [] else d ∷ before_dot es)
        ∷ texts_of (if v then before_dot es ∷ behind_dots es else behind_dots es)
    by true = refl
    by false = refl

-- behind a dot stand the indices of what follows it
pub behind_more : (c d : ℕ) (cs ds es left : List ℕ) → IsFrom ds left → left ≡ c ∷ cs → cs ≡ d ∷ es
    → indices cs ≡ texts_of (behind_dots ds)
behind_more c d cs ds es left f e g =
    ap indices g ∙ sym (texts_of_more d es) ∙ ap (λ x. texts_of (before_dot x ∷ behind_dots x)) (sym g)
    ∙ ap texts_of (sym (at_dot_is c cs left e f.0) ∙ f.1)

no_more : (x : List ℕ) (xs : List (List ℕ)) → x ∷ xs ≡ [] → ⊥
no_more x xs g = cc

pub index_left : (n c : ℕ) (cs ds left : List ℕ) → Reads (integer (before_dot ds)) ds (Some (n, left)) → left ≡ c ∷ cs
    → false ≡ is_index ds
unfolding is_index
index_left n c cs ds left r e = sym (by (dotted ds) refl)
  where
    by : (v : Bool) → dotted ds ≡ v → is_below 4294967296 (integer ds) ≡ false
    by true d = ap (is_below 4294967296) (no_integer ds d)
    by false d =
        absurd (no_more _ _ (sym (at_dot_is c cs left e r.1.0) ∙ r.1.1 ∙ (undotted ds d).1))

-- indices behind dots
pub none_behind : (ds : List ℕ) → ds ≡ [] → true ≡ indices_to_dot (behind_dots ds)
none_behind ds e = sym (ap (λ x. indices_to_dot (behind_dots x)) e)

pub lone_dot : (c : ℕ) (cs ds : List ℕ) → ds ≡ c ∷ cs → before_dot ds ≡ [] → cs ≡ []
    → true ≡ indices_to_dot (behind_dots ds)
lone_dot c cs ds e h f =
    sym (ap indices_to_dot (at_dot_is c cs ds e h) ∙ ap (λ x. indices_to_dot (before_dot x ∷ behind_dots x)) f)

of_more : (d : ℕ) (es : List ℕ) → indices_to_dot (before_dot (d ∷ es) ∷ behind_dots (d ∷ es))
    ≡ (is_below 4294967296 (integer (before_dot (d ∷ es))) && indices_to_dot (behind_dots (d ∷ es)))
of_more d es = by (d == 46)
  where
    by : (v : Bool) → indices_to_dot ((if v then [] else d ∷ before_dot es)
        ∷ (if v then before_dot es ∷ behind_dots es else behind_dots es))
        ≡ (is_below 4294967296 (integer (if v then [] else d ∷ before_dot es))
        && indices_to_dot (if v then before_dot es ∷ behind_dots es else behind_dots es))
    by true = refl
    by false = refl

of_dot : (c d : ℕ) (es cs ds : List ℕ) → ds ≡ c ∷ cs → before_dot ds ≡ [] → cs ≡ d ∷ es
    → indices_to_dot (behind_dots ds)
    ≡ (is_below 4294967296 (integer (before_dot cs)) && indices_to_dot (behind_dots cs))
of_dot c d es cs ds e h f =
    ap indices_to_dot (at_dot_is c cs ds e h) ∙ ap (λ x. indices_to_dot (before_dot x ∷ behind_dots x)) f
    ∙ of_more d es
    ∙ ap (λ x. is_below 4294967296 (integer (before_dot x)) && indices_to_dot (behind_dots x)) (sym f)

pub one_wrong : (c d : ℕ) (es cs ds : List ℕ) → ds ≡ c ∷ cs → before_dot ds ≡ [] → cs ≡ d ∷ es
    → Reads (integer (before_dot cs)) cs None → false ≡ indices_to_dot (behind_dots ds)
one_wrong c d es cs ds e h f r =
    sym (of_dot c d es cs ds e h f ∙ ap (λ b. b && indices_to_dot (behind_dots cs)) r)

is_one : (n : ℕ) (ds left : List ℕ) (x : Option ℕ) → n < 4294967296 → x ≡ Some n → behind_dots left ≡ behind_dots ds
    → indices_to_dot (behind_dots left) ≡ (is_below 4294967296 x && indices_to_dot (behind_dots ds))
is_one n ds left x h e b =
    ap indices_to_dot b
    ∙ sym (ap (λ v. v && indices_to_dot (behind_dots ds)) (ap (is_below 4294967296) e ∙ less n h))

pub one_more : (n c d : ℕ) (es cs ds left : List ℕ) → ds ≡ c ∷ cs → before_dot ds ≡ [] → cs ≡ d ∷ es
    → Reads (integer (before_dot cs)) cs (Some (n, left)) → n < 4294967296
    → indices_to_dot (behind_dots left) ≡ indices_to_dot (behind_dots ds)
one_more n c d es cs ds left e h f r l = is_one n cs left _ l r.0 r.1.1 ∙ sym (of_dot c d es cs ds e h f)

pub first_wrong : (ds : List ℕ) → Reads (integer (before_dot ds)) ds None
    → false ≡ (is_below 4294967296 (integer (before_dot ds)) && indices_to_dot (behind_dots ds))
first_wrong ds r = sym (ap (λ b. b && indices_to_dot (behind_dots ds)) r)

pub first_index : (n : ℕ) (ds left : List ℕ) → Reads (integer (before_dot ds)) ds (Some (n, left)) → n < 4294967296
    → indices_to_dot (behind_dots left)
    ≡ (is_below 4294967296 (integer (before_dot ds)) && indices_to_dot (behind_dots ds))
first_index n ds left r h = is_one n ds left _ h r.0 r.1.1

-- Turns of the walk over digits up to a dot: what is left makes of the number so far what all of them make.
abbrev pub Left : ℕ → ℕ → List ℕ → List ℕ → Type 0
Left b n rest ds =
    (number_behind b n (before_dot rest) ≡ number_behind b 0 (before_dot ds)) × (behind_dots rest ≡ behind_dots ds)

passed : (c : ℕ) (cs rest ds : List ℕ) → rest ≡ c ∷ cs → (c ≡ 46 → ⊥) → behind_dots rest ≡ behind_dots ds
    → behind_dots cs ≡ behind_dots ds
passed c cs rest ds e h l = sym (behind_other c cs h) ∙ ap behind_dots (sym e) ∙ l

pub turn_line : (b n c : ℕ) (cs rest ds : List ℕ) → rest ≡ c ∷ cs → (c ≡ 46 → ⊥) → c ≡ 95 → Left b n rest ds
    → Left b n cs ds
turn_line b n c cs rest ds e h l i =
    (next_line b n c (before_dot cs) (before_dot rest) _ (first_is c cs rest e h) l i.0, passed c cs rest ds e h i.1)

pub turn_digit : (b n c more : ℕ) (cs rest ds : List ℕ) → rest ≡ c ∷ cs → (c ≡ 46 → ⊥) → (c ≡ 95 → ⊥)
    → nat_lt (digit c) b ≡ true → more ≡ n * b + digit c → Left b n rest ds → Left b more cs ds
turn_digit b n c more cs rest ds e h l d m i = (
  next_digit b n c more (before_dot cs) (before_dot rest) _ (first_is c cs rest e h) l d m i.0,
  passed c cs rest ds e h i.1,
)

pub turn_wrong : (b n c : ℕ) (cs rest ds : List ℕ) → 1 ≤ b → rest ≡ c ∷ cs → (c ≡ 46 → ⊥) → (c ≡ 95 → ⊥)
    → (nat_lt (digit c) b ≡ false) ⊎ (4294967296 ≤ n * b + digit c) → Left b n rest ds
    → Reads (number_behind b 0 (before_dot ds)) ds None
turn_wrong b n c cs rest ds o e h l s i =
    wrong_digit b n c (before_dot cs) (before_dot rest) _ o (first_is c cs rest e h) l s i.0

pub turn_dot : (b n c : ℕ) (cs rest ds : List ℕ) → rest ≡ c ∷ cs → c ≡ 46 → Left b n rest ds
    → Reads (number_behind b 0 (before_dot ds)) ds (Some (n, rest))
turn_dot b n c cs rest ds e h i =
    let f : before_dot rest ≡ [] = ap before_dot (e ∙ ap (λ d. d ∷ cs) h) in
    (sym i.0 ∙ ap (number_behind b n) f, (f, i.1))

pub turn_end : (b n : ℕ) (rest ds : List ℕ) → rest ≡ [] → Left b n rest ds
    → Reads (number_behind b 0 (before_dot ds)) ds (Some (n, rest))
turn_end b n rest ds e i =
    let f : before_dot rest ≡ [] = ap before_dot e in
    (sym i.0 ∙ ap (number_behind b n) f, (f, i.1))

pub ruleset number_laws = (turn_line, turn_digit, turn_wrong, turn_dot, turn_end)

pub ruleset based_laws = (based_end, based_dot, based_hex, based_octal, based_binary, based_plain)

pub ruleset integer_laws = (integer_end, integer_dot, integer_zero, integer_digit, integer_other)

pub ruleset are_behind_laws = (none_behind, lone_dot, one_wrong, one_more)

pub ruleset are_indices_laws = (first_wrong, first_index)

pub ruleset ends_in_dot_laws = (last_begun, last_next, last_ended)
