-- What tokens begin with, and what a look sees there.
use Rattle.std.proofs.Common.{◌≡◌, ℕ, List, [], ◌∷◌, ◌++◌, refl, sym, subst, ⊎_elim, inl, inr}
use Rattle.std.specs.Prelude.{Bool, true, false, ◌⊎◌}
use Rattle.proc_macro2.specs.Token.{Token, Opens, Ident, Literal, Punct}
use Rattle.proc_macro2.specs.declared.delimiter.Delimiter.{Delimiter}
use Rattle.rust_leaf.specs.declared.punct.Spacing.TheVariants.{Alone as Apart, Joint}
use Rattle.syn_grammar.specs.Tree.{marks}
use Rattle.syn_grammar.specs.Look.{sees, the_end, no, ◌then◌}
use Rattle.syn_grammar.specs.Say.{at, marks as a_mark}

-- a punctuation, whose last mark stands apart; the word of that text; a word, a literal that passes; a lifetime; a
-- group
pub data Class : Type 0 where
  Sign : (first : ℕ) (others : List ℕ) → Class
  TheWord : (chars : List ℕ) → Class
  AnyWord : (passes : List ℕ → Bool) → Class
  Quoted : (passes : List ℕ → Bool) → Class
  Tick : Class
  Opening : (delimiter : Delimiter) → Class
  -- a word that passes with what stands behind it
  AnyFront : (passes : List ℕ → List Token → Bool) → Class
  -- a punctuation, and behind it
  Then : (first : ℕ) (others : List ℕ) (next : Class) → Class
  -- what a raw item begins with
  RawFront : Class

-- Neither the end, nor a ; nor #! , nor . nor ? nor else: the marks of a raw item are spaced as they were.
abbrev pub IsRawFront : List Token → Type 0
IsRawFront ts =
    (sees the_end ts ≡ false) × (sees (a_mark ";") ts ≡ false) × (sees (a_mark "#" then a_mark "!") ts ≡ false)
    × (sees (no (a_mark "..") then a_mark ".") ts ≡ false) × (sees (a_mark "?") ts ≡ false)
    × (sees (at "else") ts ≡ false)

abbrev pub IsAt : Class → List Token → Type 0
IsAt (Sign c cs) ts = (us : List Token) × (ts ≡ marks c cs Apart ++ us)
IsAt (TheWord cs) ts = (us : List Token) × (ts ≡ Ident cs ∷ us)
IsAt (AnyWord p) ts = (cs : List ℕ) × (us : List Token) × (p cs ≡ true) × (ts ≡ Ident cs ∷ us)
IsAt (AnyFront p) ts = (cs : List ℕ) × (us : List Token) × (p cs us ≡ true) × (ts ≡ Ident cs ∷ us)
IsAt (Quoted p) ts = (cs : List ℕ) × (us : List Token) × (p cs ≡ true) × (ts ≡ Literal cs ∷ us)
IsAt Tick ts = (cs : List ℕ) × (us : List Token) × (ts ≡ Punct 39 Joint ∷ Ident cs ∷ us)
IsAt (Opening d) ts = (us : List Token) × (ts ≡ Opens d ∷ us)
IsAt (Then c cs k) ts = (us : List Token) × (ts ≡ marks c cs Apart ++ us) × IsAt k us
IsAt RawFront ts = IsRawFront ts

-- they begin with one of these
abbrev pub IsAmong : List Class → List Token → Type 0
IsAmong [] ts = ⊥
IsAmong (c ∷ cs) ts = IsAt c ts ⊎ IsAmong cs ts

-- of what begins so, each token may be put in the place of the first
abbrev pub OfEach : (List Token → Type 0) → Class → Type 0
OfEach P (Sign c cs) = (us : List Token) → P (marks c cs Apart ++ us)
OfEach P (TheWord cs) = (us : List Token) → P (Ident cs ∷ us)
OfEach P (AnyWord p) = (cs : List ℕ) → p cs ≡ true → (us : List Token) → P (Ident cs ∷ us)
OfEach P (AnyFront p) = (cs : List ℕ) → (us : List Token) → p cs us ≡ true → P (Ident cs ∷ us)
OfEach P (Quoted p) = (cs : List ℕ) → p cs ≡ true → (us : List Token) → P (Literal cs ∷ us)
OfEach P Tick = (cs : List ℕ) → (us : List Token) → P (Punct 39 Joint ∷ Ident cs ∷ us)
OfEach P (Opening d) = (us : List Token) → P (Opens d ∷ us)
OfEach P (Then c cs k) = OfEach (λ us. P (marks c cs Apart ++ us)) k
OfEach P RawFront = (us : List Token) → IsRawFront us → P us

abbrev pub OfAll : (List Token → Type 0) → List Class → Type 0
OfAll P [] = Unit {0}
OfAll P (c ∷ cs) = OfEach P c × OfAll P cs

pub of_each : (P : List Token → Type 0) (c : Class) (ts : List Token) → OfEach P c → IsAt c ts → P ts
of_each P (Sign c cs) ts h i = subst P (sym i.1) (h i.0)
of_each P (TheWord cs) ts h i = subst P (sym i.1) (h i.0)
of_each P (AnyWord p) ts h i = subst P (sym i.3) (h i.0 i.2 i.1)
of_each P (AnyFront p) ts h i = subst P (sym i.3) (h i.0 i.1 i.2)
of_each P (Quoted p) ts h i = subst P (sym i.3) (h i.0 i.2 i.1)
of_each P Tick ts h i = subst P (sym i.2) (h i.0 i.1)
of_each P (Opening d) ts h i = subst P (sym i.1) (h i.0)
of_each P (Then c cs k) ts h i = subst P (sym i.1) (of_each (λ us. P (marks c cs Apart ++ us)) k i.0 h i.2)
of_each P RawFront ts h i = h ts i

pub of_all : (P : List Token → Type 0) (cs : List Class) (ts : List Token) → OfAll P cs → IsAmong cs ts → P ts
of_all P [] ts h i = absurd i
of_all P (c ∷ cs) ts h i = ⊎_elim (λ j. of_each P c ts h.0 j) (λ j. of_all P cs ts h.1 j) i

-- but the first
abbrev pub others : List Class → List Class
others [] = []
others (c ∷ cs) = cs

-- the one, and the others
infixr 8 ◌&◌
abbrev pub ◌&◌ : {A B : Type 0} → A → B → A × B
a & b = (a, b)

-- each behind a punctuation
abbrev pub each_then : ℕ → List ℕ → List Class → List Class
each_then c cs [] = []
each_then c cs (k ∷ ks) = Then c cs k ∷ each_then c cs ks

pub then_among : (c : ℕ) (cs : List ℕ) (ks : List Class) (us : List Token) → IsAmong ks us
    → IsAmong (each_then c cs ks) (marks c cs Apart ++ us)
then_among c cs [] us i = absurd i
then_among c cs (k ∷ ks) us i = ⊎_elim (λ j. inl (us, refl, j)) (λ j. inr (then_among c cs ks us j)) i

-- the words of these texts
abbrev pub the_words : List (List ℕ) → List Class
the_words [] = []
the_words (w ∷ ws) = TheWord w ∷ the_words ws

-- among more
pub among_left : (cs ds : List Class) (ts : List Token) → IsAmong cs ts → IsAmong (cs ++ ds) ts
among_left [] ds ts i = absurd i
among_left (c ∷ cs) ds ts i = ⊎_elim (λ j. inl j) (λ j. inr (among_left cs ds ts j)) i

pub among_right : (cs ds : List Class) (ts : List Token) → IsAmong ds ts → IsAmong (cs ++ ds) ts
among_right [] ds ts i = i
among_right (c ∷ cs) ds ts i = inr (among_right cs ds ts i)
