-- Tokens that are the same up to a semicolon or a brace, with no group open there, and looks that see the same of both:
-- they go not behind it.
use Rattle.std.proofs.Common.{◌≡◌, ◌<◌, ◌≤◌, ℕ, zero, suc, ◌+◌, List, [], ◌∷◌, refl, ap, arith, le_refl, le_trans}
use Rattle.std.specs.Prelude.{Bool, true, false, not, ◌&&◌, ◌==◌, cond, length, Option, Some, None}
use Rattle.proc_macro2.specs.Token.{Token, Opens, Closes, Ident, Literal, Punct}
use Rattle.proc_macro2.specs.Groups.{same_delimiter}
use Rattle.proc_macro2.specs.declared.delimiter.Delimiter.{Delimiter}
use Rattle.proc_macro2.specs.declared.delimiter.Delimiter.TheVariants.{Brace}
use Rattle.rust_leaf.specs.declared.punct.Spacing.{Spacing}
use Rattle.rust_leaf.specs.declared.punct.Spacing.TheVariants.{Alone as Apart, Joint}
use Rattle.syn_grammar.specs.Look.{past_first, opening, past_literals, any_mark}
use Rattle.syn_grammar.specs.Look.{Look, seen, sees, lacks, behind, ◌then◌, first_seen, ◌or◌, maybe, no, a_word}
use Rattle.syn_grammar.specs.Look.{a_quoted}
use Rattle.syn_grammar.specs.Look.{past_marks, the_mark, a_lifetime, opens, closes, past_closing, a_group, the_end}
use Rattle.syn_grammar.specs.Look.{as_far}
use Rattle.syn_grammar.specs.Look.{repeatedly}

-- so many groups are open, and so many tokens stand before it
pub data Alike : ℕ → ℕ → List Token → List Token → Type 0 where
  semicolon : {r s : List Token} (i j : Spacing) → Alike 0 0 (Punct 59 i ∷ r) (Punct 59 j ∷ s)
  brace : {r s : List Token} → Alike 0 0 (Opens Brace ∷ r) (Opens Brace ∷ s)
  a_text : {n m : ℕ} {x y : List Token} (cs : List ℕ) → Alike n m x y → Alike n (suc m) (Ident cs ∷ x) (Ident cs ∷ y)
  quoted : {n m : ℕ} {x y : List Token} (cs : List ℕ) → Alike n m x y
      → Alike n (suc m) (Literal cs ∷ x) (Literal cs ∷ y)
  sign : {n m : ℕ} {x y : List Token} (c : ℕ) (i : Spacing) → Alike n m x y
      → Alike n (suc m) (Punct c i ∷ x) (Punct c i ∷ y)
  opened : {n m : ℕ} {x y : List Token} (d : Delimiter) → Alike (suc n) m x y
      → Alike n (suc m) (Opens d ∷ x) (Opens d ∷ y)
  closed : {n m : ℕ} {x y : List Token} (d : Delimiter) → Alike n m x y
      → Alike (suc n) (suc m) (Closes d ∷ x) (Closes d ∷ y)

-- what a look leaves of both: nothing, or tokens that are alike, with at most so many before the stop
pub data Sight : ℕ → Option (List Token) → Option (List Token) → Type 0 where
  unseen : {m : ℕ} → Sight m None None
  alike : {m n k : ℕ} {x y : List Token} → k ≤ m → Alike n k x y → Sight m (Some x) (Some y)

-- with fewer
abbrev pub Under : ℕ → Option (List Token) → Option (List Token) → Type 0
Under zero o p = (o ≡ None) × (p ≡ None)
Under (suc m) o p = Sight m o p

-- it leaves what is alike
pub record IsSure (l : Look) : Type 0 where
  pub by : (n m : ℕ) (x y : List Token) → Alike n m x y → Sight m (l x) (l y)

-- and fewer tokens
pub record IsStrict (l : Look) : Type 0 where
  pub by : (n m : ℕ) (x y : List Token) → Alike n m x y → Under m (l x) (l y)

-- it is seen of both, or of neither
pub record IsBlind (l : Look) : Type 0 where
  pub by : (n m : ℕ) (x y : List Token) → Alike n m x y → seen (l x) ≡ seen (l y)

-- a test holds of both, or of neither
pub record IsSteady (t : List Token → Bool) : Type 0 where
  pub by : (n m : ℕ) (x y : List Token) → Alike n m x y → t x ≡ t y

more : {m k : ℕ} {o p : Option (List Token)} → k ≤ m → Sight k o p → Sight m o p
more h unseen = unseen
more h (alike i a) = alike (le_trans i h) a

up : (m : ℕ) → m ≤ suc m
up m = omega arith

-- looks that compose
same_seen : {m : ℕ} {o p : Option (List Token)} → Sight m o p → seen o ≡ seen p
same_seen unseen = refl
same_seen (alike i a) = refl

pub blind_sure : {l : Look} → IsSure l → IsBlind l
blind_sure a = record { by = λ n m x y h. same_seen (a.by n m x y h) }

weaken : (m : ℕ) (o p : Option (List Token)) → Under m o p → Sight m o p
weaken zero None None h = unseen
weaken zero (Some x) p h = cc h.0
weaken zero None (Some y) h = cc h.1
weaken (suc m) o p h = more (up m) h

pub sure_strict : {l : Look} → IsStrict l → IsSure l
sure_strict {l = l} a = record { by = λ n m x y h. weaken m (l x) (l y) (a.by n m x y h) }

then_sight : (b : Look) (m : ℕ) (o p : Option (List Token)) → IsSure b → Sight m o p
    → Sight m (behind o b) (behind p b)
then_sight b m _ _ f unseen = unseen
then_sight b m _ _ f (alike {n = n} {k = k} i a) = more i (f.by n k _ _ a)

pub sure_then : {a b : Look} → IsSure a → IsSure b → IsSure (a then b)
sure_then {a = a} {b = b} f g = record { by = λ n m x y h. then_sight b m (a x) (a y) g (f.by n m x y h) }

then_under : (b : Look) (m : ℕ) (o p : Option (List Token)) → IsSure b → Under m o p
    → Under m (behind o b) (behind p b)
then_under b zero None None f h = (refl, refl)
then_under b zero (Some x) p f h = cc h.0
then_under b zero None (Some y) f h = cc h.1
then_under b (suc m) o p f h = then_sight b m o p f h

pub strict_then : {a b : Look} → IsStrict a → IsSure b → IsStrict (a then b)
strict_then {a = a} {b = b} f g = record { by = λ n m x y h. then_under b m (a x) (a y) g (f.by n m x y h) }

then_seen : (b : Look) (m : ℕ) (o p : Option (List Token)) → IsBlind b → Sight m o p
    → seen (behind o b) ≡ seen (behind p b)
then_seen b m _ _ f unseen = refl
then_seen b m _ _ f (alike {n = n} {k = k} i a) = f.by n k _ _ a

pub blind_then : {a b : Look} → IsSure a → IsBlind b → IsBlind (a then b)
blind_then {a = a} {b = b} f g = record { by = λ n m x y h. then_seen b m (a x) (a y) g (f.by n m x y h) }

either_sight : (m : ℕ) (o p u v : Option (List Token)) → Sight m o p → Sight m u v
    → Sight m (first_seen o u) (first_seen p v)
either_sight m _ _ u v unseen h = h
either_sight m _ _ u v (alike i a) h = alike i a

pub sure_or : {a b : Look} → IsSure a → IsSure b → IsSure (a or b)
sure_or {a = a} {b = b} f g = record {
  by = λ n m x y h. either_sight m (a x) (a y) (b x) (b y) (f.by n m x y h) (g.by n m x y h);
}

either_seen : (o p u v : Option (List Token)) → seen o ≡ seen p → seen u ≡ seen v
    → seen (first_seen o u) ≡ seen (first_seen p v)
either_seen None None u v e f = f
either_seen (Some x) (Some y) u v e f = refl
either_seen None (Some y) u v e f = cc
either_seen (Some x) None u v e f = cc

pub blind_or : {a b : Look} → IsBlind a → IsBlind b → IsBlind (a or b)
blind_or {a = a} {b = b} f g = record {
  by = λ n m x y h. either_seen (a x) (a y) (b x) (b y) (f.by n m x y h) (g.by n m x y h);
}

pub sure_maybe : {a : Look} → IsSure a → IsSure (maybe a)
sure_maybe {a = a} f = record {
  by = λ n m x y h. either_sight m (a x) (a y) (Some x) (Some y) (f.by n m x y h) (alike (le_refl m) h);
}

not_sight : {n m : ℕ} {x y : List Token} (b c : Bool) → b ≡ c → Alike n m x y
    → Sight m (cond b None (Some x)) (cond c None (Some y))
not_sight true true e h = unseen
not_sight false false e h = alike (le_refl _) h
not_sight true false e h = cc e
not_sight false true e h = cc e

pub sure_no : {a : Look} → IsBlind a → IsSure (no a)
sure_no {a = a} f = record { by = λ n m x y h. not_sight (seen (a x)) (seen (a y)) (f.by n m x y h) h }

pub steady_sees : {l : Look} → IsBlind l → IsSteady (sees l)
steady_sees f = record { by = λ n m x y h. f.by n m x y h }

pub steady_lacks : {l : Look} → IsBlind l → IsSteady (lacks l)
steady_lacks f = record { by = λ n m x y h. ap not (f.by n m x y h) }

-- looks at a token
pub sure_none : IsSure (λ ts. None)
sure_none = record { by = λ n m x y h. unseen }

if_sight : {n m : ℕ} {x y : List Token} (b : Bool) → Alike n m x y → Sight m (cond b (Some x) None) (cond b
    (Some y) None)
if_sight true h = alike (le_refl _) h
if_sight false h = unseen

word_under : (p : List ℕ → Bool) (n m : ℕ) (x y : List Token) → Alike n m x y → Under m (a_word p x) (a_word p y)
word_under p _ _ _ _ (semicolon i j) = (refl, refl)
word_under p _ _ _ _ brace = (refl, refl)
word_under p _ _ _ _ (a_text cs h) = if_sight (p cs) h
word_under p _ _ _ _ (quoted cs h) = unseen
word_under p _ _ _ _ (sign c i h) = unseen
word_under p _ _ _ _ (opened d h) = unseen
word_under p _ _ _ _ (closed d h) = unseen

pub strict_word : (p : List ℕ → Bool) → IsStrict (a_word p)
strict_word p = record { by = word_under p }

pub sure_word : (p : List ℕ → Bool) → IsSure (a_word p)
sure_word p = sure_strict (strict_word p)

quoted_under : (p : List ℕ → Bool) (n m : ℕ) (x y : List Token) → Alike n m x y → Under m (a_quoted p x)
    (a_quoted p y)
quoted_under p _ _ _ _ (semicolon i j) = (refl, refl)
quoted_under p _ _ _ _ brace = (refl, refl)
quoted_under p _ _ _ _ (a_text cs h) = unseen
quoted_under p _ _ _ _ (quoted cs h) = if_sight (p cs) h
quoted_under p _ _ _ _ (sign c i h) = unseen
quoted_under p _ _ _ _ (opened d h) = unseen
quoted_under p _ _ _ _ (closed d h) = unseen

pub sure_quoted : (p : List ℕ → Bool) → IsSure (a_quoted p)
sure_quoted p = sure_strict (record { by = quoted_under p })

-- punctuations without a semicolon
abbrev pub no_semicolon : List ℕ → Bool
no_semicolon [] = true
no_semicolon (c ∷ cs) = not (59 == c) && no_semicolon cs

and_left : (a b : Bool) → a && b ≡ true → a ≡ true
and_left true b e = refl
and_left false b e = cc e

and_right : (a b : Bool) → a && b ≡ true → b ≡ true
and_right true b e = e
and_right false b e = cc e

if_none : (b : Bool) (o : Option (List Token)) → not b ≡ true → cond b o None ≡ None
if_none false o e = refl
if_none true o e = cc e

marks_at_end : (c : ℕ) (cs : List ℕ) (i : Spacing) (r : List Token) → not (59 == c) ≡ true
    → past_marks c cs (Punct 59 i ∷ r) ≡ None
marks_at_end c [] i r e = if_none (59 == c) (Some r) e
marks_at_end c (d ∷ ds) Joint r e = if_none (59 == c) (past_marks d ds r) e
marks_at_end c (d ∷ ds) Apart r e = refl

if_under : (m : ℕ) (b : Bool) (o p : Option (List Token)) → Sight m o p → Sight m (cond b o None) (cond b p None)
if_under m true o p h = h
if_under m false o p h = unseen

marks_under : (c : ℕ) (cs : List ℕ) → not (59 == c) ≡ true → no_semicolon cs ≡ true → (n m : ℕ) (x y : List Token)
    → Alike n m x y → Under m (past_marks c cs x) (past_marks c cs y)
marks_under c cs e f _ _ _ _ (semicolon i j) = (marks_at_end c cs i _ e, marks_at_end c cs j _ e)
marks_under c [] e f _ _ _ _ (sign d i h) = if_sight (d == c) h
marks_under c (u ∷ us) e f _ (suc m) (Punct _ Joint ∷ x) (Punct _ Joint ∷ y) (sign d Joint h) =
    if_under m (d == c) (past_marks u us x) (past_marks u us y)
    (weaken m (past_marks u us x) (past_marks u us y)
    (marks_under u us (and_left _ _ f) (and_right _ _ f) _ m x y h))
marks_under c (u ∷ us) e f _ _ _ _ (sign d Apart h) = unseen
marks_under c [] e f _ _ _ _ brace = (refl, refl)
marks_under c (u ∷ us) e f _ _ _ _ brace = (refl, refl)
marks_under c [] e f _ _ _ _ (a_text cs h) = unseen
marks_under c (u ∷ us) e f _ _ _ _ (a_text cs h) = unseen
marks_under c [] e f _ _ _ _ (quoted cs h) = unseen
marks_under c (u ∷ us) e f _ _ _ _ (quoted cs h) = unseen
marks_under c [] e f _ _ _ _ (opened d h) = unseen
marks_under c (u ∷ us) e f _ _ _ _ (opened d h) = unseen
marks_under c [] e f _ _ _ _ (closed d h) = unseen
marks_under c (u ∷ us) e f _ _ _ _ (closed d h) = unseen

none_under : (m : ℕ) → Under m None None
none_under zero = (refl, refl)
none_under (suc m) = unseen

mark_under : (text : List ℕ) → no_semicolon text ≡ true → (n m : ℕ) (x y : List Token) → Alike n m x y
    → Under m (the_mark text x) (the_mark text y)
mark_under [] e n m x y h = none_under m
mark_under (c ∷ cs) e n m x y h = marks_under c cs (and_left _ _ e) (and_right _ _ e) n m x y h

pub strict_mark : (text : List ℕ) → no_semicolon text ≡ true → IsStrict (the_mark text)
strict_mark text e = record { by = mark_under text e }

pub sure_mark : (text : List ℕ) → no_semicolon text ≡ true → IsSure (the_mark text)
sure_mark text e = sure_strict (strict_mark text e)

-- any mark by itself
if_seen : (b : Bool) (x y : List Token) → seen (cond b (Some x) None) ≡ seen (cond b (Some y) None)
if_seen true x y = refl
if_seen false x y = refl

mark_seen : (c n m : ℕ) (x y : List Token) → Alike n m x y → seen (past_marks c [] x) ≡ seen (past_marks c [] y)
mark_seen c _ _ _ _ (semicolon i j) = if_seen (59 == c) _ _
mark_seen c _ _ _ _ brace = refl
mark_seen c _ _ _ _ (a_text cs h) = refl
mark_seen c _ _ _ _ (quoted cs h) = refl
mark_seen c _ _ _ _ (sign d i h) = if_seen (d == c) _ _
mark_seen c _ _ _ _ (opened d h) = refl
mark_seen c _ _ _ _ (closed d h) = refl

pub blind_sign : (c : ℕ) → IsBlind (past_marks c [])
blind_sign c = record { by = mark_seen c }

-- lifetimes
lifetime_under : (n m : ℕ) (x y : List Token) → Alike n m x y → Under m (a_lifetime x) (a_lifetime y)
lifetime_under _ _ _ _ (semicolon i j) = (at_end i _, at_end j _)
  where
    at_end : (i : Spacing) (r : List Token) → a_lifetime (Punct 59 i ∷ r) ≡ None
    at_end Apart r = refl
    at_end Joint [] = refl
    at_end Joint (Ident cs ∷ r) = refl
    at_end Joint (Literal cs ∷ r) = refl
    at_end Joint (Punct c j ∷ r) = refl
    at_end Joint (Opens d ∷ r) = refl
    at_end Joint (Closes d ∷ r) = refl
lifetime_under _ _ _ _ brace = (refl, refl)
lifetime_under _ _ _ _ (a_text cs h) = unseen
lifetime_under _ _ _ _ (quoted cs h) = unseen
lifetime_under _ _ _ _ (opened d h) = unseen
lifetime_under _ _ _ _ (closed d h) = unseen
lifetime_under _ _ _ _ (sign c Apart h) = unseen
lifetime_under _ _ _ _ (sign c Joint (semicolon i j)) = unseen
lifetime_under _ _ _ _ (sign c Joint brace) = unseen
lifetime_under _ _ _ _ (sign c Joint (a_text {m = m} cs h)) = more (up m) (if_sight (c == 39) h)
lifetime_under _ _ _ _ (sign c Joint (quoted cs h)) = unseen
lifetime_under _ _ _ _ (sign c Joint (sign d i h)) = unseen
lifetime_under _ _ _ _ (sign c Joint (opened d h)) = unseen
lifetime_under _ _ _ _ (sign c Joint (closed d h)) = unseen

pub sure_lifetime : IsSure a_lifetime
sure_lifetime = sure_strict (record { by = lifetime_under })

-- groups, but for braces
opens_seen : (e : Delimiter) (n m : ℕ) (x y : List Token) → Alike n m x y → seen (opens e x) ≡ seen (opens e y)
opens_seen e _ _ _ _ (semicolon i j) = refl
opens_seen e _ _ _ _ brace = if_seen (same_delimiter Brace e) _ _
opens_seen e _ _ _ _ (a_text cs h) = refl
opens_seen e _ _ _ _ (quoted cs h) = refl
opens_seen e _ _ _ _ (sign d i h) = refl
opens_seen e _ _ _ _ (opened d h) = if_seen (same_delimiter d e) _ _
opens_seen e _ _ _ _ (closed d h) = refl

pub blind_opens : {d : Delimiter} → IsBlind (opens d)
blind_opens {d = d} = record { by = opens_seen d }

opens_under : (e : Delimiter) → not (same_delimiter Brace e) ≡ true → (n m : ℕ) (x y : List Token) → Alike n m x y
    → Under m (opens e x) (opens e y)
opens_under e f _ _ _ _ (semicolon i j) = (refl, refl)
opens_under e f _ _ _ _ brace = (if_none (same_delimiter Brace e) _ f, if_none (same_delimiter Brace e) _ f)
opens_under e f _ _ _ _ (a_text cs h) = unseen
opens_under e f _ _ _ _ (quoted cs h) = unseen
opens_under e f _ _ _ _ (sign d i h) = unseen
opens_under e f _ _ _ _ (opened d h) = if_sight (same_delimiter d e) h
opens_under e f _ _ _ _ (closed d h) = unseen

pub sure_opens : (d : Delimiter) → not (same_delimiter Brace d) ≡ true → IsSure (opens d)
sure_opens d e = sure_strict (record { by = opens_under d e })

closes_under : (n m : ℕ) (x y : List Token) → Alike n m x y → Under m (closes x) (closes y)
closes_under _ _ _ _ (semicolon i j) = (refl, refl)
closes_under _ _ _ _ brace = (refl, refl)
closes_under _ _ _ _ (a_text cs h) = unseen
closes_under _ _ _ _ (quoted cs h) = unseen
closes_under _ _ _ _ (sign d i h) = unseen
closes_under _ _ _ _ (opened d h) = unseen
closes_under _ _ _ _ (closed d h) = alike (le_refl _) h

pub sure_closes : IsSure closes
sure_closes = sure_strict (record { by = closes_under })

-- what is open is closed before the stop
closing : (j n k m : ℕ) (x y : List Token) → Alike k m x y → k ≡ suc (j + n)
    → Sight m (past_closing j x) (past_closing j y)
closing j n _ _ _ _ (semicolon i k) e = cc e
closing j n _ _ _ _ brace e = cc e
closing j n _ (suc m) _ _ (a_text cs h) e = more (up m) (closing j n _ m _ _ h e)
closing j n _ (suc m) _ _ (quoted cs h) e = more (up m) (closing j n _ m _ _ h e)
closing j n _ (suc m) _ _ (sign c i h) e = more (up m) (closing j n _ m _ _ h e)
closing j n _ (suc m) _ _ (opened d h) e = more (up m) (closing (suc j) n _ m _ _ h (omega (arith, e)))
closing zero n _ (suc m) _ _ (closed d h) e = alike (up m) h
closing (suc j) n _ (suc m) _ _ (closed d h) e = more (up m) (closing j n _ m _ _ h (omega (arith, e)))

group_sight : (e : Delimiter) → not (same_delimiter Brace e) ≡ true → (n m : ℕ) (x y : List Token) → Alike n m x y
    → Sight m (a_group e x) (a_group e y)
group_sight e f _ _ _ _ (semicolon i j) = unseen
group_sight e f _ _ _ _ (brace {r = r} {s = s}) = go (same_delimiter Brace e) f
  where
    go : (b : Bool) → not b ≡ true
        → Sight 0 (behind (cond b (Some r) None) (past_closing 0)) (behind (cond b (Some s) None) (past_closing 0))
    go false g = unseen
    go true g = cc g
group_sight e f _ _ _ _ (a_text cs h) = unseen
group_sight e f _ _ _ _ (quoted cs h) = unseen
group_sight e f _ _ _ _ (sign d i h) = unseen
group_sight e f n (suc m) (Opens _ ∷ x) (Opens _ ∷ y) (opened d h) = go (same_delimiter d e)
  where
    go : (b : Bool)
        → Sight (suc m) (behind (cond b (Some x) None) (past_closing 0)) (behind (cond b (Some y) None)
        (past_closing 0))
    go true = more (up m) (closing 0 n (suc n) m x y h (omega arith))
    go false = unseen
group_sight e f _ _ _ _ (closed d h) = unseen

pub sure_group : (d : Delimiter) → not (same_delimiter Brace d) ≡ true → IsSure (a_group d)
sure_group d e = record { by = group_sight d e }

either_if : {n m : ℕ} {x y : List Token} {o p : Option (List Token)} (b : Bool) → Alike n m x y → Sight m o p
    → Sight m (cond b (Some x) o) (cond b (Some y) p)
either_if true h s = alike (le_refl _) h
either_if false h s = s

-- so a mark that stands there in no other group is found before it
first_sight : (c j n k m : ℕ) (x y : List Token) → Alike k m x y → k ≡ suc (j + n)
    → Sight m (past_first c j x) (past_first c j y)
first_sight c j n _ _ _ _ (semicolon i k) e = cc e
first_sight c j n _ _ _ _ brace e = cc e
first_sight c zero n _ (suc m) _ _ (a_text cs h) e = more (up m) (first_sight c zero n _ m _ _ h e)
first_sight c (suc j) n _ (suc m) _ _ (a_text cs h) e = more (up m) (first_sight c (suc j) n _ m _ _ h e)
first_sight c zero n _ (suc m) _ _ (quoted cs h) e = more (up m) (first_sight c zero n _ m _ _ h e)
first_sight c (suc j) n _ (suc m) _ _ (quoted cs h) e = more (up m) (first_sight c (suc j) n _ m _ _ h e)
first_sight c (suc j) n _ (suc m) _ _ (sign d i h) e = more (up m) (first_sight c (suc j) n _ m _ _ h e)
first_sight c zero n _ (suc m) _ _ (sign d i h) e =
    more (up m) (either_if (d == c) h (first_sight c zero n _ m _ _ h e))
first_sight c zero n _ (suc m) _ _ (opened d h) e = more (up m) (first_sight c 1 n _ m _ _ h (omega (arith, e)))
first_sight c (suc j) n _ (suc m) _ _ (opened d h) e =
    more (up m) (first_sight c (suc (suc j)) n _ m _ _ h (omega (arith, e)))
first_sight c zero n _ (suc m) _ _ (closed d h) e = unseen
first_sight c (suc j) n _ (suc m) _ _ (closed d h) e = more (up m) (first_sight c j n _ m _ _ h (omega (arith, e)))

first_in_group : (c : ℕ) (e : Delimiter) → not (same_delimiter Brace e) ≡ true → (n m : ℕ) (x y : List Token)
    → Alike n m x y → Sight m ((opens e then past_first c 0) x) ((opens e then past_first c 0) y)
first_in_group c e f _ _ _ _ (semicolon i j) = unseen
first_in_group c e f _ _ _ _ (brace {r = r} {s = s}) = go (same_delimiter Brace e) f
  where
    go : (b : Bool) → not b ≡ true
        → Sight 0 (behind (cond b (Some r) None) (past_first c 0)) (behind (cond b (Some s) None) (past_first c 0))
    go false g = unseen
    go true g = cc g
first_in_group c e f _ _ _ _ (a_text cs h) = unseen
first_in_group c e f _ _ _ _ (quoted cs h) = unseen
first_in_group c e f _ _ _ _ (sign d i h) = unseen
first_in_group c e f n (suc m) (Opens _ ∷ x) (Opens _ ∷ y) (opened d h) = go (same_delimiter d e)
  where
    go : (b : Bool)
        → Sight (suc m) (behind (cond b (Some x) None) (past_first c 0)) (behind (cond b (Some y) None)
        (past_first c 0))
    go true = more (up m) (first_sight c 0 n (suc n) m x y h (omega arith))
    go false = unseen
first_in_group c e f _ _ _ _ (closed d h) = unseen

pub sure_first : (c : ℕ) (d : Delimiter) → not (same_delimiter Brace d) ≡ true → IsSure (opens d then past_first c 0)
sure_first c d e = record { by = first_in_group c d e }

-- any opening token
opening_seen : (n m : ℕ) (x y : List Token) → Alike n m x y → seen (opening x) ≡ seen (opening y)
opening_seen _ _ _ _ (semicolon i j) = refl
opening_seen _ _ _ _ brace = refl
opening_seen _ _ _ _ (a_text cs h) = refl
opening_seen _ _ _ _ (quoted cs h) = refl
opening_seen _ _ _ _ (sign d i h) = refl
opening_seen _ _ _ _ (opened d h) = refl
opening_seen _ _ _ _ (closed d h) = refl

pub blind_opening : IsBlind opening
blind_opening = record { by = opening_seen }

-- literals in a row
which : {n m : ℕ} {u v : List Token} {o q : Option (List Token)} (b : Bool) → Sight m o q → Alike n (suc m) u v
    → Sight (suc m) (cond b o (Some u)) (cond b q (Some v))
which true s h = more (up _) s
which false s h = alike (le_refl _) h

literals_sight : (p : List ℕ → Bool) (n m : ℕ) (x y : List Token) → Alike n m x y
    → Sight m (past_literals p x) (past_literals p y)
literals_sight p _ _ _ _ (semicolon i j) = alike (le_refl _) (semicolon i j)
literals_sight p _ _ _ _ brace = alike (le_refl _) brace
literals_sight p _ _ _ _ (a_text cs h) = alike (le_refl _) (a_text cs h)
literals_sight p _ (suc m) _ _ (quoted cs h) = which (p cs) (literals_sight p _ m _ _ h) (quoted cs h)
literals_sight p _ _ _ _ (sign d i h) = alike (le_refl _) (sign d i h)
literals_sight p _ _ _ _ (opened d h) = alike (le_refl _) (opened d h)
literals_sight p _ _ _ _ (closed d h) = alike (le_refl _) (closed d h)

pub sure_literals : (p : List ℕ → Bool) → IsSure (past_literals p)
sure_literals p = record { by = literals_sight p }

-- one of some marks
abbrev pub no_semicolons : List (List ℕ) → Bool
no_semicolons [] = true
no_semicolons (text ∷ texts) = no_semicolon text && no_semicolons texts

pub sure_marks : (texts : List (List ℕ)) → no_semicolons texts ≡ true → IsSure (any_mark texts)
sure_marks [] e = sure_none
sure_marks (text ∷ texts) e = sure_or (sure_mark text (and_left _ _ e)) (sure_marks texts (and_right _ _ e))

end_sight : (n m : ℕ) (x y : List Token) → Alike n m x y → Sight m (the_end x) (the_end y)
end_sight _ _ _ _ (semicolon i j) = unseen
end_sight _ _ _ _ brace = unseen
end_sight _ _ _ _ (a_text cs h) = unseen
end_sight _ _ _ _ (quoted cs h) = unseen
end_sight _ _ _ _ (sign d i h) = unseen
end_sight _ _ _ _ (opened d h) = unseen
end_sight _ _ _ _ (closed d h) = unseen

pub sure_end : IsSure the_end
sure_end = record { by = end_sight }

-- again and again
size : (n m : ℕ) (x y : List Token) → Alike n m x y → (m < length x) × (m < length y)
size _ _ _ _ (semicolon i j) = (omega arith, omega arith)
size _ _ _ _ brace = (omega arith, omega arith)
size _ _ _ _ (a_text cs h) = let e = size _ _ _ _ h in (omega (arith, e.0), omega (arith, e.1))
size _ _ _ _ (quoted cs h) = let e = size _ _ _ _ h in (omega (arith, e.0), omega (arith, e.1))
size _ _ _ _ (sign c i h) = let e = size _ _ _ _ h in (omega (arith, e.0), omega (arith, e.1))
size _ _ _ _ (opened d h) = let e = size _ _ _ _ h in (omega (arith, e.0), omega (arith, e.1))
size _ _ _ _ (closed d h) = let e = size _ _ _ _ h in (omega (arith, e.0), omega (arith, e.1))

module _ (a : Look) (f : IsStrict a) where
  none_far : (g h : ℕ) (x y : List Token) (m : ℕ) (o p : Option (List Token)) → o ≡ None → p ≡ None
      → Sight m (Some x) (Some y)
      → Sight m (first_seen (behind o (as_far g a)) (Some x)) (first_seen (behind p (as_far h a)) (Some y))
  none_far g h x y m None None d e s = s
  none_far g h x y m (Some u) p d e s = cc d
  none_far g h x y m None (Some v) d e s = cc e

  some_far : (g h m n : ℕ) (x y : List Token) → Alike n (suc m) x y → (o p : Option (List Token)) → Sight m o p
      → ((i j : ℕ) (u v : List Token) → Alike i j u v → j ≤ m → Sight j (as_far g a u) (as_far h a v))
      → Sight (suc m) (first_seen (behind o (as_far g a)) (Some x)) (first_seen (behind p (as_far h a)) (Some y))
  some_far g h m n x y s _ _ unseen r = alike (le_refl _) s
  some_far g h m n x y s _ _ (alike {n = i} {k = j} b t) r =
      either_sight (suc m) _ _ (Some x) (Some y) (more (omega (arith, b)) (r i j _ _ t b)) (alike (le_refl _) s)

  far : (g h n m : ℕ) (x y : List Token) → Alike n m x y → m < g → m < h → Sight m (as_far g a x) (as_far h a y)
  far zero h n m x y s k l = absurd (omega (arith, k))
  far (suc g) zero n m x y s k l = absurd (omega (arith, l))
  far (suc g) (suc h) n zero x y s k l =
      let u = f.by n zero x y s in none_far g h x y zero (a x) (a y) u.0 u.1 (alike (le_refl 0) s)
  far (suc g) (suc h) n (suc m) x y s k l =
      some_far g h m n x y s (a x) (a y) (f.by n (suc m) x y s)
      (λ i j u v t b. far g h i j u v t (omega (arith, b, k)) (omega (arith, b, l)))

pub sure_repeatedly : {a : Look} → IsStrict a → IsSure (repeatedly a)
sure_repeatedly {a = a} f = record {
  by = λ n m x y h. let e = size n m x y h in far a f (length x) (length y) n m x y h e.0 e.1;
}
