-- The two | of a closure stand before the stop, so whether -> stands behind them is seen without what stands behind it.
use Rattle.std.proofs.Common.{◌≡◌, ℕ, zero, suc, List, [], ◌∷◌, ◌++◌, refl, sym, subst, append_assoc}
use Rattle.std.specs.Prelude.{Bool, true, false, ◌==◌, cond, Option, Some}
use Rattle.proc_macro2.specs.Token.{Token, Opens, Closes, Ident, Literal, Punct}
use Rattle.proc_macro2.specs.declared.delimiter.Delimiter.{Delimiter}
use Rattle.proc_macro2.specs.declared.delimiter.Delimiter.TheVariants.{Brace}
use Rattle.rust_leaf.specs.declared.punct.Spacing.{Spacing}
use Rattle.std.proofs.lemmas.Bool.{eqb-true}
use Rattle.syn_grammar.specs.Tree.{Tree, AMark, Pair, marks, flat}
use Rattle.syn_grammar.specs.Gram.{Gram, word, literal, mark, lifetime, raw, nothing, never, seq, alt, star, many}
use Rattle.syn_grammar.specs.Gram.{group, judged, dropped, called, ref, operand}
use Rattle.syn_grammar.specs.Look.{seen, behind, ◌then◌, past_closing, past_first}
use Rattle.syn_grammar.specs.Say.{marks as the_marks}
use Rattle.syn_grammar.specs.Forms.{past_bar}
use Rattle.syn_grammar.specs.Derives.{Derives}
use Rattle.laws_items.proofs.Passed.{tree_passed}
use Rattle.laws_items.proofs.Alike.{Alike, IsBlind, blind_sure}
use Rattle.laws_items.proofs.Alike as A
use Rattle.laws_items.proofs.Steady.{a_mark}

-- so many groups are open, and at least so many | stand in none of them before the stop
pub data Barred : ℕ → ℕ → List Token → List Token → Type 0 where
  none : {n m : ℕ} {x y : List Token} → Alike n m x y → Barred n 0 x y
  bar : {j : ℕ} {x y : List Token} (i : Spacing) → Barred 0 j x y → Barred 0 (suc j) (Punct 124 i ∷ x)
      (Punct 124 i ∷ y)
  a_text : {n j : ℕ} {x y : List Token} (cs : List ℕ) → Barred n j x y → Barred n j (Ident cs ∷ x) (Ident cs ∷ y)
  quoted : {n j : ℕ} {x y : List Token} (cs : List ℕ) → Barred n j x y → Barred n j (Literal cs ∷ x) (Literal cs ∷ y)
  sign : {n j : ℕ} {x y : List Token} (c : ℕ) (i : Spacing) → Barred n j x y
      → Barred n j (Punct c i ∷ x) (Punct c i ∷ y)
  opened : {n j : ℕ} {x y : List Token} (d : Delimiter) → Barred (suc n) j x y → Barred n j (Opens d ∷ x)
      (Opens d ∷ y)
  closed : {n j : ℕ} {x y : List Token} (d : Delimiter) → Barred n j x y
      → Barred (suc n) j (Closes d ∷ x) (Closes d ∷ y)

lessen : (n j : ℕ) (x y : List Token) → Barred n (suc j) x y → Barred n j x y
lessen _ _ _ _ (bar i h) = sign 124 i h
lessen _ _ _ _ (a_text cs h) = a_text cs (lessen _ _ _ _ h)
lessen _ _ _ _ (quoted cs h) = quoted cs (lessen _ _ _ _ h)
lessen _ _ _ _ (sign c i h) = sign c i (lessen _ _ _ _ h)
lessen _ _ _ _ (opened d h) = opened d (lessen _ _ _ _ h)
lessen _ _ _ _ (closed d h) = closed d (lessen _ _ _ _ h)

pub alike : (n j : ℕ) (x y : List Token) → Barred n j x y → (m : ℕ) × Alike n m x y
alike _ _ _ _ (none {m = m} h) = (m, h)
alike _ _ _ _ (bar i h) = let k = alike _ _ _ _ h in (suc k.0, A.sign 124 i k.1)
alike _ _ _ _ (a_text cs h) = let k = alike _ _ _ _ h in (suc k.0, A.a_text cs k.1)
alike _ _ _ _ (quoted cs h) = let k = alike _ _ _ _ h in (suc k.0, A.quoted cs k.1)
alike _ _ _ _ (sign c i h) = let k = alike _ _ _ _ h in (suc k.0, A.sign c i k.1)
alike _ _ _ _ (opened d h) = let k = alike _ _ _ _ h in (suc k.0, A.opened d k.1)
alike _ _ _ _ (closed d h) = let k = alike _ _ _ _ h in (suc k.0, A.closed d k.1)

-- behind the next | of both
data Found (j : ℕ) : Option (List Token) → Option (List Token) → Type 0 where
  found : {x y : List Token} → Barred 0 j x y → Found j (Some x) (Some y)

here : (j : ℕ) (x y : List Token) (b : Bool) (o p : Option (List Token)) → Barred 0 (suc j) x y → Found j o p
    → Found j (cond b (Some x) o) (cond b (Some y) p)
here j x y true o p h f = found (lessen 0 j x y h)
here j x y false o p h f = f

next : (n j : ℕ) (x y : List Token) → Barred n (suc j) x y → Found j (past_first 124 n x) (past_first 124 n y)
next _ _ _ _ (bar i h) = found h
next zero j _ _ (a_text cs h) = next zero j _ _ h
next (suc n) j _ _ (a_text cs h) = next (suc n) j _ _ h
next zero j _ _ (quoted cs h) = next zero j _ _ h
next (suc n) j _ _ (quoted cs h) = next (suc n) j _ _ h
next zero j _ _ (sign c i h) = here j _ _ (c == 124) _ _ h (next zero j _ _ h)
next (suc n) j _ _ (sign c i h) = next (suc n) j _ _ h
next zero j _ _ (opened d h) = next 1 j _ _ h
next (suc n) j _ _ (opened d h) = next (suc (suc n)) j _ _ h
next (suc n) j _ _ (closed d h) = next n j _ _ h

last_seen : (l : A.IsBlind (the_marks "->")) (o p : Option (List Token)) → Found 0 o p
    → seen (behind o (the_marks "->")) ≡ seen (behind p (the_marks "->"))
last_seen l _ _ (found h) = let k = alike 0 0 _ _ h in l.by 0 k.0 _ _ k.1

two_seen : (o p : Option (List Token)) → Found 1 o p
    → seen (behind o (past_bar then the_marks "->")) ≡ seen (behind p (past_bar then the_marks "->"))
two_seen _ _ (found {x = x} {y = y} h) =
    last_seen (blind_sure (a_mark "->" refl)) (past_bar x) (past_bar y) (next 0 0 x y h)

pub bars_seen : (x y : List Token) → Barred 0 2 x y
    → seen ((past_bar then past_bar then the_marks "->") x) ≡ seen ((past_bar then past_bar then the_marks "->") y)
bars_seen x y h = two_seen (past_bar x) (past_bar y) (next 0 1 x y h)

-- trees in front
some_end : (xs : List Token) (t : Token) → Some (xs ++ t ∷ []) ≡ Some [] → ⊥
some_end [] t e = cc
some_end (x ∷ xs) t e = cc

pub front_of : (k j : ℕ) (xs a b : List Token) → past_closing k (xs ++ Closes Brace ∷ []) ≡ Some [] → Barred 0 j a b
    → Barred k j (xs ++ a) (xs ++ b)
front_of zero j [] a b e h = h
front_of (suc k) j [] a b e h = cc e
front_of k j (Ident cs ∷ xs) a b e h = a_text cs (front_of k j xs a b e h)
front_of k j (Literal cs ∷ xs) a b e h = quoted cs (front_of k j xs a b e h)
front_of k j (Punct c s ∷ xs) a b e h = sign c s (front_of k j xs a b e h)
front_of k j (Opens d ∷ xs) a b e h = opened d (front_of (suc k) j xs a b e h)
front_of zero j (Closes d ∷ xs) a b e h = absurd (some_end xs (Closes Brace) e)
front_of (suc k) j (Closes d ∷ xs) a b e h = closed d (front_of k j xs a b e h)

-- the | of an entry's sequence, and so many
abbrev is_bar : ℕ → List ℕ → Bool
is_bar c [] = c == 124
is_bar c cs = false

abbrev pub bars : Gram → ℕ → ℕ
bars (seq g h) j = bars g (bars h j)
bars (mark c cs) j = cond (is_bar c cs) (suc j) j
bars g j = j

one_bar : (c : ℕ) (cs : List ℕ) (s : Spacing) (e : ℕ) (es : List ℕ) (j : ℕ) (a b : List Token) → c ≡ e → cs ≡ es
    → Barred 0 j a b → Barred 0 j (marks c cs s ++ a) (marks c cs s ++ b)
    → Barred 0 (cond (is_bar e es) (suc j) j) (marks c cs s ++ a) (marks c cs s ++ b)
one_bar c cs s e es j a b f g h i =
    subst (λ k. Barred 0 (cond (is_bar k es) (suc j) j) (marks c cs s ++ a) (marks c cs s ++ b)) f
    (subst (λ ks. Barred 0 (cond (is_bar c ks) (suc j) j) (marks c cs s ++ a) (marks c cs s ++ b)) g (go c cs h i))
  where
    which : (c : ℕ) (v : Bool) → c == 124 ≡ v → Barred 0 j a b → Barred 0 j (Punct c s ∷ a) (Punct c s ∷ b)
        → Barred 0 (cond v (suc j) j) (Punct c s ∷ a) (Punct c s ∷ b)
    which c true e h i = subst (λ k. Barred 0 (suc j) (Punct k s ∷ a) (Punct k s ∷ b)) (sym (eqb-true c 124 e))
        (bar s h)
    which c false e h i = i

    go : (c : ℕ) (cs : List ℕ) → Barred 0 j a b → Barred 0 j (marks c cs s ++ a) (marks c cs s ++ b)
        → Barred 0 (cond (is_bar c cs) (suc j) j) (marks c cs s ++ a) (marks c cs s ++ b)
    go c [] h i = which c (c == 124) refl h i
    go c (d ∷ ds) h i = i

pub barred : (x : Tree) (g : Gram) (r : List Token) (j : ℕ) (a b : List Token) → Derives x g r → Barred 0 j a b
    → Barred 0 (bars g j) (flat x ++ a) (flat x ++ b)
barred (Pair x y) (seq g h) r j a b d i =
    subst (λ ts. Barred 0 (bars g (bars h j)) ts ((flat x ++ flat y) ++ b)) (sym (append_assoc (flat x) (flat y) a))
    (subst (λ ts. Barred 0 (bars g (bars h j)) (flat x ++ (flat y ++ a)) ts) (sym (append_assoc (flat x) (flat y) b))
    (barred x g (flat y ++ r) (bars h j) (flat y ++ a) (flat y ++ b) d.0 (barred y h r j a b d.1 i)))
barred (AMark c cs s) (mark e es) r j a b d i =
    one_bar c cs s e es j a b d.0 d.1 i
    (front_of 0 j (marks c cs s) a b (tree_passed (AMark c cs s) (mark e es) r d 0 (Closes Brace ∷ [])) i)
barred x (word p) r j a b d i =
    front_of 0 j (flat x) a b (tree_passed x (word p) r d 0 (Closes Brace ∷ [])) i
barred x (literal p) r j a b d i =
    front_of 0 j (flat x) a b (tree_passed x (literal p) r d 0 (Closes Brace ∷ [])) i
barred x lifetime r j a b d i =
    front_of 0 j (flat x) a b (tree_passed x lifetime r d 0 (Closes Brace ∷ [])) i
barred x raw r j a b d i =
    front_of 0 j (flat x) a b (tree_passed x raw r d 0 (Closes Brace ∷ [])) i
barred x nothing r j a b d i =
    front_of 0 j (flat x) a b (tree_passed x nothing r d 0 (Closes Brace ∷ [])) i
barred x never r j a b d i =
    front_of 0 j (flat x) a b (tree_passed x never r d 0 (Closes Brace ∷ [])) i
barred x (alt t f h) r j a b d i =
    front_of 0 j (flat x) a b (tree_passed x (alt t f h) r d 0 (Closes Brace ∷ [])) i
barred x (star t f) r j a b d i =
    front_of 0 j (flat x) a b (tree_passed x (star t f) r d 0 (Closes Brace ∷ [])) i
barred x (many t c f) r j a b d i =
    front_of 0 j (flat x) a b (tree_passed x (many t c f) r d 0 (Closes Brace ∷ [])) i
barred x (group o f) r j a b d i =
    front_of 0 j (flat x) a b (tree_passed x (group o f) r d 0 (Closes Brace ∷ [])) i
barred x (judged v f) r j a b d i =
    front_of 0 j (flat x) a b (tree_passed x (judged v f) r d 0 (Closes Brace ∷ [])) i
barred x (dropped f) r j a b d i =
    front_of 0 j (flat x) a b (tree_passed x (dropped f) r d 0 (Closes Brace ∷ [])) i
barred x (called m f) r j a b d i =
    front_of 0 j (flat x) a b (tree_passed x (called m f) r d 0 (Closes Brace ∷ [])) i
barred x (ref l) r j a b d i =
    front_of 0 j (flat x) a b (tree_passed x (ref l) r d 0 (Closes Brace ∷ [])) i
barred x (operand p n) r j a b d i =
    front_of 0 j (flat x) a b (tree_passed x (operand p n) r d 0 (Closes Brace ∷ [])) i
barred _ _ r j a b d i = absurd d
