-- Lists and turns, an element more.
use Rattle.std.specs.Prelude.{◌≡◌, ◌≤◌, ◌<◌, ◌+◌, ℕ, zero, suc, Bool, List, [], ◌∷◌}
use Rattle.std.specs.Prelude.{◌++◌, Option, Some, None, length, drop}
use Rattle.std.specs.Prelude.{refl}
use Rattle.std.proofs.Common.{arith, ap, get_or, subst, sym, ◌∙◌}
use Rattle.std.proofs.lemmas.List.{drop_more}
use Rattle.rust_leaf.specs.declared.punct.Spacing.TheVariants.{Alone}
use Rattle.proc_macro2.specs.Token.{Token}
use Rattle.syn_grammar.specs.Gram.{Gram, many, star}
use Rattle.syn_grammar.specs.Kept.{kept}
use Rattle.reader_tree.specs.Forms.{elements, ending, turns as in_turn}
use denote.Bor.{Bor}
use Rattle.reader_tree.specs.Size.{node_count}
use Rattle.reader_tree.specs.declared.tree.Element.{Element}
use Rattle.node_shapes.specs.Shape.{IsShaped}
use Rattle.syn_grammar.specs.Tree as t
use Rattle.syn_grammar.specs.Tree.{Tree}
use Rattle.node_words.specs.Words.{all_listed, listed, turns}

-- one more of those that have a mark behind them
pub all_listed_more : {A : Type 0} (c : ℕ) (f : A → Tree) (xs : List A) (x : A) (y : Tree)
    → all_listed c f (xs ++ x ∷ []) y ≡ all_listed c f xs (t.More (f x) c Alone y)
all_listed_more c f [] x y = refl
all_listed_more c f (z ∷ xs) x y = ap (λ w. t.More (f z) c Alone w) (all_listed_more c f xs x y)

-- as many separators as elements
pub listed_all : {A P : Type 0} (c : ℕ) (f : A → Tree) (xs : List A) (ps : List P) → length xs ≡ length ps
    → listed c f xs ps ≡ all_listed c f xs t.End
listed_all c f [] ps e = refl
listed_all c f (x ∷ xs) (p ∷ ps) e = ap (λ w. t.More (f x) c Alone w) (listed_all c f xs ps (omega (arith, e)))
listed_all c f (x ∷ xs) [] e = absurd (omega (arith, e))

-- and one element more
pub listed_last : {A P : Type 0} (c : ℕ) (f : A → Tree) (xs : List A) (x : A) (ps : List P)
    → length xs ≡ length ps
    → listed c f (xs ++ x ∷ []) ps ≡ all_listed c f xs (t.Final (f x))
listed_last c f [] x [] e = refl
listed_last c f [] x (p ∷ ps) e = absurd (omega (arith, e))
listed_last c f (z ∷ xs) x (p ∷ ps) e = ap (λ w. t.More (f z) c Alone w) (listed_last c f xs x ps
    (omega (arith, e)))
listed_last c f (z ∷ xs) x [] e = absurd (omega (arith, e))

-- turns before others
abbrev pub turned : {A : Type 0} → (A → Tree) → List A → Tree → Tree
turned f [] y = y
turned f (x ∷ xs) y = t.Again (f x) (turned f xs y)

pub turned_more : {A : Type 0} (f : A → Tree) (xs : List A) (x : A) (y : Tree)
    → turned f (xs ++ x ∷ []) y ≡ turned f xs (t.Again (f x) y)
turned_more f [] x y = refl
turned_more f (z ∷ xs) x y = ap (λ w. t.Again (f z) w) (turned_more f xs x y)

pub turned_all : {A : Type 0} (f : A → Tree) (xs : List A) → turns f xs ≡ turned f xs t.End
turned_all f [] = refl
turned_all f (x ∷ xs) = ap (λ w. t.Again (f x) w) (turned_all f xs)

-- the element that stands there, and those behind it

at_index : {X : Type 0} (xs : List X) (i : ℕ) (x : X) → i < length xs → x ≡ get_or xs i x
    → drop i xs ≡ x ∷ drop (i + 1) xs
at_index xs i x l e = drop_more xs i x l ∙ ap (λ y. y ∷ drop (i + 1) xs) (sym e)

pub element_put : {A : Type 0} (c : ℕ) (f : A
    → Tree) (vs : List A) (v : A) (es : List Element) (i : ℕ) (x : Element)
    (y k : Tree)
    → i < length es → x ≡ get_or es i x → f v ≡ kept x.tree
    → all_listed c f vs (kept (elements c (drop i es) y)) ≡ k
    → all_listed c f (vs ++ v ∷ []) (kept (elements c (drop (i + 1) es) y)) ≡ k
element_put c f vs v es i x y k l e m h =
    all_listed_more c f vs v _
    ∙ ap (λ z. all_listed c f vs (t.More z c Alone (kept (elements c (drop (i + 1) es) y)))) m
    ∙ ap (λ zs. all_listed c f vs (kept (elements c zs y))) (sym (at_index es i x l e)) ∙ h

pub element_shaped : (c : ℕ) (es : List Element) (i : ℕ) (x : Element) (y : Tree) (ended : List Token
    → Bool) (g : Gram)
    → i < length es → x ≡ get_or es i x → IsShaped (elements c (drop i es) y) (many ended c g)
    → IsShaped x.tree g × IsShaped (elements c (drop (i + 1) es) y) (many ended c g)
element_shaped c es i x y ended g l e h =
    let q = subst (λ zs. IsShaped (elements c zs y) (many ended c g)) (at_index es i x l e) h in (q.1, q.2)

pub element_fewer : (c : ℕ) (es : List Element) (i : ℕ) (x : Element) (y : Tree) (n : ℕ)
    → i < length es → x ≡ get_or es i x → node_count (elements c (drop i es) y) ≤ n
    → (node_count x.tree < n) × (node_count (elements c (drop (i + 1) es) y) ≤ n)
element_fewer c es i x y n l e h =
    let q = subst (λ zs. node_count (elements c zs y) ≤ n) (at_index es i x l e) h in (
      omega (arith, q),
      omega (arith, q),
    )

-- at the end of those that have a mark behind them

pub length_more : {X : Type 0} (xs : List X) (x : X) → length (xs ++ x ∷ []) ≡ suc (length xs)
length_more [] x = refl
length_more (y ∷ xs) x = ap suc (length_more xs x)

drop_end : {X : Type 0} (xs : List X) (i : ℕ) → length xs ≤ i → drop i xs ≡ []
drop_end [] zero l = refl
drop_end [] (suc i) l = refl
drop_end (x ∷ xs) zero l = absurd (omega (arith, l))
drop_end (x ∷ xs) (suc i) l = drop_end xs i (omega (arith, l))

at_end : {A : Type 0} (c : ℕ) (f : A → Tree) (vs : List A) (es : List Element) (i : ℕ) (y k : Tree)
    → length es ≤ i
    → all_listed c f vs (kept (elements c (drop i es) y)) ≡ k → all_listed c f vs (kept y) ≡ k
at_end c f vs es i y k l h = subst (λ zs. all_listed c f vs (kept (elements c zs y)) ≡ k) (drop_end es i l) h

pub no_last : {A P : Type 0} (c : ℕ) (f : A → Tree) (vs : List A) (ps : List P) (es : List Element) (i : ℕ)
    (o : Option (Bor Tree)) (k : Tree)
    → length vs ≡ length ps → length es ≤ i → ((x : Bor Tree) → o ≡ Some x → ⊥)
    → all_listed c f vs (kept (elements c (drop i es) (ending (λ x. x.now) o))) ≡ k → listed c f vs ps ≡ k
no_last c f vs ps es i None k e l d h = listed_all c f vs ps e ∙ at_end c f vs es i t.End k l h
no_last c f vs ps es i (Some x) k e l d h = absurd (d x refl)

pub one_last : {A P : Type 0} (c : ℕ) (f : A
    → Tree) (vs : List A) (v : A) (ps : List P) (es : List Element) (i : ℕ)
    (o : Option (Bor Tree)) (x : Bor Tree) (k : Tree)
    → length vs ≡ length ps → length es ≤ i → o ≡ Some x → f v ≡ kept x.now
    → all_listed c f vs (kept (elements c (drop i es) (ending (λ x. x.now) o))) ≡ k
    → listed c f (vs ++ v ∷ []) ps ≡ k
one_last c f vs v ps es i o x k e l d m h =
    listed_last c f vs v ps e ∙ ap (λ y. all_listed c f vs (t.Final y)) m
    ∙ at_end c f vs es i (t.Final x.now) k l
    (subst (λ q. all_listed c f vs (kept (elements c (drop i es) (ending (λ x. x.now) q))) ≡ k) d h)

pub listed_is : {A P : Type 0} (c : ℕ) (f : A → Tree) (vs ws : List A) (ps qs : List P) (k : Tree)
    → ws ≡ vs → qs ≡ ps
    → listed c f vs ps ≡ k → listed c f ws qs ≡ k
listed_is c f vs ws ps qs k e h r = ap (λ zs. listed c f zs qs) e ∙ ap (λ zs. listed c f vs zs) h ∙ r

pub turns_end : {A : Type 0} (f : A → Tree) (vs : List A) (xs : List Tree) (i : ℕ) (k : Tree) → length xs ≤ i
    → turned f vs (kept (in_turn (drop i xs))) ≡ k → turns f vs ≡ k
turns_end f vs xs i k l h =
    turned_all f vs ∙ subst (λ zs. turned f vs (kept (in_turn zs)) ≡ k) (drop_end xs i l) h

-- the same of turns

pub turn_put : {A : Type 0} (f : A → Tree) (vs : List A) (v : A) (xs : List Tree) (i : ℕ) (x k : Tree)
    → i < length xs → x ≡ get_or xs i x → f v ≡ kept x
    → turned f vs (kept (in_turn (drop i xs))) ≡ k
    → turned f (vs ++ v ∷ []) (kept (in_turn (drop (i + 1) xs))) ≡ k
turn_put f vs v xs i x k l e m h =
    turned_more f vs v _
    ∙ ap (λ z. turned f vs (t.Again z (kept (in_turn (drop (i + 1) xs))))) m
    ∙ ap (λ zs. turned f vs (kept (in_turn zs))) (sym (at_index xs i x l e)) ∙ h

pub turn_shaped : (xs : List Tree) (i : ℕ) (x : Tree) (goes_on : List Token → Bool) (g : Gram)
    → i < length xs → x ≡ get_or xs i x → IsShaped (in_turn (drop i xs)) (star goes_on g)
    → IsShaped x g × IsShaped (in_turn (drop (i + 1) xs)) (star goes_on g)
turn_shaped xs i x goes_on g l e h = subst (λ zs. IsShaped (in_turn zs) (star goes_on g)) (at_index xs i x l e) h

pub turn_fewer : (xs : List Tree) (i : ℕ) (x : Tree) (n : ℕ)
    → i < length xs → x ≡ get_or xs i x → node_count (in_turn (drop i xs)) ≤ n
    → (node_count x < n) × (node_count (in_turn (drop (i + 1) xs)) ≤ n)
turn_fewer xs i x n l e h =
    let q = subst (λ zs. node_count (in_turn zs) ≤ n) (at_index xs i x l e) h in (
      omega (arith, q),
      omega
          (arith, q),
    )

pub ruleset steps = (all_listed_more, listed_all, listed_last, element_put, element_shaped, element_fewer)

pub ruleset turn_steps = (turns_end, turn_put, turn_shaped, turn_fewer)
