-- Lists in which lifetimes come first.
use Rattle.std.specs.Prelude.{◌≡◌, ℕ, zero, suc, Bool, true, false, cond, List, [], ◌∷◌, ◌++◌, ◌==◌, refl}
use Rattle.std.proofs.Common.{ap, append_assoc, ◌∙◌, sym, length, arith}
use Rattle.std.proofs.lemmas.Bool.{false≢true}
use Rattle.std.proofs.lemmas.Bool.Decides.{nat_tests}
use Rattle.std.proofs.lemmas.List.{append-nil}
use Rattle.rust_leaf.specs.declared.punct.Spacing.{Spacing}
use Rattle.rust_leaf.specs.declared.punct.Spacing.TheVariants.{Alone as Apart}
use Rattle.syn_grammar.specs.Tree as t
use Rattle.syn_grammar.specs.Tree.{Tree}
use Rattle.syn_grammar.specs.Tidy.{joined, lifetimes_first, others_of, those_then}
use Rattle.reader_tree.specs.declared.tree.Element.{Element}
use Rattle.reader_tree.specs.Forms.{mark_of, seconds, turns, elements}
use Rattle.reader_table.specs.Ops.{separator_of}
use Rattle.reader_table.specs.declared.op.Separator.{Separator}
use Rattle.reader_table.specs.declared.op.Separator.TheVariants as separators
use Rattle.writer_normal.specs.Changes.{others_in, those_in}
use Rattle.writer_normal.specs.Separators.{is_mixed}
use Rattle.writer_normal.proofs.Mixing.{comma_before}

-- what is no list
pub firsts_seconds : (p : Tree → Bool) (n : ℕ) (x : Tree)
    → lifetimes_first p (seconds n (t.First x)) ≡ seconds n (t.First x)
firsts_seconds p zero x = refl
firsts_seconds p (suc n) x = refl

pub firsts_mark : (p : Tree → Bool) (cs : List ℕ) (spacing : Spacing)
    → lifetimes_first p (mark_of cs spacing) ≡ mark_of cs spacing
firsts_mark p [] spacing = refl
firsts_mark p (c ∷ cs) spacing = refl

pub firsts_turns : (p : Tree → Bool) (xs : List Tree) → lifetimes_first p (turns xs) ≡ turns xs
firsts_turns p [] = refl
firsts_turns p (x ∷ xs) = refl

pub ruleset unlisted = (firsts_seconds, firsts_mark, firsts_turns)

-- the others, and what stands behind them
others_more : (p : Tree → Bool) (c : ℕ) (e : Element) (es : List Element) (y : Tree)
    → others_of p (elements c es y) ≡ elements c (others_in p es) (others_of p y)
    → (b : Bool) → cond b (others_of p (elements c es y)) (t.More e.tree c e.spacing (others_of p (elements c es y)))
    ≡ elements c (cond b (others_in p es) (e ∷ others_in p es)) (others_of p y)
others_more p c e es y h true = h
others_more p c e es y h false = ap (t.More e.tree c e.spacing) h

others_are : (p : Tree → Bool) (c : ℕ) (es : List Element) (y : Tree)
    → others_of p (elements c es y) ≡ elements c (others_in p es) (others_of p y)
others_are p c [] y = refl
others_are p c (e ∷ es) y = others_more p c e es y (others_are p c es y) (p e.tree)

-- those that come first, before something
those_more : (p : Tree → Bool) (c : ℕ) (e : Element) (es : List Element) (y o : Tree)
    → those_then p (elements c es y) o ≡ elements c (those_in p es) (those_then p y o)
    → (b : Bool) → cond b (t.More e.tree c e.spacing (those_then p (elements c es y) o))
    (those_then p (elements c es y) o) ≡ elements c (cond b (e ∷ those_in p es) (those_in p es)) (those_then p y o)
those_more p c e es y o h true = ap (t.More e.tree c e.spacing) h
those_more p c e es y o h false = h

those_are : (p : Tree → Bool) (c : ℕ) (es : List Element) (y o : Tree)
    → those_then p (elements c es y) o ≡ elements c (those_in p es) (those_then p y o)
those_are p c [] y o = refl
those_are p c (e ∷ es) y o = those_more p c e es y o (those_are p c es y o) (p e.tree)

elements_join : (c : ℕ) (es ds : List Element) (y : Tree) → elements c (es ++ ds) y ≡ elements c es (elements c ds y)
elements_join c [] ds y = refl
elements_join c (e ∷ es) ds y = ap (t.More e.tree c e.spacing) (elements_join c es ds y)

both_are : (p : Tree → Bool) (c : ℕ) (es : List Element) (y : Tree) → lifetimes_first p (elements c es y)
    ≡ elements c (those_in p es) (those_then p y (elements c (others_in p es) (others_of p y)))
both_are p c es y =
    those_are p c es y (others_of p (elements c es y))
    ∙ ap (λ o. elements c (those_in p es) (those_then p y o)) (others_are p c es y)

-- a list with no last element that no mark follows
pub parted_end : (p : Tree → Bool) (c : ℕ) (es ds : List Element) → ds ≡ those_in p es ++ others_in p es
    → elements c ds t.End ≡ lifetimes_first p (elements c es t.End)
parted_end p c es ds e =
    ap (λ xs. elements c xs t.End) e ∙ elements_join c (those_in p es) (others_in p es) t.End
    ∙ sym (both_are p c es t.End)

-- a last one that is none of them
last_other : (p : Tree → Bool) (c : ℕ) (xs : List Element) (x : Tree) → p x ≡ false
    → elements c xs (t.Final x) ≡ those_then p (t.Final x) (elements c xs (others_of p (t.Final x)))
last_other p c xs x e =
    sym (ap (λ b. cond b (joined x (elements c xs (cond b t.End (t.Final x))))
    (elements c xs (cond b t.End (t.Final x)))) e)

pub parted_last : (p : Tree → Bool) (c : ℕ) (es ds : List Element) (x : Tree) → p x ≡ false
    → ds ≡ those_in p es ++ others_in p es → elements c ds (t.Final x) ≡ lifetimes_first p (elements c es (t.Final x))
parted_last p c es ds x h e =
    ap (λ xs. elements c xs (t.Final x)) e ∙ elements_join c (those_in p es) (others_in p es) (t.Final x)
    ∙ ap (elements c (those_in p es)) (last_other p c (others_in p es) x h) ∙ sym (both_are p c es (t.Final x))

-- a last one that is one of them, before none and before others
last_then : (p : Tree → Bool) (c : ℕ) (xs : List Element) (x : Tree) → p x ≡ true
    → joined x (elements c xs t.End) ≡ those_then p (t.Final x) (elements c xs (others_of p (t.Final x)))
last_then p c xs x e =
    sym (ap (λ b. cond b (joined x (elements c xs (cond b t.End (t.Final x))))
    (elements c xs (cond b t.End (t.Final x)))) e)

pub last_alone : (p : Tree → Bool) (c : ℕ) (es xs : List Element) (x : Tree) → p x ≡ true → others_in p es ≡ []
    → xs ≡ those_in p es → elements c xs (t.Final x) ≡ lifetimes_first p (elements c es (t.Final x))
last_alone p c es xs x h none e =
    ap (λ ys. elements c ys (t.Final x)) e
    ∙ ap (λ os. elements c (those_in p es) (joined x (elements c os t.End))) (sym none)
    ∙ ap (elements c (those_in p es)) (last_then p c (others_in p es) x h) ∙ sym (both_are p c es (t.Final x))

joined_some : (x : Tree) (xs : List Element) → (xs ≡ [] → ⊥)
    → t.More x 44 Apart (elements 44 xs t.End) ≡ joined x (elements 44 xs t.End)
joined_some x [] h = absurd (h refl)
joined_some x (e ∷ es) h = refl

pub last_before : (p : Tree → Bool) (es xs : List Element) (e : Element) → p e.tree ≡ true → e.spacing ≡ Apart
    → (others_in p es ≡ [] → ⊥) → xs ≡ (those_in p es ++ e ∷ []) ++ others_in p es
    → elements 44 xs t.End ≡ lifetimes_first p (elements 44 es (t.Final e.tree))
last_before p es xs e h spaced some is =
    let os : List Element = others_in p es in
    ap (λ ys. elements 44 ys t.End) is ∙ elements_join 44 (those_in p es ++ e ∷ []) os t.End
    ∙ elements_join 44 (those_in p es) (e ∷ []) (elements 44 os t.End)
    ∙ ap (λ s. elements 44 (those_in p es) (t.More e.tree 44 s (elements 44 os t.End))) spaced
    ∙ ap (elements 44 (those_in p es)) (joined_some e.tree os some ∙ last_then p 44 os e.tree h)
    ∙ sym (both_are p 44 es (t.Final e.tree))

is_empty : (os : List Element) → (length os == 0) ≡ true → os ≡ []
is_empty [] e = refl
is_empty (o ∷ os) e = grind (arith, nat_tests)

is_some : (os : List Element) → (length os == 0) ≡ false → os ≡ [] → ⊥
is_some os h e = false≢true (sym h ∙ ap (λ xs. length xs == 0) e)

pub with_none : (p : Tree → Bool) (c : ℕ) (es xs os : List Element) (x y z : Tree) → p x ≡ true → os ≡ others_in p es
    → (length os == 0) ≡ true → xs ≡ those_in p es → y ≡ x → z ≡ elements c xs (t.Final y)
    → z ≡ lifetimes_first p (elements c es (t.Final x))
with_none p c es xs os x y z h o none f same is =
    is ∙ ap (λ v. elements c xs (t.Final v)) same ∙ last_alone p c es xs x h (sym o ∙ is_empty os none) f

pub with_some : (p : Tree → Bool) (es os firsts pushed all : List Element) (e : Element) (x z : Tree) → p x ≡ true
    → os ≡ others_in p es → (length os == 0) ≡ false → firsts ≡ those_in p es → e.tree ≡ x → e.spacing ≡ Apart
    → pushed ≡ firsts ++ e ∷ [] → all ≡ pushed ++ others_in p es → z ≡ elements 44 all t.End
    → z ≡ lifetimes_first p (elements 44 es (t.Final x))
with_some p es os firsts pushed all e x z h o some f same spaced push put is =
    is ∙ last_before p es all e (ap p same ∙ h) spaced (λ none. is_some os some (o ∙ none))
    (put ∙ ap (λ xs. xs ++ others_in p es) (push ∙ ap (λ xs. xs ++ e ∷ []) f))
    ∙ ap (λ v. lifetimes_first p (elements 44 es (t.Final v))) same

-- and before others, where the separator is +
pub plus_mixed : (p : Tree → Bool) (s : Separator) (es os : List Element) (x : Tree) → p x ≡ true
    → os ≡ others_in p es → (length os == 0) ≡ false → s ≡ separators.Plus
    → is_mixed (lifetimes_first p (elements (separator_of s) es (t.Final x))) ≡ true
plus_mixed p separators.Comma es os x h o none e = cc
plus_mixed p separators.Plus es os x h o none e =
    let others : List Element = others_in p es in
    let c : ℕ = separator_of separators.Plus in
    ap is_mixed (both_are p c es (t.Final x) ∙ ap (elements c (those_in p es)) (sym (last_then p c others x h)))
    ∙ comma_before c x (those_in p es) others (λ e. omega (arith, e)) (λ f. is_some os none (o ∙ f))

pub ruleset firsts = (parted_end, parted_last)

-- put in their order
pub those_none : (p : Tree → Bool) (es out : List Element) → length es ≡ 0 → out ≡ out ++ those_in p es
those_none p [] out e = sym (append-nil out)
those_none p (d ∷ es) out e = absurd (omega (arith, e))

pub those_yes : (p : Tree → Bool) (es ds out new all : List Element) (e : Element) → es ≡ e ∷ ds → p e.tree ≡ true
    → new ≡ out ++ e ∷ [] → all ≡ new ++ those_in p ds → all ≡ out ++ those_in p es
those_yes p es ds out new all e is h f g =
    g ∙ ap (λ xs. xs ++ those_in p ds) f ∙ append_assoc out (e ∷ []) (those_in p ds)
    ∙ sym (ap (λ b. out ++ cond b (e ∷ those_in p ds) (those_in p ds)) h) ∙ ap (λ xs. out ++ those_in p xs) (sym is)

pub those_no : (p : Tree → Bool) (es ds out all : List Element) (e : Element) → es ≡ e ∷ ds → p e.tree ≡ false
    → all ≡ out ++ those_in p ds → all ≡ out ++ those_in p es
those_no p es ds out all e is h g =
    g ∙ sym (ap (λ b. out ++ cond b (e ∷ those_in p ds) (those_in p ds)) h) ∙ ap (λ xs. out ++ those_in p xs) (sym is)

pub others_none : (p : Tree → Bool) (es out : List Element) → length es ≡ 0 → out ≡ out ++ others_in p es
others_none p [] out e = sym (append-nil out)
others_none p (d ∷ es) out e = absurd (omega (arith, e))

pub others_no : (p : Tree → Bool) (es ds out new all : List Element) (e : Element) → es ≡ e ∷ ds → p e.tree ≡ false
    → new ≡ out ++ e ∷ [] → all ≡ new ++ others_in p ds → all ≡ out ++ others_in p es
others_no p es ds out new all e is h f g =
    g ∙ ap (λ xs. xs ++ others_in p ds) f ∙ append_assoc out (e ∷ []) (others_in p ds)
    ∙ sym (ap (λ b. out ++ cond b (others_in p ds) (e ∷ others_in p ds)) h) ∙ ap (λ xs. out ++ others_in p xs) (sym is)

pub others_yes : (p : Tree → Bool) (es ds out all : List Element) (e : Element) → es ≡ e ∷ ds → p e.tree ≡ true
    → all ≡ out ++ others_in p ds → all ≡ out ++ others_in p es
others_yes p es ds out all e is h g =
    g ∙ sym (ap (λ b. out ++ cond b (others_in p ds) (e ∷ others_in p ds)) h)
    ∙ ap (λ xs. out ++ others_in p xs) (sym is)

pub ruleset puts = (those_none, those_yes, those_no, others_none, others_no, others_yes)
