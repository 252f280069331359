-- The elements of a list are read one behind the other.
use Rattle.std.proofs.Common.{◌≡◌, ℕ, zero, suc, List, [], ◌∷◌, ◌++◌, refl, sym, ap, ◌∙◌}
use Rattle.std.specs.Prelude.{Bool, true, false, cond}
use Rattle.proc_macro2.specs.Token.{Token}
use Rattle.rust_leaf.specs.declared.punct.Spacing.{Spacing}
use Rattle.syn_grammar.specs.Tree.{Tree, AMark, Nil, Pair, First, Second, End, Final, More}
use Rattle.syn_grammar.specs.Gram.{Gram}
use Rattle.syn_grammar.specs.Look.{sees, past_marks}
use Rattle.syn_grammar.specs.Run.{Out, Late, Refused, Got, ◌>>=◌, wrap, list, interp, run, listed, mark_at}
use Rattle.reader_tree.specs.Forms.{elements}
use Rattle.reader_tree.specs.declared.tree.Element.{Element}
use Rattle.reader_steps.specs.Answers.{Fails}
use Rattle.reader_steps.specs.declared.refusal.Refusal.{Refusal}
use Rattle.reader_steps.proofs.Outs.{fails_as, fails_on}

-- what is read of the others, with these in front
abbrev pub behind_elements : ℕ → List Element → Out → Out
behind_elements c es o = o >>= λ y us. Got (elements c es y) us

elements_more : (c : ℕ) (es : List Element) (e : Element) (y : Tree)
    → elements c (es ++ e ∷ []) y ≡ elements c es (More e.tree c e.spacing y)
elements_more c [] e y = refl
elements_more c (d ∷ es) e y = ap (More d.tree c d.spacing) (elements_more c es e y)

behind_more : (c : ℕ) (es : List Element) (e : Element) (o : Out)
    → behind_elements c (es ++ e ∷ []) o ≡ behind_elements c es (wrap (More e.tree c e.spacing) o)
behind_more c es e Late = refl
behind_more c es e Refused = refl
behind_more c es e (Got y us) = ap (λ z. Got z us) (elements_more c es e y)

pub elements_none : (c : ℕ) (o : Out) → behind_elements c [] o ≡ o
elements_none c Late = refl
elements_none c Refused = refl
elements_none c (Got y us) = refl

-- what stands behind an element
abbrev after : (List Token → Out) → ℕ → List Token → Bool → Out
after call c us b = cond b (wrap First (mark_at c [] us >>= λ m vs. call vs >>= λ y ws. Got (Pair m y) ws))
    (wrap Second (Got Nil us))

abbrev pair : Tree → Out → Out
pair x o = wrap listed (wrap Second (o >>= λ y vs. Got (Pair x y) vs))

marked : (c : ℕ) (x : Tree) (spacing : Spacing) (o : Out)
    → pair x (wrap First (o >>= λ y ws. Got (Pair (AMark c [] spacing) y) ws)) ≡ wrap (More x c spacing) o
marked c x spacing Late = refl
marked c x spacing Refused = refl
marked c x spacing (Got y ws) = refl

module _ (e : List Token → Bool) (c : ℕ) (g : Gram) where
  list_as : (n m : ℕ) (ts : List Token) (b : Bool) → n ≡ suc m → e ts ≡ b → run n (list e c g) ts
      ≡ wrap listed (cond b (wrap First (Got Nil ts)) (wrap Second (interp (run m) g ts
      >>= λ x us. after (run m (list e c g)) c us (sees (past_marks c []) us) >>= λ y vs. Got (Pair x y) vs)))
  list_as n m ts b s h =
      ap (λ k. run k (list e c g) ts) s
      ∙ ap (λ v. wrap listed (cond v (wrap First (Got Nil ts)) (wrap Second (interp (run m) g ts
      >>= λ x us. after (run m (list e c g)) c us (sees (past_marks c []) us) >>= λ y vs. Got (Pair x y) vs)))) h

  got : (n m : ℕ) (ts us : List Token) (x : Tree) (b : Bool) → n ≡ suc m → e ts ≡ false
      → interp (run m) g ts ≡ Got x us → sees (past_marks c []) us ≡ b
      → run n (list e c g) ts ≡ pair x (after (run m (list e c g)) c us b)
  got n m ts us x b s h i j =
      list_as n m ts false s h
      ∙ ap (λ o. wrap listed (wrap Second (o >>= λ x us. after (run m (list e c g)) c us
      (sees (past_marks c []) us) >>= λ y vs. Got (Pair x y) vs))) i
      ∙ ap (λ b. pair x (after (run m (list e c g)) c us b)) j

  -- an element and its separator more
  pub element_more : (n m : ℕ) (xs ys : List Element) (x : Element) (ts us vs : List Token) (o : Out) → n ≡ suc m
      → behind_elements c xs (run n (list e c g) ts) ≡ o → ys ≡ xs ++ x ∷ [] → e ts ≡ false
      → interp (run m) g ts ≡ Got x.tree us → sees (past_marks c []) us ≡ true
      → mark_at c [] us ≡ Got (AMark c [] x.spacing) vs → behind_elements c ys (run m (list e c g) vs) ≡ o
  element_more n m xs ys x ts us vs o s i p h j k l =
      ap (λ zs. behind_elements c zs (run m (list e c g) vs)) p ∙ behind_more c xs x (run m (list e c g) vs)
      ∙ ap (behind_elements c xs) (sym (got n m ts us x.tree true s h j k
      ∙ ap (λ o. pair x.tree (wrap First (o >>= λ z vs. run m (list e c g) vs >>= λ y ws. Got (Pair z y) ws))) l
      ∙ marked c x.tree x.spacing (run m (list e c g) vs))) ∙ i

  -- the list ends there
  pub element_none : (n m : ℕ) (xs : List Element) (ts : List Token) (o : Out) → n ≡ suc m
      → behind_elements c xs (run n (list e c g) ts) ≡ o → e ts ≡ true → o ≡ Got (elements c xs End) ts
  element_none n m xs ts o s i h = sym i ∙ ap (behind_elements c xs) (list_as n m ts true s h)

  -- its last element, without a separator
  pub element_last : (n m : ℕ) (xs : List Element) (x : Tree) (ts us : List Token) (o : Out) → n ≡ suc m
      → behind_elements c xs (run n (list e c g) ts) ≡ o → e ts ≡ false → interp (run m) g ts ≡ Got x us
      → sees (past_marks c []) us ≡ false → o ≡ Got (elements c xs (Final x)) us
  element_last n m xs x ts us o s i h j k = sym i ∙ ap (behind_elements c xs) (got n m ts us x false s h j k)

  -- an element is refused
  pub element_fails : (f : Refusal) (n m : ℕ) (xs : List Element) (ts : List Token) (o : Out) → n ≡ suc m
      → behind_elements c xs (run n (list e c g) ts) ≡ o → e ts ≡ false → Fails f (interp (run m) g ts) → Fails f o
  element_fails f n m xs ts o s i h j =
      fails_as f (behind_elements c xs (run n (list e c g) ts)) o (sym i)
      (fails_on f (run n (list e c g) ts) _ (fails_as f _ (run n (list e c g) ts) (list_as n m ts false s h)
      (fails_on f _ (λ x us. Got (listed x) us) (fails_on f _ (λ x us. Got (Second x) us)
      (fails_on f (interp (run m) g ts) _ j)))))

  pub element_late : (n : ℕ) (xs : List Element) (ts : List Token) (o : Out) → n ≡ 0
      → behind_elements c xs (run n (list e c g) ts) ≡ o → o ≡ Late
  element_late n xs ts o s i = sym i ∙ ap (λ k. behind_elements c xs (run k (list e c g) ts)) s
