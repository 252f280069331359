-- Turns and lists are read one element after the other.
use Rattle.std.proofs.Common.{◌≡◌, List, [], ◌∷◌, ◌++◌, refl, ap, sym, ◌∙◌}
use Rattle.std.specs.Prelude.{ℕ, Bool, true, false, cond, ◌==◌, Some, None}
use Rattle.proc_macro2.specs.Token.{Token, Opens, Closes, Ident, Literal, Punct}
use Rattle.rust_leaf.specs.declared.punct.Spacing.{Spacing}
use Rattle.rust_leaf.specs.declared.punct.Spacing.TheVariants.{Alone as Apart}
use Rattle.syn_grammar.specs.Tree.{Tree, AMark, Nil, Pair, First, Second, End, Again, Final, More}
use Rattle.syn_grammar.specs.Gram.{Gram}
use Rattle.syn_grammar.specs.Look.{seen, sees, past_marks}
use Rattle.syn_grammar.specs.Kept.{kept}
use Rattle.syn_grammar.specs.Keeps.{kepts, keeps, mark_kept}
use Rattle.syn_grammar.specs.Chains.{again, more, ending, again_front, more_front}
use Rattle.syn_grammar.specs.Run.{Out, Late, Refused, Got, ◌>>=◌, wrap, loop, list, mark_at, interp, reads, turned}
use Rattle.syn_grammar.specs.Run.{listed}
use Rattle.syn_grammar.proofs.Whole.{reads_step, CallFits}
use Rattle.syn_grammar.proofs.Founded.{all_founded}
use Rattle.syn_grammar.proofs.Firm.{firm}
use Rattle.syn_grammar.proofs.Keeps.{kept_interp}
use Rattle.std.proofs.lemmas.Bool.{eqb-true}

wrap_wrap : (f g : Tree → Tree) (o : Out) → wrap f (wrap g o) ≡ wrap (λ x. f (g x)) o
wrap_wrap f g Late = refl
wrap_wrap f g Refused = refl
wrap_wrap f g (Got x r) = refl

again_more : {A : Type 0} (f : A → Tree) (xs : List A) (a : A) (y : Tree)
    → again f (xs ++ a ∷ []) y ≡ again f xs (Again (f a) y)
again_more f [] a y = refl
again_more f (b ∷ xs) a y = ap (λ z. Again (f b) z) (again_more f xs a y)

again_front_more : {A : Type 0} (f : A → Tree) (xs : List A) (a : A) (o : Out)
    → again_front f (xs ++ a ∷ []) o ≡ again_front f xs (wrap (Again (f a)) o)
again_front_more f xs a Late = refl
again_front_more f xs a Refused = refl
again_front_more f xs a (Got y r) = ap (λ z. Got z r) (again_more f xs a y)

more_more : {A : Type 0} (f : A → Tree) (c : ℕ) (xs : List A) (a : A) (y : Tree)
    → more f c (xs ++ a ∷ []) y ≡ more f c xs (More (f a) c Apart y)
more_more f c [] a y = refl
more_more f c (b ∷ xs) a y = ap (λ z. More (f b) c Apart z) (more_more f c xs a y)

more_front_more : {A : Type 0} (f : A → Tree) (c : ℕ) (xs : List A) (a : A) (o : Out)
    → more_front f c (xs ++ a ∷ []) o ≡ more_front f c xs (wrap (λ y. More (f a) c Apart y) o)
more_front_more f c xs a Late = refl
more_front_more f c xs a Refused = refl
more_front_more f c xs a (Got y r) = ap (λ z. Got z r) (more_more f c xs a y)

pub again_none : {A : Type 0} (f : A → Tree) (o : Out) → again_front f [] o ≡ o
again_none f Late = refl
again_none f Refused = refl
again_none f (Got x r) = refl

pub more_none : {A : Type 0} (f : A → Tree) (c : ℕ) (o : Out) → more_front f c [] o ≡ o
more_none f c Late = refl
more_none f c Refused = refl
more_none f c (Got x r) = refl

-- the turns that a star makes
abbrev loop_on : (List Token → Out) → Out → Out
loop_on others o = o >>= λ x us. wrap (Again x) (others us)

turned_first : (call : List Token → Out) (o : Out)
    → wrap kept (wrap turned (wrap First (o >>= λ x us. call us >>= λ y vs. Got (Pair x y) vs)))
    ≡ loop_on (λ us. wrap kept (call us)) (wrap kept o)
turned_first call Late = refl
turned_first call Refused = refl
turned_first call (Got x us) = go (call us)
  where
    go : (o : Out) → wrap kept (wrap turned (wrap First (o >>= λ y vs. Got (Pair x y) vs)))
        ≡ wrap (Again (kept x)) (wrap kept o)
    go Late = refl
    go Refused = refl
    go (Got y vs) = refl

turned_cond : (b : Bool) (call : List Token → Out) (o : Out) (ts : List Token)
    → wrap kept (wrap turned (cond b (wrap First (o >>= λ x us. call us >>= λ y vs. Got (Pair x y) vs))
    (wrap Second (Got Nil ts)))) ≡ cond b (loop_on (λ us. wrap kept (call us)) (wrap kept o)) (Got End ts)
turned_cond true call o ts = turned_first call o
turned_cond false call o ts = refl

module _ (t : List Token → Bool) (g : Gram) (fits : CallFits all_founded firm (loop t g)) where
  pub loop_step : (ts : List Token)
      → kepts (loop t g) ts ≡ cond (t ts) (loop_on (kepts (loop t g)) (keeps g ts)) (Got End ts)
  loop_step ts =
      ap (wrap kept) (reads_step all_founded firm (loop t g) fits ts)
      ∙ turned_cond (t ts) (reads (loop t g)) (interp reads g ts) ts
      ∙ ap (λ o. cond (t ts) (loop_on (kepts (loop t g)) o) (Got End ts)) (kept_interp g ts)

  pub loop_stop : (ts : List Token) → t ts ≡ false → kepts (loop t g) ts ≡ Got End ts
  loop_stop ts e = loop_step ts ∙ ap (λ b. cond b (loop_on (kepts (loop t g)) (keeps g ts)) (Got End ts)) e

  pub loop_turn : (ts us : List Token) (x : Tree) → t ts ≡ true → keeps g ts ≡ Got x us
      → kepts (loop t g) ts ≡ wrap (Again x) (kepts (loop t g) us)
  loop_turn ts us x e h =
      loop_step ts ∙ ap (λ b. cond b (loop_on (kepts (loop t g)) (keeps g ts)) (Got End ts)) e
      ∙ ap (loop_on (kepts (loop t g))) h

  pub loop_fails : (ts : List Token) → t ts ≡ true → keeps g ts ≡ Refused → kepts (loop t g) ts ≡ Refused
  loop_fails ts e h =
      loop_step ts ∙ ap (λ b. cond b (loop_on (kepts (loop t g)) (keeps g ts)) (Got End ts)) e
      ∙ ap (loop_on (kepts (loop t g))) h

  module _ {A : Type 0} (f : A → Tree) where
    pub turn_more : (xs ys : List A) (a : A) (ts us : List Token) (o : Out)
        → again_front f xs (kepts (loop t g) ts) ≡ o → ys ≡ xs ++ a ∷ [] → t ts ≡ true
        → keeps g ts ≡ Got (f a) us → again_front f ys (kepts (loop t g) us) ≡ o
    turn_more xs ys a ts us o i p e h =
        ap (λ zs. again_front f zs (kepts (loop t g) us)) p ∙ again_front_more f xs a (kepts (loop t g) us)
        ∙ ap (again_front f xs) (sym (loop_turn ts us (f a) e h)) ∙ i

    pub turn_none : (xs : List A) (ts : List Token) (o : Out) → again_front f xs (kepts (loop t g) ts) ≡ o
        → t ts ≡ false → o ≡ Got (again f xs End) ts
    turn_none xs ts o i e = sym i ∙ ap (again_front f xs) (loop_stop ts e)

    pub turn_fails : (xs : List A) (ts : List Token) (o : Out) → again_front f xs (kepts (loop t g) ts) ≡ o
        → t ts ≡ true → keeps g ts ≡ Refused → o ≡ Refused
    turn_fails xs ts o i e h = sym i ∙ ap (again_front f xs) (loop_fails ts e h)

-- behind an element of a list
abbrev pub behind : (List Token → Out) → ℕ → Tree → List Token → Out
behind others c x us = cond (sees (past_marks c []) us) (mark_kept c [] us >>= λ m vs. wrap
    (λ y. More x c Apart y) (others vs)) (Got (Final x) us)

listed_mark : (d : ℕ) (x : Tree) (spacing : Spacing) (o : Out) →
    wrap kept (wrap listed (wrap Second (wrap First (o >>= λ y ws. Got (Pair
    (AMark d [] spacing) y) ws) >>= λ y vs. Got (Pair x y) vs)))
    ≡ wrap (λ y. More (kept x) d Apart y) (wrap kept o)
listed_mark d x spacing Late = refl
listed_mark d x spacing Refused = refl
listed_mark d x spacing (Got y ws) = refl

by_mark : (b : Bool) (c d : ℕ) → d == c ≡ b → (spacing : Spacing) (call : List Token
    → Out) (x : Tree) (us : List Token) →
    wrap kept (wrap listed (wrap Second (cond (seen (cond b (Some us) None)) (wrap First (cond b (Got
    (AMark d [] spacing) us) Refused >>= λ m vs. call vs >>= λ y ws. Got (Pair m y) ws)) (wrap Second (Got Nil
    (Punct d spacing ∷ us))) >>= λ y vs. Got (Pair x y) vs)))
    ≡ cond (seen (cond b (Some us) None)) (wrap kept (cond b (Got
    (AMark d [] spacing) us) Refused) >>= λ m vs. wrap
    (λ y. More (kept x) c Apart y) (wrap kept (call vs))) (Got (Final (kept x)) (Punct d spacing ∷ us))
by_mark true c d e spacing call x us = listed_mark d x spacing (call us)
    ∙ ap (λ n. wrap (λ y. More (kept x) n Apart y) (wrap kept (call us))) (eqb-true d c e)
by_mark false c d e spacing call x us = refl

element_behind : (call : List Token → Out) (c : ℕ) (x : Tree) (us : List Token) →
    wrap kept (wrap listed (wrap Second (cond (sees (past_marks c []) us) (wrap First
    (mark_at c [] us >>= λ m vs. call vs >>= λ y ws. Got (Pair m y) ws)) (wrap Second
    (Got Nil us)) >>= λ y vs. Got (Pair x y) vs)))
    ≡ behind (λ vs. wrap kept (call vs)) c (kept x) us
unfolding mark_at mark_kept
element_behind call c x [] = refl
element_behind call c x (Opens d ∷ us) = refl
element_behind call c x (Closes d ∷ us) = refl
element_behind call c x (Ident d ∷ us) = refl
element_behind call c x (Literal d ∷ us) = refl
element_behind call c x (Punct d spacing ∷ us) = by_mark (d == c) c d refl spacing call x us

listed_first : (call : List Token → Out) (c : ℕ) (o : Out) →
    wrap kept (wrap listed (wrap Second (o >>= λ x us. cond (sees (past_marks c []) us) (wrap First
    (mark_at c [] us >>= λ m vs. call vs >>= λ y ws. Got (Pair m y) ws)) (wrap Second
    (Got Nil us)) >>= λ y vs. Got (Pair x y) vs)))
    ≡ (wrap kept o >>= behind (λ vs. wrap kept (call vs)) c)
listed_first call c Late = refl
listed_first call c Refused = refl
listed_first call c (Got x us) = element_behind call c x us

listed_cond : (b : Bool) (call : List Token → Out) (c : ℕ) (o : Out) (ts : List Token) →
    wrap kept (wrap listed (cond b (wrap First (Got Nil ts)) (wrap Second (o >>= λ x us. cond (sees
    (past_marks c []) us) (wrap First (mark_at c [] us >>= λ m vs. call vs >>= λ y ws. Got (Pair m y) ws))
    (wrap Second (Got Nil us)) >>= λ y vs. Got (Pair x y) vs))))
    ≡ cond b (Got End ts) (wrap kept o >>= behind (λ vs. wrap kept (call vs)) c)
listed_cond true call c o ts = refl
listed_cond false call c o ts = listed_first call c o

module _ (e : List Token → Bool) (c : ℕ) (g : Gram) (fits : CallFits all_founded firm (list e c g)) where
  pub list_step : (ts : List Token)
      → kepts (list e c g) ts ≡ cond (e ts) (Got End ts) (keeps g ts >>= behind (kepts (list e c g)) c)
  list_step ts =
      ap (wrap kept) (reads_step all_founded firm (list e c g) fits ts)
      ∙ listed_cond (e ts) (reads (list e c g)) c (interp reads g ts) ts
      ∙ ap (λ o. cond (e ts) (Got End ts) (o >>= behind (kepts (list e c g)) c)) (kept_interp g ts)

  by_end : (b : Bool) (ts : List Token) → e ts ≡ b
      → kepts (list e c g) ts ≡ cond b (Got End ts) (keeps g ts >>= behind (kepts (list e c g)) c)
  by_end b ts h = list_step ts ∙ ap (λ v. cond v (Got End ts) (keeps g ts >>= behind (kepts (list e c g)) c)) h

  pub list_stop : (ts : List Token) → e ts ≡ true → kepts (list e c g) ts ≡ Got End ts
  list_stop ts h = by_end true ts h

  pub list_fails : (ts : List Token) → e ts ≡ false → keeps g ts ≡ Refused → kepts (list e c g) ts ≡ Refused
  list_fails ts h i = by_end false ts h ∙ ap (λ o. o >>= behind (kepts (list e c g)) c) i

  got : (ts us : List Token) (x : Tree) → e ts ≡ false → keeps g ts ≡ Got x us
      → kepts (list e c g) ts ≡ behind (kepts (list e c g)) c x us
  got ts us x h i = by_end false ts h ∙ ap (λ o. o >>= behind (kepts (list e c g)) c) i

  pub list_last : (ts us : List Token) (x : Tree) → e ts ≡ false → keeps g ts ≡ Got x us
      → sees (past_marks c []) us ≡ false → kepts (list e c g) ts ≡ Got (Final x) us
  list_last ts us x h i j =
      got ts us x h i ∙ ap (λ b. cond b (mark_kept c [] us >>= λ m vs. wrap
      (λ y. More x c Apart y) (kepts (list e c g) vs)) (Got (Final x) us)) j

  pub list_more : (ts us vs : List Token) (x m : Tree) → e ts ≡ false → keeps g ts ≡ Got x us
      → sees (past_marks c []) us ≡ true → mark_kept c [] us ≡ Got m vs
      → kepts (list e c g) ts ≡ wrap (λ y. More x c Apart y) (kepts (list e c g) vs)
  list_more ts us vs x m h i j k =
      got ts us x h i ∙ ap (λ b. cond b (mark_kept c [] us >>= λ m vs. wrap
      (λ y. More x c Apart y) (kepts (list e c g) vs)) (Got (Final x) us)) j
      ∙ ap (λ o. o >>= λ m vs. wrap (λ y. More x c Apart y) (kepts (list e c g) vs)) k

  module _ {A : Type 0} (f : A → Tree) where
    -- an element and its separator more have been read
    pub element_more : (xs ys : List A) (a : A) (ts us vs : List Token) (m : Tree) (o : Out)
        → more_front f c xs (kepts (list e c g) ts) ≡ o → ys ≡ xs ++ a ∷ []
        → e ts ≡ false → keeps g ts ≡ Got (f a) us → sees (past_marks c []) us ≡ true
        → mark_kept c [] us ≡ Got m vs → more_front f c ys (kepts (list e c g) vs) ≡ o
    element_more xs ys a ts us vs m o i p h j k l =
        ap (λ zs. more_front f c zs (kepts (list e c g) vs)) p ∙ more_front_more f c xs a (kepts (list e c g) vs)
        ∙ ap (more_front f c xs) (sym (list_more ts us vs (f a) m h j k l)) ∙ i

    -- the list ends there
    pub element_none : (xs : List A) (ts : List Token) (o : Out) → more_front f c xs (kepts (list e c g) ts) ≡ o
        → e ts ≡ true → o ≡ Got (more f c xs (ending f None)) ts
    element_none xs ts o i h = sym i ∙ ap (more_front f c xs) (list_stop ts h)

    -- its last element, without a separator
    pub element_last : (xs : List A) (a : A) (ts us : List Token) (o : Out)
        → more_front f c xs (kepts (list e c g) ts) ≡ o → e ts ≡ false → keeps g ts ≡ Got (f a) us
        → sees (past_marks c []) us ≡ false
        → o ≡ Got (more f c xs (ending f (Some a))) us
    element_last xs a ts us o i h j k = sym i ∙ ap (more_front f c xs) (list_last ts us (f a) h j k)

    -- an element is refused
    pub element_fails : (xs : List A) (ts : List Token) (o : Out) → more_front f c xs (kepts (list e c g) ts) ≡ o
        → e ts ≡ false → keeps g ts ≡ Refused → o ≡ Refused
    element_fails xs ts o i h j = sym i ∙ ap (more_front f c xs) (list_fails ts h j)
