-- Turns are read one behind the other.
use Rattle.std.proofs.Common.{◌≡◌, ℕ, zero, suc, ◌<◌, List, [], ◌∷◌, ◌++◌, refl, sym, ap, ◌∙◌}
use Rattle.std.specs.Prelude.{Bool, true, false, cond}
use Rattle.proc_macro2.specs.Token.{Token}
use Rattle.syn_grammar.specs.Tree.{Tree, Nil, Pair, First, Second, End, Again}
use Rattle.syn_grammar.specs.Gram.{Gram}
use Rattle.syn_grammar.specs.Run.{Out, Late, Refused, Got, ◌>>=◌, wrap, loop, interp, run, turned}
use Rattle.reader_tree.specs.Forms.{turns}
use Rattle.reader_steps.specs.Answers.{Fails}
use Rattle.reader_steps.specs.declared.refusal.Refusal.{Refusal}
use Rattle.reader_steps.specs.declared.refusal.Refusal.TheVariants as refusals
use Rattle.reader_steps.proofs.Outs.{fails_as, fails_on}

-- these turns, and then others
abbrev onto : List Tree → Tree → Tree
onto [] y = y
onto (x ∷ xs) y = Again x (onto xs y)

-- what is read of the others, with these in front
abbrev pub behind_turns : List Tree → Out → Out
behind_turns xs o = o >>= λ y us. Got (onto xs y) us

onto_more : (xs : List Tree) (x y : Tree) → onto (xs ++ x ∷ []) y ≡ onto xs (Again x y)
onto_more [] x y = refl
onto_more (z ∷ xs) x y = ap (Again z) (onto_more xs x y)

onto_end : (xs : List Tree) → onto xs End ≡ turns xs
onto_end [] = refl
onto_end (x ∷ xs) = ap (Again x) (onto_end xs)

behind_more : (xs : List Tree) (x : Tree) (o : Out)
    → behind_turns (xs ++ x ∷ []) o ≡ behind_turns xs (wrap (Again x) o)
behind_more xs x Late = refl
behind_more xs x Refused = refl
behind_more xs x (Got y us) = ap (λ z. Got z us) (onto_more xs x y)

pub turns_none : (o : Out) → behind_turns [] o ≡ o
turns_none Late = refl
turns_none Refused = refl
turns_none (Got y us) = refl

turned_first : (call : List Token → Out) (o : Out)
    → wrap turned (wrap First (o >>= λ x us. call us >>= λ y vs. Got (Pair x y) vs))
    ≡ (o >>= λ x us. wrap (Again x) (call us))
turned_first call Late = refl
turned_first call Refused = refl
turned_first call (Got x us) = go (call us)
  where
    go : (o : Out) → wrap turned (wrap First (o >>= λ y vs. Got (Pair x y) vs)) ≡ wrap (Again x) o
    go Late = refl
    go Refused = refl
    go (Got y vs) = refl

module _ (t : List Token → Bool) (g : Gram) where
  loop_as : (m : ℕ) (ts : List Token) (b : Bool) → t ts ≡ b → run (suc m) (loop t g) ts
      ≡ wrap turned (cond b (wrap First (interp (run m) g ts >>= λ x us. run m (loop t g) us
      >>= λ y vs. Got (Pair x y) vs)) (wrap Second (Got Nil ts)))
  loop_as m ts b e = ap (λ v. wrap turned (cond v (wrap First (interp (run m) g ts >>= λ x us. run m (loop t g) us
      >>= λ y vs. Got (Pair x y) vs)) (wrap Second (Got Nil ts)))) e

  loop_turn : (m : ℕ) (ts : List Token) → t ts ≡ true → run (suc m) (loop t g) ts
      ≡ (interp (run m) g ts >>= λ x us. wrap (Again x) (run m (loop t g) us))
  loop_turn m ts e = loop_as m ts true e ∙ turned_first (run m (loop t g)) (interp (run m) g ts)

  as_suc : (n m : ℕ) (ts : List Token) → n ≡ suc m → run n (loop t g) ts ≡ run (suc m) (loop t g) ts
  as_suc n m ts e = ap (λ k. run k (loop t g) ts) e

  pub turn_more : (n m : ℕ) (xs ys : List Tree) (x : Tree) (ts us : List Token) (o : Out) → n ≡ suc m
      → behind_turns xs (run n (loop t g) ts) ≡ o → ys ≡ xs ++ x ∷ [] → t ts ≡ true
      → interp (run m) g ts ≡ Got x us → behind_turns ys (run m (loop t g) us) ≡ o
  turn_more n m xs ys x ts us o s i p e h =
      ap (λ zs. behind_turns zs (run m (loop t g) us)) p ∙ behind_more xs x (run m (loop t g) us)
      ∙ ap (behind_turns xs) (sym (as_suc n m ts s ∙ loop_turn m ts e
      ∙ ap (λ q. q >>= λ x us. wrap (Again x) (run m (loop t g) us)) h)) ∙ i

  pub turn_none : (n m : ℕ) (xs : List Tree) (ts : List Token) (o : Out) → n ≡ suc m
      → behind_turns xs (run n (loop t g) ts) ≡ o → t ts ≡ false → o ≡ Got (turns xs) ts
  turn_none n m xs ts o s i e =
      sym i ∙ ap (behind_turns xs) (as_suc n m ts s ∙ loop_as m ts false e) ∙ ap (λ z. Got z ts) (onto_end xs)

  pub turn_fails : (e : Refusal) (n m : ℕ) (xs : List Tree) (ts : List Token) (o : Out) → n ≡ suc m
      → behind_turns xs (run n (loop t g) ts) ≡ o → t ts ≡ true → Fails e (interp (run m) g ts) → Fails e o
  turn_fails e n m xs ts o s i h f =
      fails_as e (behind_turns xs (run n (loop t g) ts)) o (sym i)
      (fails_on e (run n (loop t g) ts) _
      (fails_as e (interp (run m) g ts >>= λ x us. wrap (Again x) (run m (loop t g) us)) (run n (loop t g) ts)
      (as_suc n m ts s ∙ loop_turn m ts h) (fails_on e (interp (run m) g ts) _ f)))

  pub turn_late : (n : ℕ) (xs : List Tree) (ts : List Token) (o : Out) → n ≡ 0
      → behind_turns xs (run n (loop t g) ts) ≡ o → o ≡ Late
  turn_late n xs ts o s i = sym i ∙ ap (λ k. behind_turns xs (run k (loop t g) ts)) s
