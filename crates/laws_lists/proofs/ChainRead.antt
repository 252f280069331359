-- Lists that code reads, with a separator of any number of marks, are those that the written grammar reads.
use Rattle.std.proofs.Common.{◌≡◌, ◌⊎◌, ℕ, List, [], ◌∷◌, ◌++◌, refl, sym, ap, ◌∙◌, subst, arith, inl, inr}
use Rattle.std.specs.Prelude.{Bool, true, false}
use Rattle.proc_macro2.specs.Token.{Token, Spanned, plain}
use Rattle.rust_leaf.specs.declared.punct.Spacing.TheVariants.{Alone as Apart}
use Rattle.syn_grammar.specs.Gram.{Gram, mark, seq}
use Rattle.syn_grammar.specs.Keeps.{keeps, kepts}
use Rattle.syn_grammar.specs.Look.{past_marks, sees}
use Rattle.syn_grammar.specs.Run.{Out, Got, Refused, ◌>>=◌, loop, wrap}
use Rattle.syn_grammar.specs.Tree.{Tree, AMark, Again, End, Pair}
use Rattle.syn_grammar.proofs.Firm.{firm}
use Rattle.syn_grammar.proofs.Founded.{all_founded}
use Rattle.syn_grammar.proofs.Turns.{loop_fails, loop_stop, loop_turn}
use Rattle.syn_grammar.proofs.Whole.{CallFits}
use Rattle.syn_lists.specs.ReadLists.{Reading}
use Rattle.syn_lists.specs.ReadMany.{ReadsMany, ReadsTurns, StopsMany}
use Rattle.laws_lists.specs.Chain.{GivesChain, chain, chain_tree, links_tree}
use Rattle.laws_lists.specs.Many.{IsEntry, IsListable, IsSeparator}
use Rattle.laws_lists.proofs.ManyRead.{few_turns, length_plain}

module _ {T P : Type 0} (value : Reading T) (separator : Reading P) (no_value no_separator : List Spanned → Type 0)
    (stands : List Token → Bool) (g : Gram) (view : T → Tree) (c : ℕ) (cs : List ℕ) (fits : IsListable g)
    (element : IsEntry g view value no_value) (mark_is : IsSeparator c cs separator no_separator stands) where
  abbrev Turns : List Spanned → List T → List P → List Spanned → Type 0
  Turns ts vs ps us = ReadsTurns value separator (λ _. false) stands ts vs ps us

  abbrev link : Gram
  link = seq (mark c cs) g

  abbrev others : List Spanned → Out
  others ts = kepts (loop (sees (past_marks c cs)) link) (plain ts)

  link_fits : CallFits all_founded firm (loop (sees (past_marks c cs)) link)
  link_fits = (refl, fits.1, omega (arith, fits.2))

  there : (ts : List Spanned) (b : Bool) → stands (plain ts) ≡ b → sees (past_marks c cs) (plain ts) ≡ b
  there ts b e = sym (mark_is.seen (plain ts)) ∙ e

  abbrev linked : T → Out → Out
  linked v o = wrap (Again (Pair (AMark c cs Apart) (view v))) o

  -- a separator and a value behind it
  abbrev behind_mark : Out → Out
  behind_mark o = o >>= λ x us. keeps g us >>= λ y vs. Got (Pair x y) vs

  abbrev behind_value : Out → Out
  behind_value o = o >>= λ y vs. Got (Pair (AMark c cs Apart) y) vs

  link_read : (ts : List Spanned) (p : P) (us : List Spanned) (v : T) (xs : List Spanned) → stands (plain ts) ≡ true
      → separator ts p us → value us v xs → others ts ≡ linked v (others xs)
  link_read ts p us v xs f b a =
      loop_turn (sees (past_marks c cs)) link link_fits (plain ts) (plain xs) (Pair (AMark c cs Apart) (view v))
      (there ts true f) (ap behind_mark (mark_is.entry.found ts p us b) ∙ ap behind_value (element.found us v xs a))

  link_fails : (ts : List Spanned) (p : P) (us : List Spanned) → stands (plain ts) ≡ true → separator ts p us
      → no_value us → others ts ≡ Refused
  link_fails ts p us f b n =
      loop_fails (sees (past_marks c cs)) link link_fits (plain ts) (there ts true f)
      (ap behind_mark (mark_is.entry.found ts p us b) ∙ ap behind_value (element.none us n))

  link_none : (ts : List Spanned) → stands (plain ts) ≡ true → no_separator ts → others ts ≡ Refused
  link_none ts f n =
      loop_fails (sees (past_marks c cs)) link link_fits (plain ts) (there ts true f)
      (ap behind_mark (mark_is.entry.none ts n))

  link_stop : (ts : List Spanned) → stands (plain ts) ≡ false → others ts ≡ Got End (plain ts)
  link_stop ts f = loop_stop (sees (past_marks c cs)) link link_fits (plain ts) (there ts false f)

  -- behind a separator: some turns, and a last value
  rest_read : (ts : List Spanned) (p : P) (ys : List Spanned) (ws : List T) (ps : List P) (us : List Spanned) (v : T)
      (behind : List Spanned) → stands (plain ts) ≡ true → separator ts p ys → Turns ys ws ps us → value us v behind
      → stands (plain behind) ≡ false → others ts ≡ Got (links_tree view c cs (ws ++ v ∷ [])) (plain behind)
  rest_read ts p ys [] ps us v behind f b (same, none) a last =
      link_read ts p ys v behind f b (subst (λ x. value x v behind) (sym same) a)
      ∙ ap (linked v) (link_stop behind last)
  rest_read ts p ys (w ∷ ws) [] us v behind f b h a last = absurd h
  rest_read ts p ys (w ∷ ws) (q ∷ ps) us v behind f b (xs, zs, e, d, k, m, h) a last =
      link_read ts p ys w xs f b d ∙ ap (linked w) (rest_read xs q zs ws ps us v behind k m h a last)

  abbrev first_value : Out → Out
  first_value o = o >>= λ x us. kepts (loop (sees (past_marks c cs)) link) us >>= λ y vs. Got (Pair x y) vs

  abbrev then_others : T → Out → Out
  then_others v o = o >>= λ y vs. Got (Pair (view v) y) vs

  front : (ts : List Spanned) (v : T) (us : List Spanned) (o : Out) → value ts v us → others us ≡ o
      → keeps (chain c cs g) (plain ts) ≡ then_others v o
  front ts v us o a e = ap first_value (element.found ts v us a) ∙ ap (then_others v) e

  chain_read : (ts : List Spanned) (ws : List T) (ps : List P) (us : List Spanned) (v : T) (behind : List Spanned)
      → Turns ts ws ps us → value us v behind → stands (plain behind) ≡ false
      → keeps (chain c cs g) (plain ts) ≡ Got (chain_tree view c cs (ws ++ v ∷ [])) (plain behind)
  chain_read ts [] ps us v behind (same, none) a last =
      front ts v behind (Got End (plain behind)) (subst (λ x. value x v behind) (sym same) a) (link_stop behind last)
  chain_read ts (w ∷ ws) [] us v behind h a last = absurd h
  chain_read ts (w ∷ ws) (q ∷ ps) us v behind (xs, zs, e, d, k, m, h) a last =
      front ts w xs (Got (links_tree view c cs (ws ++ v ∷ [])) (plain behind)) d
      (rest_read xs q zs ws ps us v behind k m h a last)

  pub chain_found : (ts : List Spanned) (vs : List T) (ps : List P) (rest : List Spanned)
      → ReadsMany value separator (λ _. false) stands ts vs ps rest
      → GivesChain view c cs vs rest (keeps (chain c cs g) (plain ts))
  chain_found ts vs ps rest (ws, us, h, inl (same, e, at)) = absurd (cc)
  chain_found ts vs ps rest (ws, us, h, inr (v, same, e, a, f)) =
      chain_read ts ws ps us v rest h a f
      ∙ ap (λ (xs : List T). Got (chain_tree view c cs xs) (plain rest)) (sym same)

  -- where the list can't go on
  abbrev Stops : List Spanned → Type 0
  Stops us = no_value us
      ⊎ ((v : T) × (xs : List Spanned) × value us v xs × (stands (plain xs) ≡ true) × no_separator xs)

  rest_stops : (ts : List Spanned) (p : P) (ys : List Spanned) (ws : List T) (ps : List P) (us : List Spanned)
      → stands (plain ts) ≡ true → separator ts p ys → Turns ys ws ps us → Stops us → others ts ≡ Refused
  rest_stops ts p ys [] ps us f b (same, none) (inl n) = link_fails ts p ys f b (subst no_value (sym same) n)
  rest_stops ts p ys [] ps us f b (same, none) (inr (v, xs, a, k, n)) =
      link_read ts p ys v xs f b (subst (λ x. value x v xs) (sym same) a) ∙ ap (linked v) (link_none xs k n)
  rest_stops ts p ys (w ∷ ws) [] us f b h s = absurd h
  rest_stops ts p ys (w ∷ ws) (q ∷ ps) us f b (xs, zs, e, d, k, m, h) s =
      link_read ts p ys w xs f b d ∙ ap (linked w) (rest_stops xs q zs ws ps us k m h s)

  chain_stops : (ts : List Spanned) (ws : List T) (ps : List P) (us : List Spanned) → Turns ts ws ps us → Stops us
      → keeps (chain c cs g) (plain ts) ≡ Refused
  chain_stops ts [] ps us (same, none) (inl n) = ap first_value (element.none ts (subst no_value (sym same) n))
  chain_stops ts [] ps us (same, none) (inr (v, xs, a, k, n)) =
      front ts v xs Refused (subst (λ x. value x v xs) (sym same) a) (link_none xs k n)
  chain_stops ts (w ∷ ws) [] us h s = absurd h
  chain_stops ts (w ∷ ws) (q ∷ ps) us (xs, zs, e, d, k, m, h) s =
      front ts w xs Refused d (rest_stops xs q zs ws ps us k m h s)

  pub chain_none : (ts : List Spanned)
      → StopsMany value separator (λ _. false) stands no_value no_separator ts
      → keeps (chain c cs g) (plain ts) ≡ Refused
  chain_none ts (vs, ps, us, h, inl (e, s)) = chain_stops ts vs ps us h s
  chain_none ts (vs, ps, us, h, inr more_values) =
      absurd (omega (
        arith,
        few_turns value separator no_value no_separator (λ _. false) stands g view c cs fits element mark_is ts vs ps us
            h,
        length_plain ts,
        more_values,
      ))
