-- Lists that code reads are those that the written grammar reads.
use Rattle.std.proofs.Common.{◌≡◌, ◌<◌, ◌≤◌, ℕ, List, [], ◌∷◌, ◌++◌, length, refl, sym, ap, ◌∙◌, arith, inl, inr}
use Rattle.std.proofs.Common.{◌+◌, length-append}
use Rattle.std.specs.Prelude.{Bool, true, false, cond}
use Rattle.proc_macro2.specs.Token.{Token, Spanned, plain}
use Rattle.rust_leaf.specs.declared.punct.Spacing.TheVariants.{Alone as Apart}
use Rattle.syn_grammar.specs.Chains.{more, more_front}
use Rattle.syn_grammar.specs.Fuel.{nullable}
use Rattle.syn_grammar.specs.Gram.{Gram, mark, many}
use Rattle.syn_grammar.specs.Keeps.{keeps, kepts}
use Rattle.syn_grammar.specs.Look.{past_marks, sees}
use Rattle.syn_grammar.specs.Run.{Out, Late, Got, Refused, ◌>>=◌, interp, list, reads, wrap}
use Rattle.syn_grammar.specs.Tree.{Tree, AMark, End, Final, More, flat}
use Rattle.syn_grammar.proofs.Firm.{firm}
use Rattle.syn_grammar.proofs.Founded.{all_founded}
use Rattle.syn_grammar.proofs.Keeps.{got_kept, kept_interp}
use Rattle.syn_grammar.proofs.Sound.{interp_sound}
use Rattle.syn_grammar.proofs.Turns.{behind, list_fails, list_last, list_more, list_step, list_stop, more_none}
use Rattle.syn_grammar.proofs.Whole.{reads_sound, takes}
use Rattle.syn_lists.specs.ReadLists.{Reading}
use Rattle.syn_lists.specs.Pairs.{pairs}
use Rattle.syn_lists.specs.ReadMany.{ReadsMany, ReadsTurns, StopsMany}
use Rattle.laws_lists.specs.Many.{GivesList, IsEntry, IsListable, IsSeparator, pairs_tree}

wrap_wrap : (f h : Tree → Tree) (o : Out) → wrap f (wrap h o) ≡ wrap (λ x. f (h x)) o
wrap_wrap f h Late = refl
wrap_wrap f h Refused = refl
wrap_wrap f h (Got x r) = refl

-- what an entry reads leaves fewer tokens, if it takes some
shorter : (g : Gram) (ts us : List Token) (x : Tree) → nullable g ≡ false → keeps g ts ≡ Got x us
    → length us < length ts
shorter g ts us x takes_some got =
    let (y, read, same) = got_kept (interp reads g ts) x us (kept_interp g ts ∙ got) in
    let h = interp_sound reads (reads_sound all_founded firm) g ts y us read in
    let count : length ts ≡ length (flat y) + length us = ap length h.tokens ∙ length-append (flat y) us in
    omega (arith, count, takes all_founded firm y g us h.tree takes_some)

pub length_plain : (ts : List Spanned) → length (plain ts) ≡ length ts
length_plain [] = refl
length_plain (t ∷ ts) = let h = length_plain ts in omega (arith, h)

module _ {T P : Type 0} (value : Reading T) (separator : Reading P) (no_value no_separator : List Spanned → Type 0)
    (ended stands : List Token → Bool) (g : Gram) (view : T → Tree) (c : ℕ) (cs : List ℕ) (fits : IsListable g)
    (element : IsEntry g view value no_value) (mark_is : IsSeparator c cs separator no_separator stands) where
  -- some turns take as many tokens
  pub few_turns : (ts : List Spanned) (vs : List T) (ps : List P) (us : List Spanned)
      → ReadsTurns value separator ended stands ts vs ps us → length vs ≤ length (plain ts)
  few_turns ts [] ps us h = omega arith
  few_turns ts (v ∷ vs) [] us h = absurd h
  few_turns ts (v ∷ vs) (p ∷ ps) us (xs, ys, e, a, f, b, h) =
      omega (
        arith,
        few_turns ys vs ps us h,
        shorter g (plain ts) (plain xs) (view v) fits.0 (element.found ts v xs a),
        shorter (mark c cs) (plain xs) (plain ys) (AMark c cs Apart) refl (mark_is.entry.found xs p ys b),
      )

module _ {T P : Type 0} (view : T → Tree) (c : ℕ) where
  tree_ended : (vs : List T) (ps : List P) → length ps ≡ length vs → pairs_tree view c (pairs vs ps)
      ≡ more view c vs End
  tree_ended [] ps e = refl
  tree_ended (v ∷ vs) [] e = absurd (omega (arith, e))
  tree_ended (v ∷ vs) (p ∷ ps) e = ap (λ t. More (view v) c Apart t) (tree_ended vs ps (omega (arith, e)))

  tree_final : (vs : List T) (v : T) (ps : List P) → length ps ≡ length vs
      → pairs_tree view c (pairs (vs ++ v ∷ []) ps) ≡ more view c vs (Final (view v))
  tree_final [] v [] e = refl
  tree_final [] v (p ∷ ps) e = absurd (omega (arith, e))
  tree_final (w ∷ vs) v [] e = absurd (omega (arith, e))
  tree_final (w ∷ vs) v (p ∷ ps) e = ap (λ t. More (view w) c Apart t) (tree_final vs v ps (omega (arith, e)))

module _ {T P : Type 0} (value : Reading T) (separator : Reading P) (no_value no_separator : List Spanned → Type 0)
    (ended stands : List Token → Bool) (g : Gram) (view : T → Tree) (c : ℕ) (fits : IsListable g)
    (element : IsEntry g view value no_value) (mark_is : IsSeparator c [] separator no_separator stands) where
  abbrev run : List Spanned → Out
  run ts = kepts (list ended c g) (plain ts)

  abbrev Turns : List Spanned → List T → List P → List Spanned → Type 0
  Turns ts vs ps us = ReadsTurns value separator ended stands ts vs ps us

  there : (ts : List Spanned) (b : Bool) → stands (plain ts) ≡ b → sees (past_marks c []) (plain ts) ≡ b
  there ts b e = sym (mark_is.seen (plain ts)) ∙ e

  -- what is read behind some turns, with these in front
  turned : (ts : List Spanned) (vs : List T) (ps : List P) (us : List Spanned) → Turns ts vs ps us
      → run ts ≡ more_front view c vs (run us)
  turned ts [] ps us (same, none) = ap run same ∙ sym (more_none view c (run us))
  turned ts (v ∷ vs) [] us h = absurd h
  turned ts (v ∷ vs) (p ∷ ps) us (xs, ys, e, a, f, b, h) =
      list_more ended c g fits (plain ts) (plain xs) (plain ys) (view v) (AMark c [] Apart) e (element.found ts v xs a)
      (there xs true f) (mark_is.entry.found xs p ys b)
      ∙ ap (λ o. wrap (λ y. More (view v) c Apart y) o) (turned ys vs ps us h)
      ∙ wrap_wrap (λ y. More (view v) c Apart y) (more view c vs) (run us)

  even : (ts : List Spanned) (vs : List T) (ps : List P) (us : List Spanned) → Turns ts vs ps us
      → length ps ≡ length vs
  even ts [] ps us (same, none) = ap length none
  even ts (v ∷ vs) [] us h = absurd h
  even ts (v ∷ vs) (p ∷ ps) us (xs, ys, e, a, f, b, h) = omega (arith, even ys vs ps us h)

  few_all : (ts : List Spanned) (vs : List T) (ps : List P) (us : List Spanned) → Turns ts vs ps us
      → length vs ≤ length (plain ts)
  few_all ts vs ps us h =
      few_turns value separator no_value no_separator ended stands g view c [] fits element mark_is ts vs ps us h

  pub many_found : (ts : List Spanned) (vs : List T) (ps : List P) (rest : List Spanned)
      → ReadsMany value separator ended stands ts vs ps rest
      → GivesList view c vs ps rest (keeps (many ended c g) (plain ts))
  many_found ts vs ps rest (ws, us, h, inl (same, e, at)) =
      turned ts ws ps us h
      ∙ ap (more_front view c ws) (list_stop ended c g fits (plain us) e ∙ ap (λ xs. Got End (plain xs)) (sym at))
      ∙ ap (λ t. Got t (plain rest)) (sym (tree_ended view c ws ps (even ts ws ps us h))
      ∙ ap (λ xs. pairs_tree view c (pairs xs ps)) (sym same))
  many_found ts vs ps rest (ws, us, h, inr (v, same, e, a, f)) =
      turned ts ws ps us h
      ∙ ap (more_front view c ws)
      (list_last ended c g fits (plain us) (plain rest) (view v) e (element.found us v rest a) (there rest false f))
      ∙ ap (λ t. Got t (plain rest)) (sym (tree_final view c ws v ps (even ts ws ps us h))
      ∙ ap (λ xs. pairs_tree view c (pairs xs ps)) (sym same))

  -- the list goes on, and the run is refused where it does
  refused : (ts : List Spanned) (vs : List T) (ps : List P) (us : List Spanned) → Turns ts vs ps us
      → run us ≡ Refused → run ts ≡ Refused
  refused ts vs ps us h e = turned ts vs ps us h ∙ ap (more_front view c vs) e

  no_mark : (us xs : List Spanned) (v : T) → ended (plain us) ≡ false → value us v xs → stands (plain xs) ≡ true
      → no_separator xs → run us ≡ Refused
  no_mark us xs v e a f n =
      let others : List Token → Out = kepts (list ended c g) in
      let last : Out = Got (Final (view v)) (plain xs) in
      let go : Out → Out = λ o. o >>= λ m ws. wrap (λ y. More (view v) c Apart y) (others ws) in
      list_step ended c g fits (plain us)
      ∙ ap (λ b. cond b (Got End (plain us)) (keeps g (plain us) >>= behind others c)) e
      ∙ ap (λ o. o >>= behind others c) (element.found us v xs a)
      ∙ ap (λ b. cond b (go (keeps (mark c []) (plain xs))) last) (there xs true f)
      ∙ ap go (mark_is.entry.none xs n)

  pub many_none : (ts : List Spanned) → StopsMany value separator ended stands no_value no_separator ts
      → keeps (many ended c g) (plain ts) ≡ Refused
  many_none ts (vs, ps, us, h, inl (e, inl n)) =
      refused ts vs ps us h (list_fails ended c g fits (plain us) e (element.none us n))
  many_none ts (vs, ps, us, h, inl (e, inr (v, xs, a, f, n))) = refused ts vs ps us h (no_mark us xs v e a f n)
  many_none ts (vs, ps, us, h, inr more_values) =
      absurd (omega (arith, few_all ts vs ps us h, length_plain ts, more_values))
