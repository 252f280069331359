-- What is made of what was read by all that is pending, one by one.
use Rattle.std.proofs.Common.{◌≡◌, ℕ, ◌+◌, ◌<◌, ◌≤◌, List, [], ◌∷◌, ◌++◌, length, take, drop, refl, sym, ap, ◌∙◌}
use Rattle.std.proofs.Common.{append_assoc, arith}
use Rattle.std.proofs.lemmas.List.{append-nil, drop-append-le, length-append, take-append-le, take_all}
use Rattle.std.proofs.Math.ListN.{drop_of_length-le}
use Rattle.std.proofs.Math.Seq.{drop-append_seam, take-append_seam}
use Rattle.std.specs.Prelude.{Result, Ok, Err, IfOk}
use denote.Ref.{Bor}
use Rattle.proc_macro2.specs.Token.{Token}
use Rattle.proc_macro2.specs.declared.delimiter.Delimiter.{Delimiter}
use Rattle.syn_buffer.specs.declared.entry.Entry.{Entry}
use Rattle.syn_grammar.specs.Tree.{Tree, Node, Pair}
use Rattle.syn_grammar.specs.Run.{Out, Late, Refused, Got, interp, judge, run, whole}
use Rattle.reader_table.specs.Kinds.{kind_of}
use Rattle.reader_table.specs.Ops.{gram_of}
use Rattle.reader_table.specs.Verdicts.{verdict_of}
use Rattle.reader_table.specs.declared.op.Op.{Op}
use Rattle.reader_steps.specs.Answers.{Fails, Gives, IsSyntax, tokens}
use Rattle.reader_steps.specs.Around.{around_of}
use Rattle.reader_steps.specs.Pending.{Leads, Makes, made_by, made_by_all, says_at, weight}
use Rattle.reader_steps.specs.declared.pending.Pending.{Pending}
use Rattle.reader_steps.specs.declared.pending.Pending.TheVariants as pendings
use Rattle.reader_steps.specs.declared.pending.Spot.{Spot}
use Rattle.reader_steps.specs.declared.refusal.Refusal.{Refusal}
use Rattle.reader_steps.specs.declared.refusal.Refusal.TheVariants as refusals
use Rattle.reader_steps.proofs.Outs.{fails_as, fails_on, syntax_fails}

-- a refusal goes up
pub fails_whole : (e : Refusal) (d : Delimiter) (us : List Token) (o : Out) → Fails e o → Fails e (whole d us o)
fails_whole refusals.Memory d us o h = tt
fails_whole refusals.Late d us o h = ap (whole d us) h
fails_whole (refusals.Syntax w) d us o h = ap (whole d us) h

pub fails_by : (e : Refusal) (w : Pending) (o : Out) → Fails e o → Fails e (made_by w o)
fails_by e (pendings.Front x) o h = fails_on e o (λ y us. Got (Pair x y) us) h
fails_by e (pendings.Around a) o h = fails_on e o (λ y us. Got (around_of a y) us) h
fails_by e (pendings.Node k at) o h = fails_on e o (λ y us. Got (Node (kind_of k) y) us) h
fails_by e (pendings.Inside d s b) o h = fails_whole e d (tokens b.entries.now) o h
fails_by e (pendings.Judged v) o h = fails_on e o (λ y us. judge (verdict_of v y) y us) h

pub fails_by_all : (e : Refusal) (ws : List Pending) (o : Out) → Fails e o → Fails e (made_by_all ws o)
fails_by_all e [] o h = h
fails_by_all e (w ∷ ws) o h = fails_by e w (made_by_all ws o) (fails_by_all e ws o h)

made_more : (ws vs : List Pending) (o : Out) → made_by_all (ws ++ vs) o ≡ made_by_all ws (made_by_all vs o)
made_more [] vs o = refl
made_more (w ∷ ws) vs o = ap (made_by w) (made_more ws vs o)

-- what is made of it besides, where that is pending already
makes_more : {X : Type 0} (f : X → Out) (ws vs : List Pending) (r : Result X Refusal) (o p : Out)
    → made_by_all ws o ≡ p → Makes f vs r o → Makes f (ws ++ vs) r p
makes_more f ws vs (Ok x) o p i h = sym i ∙ ap (made_by_all ws) h ∙ sym (made_more ws vs (f x))
makes_more f ws vs (Err e) o p i h = fails_as e (made_by_all ws o) p (sym i) (fails_by_all e ws o h)

pub leads_on : {X : Type 0} (f : X → Out) (old mid new ws : List Pending) (r : Result X Refusal) (o p : Out)
    → mid ≡ old ++ ws → made_by_all ws o ≡ p → Leads f mid new r o → Leads f old new r p
leads_on f old mid new ws r o p e i h =
    (ws ++ h.0, h.1 ∙ ap (λ xs. xs ++ h.0) e ∙ append_assoc old ws h.0, makes_more f ws h.0 r o p i h.2)

-- where nothing more is pending
as_makes : {X : Type 0} (tree : X → Tree) (rest : X → List Entry) (r : Result X Refusal) (o : Out)
    → Gives tree rest r o → Makes (λ x. Got (tree x) (tokens (rest x))) [] r o
as_makes tree rest (Ok x) o h = h
as_makes tree rest (Err e) o h = h

pub leads_same : {X : Type 0} (tree : X → Tree) (rest : X → List Entry) (old new : List Pending)
    (r : Result X Refusal) (o : Out) → new ≡ old → Gives tree rest r o
    → Leads (λ x. Got (tree x) (tokens (rest x))) old new r o
leads_same tree rest old new r o e h = ([], e ∙ sym (append-nil old), as_makes tree rest r o h)

pub leads_fails : {X : Type 0} (f : X → Out) (old new : List Pending) (e : Refusal) (o : Out) → new ≡ old
    → Fails e o → Leads f old new (Err e) o
leads_fails f old new e o s h = ([], s ∙ sym (append-nil old), h)

-- where one more is
pub leads_one : {X : Type 0} (f : X → Out) (old new : List Pending) (w : Pending) (x : X) (o : Out)
    → new ≡ old ++ w ∷ [] → o ≡ made_by w (f x) → Leads f old new (Ok x) o
leads_one f old new w x o e h = (w ∷ [], e, h)

-- a tree that was read, and what is left behind it
abbrev pub got : Tree × Bor (List Entry) → Out
got x = Got x.0 (tokens x.1.now)

-- a step, of steps in a row; and none
pub no_step : (n : ℕ) (is : List Op) (ts : List Token) → length is ≡ 0 → interp (run n) (gram_of is) ts ≡ Refused
no_step n [] ts h = refl
no_step n (i ∷ is) ts h = absurd (omega arith)

pub at_step : (n : ℕ) (is parts : List Op) (i j : Op) (ts : List Token) → is ≡ i ∷ parts → i ≡ j
    → interp (run n) (gram_of is) ts ≡ interp (run n) (gram_of (j ∷ parts)) ts
at_step n is parts i j ts e f = ap (λ is. interp (run n) (gram_of is) ts) (e ∙ ap (λ i. i ∷ parts) f)

-- where so much is pending already, and makes the whole of what steps say
module _ (old mid ws : List Pending) (p q : Out) (e : mid ≡ old ++ ws) (i : q ≡ made_by_all ws p) where
  pub ends : {X : Type 0} (tree : X → Tree) (rest : X → List Entry) (new : List Pending) (r : Result X Refusal)
      (o : Out)
      → p ≡ o → new ≡ mid → Gives tree rest r o → Leads (λ x. Got (tree x) (tokens (rest x))) old new r q
  ends tree rest new r o s f h =
      leads_on (λ x. Got (tree x) (tokens (rest x))) old mid new ws r o q e (sym (i ∙ ap (made_by_all ws) s))
      (leads_same tree rest mid new r o f h)

  pub refused : (new : List Pending) (a : Refusal) → p ≡ Refused → new ≡ mid → IsSyntax a → Leads got old new (Err a) q
  refused new a s f h =
      leads_on got old mid new ws (Err a) Refused q e (sym (i ∙ ap (made_by_all ws) s))
      (leads_fails got mid new a Refused f (syntax_fails a Refused h refl))

  pub goes : (new : List Pending) (r : Result Spot Refusal) (o : Out) → p ≡ o → Leads says_at mid new r o
      → Leads says_at old new r q
  goes new r o s h = leads_on says_at old mid new ws r o q e (sym (i ∙ ap (made_by_all ws) s)) h

-- what a step answers is no heavier than that
pub lighter : (r : Result Spot Refusal) (n m : ℕ) → IfOk r (λ s. weight s.fuel (length s.steps.now) < n) → n ≤ m
    → IfOk r (λ s. weight s.fuel (length s.steps.now) ≤ m)
lighter (Ok s) n m h l = omega (arith, h, l)
lighter (Err e) n m h l = tt

pub as_light : (r : Result Spot Refusal) (n m : ℕ) → IfOk r (λ s. weight s.fuel (length s.steps.now) ≡ n) → n ≤ m
    → IfOk r (λ s. weight s.fuel (length s.steps.now) ≤ m)
as_light (Ok s) n m h l = omega (arith, h, l)
as_light (Err e) n m h l = tt

-- how much is left of what a step answers
abbrev pub left_of : Result Spot Refusal → ℕ
left_of (Ok s) = weight s.fuel (length s.steps.now) + 1
left_of (Err e) = 0

pub less_left : (r q : Result Spot Refusal) (s : Spot) → q ≡ Ok s
    → IfOk r (λ x. weight x.fuel (length x.steps.now) < weight s.fuel (length s.steps.now)) → left_of r < left_of q
less_left (Ok x) q s e h = omega (arith, h, ap left_of e)
less_left (Err a) q s e h = omega (arith, ap left_of e)

-- as much is pending
makes_as : {X : Type 0} (f : X → Out) (ws vs : List Pending) (r : Result X Refusal) (o : Out) → ws ≡ vs
    → Makes f ws r o → Makes f vs r o
makes_as f ws vs (Ok x) o e h = h ∙ ap (λ ws. made_by_all ws (f x)) e
makes_as f ws vs (Err a) o e h = h

-- what the last one makes of what was read is what the others make theirs of
pub makes_last : (ws : List Pending) (w : Pending) (x : Tree × Bor (List Entry))
    (r : Result (Tree × Bor (List Entry)) Refusal) (o : Out) → Gives (λ y. y.0) (λ y. y.1.now) r (made_by w (got x))
    → Makes got (ws ++ w ∷ []) (Ok x) o → Makes got ws r o
makes_last ws w x (Ok y) o h i = i ∙ made_more ws (w ∷ []) (got x) ∙ ap (made_by_all ws) h
makes_last ws w x (Err e) o h i =
    fails_as e (made_by_all ws (made_by w (got x))) o (i ∙ made_more ws (w ∷ []) (got x))
    (fails_by_all e ws (made_by w (got x)) h)

-- the last one is taken off
module _ (k : ℕ) (all left : List Pending) (w : Pending) (is : all ≡ left ++ w ∷ []) (le : k ≤ length left) where
  pub kept_less : take k all ≡ take k left
  kept_less = ap (take k) is ∙ take-append-le k left (w ∷ []) le

  pub makes_all : {X : Type 0} (f : X → Out) (r : Result X Refusal) (o : Out) → Makes f (drop k all) r o
      → Makes f (drop k left ++ w ∷ []) r o
  makes_all f r o h =
      makes_as f (drop k all) (drop k left ++ w ∷ []) r o (ap (drop k) is ∙ drop-append-le k left (w ∷ []) le) h

-- where all that came to it is taken off
module _ (old new ws : List Pending) (n : ℕ) (e : new ≡ old ++ ws) (is : n ≡ length old) where
  pub not_less : n ≤ length new
  not_less = omega (arith, is, length-append old ws, ap length e)

  pub old_kept : take n new ≡ old
  old_kept = ap (take n) e ∙ ap (λ k. take k (old ++ ws)) is ∙ take-append_seam old ws

  pub makes_left : {X : Type 0} (f : X → Out) (r : Result X Refusal) (o : Out) → Makes f ws r o
      → Makes f (drop n new) r o
  makes_left f r o h =
      makes_as f ws (drop n new) r o
      (sym (ap (drop n) e ∙ ap (λ k. drop k (old ++ ws)) is ∙ drop-append_seam old ws)) h

-- where no more is left than that
module _ (k : ℕ) (xs : List Pending) (le : length xs ≤ k) where
  none_more : (o : Out) → made_by_all (drop k xs) o ≡ o
  none_more o = ap (λ ws. made_by_all ws o) (drop_of_length-le xs le)

  pub gives_all : (r : Result (Tree × Bor (List Entry)) Refusal) (o : Out) → Makes got (drop k xs) r o
      → Gives (λ y. y.0) (λ y. y.1.now) r o
  gives_all (Ok x) o h = h ∙ none_more (got x)
  gives_all (Err e) o h = h

  pub all_kept : take k xs ≡ xs
  all_kept = take_all k xs le
