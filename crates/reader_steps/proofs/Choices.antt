-- Which part of a choice is read.
use Rattle.std.proofs.Common.{◌≡◌, ℕ, zero, suc, ◌+◌, ◌<◌, ◌≤◌, List, ◌∷◌, length, take, drop, refl, ap, ◌∙◌, arith}
use Rattle.std.proofs.lemmas.Bool.{le-leb, lt-leb}
use Rattle.std.specs.Prelude.{Bool, true, false, cond}
use Rattle.proc_macro2.specs.Token.{Token}
use Rattle.syn_grammar.specs.Gram as g
use Rattle.syn_grammar.specs.Tree as t
use Rattle.syn_grammar.specs.Tree.{Tree}
use Rattle.syn_grammar.specs.Run.{Call, Out, Late, Refused, Got, interp, wrap}
use Rattle.reader_table.specs.Looks.{test_of}
use Rattle.reader_table.specs.Ops.{gram_of}
use Rattle.reader_table.specs.declared.op.Op.{Op}
use Rattle.reader_table.specs.declared.op.Op.TheVariants as ops
use Rattle.reader_table.specs.declared.op.Test.{Test}
use Rattle.reader_steps.specs.Around.{around_of}
use Rattle.reader_tree.specs.Forms.{seconds}
use Rattle.reader_steps.specs.declared.around.Around.TheVariants as arounds
use Rattle.reader_steps.proofs.Says.{no_alt, says_seq, says_alt}

module _ (n : ℕ) (is xs ys : List Op) (le : n ≤ length is) (p : xs ≡ take n is) (q : ys ≡ drop n is) where
  pub two_parts : gram_of (ops.Seq n ∷ is) ≡ g.seq (gram_of xs) (gram_of ys)
  two_parts = says_seq n is xs ys (le-leb n (length is) le) p q

  module _ (test : Test) (ts : List Token) (call : Call → List Token → Out) where
    by_test : (b : Bool) → test_of test ts ≡ b → interp call (gram_of (ops.Alt test n ∷ is)) ts
        ≡ cond b (wrap t.First (interp call (gram_of xs) ts)) (wrap t.Second (interp call (gram_of ys) ts))
    by_test b e =
        ap (λ z. interp call z ts) (says_alt test n is xs ys (le-leb n (length is) le) p q)
        ∙ ap (λ b. cond b (wrap t.First (interp call (gram_of xs) ts)) (wrap t.Second (interp call (gram_of ys) ts))) e

    pub first_read : test_of test ts ≡ true → interp call (gram_of (ops.Alt test n ∷ is)) ts
        ≡ wrap t.First (interp call (gram_of xs) ts)
    first_read e = by_test true e

    pub second_read : test_of test ts ≡ false → interp call (gram_of (ops.Alt test n ∷ is)) ts
        ≡ wrap t.Second (interp call (gram_of ys) ts)
    second_read e = by_test false e

-- where there aren't so many
pub no_parts : (test : Test) (n : ℕ) (is : List Op) (ts : List Token) (call : Call → List Token → Out) → length is < n
    → interp call (gram_of (ops.Alt test n ∷ is)) ts ≡ Refused
no_parts test n is ts call l = ap (λ g. interp call g ts) (no_alt test n is (lt-leb n (length is) l))

-- what a choice says, of which the second has been chosen so many times
seconds_last : (n : ℕ) (x : Tree) → seconds n (t.Second x) ≡ t.Second (seconds n x)
seconds_last zero x = refl
seconds_last (suc n) x = ap t.Second (seconds_last n x)

seconds_more : (n m : ℕ) (x : Tree) → m ≡ n + 1 → seconds n (t.Second x) ≡ seconds m x
seconds_more n m x e = seconds_last n x ∙ ap (λ k. seconds k x) (let s : suc n ≡ m = omega (arith, e) in s)

pub none_chosen : (n : ℕ) (q o : Out) → q ≡ wrap (seconds n) o → o ≡ Refused → q ≡ Refused
none_chosen n q o i e = i ∙ ap (wrap (seconds n)) e

pub first_chosen : (n : ℕ) (q o p : Out) → q ≡ wrap (seconds n) o → o ≡ wrap t.First p
    → q ≡ wrap (around_of (arounds.Chosen n true)) p
first_chosen n q o Late i e = i ∙ ap (wrap (seconds n)) e
first_chosen n q o Refused i e = i ∙ ap (wrap (seconds n)) e
first_chosen n q o (Got x us) i e = i ∙ ap (wrap (seconds n)) e

pub more_chosen : (n m : ℕ) (q o p : Out) → m ≡ n + 1 → q ≡ wrap (seconds n) o → o ≡ wrap t.Second p
    → q ≡ wrap (seconds m) p
more_chosen n m q o Late s i e = i ∙ ap (wrap (seconds n)) e
more_chosen n m q o Refused s i e = i ∙ ap (wrap (seconds n)) e
more_chosen n m q o (Got x us) s i e = i ∙ ap (wrap (seconds n)) e ∙ ap (λ z. Got z us) (seconds_more n m x s)

as_second : (n : ℕ) (p : Out) → wrap (seconds n) p ≡ wrap (around_of (arounds.Chosen n false)) p
as_second n Late = refl
as_second n Refused = refl
as_second n (Got x us) = refl

pub second_chosen : (n m : ℕ) (q o p : Out) → m ≡ n + 1 → q ≡ wrap (seconds n) o → o ≡ wrap t.Second p
    → q ≡ wrap (around_of (arounds.Chosen m false)) p
second_chosen n m q o p s i e = more_chosen n m q o p s i e ∙ as_second m p

-- at first none has been
pub none_yet : (o : Out) → o ≡ wrap (seconds 0) o
none_yet Late = refl
none_yet Refused = refl
none_yet (Got x us) = refl
