-- Forms of expressions are read from left to right.
use Rattle.std.proofs.Common.{◌≡◌, ℕ, zero, suc, List, refl, sym, ap, ◌∙◌}
use Rattle.std.specs.Prelude.{Bool, true, false, cond, Option, Some, None, ◌&&◌}
use Rattle.proc_macro2.specs.Token.{Token}
use Rattle.syn_grammar.specs.Kind.{Kind, Position}
use Rattle.syn_grammar.specs.Tree.{Tree, Alone, Front, Back, Infix}
use Rattle.syn_grammar.specs.Gram.{Gram}
use Rattle.syn_grammar.specs.Table.{table}
use Rattle.syn_grammar.specs.Forms.{front, back, has_right, level, inside, chains, goes_on, stands_left, takes}
use Rattle.syn_grammar.specs.Forms.{takes_kind}
use Rattle.syn_grammar.specs.Run.{Call, Out, Late, Refused, Got, ◌>>=◌, tower, climb, kind, interp, run, front_right}
use Rattle.syn_grammar.specs.Run.{back_right, from_front, from_back, wrap}
use Rattle.syn_grammar.specs.Tree.{Node}
use Rattle.reader_steps.specs.Answers.{Fails, IsSyntax}
use Rattle.reader_steps.specs.Operands.{right_of, own_of, begun_at, begun, extended}
use Rattle.reader_steps.specs.declared.refusal.Refusal.{Refusal}
use Rattle.reader_steps.proofs.Outs.{fails_as, fails_on, syntax_fails}

-- a call of a kind is one step of its entry
pub kind_read : (n m : ℕ) (k : Kind) (g : Gram) (ts : List Token) → n ≡ suc m → g ≡ table k
    → run n (kind k) ts ≡ wrap (Node k) (interp (run m) g ts)
kind_read n m k g ts s e = ap (λ i. run i (kind k) ts) s ∙ ap (λ g. wrap (Node k) (interp (run m) g ts)) (sym e)

bind_bind : (o : Out) (f h : Tree → List Token → Out) (k : Tree → List Token → Out)
    → ((x : Tree) (us : List Token) → h x us ≡ (f x us >>= k)) → (o >>= h) ≡ ((o >>= f) >>= k)
bind_bind Late f h k e = refl
bind_bind Refused f h k e = refl
bind_bind (Got x us) f h k e = e x us

right_goes : (o : Out) (both : Tree → Tree) (k : Tree → List Token → Out)
    → (o >>= λ x vs. k (both x) vs) ≡ ((o >>= λ x vs. Got (both x) vs) >>= k)
right_goes Late both k = refl
right_goes Refused both k = refl
right_goes (Got x vs) both k = refl

module _ (m : ℕ) (p : Position) (n : ℕ) where
  abbrev on : Tree → List Token → Out
  on x vs = run m (climb p n x) vs

  front_goes : (k : Kind) (y : Tree) (us : List Token) (b : Bool)
      → front_right (run m) p n k y us b ≡ (right_of (run m) (Alone k) (Front k) p k y us b >>= on)
  front_goes k y us true = right_goes (run m (tower (inside p k) (level k)) us) (Front k y) on
  front_goes k y us false = refl

  back_goes : (l : Tree) (k : Kind) (y : Tree) (us : List Token) (b : Bool)
      → back_right (run m) p n l k y us b ≡ (right_of (run m) (Back l k) (Infix l k) p k y us b >>= on)
  back_goes l k y us true = right_goes (run m (tower (inside p k) (level k)) us) (Infix l k y) on
  back_goes l k y us false = refl

  from_begun : (ts : List Token) (a : Option Kind) → from_front (run m) p n ts a ≡ (begun_at (run m) p ts a >>= on)
  from_begun ts None = refl
  from_begun ts (Some k) =
      bind_bind (interp (run m) (table k) ts) (λ y us. right_of (run m) (Alone k) (Front k) p k y us (has_right p k us))
      _ on (λ y us. front_goes k y us (has_right p k us))

  -- an operand is a form that begins there, and what goes on from it
  pub tower_read : (i : ℕ) (ts : List Token) → i ≡ suc m → run i (tower p n) ts ≡ (begun (run m) p ts >>= on)
  tower_read i ts s = ap (λ j. run j (tower p n) ts) s ∙ from_begun ts (front p ts)

  pub tower_fails : (e : Refusal) (i : ℕ) (ts : List Token) → i ≡ suc m → Fails e (begun (run m) p ts)
      → Fails e (run i (tower p n) ts)
  tower_fails e i ts s f = fails_as e (begun (run m) p ts >>= on) (run i (tower p n) ts) (tower_read i ts s)
      (fails_on e (begun (run m) p ts) on f)

  pub tower_goes : (i : ℕ) (ts us : List Token) (x : Tree) → i ≡ suc m → begun (run m) p ts ≡ Got x us
      → run i (tower p n) ts ≡ run m (climb p n x) us
  tower_goes i ts us x s e = tower_read i ts s ∙ ap (λ o. o >>= on) e

  climb_as : (i : ℕ) (l : Tree) (ts : List Token) (a : Option Kind) → i ≡ suc m → back p ts ≡ a
      → run i (climb p n l) ts ≡ cond (takes_kind p n l a) (from_back (run m) p n l ts a) (Got l ts)
  climb_as i l ts a s e =
      ap (λ j. run j (climb p n l) ts) s
      ∙ ap (λ a. cond (takes_kind p n l a) (from_back (run m) p n l ts a) (Got l ts)) e

  -- nothing goes on from it
  pub climb_ends : (i : ℕ) (l : Tree) (ts : List Token) → i ≡ suc m → goes_on p n l ts ≡ false
      → run i (climb p n l) ts ≡ Got l ts
  climb_ends i l ts s h =
      climb_as i l ts (back p ts) s refl ∙ ap (λ b. cond b (from_back (run m) p n l ts (back p ts)) (Got l ts)) h

  climb_at : (i : ℕ) (l : Tree) (k : Kind) (ts : List Token) (b : Bool) → i ≡ suc m → back p ts ≡ Some k
      → goes_on p n l ts ≡ true → chains l k ≡ b → run i (climb p n l) ts
      ≡ cond b Refused (interp (run m) (table k) ts >>= λ y us. back_right (run m) p n l k y us (has_right p k us))
  climb_at i l k ts b s e h c =
      climb_as i l ts (Some k) s e
      ∙ ap (λ b. cond b (from_back (run m) p n l ts (Some k)) (Got l ts)) (sym (ap (takes_kind p n l) e) ∙ h)
      ∙ ap (λ b. cond b Refused (interp (run m) (table k) ts
      >>= λ y us. back_right (run m) p n l k y us (has_right p k us))) c

  pub climb_chains : (i : ℕ) (l : Tree) (k : Kind) (ts : List Token) → i ≡ suc m → back p ts ≡ Some k
      → goes_on p n l ts ≡ true → chains l k ≡ true → run i (climb p n l) ts ≡ Refused
  climb_chains i l k ts s e h c = climb_at i l k ts true s e h c

  climb_read : (i : ℕ) (l : Tree) (k : Kind) (ts : List Token) → i ≡ suc m → back p ts ≡ Some k
      → goes_on p n l ts ≡ true → chains l k ≡ false
      → run i (climb p n l) ts ≡ (extended (run m) p l k ts >>= on)
  climb_read i l k ts s e h c =
      climb_at i l k ts false s e h c
      ∙ bind_bind (interp (run m) (table k) ts)
      (λ y us. right_of (run m) (Back l k) (Infix l k) p k y us (has_right p k us)) _ on
      (λ y us. back_goes l k y us (has_right p k us))

  pub climb_goes : (i : ℕ) (l x : Tree) (k : Kind) (ts us : List Token) → i ≡ suc m → back p ts ≡ Some k
      → goes_on p n l ts ≡ true → chains l k ≡ false → extended (run m) p l k ts ≡ Got x us
      → run i (climb p n l) ts ≡ run m (climb p n x) us
  climb_goes i l x k ts us s e h c g = climb_read i l k ts s e h c ∙ ap (λ o. o >>= on) g

  pub climb_fails : (f : Refusal) (i : ℕ) (l : Tree) (k : Kind) (ts : List Token) → i ≡ suc m → back p ts ≡ Some k
      → goes_on p n l ts ≡ true → chains l k ≡ false → Fails f (extended (run m) p l k ts)
      → Fails f (run i (climb p n l) ts)
  climb_fails f i l k ts s e h c g =
      fails_as f (extended (run m) p l k ts >>= on) (run i (climb p n l) ts) (climb_read i l k ts s e h c)
      (fails_on f (extended (run m) p l k ts) on g)

and_false : (a : Bool) → (a && false) ≡ false
and_false true = refl
and_false false = refl

-- when nothing goes on
pub over : (p : Position) (n : ℕ) (l : Tree) (k : Kind) (ts : List Token) → back p ts ≡ Some k
    → takes n (level k) ≡ false → goes_on p n l ts ≡ false
over p n l k ts e h = ap (takes_kind p n l) e ∙ ap (λ b. b && stands_left p l k) h

pub unfit : (p : Position) (n : ℕ) (l : Tree) (k : Kind) (ts : List Token) → back p ts ≡ Some k
    → stands_left p l k ≡ false → goes_on p n l ts ≡ false
unfit p n l k ts e h =
    ap (takes_kind p n l) e ∙ ap (λ b. takes n (level k) && b) h ∙ and_false (takes n (level k))

pub fit : (p : Position) (n : ℕ) (l : Tree) (k : Kind) (ts : List Token) → back p ts ≡ Some k
    → takes n (level k) ≡ true → stands_left p l k ≡ true → goes_on p n l ts ≡ true
fit p n l k ts e h i = ap (takes_kind p n l) e ∙ ap (λ b. b && stands_left p l k) h ∙ i

-- an own part, and its operand
module _ (call : Call → List Token → Out) (alone : Tree → Tree) (both : Tree → Tree → Tree) (p : Position) (k : Kind)
  where
    own_as : (g : Gram) (ts : List Token) → g ≡ table k → own_of call alone both p k ts
        ≡ (interp call g ts >>= λ y us. right_of call alone both p k y us (has_right p k us))
    own_as g ts e = ap (λ g. interp call g ts >>= λ y us. right_of call alone both p k y us (has_right p k us)) (sym e)

    pub own_fails : (e : Refusal) (g : Gram) (ts : List Token) → g ≡ table k → Fails e (interp call g ts)
        → Fails e (own_of call alone both p k ts)
    own_fails e g ts s f = fails_as e _ (own_of call alone both p k ts) (own_as g ts s)
        (fails_on e (interp call g ts) _ f)

    own_got : (g : Gram) (y : Tree) (ts us : List Token) (b : Bool) → g ≡ table k → interp call g ts ≡ Got y us
        → has_right p k us ≡ b → own_of call alone both p k ts ≡ right_of call alone both p k y us b
    own_got g y ts us b s e h =
        own_as g ts s ∙ ap (λ o. o >>= λ y us. right_of call alone both p k y us (has_right p k us)) e
        ∙ ap (right_of call alone both p k y us) h

    pub own_alone : (g : Gram) (y : Tree) (ts us : List Token) → g ≡ table k → interp call g ts ≡ Got y us
        → has_right p k us ≡ false → own_of call alone both p k ts ≡ Got (alone y) us
    own_alone g y ts us s e h = own_got g y ts us false s e h

    pub own_both : (g : Gram) (y x : Tree) (ts us vs : List Token) → g ≡ table k → interp call g ts ≡ Got y us
        → has_right p k us ≡ true → call (tower (inside p k) (level k)) us ≡ Got x vs
        → own_of call alone both p k ts ≡ Got (both y x) vs
    own_both g y x ts us vs s e h i = own_got g y ts us true s e h ∙ ap (λ o. o >>= λ x vs. Got (both y x) vs) i

    pub own_right_fails : (f : Refusal) (g : Gram) (y : Tree) (ts us : List Token) → g ≡ table k
        → interp call g ts ≡ Got y us → has_right p k us ≡ true → Fails f (call (tower (inside p k) (level k)) us)
        → Fails f (own_of call alone both p k ts)
    own_right_fails f g y ts us s e h i =
        fails_as f (right_of call alone both p k y us true) (own_of call alone both p k ts)
        (own_got g y ts us true s e h)
        (fails_on f (call (tower (inside p k) (level k)) us) _ i)

begun_is : (call : Call → List Token → Out) (p : Position) (k : Kind) (ts : List Token) → front p ts ≡ Some k
    → begun call p ts ≡ own_of call (Alone k) (Front k) p k ts
begun_is call p k ts e = ap (begun_at call p ts) e

-- an operand begins with no form
pub none_stands : (m : ℕ) (p : Position) (n i : ℕ) (ts : List Token) (e : Refusal) → i ≡ suc m → IsSyntax e
    → front p ts ≡ None → Fails e (run i (tower p n) ts)
none_stands m p n i ts e s h f =
    tower_fails m p n e i ts s (syntax_fails e (begun (run m) p ts) h (ap (begun_at (run m) p ts) f))

-- an operand begins with a form of the kind
module _ (m : ℕ) (p : Position) (n i : ℕ) (k : Kind) (ts : List Token) where
  pub operand_fails : (e : Refusal) → i ≡ suc m → front p ts ≡ Some k
      → Fails e (own_of (run m) (Alone k) (Front k) p k ts) → Fails e (run i (tower p n) ts)
  operand_fails e s h f =
      tower_fails m p n e i ts s (fails_as e (own_of (run m) (Alone k) (Front k) p k ts) (begun (run m) p ts)
      (begun_is (run m) p k ts h) f)

  pub operand_goes : (us : List Token) (x : Tree) → i ≡ suc m → front p ts ≡ Some k
      → own_of (run m) (Alone k) (Front k) p k ts ≡ Got x us → run i (tower p n) ts ≡ run m (climb p n x) us
  operand_goes us x s h g = tower_goes m p n i ts us x s (begun_is (run m) p k ts h ∙ g)
