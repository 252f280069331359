-- A formed expression in normal form is read back in its place, before all that may follow.
use Rattle.std.proofs.Common.{◌≡◌, ℕ, List, [], ◌∷◌, ◌++◌, refl, sym, ap, ◌∙◌, subst, inl}
use Rattle.std.specs.Prelude.{zero, suc, Bool, true, false, not, ◌&&◌, ◌||◌, cond, Option, Some, None}
use Rattle.std.proofs.lemmas.Bool.{false≢true}
use Rattle.proc_macro2.specs.Token.{Token, Opens, Literal}
use Rattle.proc_macro2.specs.declared.delimiter.Delimiter.TheVariants.{Brace}
use Rattle.syn_grammar.specs.Kind.{Kind, Position, Plain, InCondition, InArm, InStatement, Expression, ExprCast}
use Rattle.syn_grammar.specs.Kind.{ExprField}
use Rattle.syn_grammar.specs.Name.{the_name}
use Rattle.syn_grammar.specs.Part.{has}
use Rattle.syn_grammar.specs.Tree.{Tree, Front, Back, Infix, Node, Whole, flat}
use Rattle.syn_grammar.specs.Gram.{ref}
use Rattle.syn_grammar.specs.Look.{Look, seen, sees, behind, first_seen, ◌then◌, no, past_literals}
use Rattle.syn_grammar.specs.Say.{marks, brace, bracket, parenthesis}
use Rattle.syn_grammar.specs.Expressions.{postfix_stands}
use Rattle.syn_grammar.specs.Forms.{Case, form, first_form, backs, back, operand_stands, range_ends}
use Rattle.syn_grammar.specs.Table.{table}
use Rattle.syn_grammar.specs.Derives.{Derives}
use Rattle.syn_grammar.specs.Normal.{passed, stands_behind, normal_in, formed}
use Rattle.syn_grammar.specs.Parens.{ends_in_name}
use Rattle.syn_grammar.proofs.Theorems.{one}
use Rattle.laws_binding.proofs.Parted.{bound}
use Rattle.laws_binding.proofs.Sights.{back_same}
use Rattle.laws_binding.proofs.Stays.{Behind, facts_right, opening_right}
use Rattle.laws_binding.proofs.Turns.{lone_less}
use Rattle.laws_reread_expressions.specs.Behind.{ends_own, AtEnd, MayFollow}
use Rattle.laws_reread_expressions.specs.Formed.{Formed}
use Rattle.laws_reread_expressions.proofs.Ends.{LastEnds}
use Rattle.laws_reread_expressions.proofs.Near.{Beside, meets, none, whole_ends, all_within}
use Rattle.laws_reread_expressions.proofs.Stands.{standing}
use Rattle.laws_reread_expressions.proofs.Bools.{and_no, or_none}

-- where no form is seen, each is unseen
Unseen : List Case → List Token → Type 0
Unseen [] ts = Unit {0}
Unseen (form k l ∷ cases) ts = (seen (l ts) ≡ false) × Unseen cases ts

not_one : (b : Bool) (k : Kind) (o : Option Kind) → cond b (Some k) o ≡ None → (b ≡ false) × (o ≡ None)
not_one true k o e = cc
not_one false k o e = (refl, e)

unseen : (cases : List Case) (ts : List Token) → first_form cases ts ≡ None → Unseen cases ts
unfolding Unseen
unseen [] ts e = tt
unseen (form k l ∷ cases) ts e =
    let a = not_one (seen (l ts)) k (first_form cases ts) e in (a.0, unseen cases ts a.1)

abbrev others : ℕ → List Case → List Case
others zero cases = cases
others (suc n) [] = []
others (suc n) (c ∷ cases) = others n cases

skip : (n : ℕ) (cases : List Case) (ts : List Token) → Unseen cases ts → Unseen (others n cases) ts
unfolding Unseen
skip zero cases ts u = u
skip (suc n) [] ts u = u
skip (suc n) (form k l ∷ cases) ts u = skip n cases ts u.1

-- so neither a postfix form nor < stands there
or_first : (o p : Option (List Token)) → seen (first_seen o p) ≡ false → seen o ≡ false
or_first None p e = refl
or_first (Some ts) p e = e

then_none : (b : Bool) (l : Look) (ts : List Token) → seen (l ts) ≡ false
    → seen (behind (cond b None (Some ts)) l) ≡ false
then_none true l ts e = refl
then_none false l ts e = e

pub literals_seen : (p : List ℕ → Bool) (ts : List Token) → seen (past_literals p ts) ≡ true
literals_seen p [] = refl
literals_seen p (Literal cs ∷ ts) = go (p cs) (literals_seen p ts)
  where
    go : (b : Bool) → seen (past_literals p ts) ≡ true
        → seen (cond b (past_literals p ts) (Some (Literal cs ∷ ts))) ≡ true
    go true e = e
    go false e = refl
literals_seen p (_ ∷ ts) = refl

before_literals : (p : List ℕ → Bool) (o : Option (List Token)) → seen (behind o (past_literals p)) ≡ false → seen o
    ≡ false
before_literals p None e = refl
before_literals p (Some ts) e = absurd (false≢true (sym e ∙ literals_seen p ts))

dot_none : (p : List ℕ → Bool) (b : Bool) (l : Look) (ts : List Token)
    → seen (behind (cond b None (Some ts)) (l then past_literals p)) ≡ false
    → seen (behind (cond b None (Some ts)) l) ≡ false
dot_none p true l ts e = refl
dot_none p false l ts e = before_literals p (l ts) e

pub record Quiet (ts : List Token) : Type 0 where
  postfix : sees postfix_stands ts ≡ false
  less : sees lone_less ts ≡ false
  call : sees parenthesis ts ≡ false

quiet : (ts : List Token) → back Plain ts ≡ None → Quiet ts
unfolding back Unseen
quiet ts e =
    let u = unseen (backs Plain) ts e in
    let call = (skip 16 (backs Plain) ts u).0 in
    let index = (skip 17 (backs Plain) ts u).0 in
    let question = (skip 18 (backs Plain) ts u).0 in
    let dot = dot_none _ (seen (marks ".." ts)) (marks ".") ts (skip 21 (backs Plain) ts u).0 in
    record {
      postfix = or_none ((no (marks "..") then marks ".") ts) _ dot
          (or_none (marks "?" ts) _ question (or_none (parenthesis ts) (bracket ts) call index));
      less = then_none (seen (marks "<=" ts)) (marks "<") ts
          (or_first (marks "<" ts) (marks ">" ts) (skip 6 (backs Plain) ts u).0);
      call = call;
    }

quiet_own : (k : Kind) (y : Tree) (ts : List Token) → Quiet ts → ends_own k y ts ≡ true
quiet_own ExprCast y ts q =
    ap (λ b. not (b || (ends_in_name (flat y) && sees lone_less ts))) q.postfix
    ∙ ap (λ b. not (ends_in_name (flat y) && b)) q.less ∙ ap not (and_no (ends_in_name (flat y)))
quiet_own ExprField y ts q = ap (λ b. not (has the_name y && b)) q.call ∙ ap not (and_no (has the_name y))
quiet_own _ y ts q = refl

pub quiet_last : (x : Tree) (ts : List Token) → Quiet ts → LastEnds ts x
quiet_last (Front k y x) ts q = quiet_last x ts q
quiet_last (Infix l k y r) ts q = quiet_last r ts q
quiet_last (Back l k y) ts q = quiet_own k y ts q
quiet_last _ ts q = tt

-- what follows a whole expression
pub record Follows (p : Position) (ts : List Token) : Type 0 where
  pub beside : Beside p p (stands_behind p) ts
  pub at_end : AtEnd ts
  pub none : back InCondition ts ≡ None
  pub quiet : Quiet ts

brace_alone : (r : List Token) → Follows InCondition (Opens Brace ∷ r)
unfolding stands_behind back
brace_alone r = record {
  beside = record {
    near = inl refl;
    behind = record { lacks = λ q k m h. opening_right Brace q k r [] m ∙ h; braces = λ e. e };
    plain = inl refl;
  };
  at_end = refl;
  none = refl;
  quiet = record { postfix = refl; less = refl; call = refl };
}

brace_follows : (ts : List Token) → sees brace ts ≡ true → Follows InCondition ts
brace_follows (Opens Brace ∷ r) e = brace_alone r
brace_follows (Opens _ ∷ r) e = absurd (false≢true e)
brace_follows [] e = absurd (false≢true e)
brace_follows (_ ∷ r) e = absurd (false≢true e)

no_brace : (ts : List Token) → sees operand_stands ts ≡ false → sees brace ts ≡ false
no_brace [] e = refl
no_brace (Opens d ∷ r) e = absurd (false≢true (sym e))
no_brace (_ ∷ r) e = refl

calm_follows : (p : Position) (ts : List Token) → stands_behind p ≡ [] → sees operand_stands ts ≡ false
    → sees range_ends ts ≡ true → back Plain ts ≡ None → AtEnd ts → Follows p ts
calm_follows p ts f o r e a =
    let b = no_brace ts o in
    record {
      beside = record {
        near = inl refl;
        behind = subst (λ us. Behind us ts) (sym f) (record {
          lacks = λ q k m h. facts_right false ts (record { operand = o; range = r; no_brace = b }) q k m;
          braces = λ s. absurd (false≢true (sym b ∙ s));
        });
        plain = inl refl;
      };
      at_end = a;
      none = back_same InCondition Plain ts b ∙ e;
      quiet = quiet ts e;
    }

pub follows : (p : Position) (ts : List Token) → MayFollow p ts → Follows p ts
unfolding stands_behind
follows Plain ts m = calm_follows Plain ts refl m.0 m.1 m.2 m.3
follows InCondition ts m = brace_follows ts m
follows InArm ts m = calm_follows InArm ts refl m.0 m.1 m.2 m.3
follows InStatement ts m = calm_follows InStatement ts refl m.0 m.1 m.2 m.3

pub read_back : (p : Position) (x : Tree) (rest : List Token) → Formed x → MayFollow p rest
    → Derives (normal_in p (Node (Expression p) (Whole x))) (ref (Expression p)) rest
unfolding table passed
read_back p x rest f m =
    let a = follows p rest m in
    let z : Tree = formed p (stands_behind p) x in (
      refl,
      (
        (all_within z, whole_ends x p p (stands_behind p) rest a.beside a.none),
        bound z p rest (meets x p p (stands_behind p) (inl refl))
            (standing x f p (stands_behind p) p rest a.beside a.at_end (quiet_last z rest a.quiet)).spelled
            (none x p p (stands_behind p) rest a.beside a.none),
      ),
    )

-- what stands behind a whole expression where normal form is made may follow it
calm_nothing : (sees operand_stands [] ≡ false) × (sees range_ends [] ≡ true) × (back Plain [] ≡ None) × AtEnd []
unfolding back
calm_nothing = (refl, refl, refl, refl)

behind_follows : (p : Position) → MayFollow p (stands_behind p)
unfolding stands_behind
behind_follows Plain = calm_nothing
behind_follows InCondition = refl
behind_follows InArm = calm_nothing
behind_follows InStatement = calm_nothing

pub same_tokens : (p : Position) (x y : Tree) → Formed x → Formed y
    → flat (normal_in p (Node (Expression p) (Whole x))) ≡ flat (normal_in p (Node (Expression p) (Whole y)))
    → normal_in p (Node (Expression p) (Whole x)) ≡ normal_in p (Node (Expression p) (Whole y))
same_tokens p x y f g e =
    let r : List Token = stands_behind p in
    (one (ref (Expression p)) (normal_in p (Node (Expression p) (Whole x)))
    (normal_in p (Node (Expression p) (Whole y))) r r
    (read_back p x r f (behind_follows p)) (read_back p y r g (behind_follows p)) (ap (λ us. us ++ r) e)).0
