-- What is to be known of expressions: the step of an expression in each position, and what holds of its kind.
use Rattle.std.proofs.Common.{◌≡◌, ℕ, List, [], ◌∷◌, ◌++◌, refl, sym, ap, ◌∙◌, subst, append_assoc, ⊎_elim}
use Rattle.std.proofs.Common.{inl, inr}
use Rattle.proc_macro2.specs.Token.{Token, Ident}
use Rattle.syn_grammar.specs.Derives.{Bound, Derives}
use Rattle.syn_grammar.specs.Gram.{operand}
use Rattle.laws_reread_expressions.specs.Behind.{MayFollow}
use Rattle.laws_reread_kinds.proofs.Fits.{FitsForms, IsFormed, HasOperands}
use Rattle.std.specs.Prelude.{zero, suc, Bool, true, Some, None, codes}
use Rattle.syn_grammar.specs.Kind.{AStatement, Kind, Position, Plain, InCondition, InArm, InStatement, Expression}
use Rattle.syn_grammar.specs.Kind.{ExprLit}
use Rattle.syn_grammar.specs.Tree.{Tree, Whole, Alone, Front, Back, Infix, flat}
use Rattle.syn_grammar.specs.Forms.{front}
use Rattle.syn_grammar.specs.Words.{is_bool, is_name, is_path_keyword}
use Rattle.rust_leaf.specs.Keywords.{is_reserved}
use Rattle.syn_grammar.specs.Ranks.{skips}
use Rattle.syn_grammar.specs.Table.{table}
use Rattle.syn_grammar.specs.Kept.{held, kept}
use Rattle.syn_grammar.specs.Normal.{passed, stands_behind}
use Rattle.syn_grammar.proofs.Settled.{Settled}
use Rattle.laws_reread_kinds.specs.After.{After, EndsThere}
use Rattle.laws_reread_kinds.specs.Covered.{has_step, has_form_step, is_known}
use Rattle.laws_reread_kinds.proofs.Classes.{Class, TheWord, IsAt, IsAmong}
use Rattle.laws_reread_kinds.proofs.Starts.{starts}
use Rattle.laws_reread_kinds.proofs.AllKinds.{steps, laws}
use Rattle.laws_reread_kinds.proofs.Expressions.{Expressions}
use Rattle.laws_reread_kinds.proofs.Printed.{KindLaw, plain_law}
use Rattle.laws_reread_kinds.proofs.Readies.{Ready, Step}
use Rattle.laws_reread.proofs.Else.{read_before_else}
use Rattle.laws_reread.proofs.Ended.{read_ended}
use Rattle.laws_reread.proofs.Follow.{may_follow}
use Rattle.laws_reread.proofs.Enclosed.{taken}
use Rattle.laws_reread.proofs.Given.{given}
use Rattle.laws_reread.proofs.Held.{stays}
use Rattle.laws_reread.proofs.Owned.{read_whole}
use Rattle.laws_reread.proofs.Parts.{IsThe, owned, begins}
use Rattle.laws_reread_kinds.proofs.Statements.{law_a_statement}
use Rattle.laws_reread.proofs.Statements.{step_a_statement}
use Rattle.laws_reread.proofs.Settled.{settles}
use Rattle.laws_reread.proofs.Wholes.{whole}

pub read_formed : (p : Position) (x : Tree) (s : List Token) → IsFormed p x → FitsForms x → HasOperands x
    → Ready x → MayFollow p s → Derives (Whole x) (operand p 0) s
read_formed p x s i f o w m =
    let e : Settled p (stands_behind p) (kept x) = settles (kept x) p (stands_behind p) i in
    read_whole p x s (owned x f o w p (stands_behind p) e) (stays x f p (stands_behind p) e) m

-- before all that may follow it: an arm or a statement may be ended by its form
read_after : (p : Position) (x : Tree) (s : List Token) → IsFormed p x → FitsForms x → HasOperands x
    → Ready x → After (Expression p) (Whole x) s → Derives (Whole x) (operand p 0) s
read_after p x s i f o w a = go p i a
  where
    ended : (p : Position) → IsFormed p x → EndsThere p (Whole x) s → Derives (Whole x) (operand p 0) s
    ended p i e = read_ended x f o w p (stands_behind p) (settles (kept x) p (stands_behind p) i) e.0 s e.1

    go : (p : Position) → IsFormed p x → After (Expression p) (Whole x) s → Derives (Whole x) (operand p 0) s
    go Plain i a =
        ⊎_elim (λ l. read_formed Plain x s i f o w (may_follow Plain s l)) (λ e. read_before_else x s i f o w e.0 e.1) a
    go InCondition i a = read_formed InCondition x s i f o w (may_follow InCondition s a)
    go InArm i a =
        ⊎_elim (λ l. read_formed InArm x s i f o w (may_follow InArm s l)) (λ e. ended InArm i e) a
    go InStatement i a =
        ⊎_elim (λ l. read_formed InStatement x s i f o w (may_follow InStatement s l)) (λ e. ended InStatement i e) a

-- what it begins with: as a statement, with no let
leads : (x : Tree) (p : Position) (r : List Token) → Bound p x r → (k : Kind) × (front p (flat x ++ r) ≡ Some k)
leads (Alone k y) p r d = (k, d.0)
leads (Front k y x) p r d = (k, ap (front p) (append_assoc (flat y) (flat x) r) ∙ d.0)
leads (Back l k y) p r d =
    let i = leads l p (flat y ++ r) d.4 in
    (i.0, ap (front p) (append_assoc (flat l) (flat y) r) ∙ i.1)
leads (Infix l k y x) p r d =
    let i = leads l p (flat y ++ (flat x ++ r)) d.4 in (
      i.0,
      ap (front p)
          (append_assoc (flat l) (flat y ++ flat x) r ∙ ap (λ us. flat l ++ us) (append_assoc (flat y) (flat x) r))
          ∙ i.1,
    )
leads _ p r d = absurd d

no_let : (us : List Token) → front InStatement (Ident (codes "let") ∷ us) ≡ None
unfolding front is_bool is_name is_path_keyword is_reserved
no_let us = refl

none_let : (ts : List Token) (k : Kind) → front InStatement ts ≡ Some k → IsAt (TheWord (codes "let")) ts → ⊥
none_let ts k e i = none k (sym (no_let i.0) ∙ sym (ap (front InStatement) i.1) ∙ e)
  where
    none : (k : Kind) → None ≡ Some k → ⊥
    none k e = cc

abbrev without : ℕ → List Class → List Class
without n [] = []
without zero (c ∷ cs) = cs
without (suc n) (c ∷ cs) = c ∷ without n cs

others_among : (n : ℕ) (c : Class) (cs : List Class) (ts : List Token) → IsThe n c cs → (IsAt c ts → ⊥)
    → IsAmong cs ts → IsAmong (without n cs) ts
others_among zero c (d ∷ ds) ts e h i = ⊎_elim (λ j. absurd (h (subst (λ b. IsAt b ts) (sym e) j))) (λ j. j) i
others_among (suc n) c (d ∷ ds) ts e h i = ⊎_elim (λ j. inl j) (λ j. inr (others_among n c ds ts e h j)) i
others_among n c [] ts e h i = absurd i

begins_in_place : (p : Position) (x : Tree) (s : List Token) → Bound p x s
    → IsAmong (starts (Expression Plain)) (flat x ++ s) → IsAmong (starts (Expression p)) (flat x ++ s)
begins_in_place Plain x s d i = i
begins_in_place InCondition x s d i = i
begins_in_place InArm x s d i = i
begins_in_place InStatement x s d i =
    let l = leads x InStatement s d in
    others_among 25 (TheWord (codes "let")) (starts (Expression Plain)) (flat x ++ s) refl
    (none_let (flat x ++ s) l.0 l.1) i

step : (p : Position) → Step (Expression p)
unfolding table skips
step p (Whole x) s f m w a =
    let d = read_after p x s f.1 f.2 f.3 w a in
    (d, begins_in_place p x s d.1 (begins x f.3 w s))
step p _ s f m w a = absurd f

law : (p : Position) → is_known (Expression p) ≡ true → KindLaw (Expression p)
unfolding held passed table
law p e =
    plain_law (Expression p) e (λ x. tt) (λ x. refl) (λ x. refl) (λ q. refl) (λ q l. (l, refl, e))

-- the own parts of the forms
abbrev is_stepped : Kind → Bool
is_stepped (Expression p) = true
is_stepped AStatement = true
is_stepped k = has_step k

stepped : (k : Kind) → has_form_step k ≡ true → is_stepped k ≡ true
unfolding has_step has_form_step
stepped ExprLit e = refl
stepped _ e = cc

form_steps : (k : Kind) → has_form_step k ≡ true → Step k
unfolding has_form_step
form_steps (Expression p) e = step p
form_steps AStatement e = step_a_statement
form_steps k e = steps k (stepped k e)

form_laws : (k : Kind) → has_form_step k ≡ true → KindLaw k
unfolding has_step has_form_step
form_laws (Expression p) e = law p e
form_laws AStatement e = law_a_statement given taken
form_laws k e = laws k (stepped k e)

pub expressions : Expressions
expressions = record { form_steps = form_steps; form_laws = form_laws; whole = whole }
