-- Normal forms are read back: of trees whose kinds have a step, where what is to be known of expressions is.
use Rattle.std.proofs.Common.{◌≡◌, List, [], ◌∷◌, ◌++◌, refl, sym, ap, ◌∙◌, subst, ⊎_elim, inl, inr}
use Rattle.std.specs.Prelude.{true}
use Rattle.proc_macro2.specs.Token.{Token}
use Rattle.syn_grammar.specs.Kind.{AStatement, Arm, Kind, Plain, InCondition, InArm, InStatement, AFieldValue, AType}
use Rattle.syn_grammar.specs.Kind.{Expression}
use Rattle.syn_grammar.specs.Kind.{ImplGenerics, OneStatement, WithPlus}
use Rattle.syn_grammar.specs.Tree.{Tree, Node, flat}
use Rattle.syn_grammar.specs.Gram.{ref}
use Rattle.syn_grammar.specs.Derives.{Derives}
use Rattle.syn_grammar.specs.Kept.{kept}
use Rattle.syn_grammar.specs.Normal.{normal}
use Rattle.syn_grammar.specs.Read.{IsRead}
use Rattle.laws_reread_kinds.specs.After.{After, EndsStatement, EndsThere, expression_of, is_closed, is_open, whole}
use Rattle.syn_grammar.specs.Forms.{ends_there}
use Rattle.laws_reread_kinds.specs.Sees.{LacksAll}
use Rattle.laws_reread_kinds.proofs.Ends.{closed_kept, ends_back}
use Rattle.laws_reread_kinds.proofs.InFront.{ends_given, given_to}
use Rattle.laws_reread_kinds.proofs.Statements.{at_expression, held_form, is_macro_statement, open_as}
use Rattle.laws_reread_kinds.proofs.Statements.{open_fits, open_kept}
use Rattle.laws_reread_kinds.proofs.StatementLists.{ends_of, macro_ends}
use Rattle.syn_grammar.specs.Kept.{as_statement, held}
use Rattle.syn_grammar.specs.Say.{marks}
use Rattle.syn_grammar.specs.Table.{table}
use Rattle.laws_reread_kinds.specs.Covered.{is_statement_form}
use Rattle.laws_reread_kinds.proofs.Fits.{IsMeant}
use Rattle.std.specs.Prelude.{Bool, false}
use Rattle.syn_grammar.specs.Tree.{First, Nil, Second, Whole}
use Rattle.laws_reread_kinds.specs.Covered.{all_covered, has_form_step, has_step, is_known, stands_alone}
use Rattle.std.specs.Prelude.{◌&&◌}
use Rattle.std.proofs.lemmas.Bool.{false≢true}
use Rattle.laws_reread_kinds.proofs.Choices.{both_true}
use Rattle.laws_reread_kinds.proofs.Conditions.{is_condition_kind}
use Rattle.laws_reread_kinds.proofs.FieldValues.{end_fits}
use Rattle.laws_reread_kinds.proofs.Fits.{Fits, flat_kept}
use Rattle.laws_reread_kinds.proofs.ImplParams.{generic_fits}
use Rattle.laws_reread_kinds.proofs.PathTypes.{path_fits}
use Rattle.laws_reread_kinds.proofs.Readies.{ready}
use Rattle.laws_reread_kinds.proofs.Fine.{fine_ref}
use Rattle.laws_reread_kinds.proofs.Printed.{Printed, IsPlaced, printed}
use Rattle.laws_reread_kinds.proofs.Expressions.{Expressions, all_steps, all_laws}

-- all of it is covered, and it stands by itself
abbrev pub is_whole : Tree → Bool
is_whole x = stands_alone x && all_covered x

-- what stands by itself: no arm does
abbrev pub IsAlone : Kind → Type 0
IsAlone Arm = ⊥
IsAlone k = IsPlaced Plain k

alone_placed : (k : Kind) → IsAlone k → IsPlaced Plain k
alone_placed Arm p = tt
alone_placed _ p = p

node_in_place : (k : Kind) (x : Tree) → stands_alone (Node k x) ≡ true → IsAlone k
node_in_place Arm x e = absurd (false≢true e)
node_in_place (Expression Plain) x e = refl
node_in_place (Expression _) x e = absurd (false≢true e)
node_in_place _ x e = tt

pub node_placed : (k : Kind) (x : Tree) (r : List Token) → Derives x (ref k) r → is_whole x ≡ true → IsAlone k
node_placed k (Node l x) r d c =
    subst IsAlone d.0
    (node_in_place l x (both_true (stands_alone (Node l x)) (all_covered (Node l x)) c).0)
node_placed k _ r d c = absurd d

no_condition : (k : Kind) → IsAlone k → is_condition_kind k ≡ true → ⊥
no_condition (Expression Plain) p e = cc
no_condition (Expression InCondition) p e = cc p
no_condition (Expression InArm) p e = cc
no_condition (Expression InStatement) p e = cc
no_condition _ p e = absurd (false≢true e)

-- what may follow a statement as it is held
is_ended : (a x : Tree) (s : List Token) → Fits (Whole x) (table (Expression InStatement))
    → EndsStatement (at_expression (held_form (given_to a (kept x))) (Second Nil)) s
    → EndsThere InStatement (Node (Expression InStatement) (Whole x)) s × LacksAll (marks ";" ∷ []) s
unfolding table
is_ended a x s f (inl e) = cc e
is_ended a x s f (inr e) = ((ends_back InStatement x f.2 (ends_given a (kept x) e.0.0), e.0.1), e.1)

call_ended : (w : Tree) (s : List Token) → Fits w (table AStatement) → is_statement_form w ≡ true → is_open w ≡ true
    → is_macro_statement w ≡ true → EndsStatement (as_statement (kept w)) s
    → EndsThere InStatement (expression_of w) s × LacksAll (marks ";" ∷ []) s
call_ended w s f n o i h = go w i (open_kept w f n o) (macro_ends w f n i) h
  where
    go : (w : Tree) → is_macro_statement w ≡ true → is_open (as_statement (kept w)) ≡ true
        → ends_there InStatement (whole (expression_of w)) ≡ true → EndsStatement (as_statement (kept w)) s
        → EndsThere InStatement (expression_of w) s × LacksAll (marks ";" ∷ []) s
    go (Second (First x)) i o g (inl e) = absurd (false≢true (sym e ∙ o))
    go (Second (First x)) i o g (inr e) = ((g, e.0.1), e.1)
    go (Second _) i o g h = absurd (false≢true i)
    go _ i o g h = absurd (false≢true i)

ends_printed : (w : Tree) (s : List Token) → Fits w (table AStatement) → is_statement_form w ≡ true
    → EndsStatement (as_statement (kept w)) s → EndsStatement w s
unfolding held
ends_printed w s f n h = go (is_open w) (is_macro_statement w) refl refl
  where
    go : (o c : Bool) → is_open w ≡ o → is_macro_statement w ≡ c → EndsStatement w s
    go false c o i = ends_of w s f (inl o)
    go true true o i = ends_of w s f (inr (call_ended w s f n o i h))
    go true false o i =
        let p = open_fits w f n o i in
        let e : EndsStatement (at_expression (held_form (given_to (kept p.front) (kept p.form))) (Second Nil)) s =
        subst (λ z. EndsStatement z s) (open_as p.front p.form p.attributes)
        (subst (λ z. EndsStatement (as_statement (kept z)) s) p.is h) in
        ends_of w s f (inr (subst (λ z. EndsThere InStatement (expression_of z) s × LacksAll (marks ";" ∷ []) s)
        (sym p.is) (is_ended (kept p.front) p.form s p.fits e)))

pub statement_printed : (w : Tree) (s : List Token) → Fits w (ref AStatement) → After AStatement (kept w) s
    → After AStatement w s
unfolding held
statement_printed (Node k w) s f (inl a) = inl a
statement_printed (Node k w) s f (inr a) =
    inr (ends_printed w s (subst (λ j. Fits w (table j)) f.0 f.3) (subst (λ j. IsMeant j w) f.0 f.4)
    (subst (λ j. EndsStatement (kept (Node j w)) s) f.0 a))
statement_printed _ s f a = absurd f

closed_form : (x : Tree) → Fits x (table (Expression Plain))
    → is_closed (kept (Node (Expression Plain) x)) ≡ is_closed x
unfolding table held
closed_form (Whole x) f = closed_kept x f.2
closed_form _ f = absurd f

closed_fits : (w : Tree) → Fits w (ref (Expression Plain)) → is_closed (kept w) ≡ is_closed w
closed_fits (Node k x) f =
    subst (λ j. is_closed (kept (Node j x)) ≡ is_closed x) (sym f.0)
    (closed_form x (subst (λ j. Fits x (table j)) f.0 f.3))
closed_fits _ f = absurd f

-- one statement by itself has no step
none_one : (w : Tree) → Fits w (ref OneStatement) → ⊥
unfolding has_step has_form_step
none_one (Node k x) f = false≢true (subst (λ j. is_known j ≡ true) f.0 f.1)
none_one _ f = f

-- what may follow what is kept may follow what is printed
after_printed : (k : Kind) (w : Tree) (s : List Token) → IsAlone k → Fits w (ref k) → After k (kept w) s
    → After k w s
after_printed (Expression Plain) w s p f a = ⊎_elim (λ h. inl h) (λ h. inr (sym (closed_fits w f) ∙ h.0, h.1)) a
after_printed (Expression InCondition) w s p f a = a
after_printed (Expression InArm) w s p f a = cc p
after_printed (Expression InStatement) w s p f a = cc p
after_printed Arm w s p f a = absurd p
after_printed AStatement w s p f a = statement_printed w s f a
after_printed OneStatement w s p f a = absurd (none_one w f)
after_printed AFieldValue w s p f a =
    ⊎_elim (λ h. inl h) (λ h. inr (sym (end_fits w f) ∙ h.0, h.1)) a
after_printed (AType WithPlus) w s p f a =
    ⊎_elim (λ h. inl h) (λ h. inr (sym (path_fits w (ref (AType WithPlus)) f) ∙ h.0, h.1)) a
after_printed ImplGenerics w s p f a = ⊎_elim (λ h. inl h) (λ h. inr (sym (generic_fits w f) ∙ h)) a
after_printed _ w s p f a = a

module _ (expressions : Expressions) where
  pub read_placed : (k : Kind) (x : Tree) (r s : List Token) → IsAlone k → Derives x (ref k) r
      → is_whole x ≡ true → After k (normal (kept x)) s
      → IsRead k (flat (normal (kept x)) ++ s) (normal (kept x)) s
  read_placed k x r s l d c a =
      let p : Printed (ref k) (normal (kept x)) =
      printed (all_laws expressions) expressions.whole x (ref k) r Plain (alone_placed k l) refl
      (λ e. absurd (no_condition k l e)) d
      (both_true (stands_alone x) (all_covered x) c).1 in
      let b : After k p.tree s =
      after_printed k p.tree s l p.fits (subst (λ z. After k z s) (sym p.kept_is) a) in
      let (t, f) = (fine_ref {k = k}).by p.tree s p.fits (ready (all_steps expressions) p.tree (ref k) p.fits) b in
      record {
        tree = p.tree;
        derived = t;
        spelled = ap (λ ts. ts ++ s) (sym (flat_kept p.tree (ref k) p.fits) ∙ ap flat p.kept_is);
        kept_is = p.kept_is;
      }
