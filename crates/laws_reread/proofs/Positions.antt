-- An expression that is covered is read back in each position.
use Rattle.std.proofs.Common.{◌≡◌, List, ◌++◌, refl, sym, ap, ◌∙◌}
use Rattle.std.specs.Prelude.{true}
use Rattle.std.proofs.lemmas.Bool.{false≢true}
use Rattle.proc_macro2.specs.Token.{Token}
use Rattle.syn_grammar.specs.Kind.{Position, Plain, InArm, InCondition, InStatement, Expression}
use Rattle.syn_grammar.specs.Tree.{Tree, Node, Whole, flat}
use Rattle.syn_grammar.specs.Look.{sees}
use Rattle.syn_grammar.specs.Say.{brace}
use Rattle.syn_grammar.specs.Gram.{operand, ref}
use Rattle.syn_grammar.specs.Table.{table}
use Rattle.syn_grammar.specs.Forms.{ends_there}
use Rattle.syn_grammar.specs.Derives.{Derives}
use Rattle.syn_grammar.specs.Kept.{held, kept}
use Rattle.syn_grammar.specs.Normal.{passed, normal_in, stands_behind}
use Rattle.syn_grammar.specs.Read.{IsRead}
use Rattle.syn_grammar.proofs.Theorems.{one}
use Rattle.laws_reread_expressions.specs.Behind.{MayFollow}
use Rattle.laws_reread_kinds.specs.After.{EndsThere, whole}
use Rattle.laws_reread_kinds.specs.Covered.{has_form_step, has_step, all_covered}
use Rattle.laws_reread_kinds.proofs.Ends.{ends_back}
use Rattle.laws_reread.proofs.Ended.{read_ended}
use Rattle.laws_reread.proofs.Settled.{settles}
use Rattle.laws_reread_kinds.proofs.Expressions.{all_laws, all_steps}
use Rattle.laws_reread_kinds.proofs.Fits.{Fits, flat_forms}
use Rattle.laws_reread_kinds.proofs.Conditions.{is_condition}
use Rattle.laws_reread_kinds.proofs.Printed.{Printed, printed}
use Rattle.laws_reread_kinds.proofs.Readies.{ready_forms}
use Rattle.laws_reread.proofs.Forms.{expressions, read_formed}

-- what is printed for it
is_condition_in : (p : Position) → is_condition p ≡ true → p ≡ InCondition
is_condition_in InCondition e = refl
is_condition_in Plain e = absurd (false≢true e)
is_condition_in InArm e = absurd (false≢true e)
is_condition_in InStatement e = absurd (false≢true e)

record Formed (p : Position) (x : Tree) : Type 0 where
  tree : Tree
  fits : Fits (Whole tree) (operand p 0)
  kept_is : kept (Whole tree) ≡ normal_in p (kept (Whole x))

as_formed : (p : Position) (x : Tree) → Printed (operand p 0) (normal_in p (kept (Whole x))) → Formed p x
as_formed p x w = go w.tree w.fits w.kept_is
  where
    go : (z : Tree) → Fits z (operand p 0) → kept z ≡ normal_in p (kept (Whole x)) → Formed p x
    go (Whole z) f e = record { tree = z; fits = f; kept_is = e }
    go _ f e = absurd f

formed_in : (p : Position) (x : Tree) (r : List Token)
    → Derives (Node (Expression p) (Whole x)) (ref (Expression p)) r → (p ≡ InCondition → sees brace r ≡ true)
    → all_covered x ≡ true → Formed p x
unfolding table has_step has_form_step
formed_in p x r d b c =
    as_formed p x
    (printed (all_laws expressions) expressions.whole (Whole x) (operand p 0) r p (refl, refl, refl) refl
    (λ e. b (is_condition_in p e)) d.1 c)

pub read_in_position : (p : Position) (x : Tree) (r s : List Token)
    → Derives (Node (Expression p) (Whole x)) (ref (Expression p)) r → (p ≡ InCondition → sees brace r ≡ true)
    → all_covered x ≡ true → MayFollow p s
    → IsRead (Expression p) (flat (normal_in p (kept (Node (Expression p) (Whole x)))) ++ s)
    (normal_in p (kept (Node (Expression p) (Whole x)))) s
unfolding table held passed has_form_step
read_in_position p x r s d b c m =
    let w = formed_in p x r d b c in
    let f = ready_forms (all_steps expressions) w.tree w.fits.2 in
    record {
      tree = Node (Expression p) (Whole w.tree);
      derived = (refl, read_formed p w.tree s w.fits.1 w.fits.2 w.fits.3 f m);
      spelled = ap (λ ts. ts ++ s) (sym (flat_forms w.tree w.fits.2) ∙ ap flat w.kept_is);
      kept_is = ap (Node (Expression Plain)) w.kept_is;
    }

-- one that ends a statement or an arm by itself, before all but ., ? and else
no_condition : (p : Position) (x : Tree) → ends_there p x ≡ true → p ≡ InCondition → ⊥
no_condition p x e i = false≢true (sym (ap (λ q. ends_there q x) i) ∙ e)

pub read_ended_in : (p : Position) (x : Tree) (r s : List Token)
    → Derives (Node (Expression p) (Whole x)) (ref (Expression p)) r → all_covered x ≡ true
    → EndsThere p (normal_in p (kept (Node (Expression p) (Whole x)))) s
    → IsRead (Expression p) (flat (normal_in p (kept (Node (Expression p) (Whole x)))) ++ s)
    (normal_in p (kept (Node (Expression p) (Whole x)))) s
unfolding table held passed has_form_step
read_ended_in p x r s d c h =
    let w = formed_in p x r d (λ i. absurd (no_condition p _ h.0 i)) c in
    let f = ready_forms (all_steps expressions) w.tree w.fits.2 in
    let e : ends_there p (kept w.tree) ≡ true =
    ap (λ z. ends_there p (whole z)) w.kept_is ∙ h.0 in
    record {
      tree = Node (Expression p) (Whole w.tree);
      derived = (
        refl,
        read_ended w.tree w.fits.2 w.fits.3 f p (stands_behind p)
            (settles (kept w.tree) p (stands_behind p) w.fits.1)
            (ends_back p w.tree w.fits.2 e) s h.1,
      );
      spelled = ap (λ ts. ts ++ s) (sym (flat_forms w.tree w.fits.2) ∙ ap flat w.kept_is);
      kept_is = ap (Node (Expression Plain)) w.kept_is;
    }

pub same_in_position : (p : Position) (x y : Tree) (r q s : List Token)
    → Derives (Node (Expression p) (Whole x)) (ref (Expression p)) r → (p ≡ InCondition → sees brace r ≡ true)
    → all_covered x ≡ true → Derives (Node (Expression p) (Whole y)) (ref (Expression p)) q
    → (p ≡ InCondition → sees brace q ≡ true) → all_covered y ≡ true → MayFollow p s
    → flat (normal_in p (kept (Node (Expression p) (Whole x))))
    ≡ flat (normal_in p (kept (Node (Expression p) (Whole y))))
    → normal_in p (kept (Node (Expression p) (Whole x))) ≡ normal_in p (kept (Node (Expression p) (Whole y)))
same_in_position p x y r q s d a c e b f m h =
    let i = read_in_position p x r s d a c m in
    let j = read_in_position p y q s e b f m in
    let t = one (ref (Expression p)) i.tree j.tree s s i.derived j.derived
    (i.spelled ∙ ap (λ ts. ts ++ s) h ∙ sym j.spelled) in
    sym i.kept_is ∙ ap kept t.0 ∙ j.kept_is
