-- An expression that was read is printed in its normal form, and so with each operand in parentheses; and if it is
-- printed so, it is read so. So it is spelled.
use Rattle.std.proofs.Common.{◌≡◌, List, [], ◌++◌, refl, sym, ap, ◌∙◌, subst}
use Rattle.std.specs.Prelude.{true}
use Rattle.std.proofs.lemmas.List.{append-nil}
use Rattle.std.proofs.lemmas.Bool.{false≢true}
use Rattle.proc_macro2.specs.Token.{Token}
use Rattle.syn_grammar.specs.Kind.{Position, Plain, InCondition, InArm, InStatement, Expression, ExprAttributed}
use Rattle.syn_grammar.specs.Tree.{Tree, Node, Whole, Front, flat}
use Rattle.syn_grammar.specs.Look.{sees}
use Rattle.syn_grammar.specs.Say.{brace}
use Rattle.syn_grammar.specs.Gram.{operand, ref}
use Rattle.syn_grammar.specs.Table.{table}
use Rattle.syn_grammar.specs.Derives.{Derives}
use Rattle.syn_grammar.specs.Read.{IsRead}
use Rattle.syn_grammar.specs.Kept.{forget, held, kept}
use Rattle.syn_grammar.specs.Forms.{back}
use Rattle.syn_grammar.specs.Normal.{stands_behind, normal, formed}
use Rattle.syn_grammar.proofs.Settled.{settled_is}
use Rattle.laws_reread_expressions.specs.Behind.{MayFollow}
use Rattle.laws_reread_kinds.specs.Covered.{has_step, has_form_step}
use Rattle.laws_reread_kinds.proofs.Conditions.{is_condition}
use Rattle.laws_reread_kinds.proofs.Expressions.{all_laws, all_steps}
use Rattle.laws_reread_kinds.proofs.Fits.{IsFormed, flat_forms}
use Rattle.laws_reread_kinds.proofs.Printed.{printed}
use Rattle.laws_reread_kinds.proofs.Readies.{Ready, ready_forms}
use Rattle.laws_reread.proofs.Forms.{expressions, read_formed}
use Rattle.laws_reread.proofs.Told.{expression_covered}
use Rattle.laws_reread_built.specs.Spelled.{IsSpelled, parenthesized}
use Rattle.laws_reread_built.proofs.Dressed.{dressed_formed, dressed_parenthesized}
use Rattle.laws_reread_built.proofs.Laid.{Laid, in_whole}
use Rattle.laws_reread_built.proofs.Parenthesized.{settled}
use Rattle.laws_reread_built.proofs.Parts.{front_parts}
use Rattle.laws_reread_built.proofs.Redressed.{redressed}

-- what is printed for it, in a condition before a brace
braced : (p : Position) (r : List Token) → (p ≡ InCondition → sees brace r ≡ true) → is_condition p ≡ true
    → sees brace r ≡ true
braced InCondition r b e = b refl
braced Plain r b e = absurd (false≢true e)
braced InArm r b e = absurd (false≢true e)
braced InStatement r b e = absurd (false≢true e)

of_form : (p : Position) (x : Tree) (r : List Token) → Derives (Whole x) (operand p 0) r
    → (p ≡ InCondition → sees brace r ≡ true) → Laid (formed p (stands_behind p) (kept x))
unfolding table has_step has_form_step
of_form p x r d b =
    let w =
    printed (all_laws expressions) expressions.whole (Whole x) (operand p 0) r p (refl, refl, refl) refl
    (λ e. braced p r b e) d (expression_covered p x r (refl, d)) in
    in_whole p w.tree (formed p (stands_behind p) (kept x)) w.fits w.kept_is

no_condition : (r : List Token) → Plain ≡ InCondition → sees brace r ≡ true
no_condition r e = cc e

of_whole : (x z : Tree) → Derives x (operand Plain 0) [] → kept x ≡ Whole z → Laid (formed Plain [] z)
unfolding stands_behind
of_whole (Whole x) z d e =
    let i : kept x ≡ z = cc e in
    subst (λ y. Laid (formed Plain [] y)) i (of_form Plain x [] d (no_condition []))
of_whole _ z d e = absurd d

of_node : (x z : Tree) → Derives x (ref (Expression Plain)) [] → kept x ≡ Node (Expression Plain) (Whole z)
    → Laid (formed Plain [] z)
unfolding table
of_node (Node k x) z d e =
    let i : forget k (kept x) ≡ Whole z = cc e in
    of_whole x z (subst (λ j. Derives x (table j) []) d.0 d.1) (sym (ap (λ j. forget j (kept x)) d.0) ∙ i)
of_node _ z d e = absurd d

-- where that is read, what is held of it is
pub ready : (x : Tree) (l : Laid x) → Ready l.tree
ready x l = ready_forms (all_steps expressions) l.tree l.fits

pub read : (p : Position) (x : Tree) (l : Laid x) (rest : List Token) → Derives (Whole l.tree) (operand p 0) rest
    → IsRead (Expression p) (flat x ++ rest) (Node (Expression Plain) (Whole x)) rest
unfolding table held
read p x l rest d = record {
  tree = Node (Expression p) (Whole l.tree);
  derived = (refl, d);
  spelled = ap (λ ts. ts ++ rest) (sym (flat_forms l.tree l.fits) ∙ ap flat l.kept_is);
  kept_is = ap (λ z. Node (Expression Plain) (Whole z)) l.kept_is;
}

-- with each operand in parentheses
parens_formed : (x : Tree) → formed Plain [] (parenthesized x) ≡ parenthesized x
parens_formed x = settled_is Plain [] (parenthesized x) (settled x)

pub parens_laid : (x : Tree) → IsSpelled x → Laid (parenthesized x)
parens_laid x i = subst Laid (parens_formed x) (of_node i.tree (parenthesized x) i.derived i.kept_is)

parens_normal : (x : Tree) (l : Laid (parenthesized x)) → IsFormed Plain l.tree
unfolding stands_behind
parens_normal x l = ap (formed Plain []) l.kept_is ∙ parens_formed x ∙ sym l.kept_is

nothing_follows : MayFollow Plain []
unfolding back
nothing_follows = (refl, refl, refl, refl)

parens_read : (x : Tree) → Laid (parenthesized x) → IsSpelled x
parens_read x l =
    let d =
    read_formed Plain l.tree [] (parens_normal x l) l.fits l.operands (ready (parenthesized x) l) nothing_follows in
    subst (λ ts. IsRead (Expression Plain) ts (Node (Expression Plain) (Whole (parenthesized x))) [])
    (append-nil (flat (parenthesized x))) (read Plain (parenthesized x) l [] d)

pub spelled : (p : Position) (x : Tree) (rest : List Token)
    → Derives (Node (Expression p) (Whole x)) (ref (Expression p)) rest → (p ≡ InCondition → sees brace rest ≡ true)
    → IsSpelled (kept x)
unfolding table
spelled p x rest d b =
    parens_read (kept x)
    (redressed (kept x) (formed p (stands_behind p) (kept x)) (parenthesized (kept x))
    (dressed_formed (kept x) p (stands_behind p)) (dressed_parenthesized (kept x)) (of_form p x rest d.1 b)
    (record { place = Plain; behind = []; settled = settled (kept x) }))

-- Attributes behind attributes are not spelled.
pub one_list : (y z x : Tree) → IsSpelled (Front ExprAttributed y (Front ExprAttributed z x)) → ⊥
one_list y z x i =
    false≢true (sym (front_parts ExprAttributed (normal y) (parenthesized (Front ExprAttributed z x))
    (parens_laid (Front ExprAttributed y (Front ExprAttributed z x)) i)).together)
