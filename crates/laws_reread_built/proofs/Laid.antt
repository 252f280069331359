-- An expression that is printed: there is a tree that fits, and what is held of that is the expression. So is what it
-- has in parentheses, and in parentheses it is so too, where it is settled in them.
use Rattle.std.proofs.Common.{◌≡◌, sym, ap, ◌∙◌, subst}
use Rattle.std.specs.Prelude.{true}
use Rattle.proc_macro2.specs.declared.delimiter.Delimiter.TheVariants.{Parenthesis}
use Rattle.syn_grammar.specs.Kind.{Position, Plain, Expression, ExprParen}
use Rattle.syn_grammar.specs.Tree.{Tree, End, Final, More, Group, Node, Whole, Alone, Front, Back, Infix}
use Rattle.syn_grammar.specs.Gram.{operand, ref}
use Rattle.syn_grammar.specs.Table.{table}
use Rattle.syn_grammar.specs.Forms.{kind_of}
use Rattle.syn_grammar.specs.Kept.{forget, kept}
use Rattle.syn_grammar.specs.Parens.{in_parens}
use Rattle.syn_grammar.specs.Expressions.{expressions}
use Rattle.syn_grammar.proofs.Settled.{Settled}
use Rattle.laws_reread_kinds.proofs.Fits.{Fits, FitsForms, HasOperands}
use Rattle.laws_reread.proofs.Wholes.{parens_fit, parens_kept, parens_operands}
use Rattle.laws_reread_built.proofs.Placed.{Placed}

pub record Laid (x : Tree) : Type 0 where
  pub tree : Tree
  pub fits : FitsForms tree
  pub operands : HasOperands tree
  pub kept_is : kept tree ≡ x

-- What stands in the parentheses: of the expression, of the one element, of its list, and of the group.
pub in_whole : (p : Position) (x z : Tree) → Fits x (operand p 0) → kept x ≡ Whole z → Laid z
in_whole p (Whole x) z f e = record { tree = x; fits = f.2; operands = f.3; kept_is = cc e }
in_whole p _ z f e = absurd f

in_node : (x z : Tree) → Fits x (ref (Expression Plain)) → kept x ≡ Node (Expression Plain) (Whole z) → Laid z
unfolding table
in_node (Node k x) z f e =
    let i : forget k (kept x) ≡ Whole z = cc e in
    in_whole Plain x z (subst (λ j. Fits x (table j)) f.0 f.3) (sym (ap (λ j. forget j (kept x)) f.0) ∙ i)
in_node _ z f e = absurd f

in_list : (x z : Tree) → Fits x expressions → kept x ≡ Final (Node (Expression Plain) (Whole z)) → Laid z
in_list (Final x) z f e = in_node x z f (cc e)
in_list End z f e = cc e
in_list (More x c spacing y) z f e = cc e
in_list _ z f e = absurd f

in_group : (x z : Tree) → Fits x (table ExprParen)
    → kept x ≡ Group Parenthesis (Final (Node (Expression Plain) (Whole z))) → Laid z
unfolding table
in_group (Group d x) z f e = in_list x z f.1 (cc e)
in_group _ z f e = absurd f

in_form : (x z : Tree) → FitsForms x → kept x ≡ in_parens z → Laid z
in_form (Alone k y) z f e = in_group y z (subst (λ j. Fits y (table j)) (ap kind_of e) f.1) (cc e)
in_form (Front k y x) z f e = cc e
in_form (Back l k y) z f e = cc (sym (f.3 (kept l)) ∙ e)
in_form (Infix l k y r) z f e = cc e
in_form _ z f e = absurd f

pub opened : (x : Tree) → Laid (in_parens x) → Laid x
opened x l = in_form l.tree x l.fits l.kept_is

pub closed : (x : Tree) → Placed (in_parens x) → Laid x → Laid (in_parens x)
closed x w l =
    let e : kept (in_parens l.tree) ≡ in_parens x = parens_kept true l.tree ∙ ap in_parens l.kept_is in
    record {
      tree = in_parens l.tree;
      fits = parens_fit true l.tree w.place w.behind (subst (λ z. Settled w.place w.behind z) (sym e) w.settled)
          (λ i us s. l.fits) l.operands;
      operands = parens_operands true l.tree l.operands;
      kept_is = e;
    }
