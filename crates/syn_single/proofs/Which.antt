-- Which form of an expression a tree is.
use Rattle.std.proofs.Common.{◌≡◌, ◌∙◌, List, ap, refl, subst, sym}
use Rattle.std.specs.Prelude.{false, None, Option, Some}
use denote.Bor.{Bor}
use Rattle.proc_macro2.specs.Token.{Token}
use Rattle.syn_ast.specs.Types.{no_lone}
use Rattle.syn_expr.proofs.ExprRead.{whole}
use Rattle.syn_expr.specs.ExprForms.{form_tree, jump_tree}
use Rattle.syn_expr.specs.ExprOps.{bin_op_kind, bin_op_tree}
use Rattle.syn_expr.specs.ExprPrefix.{closure_tree}
use Rattle.syn_expr.specs.ExprWhole.{IsOf, is_final, which}
use Rattle.syn_expr.specs.declared.expr.ops.BinOp.{BinOp}
use Rattle.syn_expr.specs.declared.expr.ops.BinOp.TheVariants as bins
use Rattle.syn_expr.specs.declared.expr.whole.ExprForm.{ExprForm}
use Rattle.syn_expr.specs.declared.expr.whole.ExprForm.TheVariants as exprs
use Rattle.syn_grammar.specs.Derives.{Derives}
use Rattle.syn_grammar.specs.Forms.{form_of}
use Rattle.syn_grammar.specs.Gram.{ref}
use Rattle.syn_grammar.specs.Kind as k
use Rattle.syn_grammar.specs.Kind.{Expression, Plain}
use Rattle.syn_grammar.specs.Tree as t
use Rattle.syn_grammar.specs.Tree.{Tree}
use Rattle.syn_single.specs.Meant.{IsExprOf, IsFormOf}

-- an expression that was read has the shape of the form that it is
some_form : (f g : ExprForm) → Some f ≡ Some g → f ≡ g
some_form f g e = cc

-- what is of no form is not of this one
pub no_form : (f : ExprForm) (o : Option ExprForm) → o ≡ None → o ≡ Some f → ⊥
no_form f o n s = cc

pub shaped_as : (f : ExprForm) (tree form : Tree) (rest : List Token) → form ≡ form_of tree
    → Derives tree (ref (Expression Plain)) rest → IsExprOf f tree → IsFormOf f form
shaped_as f tree form rest e d h =
    let read = whole Plain tree rest d in (
      ap which e ∙ h,
      subst (λ x. IsOf f x) (sym e)
          (subst (λ g. IsOf g (form_of tree)) (some_form read.0 f (sym read.1 ∙ h)) read.2),
    )

-- which form of an expression a type's tree is, where its parts say it
pub of_operator : (o : BinOp) (l r : Tree) → which (t.Infix l (bin_op_kind o) (bin_op_tree o) r) ≡ Some exprs.Binary
of_operator (bins.Or m) l r = refl
of_operator (bins.And m) l r = refl
of_operator (bins.BitOr m) l r = refl
of_operator (bins.BitXor m) l r = refl
of_operator (bins.BitAnd m) l r = refl
of_operator (bins.Add m) l r = refl
of_operator (bins.Sub m) l r = refl
of_operator (bins.Mul m) l r = refl
of_operator (bins.Div m) l r = refl
of_operator (bins.Rem m) l r = refl
of_operator (bins.Shl m) l r = refl
of_operator (bins.Shr m) l r = refl
of_operator (bins.Eq m) l r = refl
of_operator (bins.Le m) l r = refl
of_operator (bins.Ne m) l r = refl
of_operator (bins.Ge m) l r = refl
of_operator (bins.Lt m) l r = refl
of_operator (bins.Gt m) l r = refl
of_operator (bins.AddAssign m) l r = refl
of_operator (bins.SubAssign m) l r = refl
of_operator (bins.MulAssign m) l r = refl
of_operator (bins.DivAssign m) l r = refl
of_operator (bins.RemAssign m) l r = refl
of_operator (bins.BitXorAssign m) l r = refl
of_operator (bins.BitAndAssign m) l r = refl
of_operator (bins.BitOrAssign m) l r = refl
of_operator (bins.ShlAssign m) l r = refl
of_operator (bins.ShrAssign m) l r = refl

pub of_closure : (o : Option (Bor Tree)) (h y : Tree) → which (closure_tree h o y) ≡ Some exprs.Closure
of_closure None h y = refl
of_closure (Some o) h y = refl

pub of_break : (o : Option (Bor Tree)) (y : Tree) → which (jump_tree k.ExprBreak y o) ≡ Some exprs.Break
of_break None y = refl
of_break (Some o) y = refl

pub of_return : (o : Option (Bor Tree)) (y : Tree) → which (jump_tree k.ExprReturn y o) ≡ Some exprs.Return
of_return None y = refl
of_return (Some o) y = refl

pub of_yield : (o : Option (Bor Tree)) (y : Tree) → which (jump_tree k.ExprYield y o) ≡ Some exprs.Yield
of_yield None y = refl
of_yield (Some o) y = refl

pub of_open_range : (l r : Option (Bor Tree)) (y : Tree) → which (form_tree l k.ExprRange y r) ≡ Some exprs.Range
of_open_range None None y = refl
of_open_range None (Some r) y = refl
of_open_range (Some l) None y = refl
of_open_range (Some l) (Some r) y = refl

pub of_range_from : (l : Bor Tree) (r : Option (Bor Tree)) (y : Tree)
    → which (form_tree (Some l) k.ExprRangeClosed y r) ≡ Some exprs.Range
of_range_from l None y = refl
of_range_from l (Some r) y = refl

-- one element without a comma is no tuple
pub of_several : (l : Tree) → is_final (no_lone l) ≡ false
of_several (t.Final x) = refl
of_several _ = refl

pub ruleset ranges = (of_open_range, of_range_from)
