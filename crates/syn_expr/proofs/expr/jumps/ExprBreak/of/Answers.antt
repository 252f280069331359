use Rattle.std.proofs.Common.{◌≡◌, subst}
use Rattle.syn_grammar.specs.Kind as k
use Rattle.syn_grammar.specs.Table.{table}
use Rattle.syn_grammar.specs.Tree.{Tree, Pair}
use Rattle.syn_part.specs.Shape.{IsShaped}
use Rattle.syn_expr.proofs.ExprJumps.{jump_own}
use Rattle.syn_expr.proofs.expr.jumps.ExprBreak.of.Goals as goal

pub returns-in_default-pair : goal.returns-in_default-pair
unfolding table
returns-in_default-pair c = λ h.
    c.in_default-pair.ensures _ _ (jump_own _ _ _ _ k.ExprBreak c.in-Some-ExprBreak-default-default.ensures h)

-- of two that are what was read both have their shapes
shaped_both : (x y z : Tree) → x ≡ Pair y z → IsShaped x (table k.ExprBreak) → IsShaped (Pair y z) (table k.ExprBreak)
shaped_both x y z e h = subst (λ w. IsShaped w (table k.ExprBreak)) e h

pub returns-in_default-word : goal.returns-in_default-word
unfolding table
returns-in_default-word c = λ h.
    let s = shaped_both _ _ _ c.in-Some.ensures
    (jump_own _ _ _ _ k.ExprBreak c.in-Some-ExprBreak-default-default.ensures h) in
    c.in_default-word.ensures _ s.0

pub returns-in_default-as_break_label : goal.returns-in_default-as_break_label
unfolding table
returns-in_default-as_break_label c = λ h.
    let s = shaped_both _ _ _ c.in-Some.ensures
    (jump_own _ _ _ _ k.ExprBreak c.in-Some-ExprBreak-default-default.ensures h) in
    c.in_default-as_break_label.ensures _ _ s.1
