use Rattle.std.specs.Prelude.{◌≡◌, ◌<◌, ◌+◌, ◌-◌, true, false}
use Rattle.std.proofs.Common.{◌∙◌, ap, arith, subst, sym}
use Rattle.syn_grammar.specs.Tree.{Second}
use Rattle.reader_tree.specs.Forms.{seconds, tree_of}
use Rattle.node_shapes.specs.Shape.{IsShaped}
use Rattle.node_take.proofs.Choices.{form_chosen, is_chosen, second_before, second_rest, shaped_chosen}
use Rattle.node_take.proofs.Takes.{not_both}
use Rattle.node_take.proofs.choice.+alternative.Goals as goal

pub alternative-which-requires : goal.alternative-which-requires
alternative-which-requires t c =
    let a = c.requires.0 in
    let n = c.in-Second.depth in
    let x = c.in-Second.inner.now in
    let e : c.args.tree.now ≡ Second (seconds n x) = sym c.tree.view_is ∙ ap tree_of c.in-Second.is in
    let s = subst (λ z. IsShaped z a) e c.requires.2 in
    let l = second_before c.args.count n x a c.requires.1 s in
    let r : c.args.count ≡ n + 1 + (c.args.count - (n + 1)) = omega (arith, l) in
    (omega (arith, l, c.decreases), second_rest c.args.count n (c.args.count - (n + 1)) x a r c.requires.1 s)

pub unreachable-requires : goal.unreachable-requires
unreachable-requires t c =
    not_both (is_chosen c.args.tree.now)
    (shaped_chosen c.args.count c.args.tree.now c.requires.0 c.if-count-eq0.false c.requires.1 c.requires.2)
    (subst (λ z. is_chosen z ≡ false) c.tree.view_is (form_chosen c.tree.inside.form c.in_default.not-First
    c.in_default.not-Second))
