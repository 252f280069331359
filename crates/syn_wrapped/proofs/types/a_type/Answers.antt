use Rattle.std.proofs.Common.{rules, ◌≡◌, subst, sym}
use Rattle.reader_table.specs.Kinds.{plus_of}
use Rattle.syn_part.specs.Shape.{IsShaped}
use Rattle.syn_grammar.specs.Gram as g
use Rattle.syn_grammar.specs.Kind as k
use Rattle.syn_grammar.specs.Tree as t
use Rattle.syn_wrapped.specs.Types.{type_inside}
use Rattle.syn_wrapped.proofs.TypeForms.{type_shaped}
use Rattle.syn_wrapped.proofs.types.a_type.Goals as goal

pub returns-clause-shaped : goal.returns-clause-shaped
returns-clause-shaped c =
    let p = plus_of c.args.plus in
    let form = c.args.form.now in
    let made : c.in_ok-node.field-0 ≡ t.Node (k.AType p) (type_inside form) = search rules in
    λ h. subst (λ x. IsShaped x (g.ref (k.AType p))) (sym made) (type_shaped p form h)
