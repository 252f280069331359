use Rattle.std.specs.Fmt.{decimal}
use Rattle.std.proofs.Common.{ap}
use Rattle.syn_grammar.specs.Kind.{ExprField}
use Rattle.syn_grammar.specs.Name.{the_indices, the_value}
use Rattle.syn_grammar.specs.Tree as t
use Rattle.writer_normal.proofs.Stepping.{made_so}
use Rattle.writer_normal.proofs.numbers.index_field.Goals as goal

pub returns : goal.returns
returns c =
    let behind = c.seconds-behind.ensures _ (c.called-named.ensures _ c.number.ensures) in
    made_so c.lone_field.result _ _ (c.lone_field.ensures _ behind)
    (ap (λ d. t.Back c.args.left ExprField (t.Pair (t.Pair d (t.Called the_indices t.End))
    (t.Second (t.Called the_value (t.ALiteral (decimal c.args.value)))))) c.mark-dot.ensures)
