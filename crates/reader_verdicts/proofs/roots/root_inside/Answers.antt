use Rattle.std.specs.Prelude.{false}
use Rattle.reader_table.specs.Kinds.{kind_of}
use Rattle.syn_grammar.specs.Verdicts.{root_inside}
use Rattle.reader_verdicts.proofs.OffKinds.{in_node, root_inside_off}
use Rattle.reader_verdicts.proofs.roots.root_inside.Goals as goal

pub returns-in_default : goal.returns-in_default
returns-in_default c =
    in_node root_inside false c.args.tree.now (kind_of c.in-Some.kind) c.in-Some.inner.now c.in-Some.ensures
    (root_inside_off c.in-Some.kind c.in-Some.inner.now c.in_default.not-UseTop)
