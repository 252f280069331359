use Rattle.std.specs.Prelude.{Some, None}
use Rattle.std.proofs.Common.{◌≡◌, rules}
use Rattle.reader_table.specs.Kinds.{kind_of}
use Rattle.reader_tree.specs.Shapes.{node_of}
use Rattle.writer_rules.specs.Operands.{statement_of}
use Rattle.writer_rules.proofs.OffKinds.{in_node, statement_off}
use Rattle.writer_rules.proofs.operand.statement.Goals as goal

pub returns-in_default : goal.returns-in_default
returns-in_default c =
    let e : Some (kind_of c.in-Some.kind, c.in-Some.inner.now) ≡ node_of c.args.tree.now = search rules in
    in_node statement_of None c.args.tree.now (kind_of c.in-Some.kind) c.in-Some.inner.now e
    (statement_off c.in-Some.kind c.in-Some.inner.now c.in_default.not-AStatement)
