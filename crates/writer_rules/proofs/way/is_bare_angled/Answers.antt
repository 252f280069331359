use Rattle.std.specs.Prelude.{Some, false}
use Rattle.std.proofs.Common.{◌≡◌, rules}
use Rattle.reader_table.specs.Kinds.{kind_of}
use Rattle.reader_tree.specs.Shapes.{node_of}
use Rattle.writer_rules.specs.Way.{is_bare_angled}
use Rattle.writer_rules.proofs.OffKinds.{in_node, is_bare_angled_off}
use Rattle.writer_rules.proofs.way.is_bare_angled.Goals as goal

pub returns-in_default : goal.returns-in_default
returns-in_default c =
    let e : Some (kind_of c.in-Some.kind, c.in-Some.inner.now) ≡ node_of c.args.tree.now = search rules in
    in_node is_bare_angled false c.args.tree.now (kind_of c.in-Some.kind) c.in-Some.inner.now e
    (is_bare_angled_off c.in-Some.kind c.in-Some.inner.now c.in_default.not-ImplGenerics)
