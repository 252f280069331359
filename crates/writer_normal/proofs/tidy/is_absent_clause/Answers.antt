use Rattle.std.specs.Prelude.{Some}
use Rattle.std.proofs.Common.{◌≡◌, rules}
use Rattle.reader_table.specs.Kinds.{kind_of}
use Rattle.reader_tree.specs.Shapes.{node_of}
use Rattle.writer_normal.proofs.Tidying.{absent_other}
use Rattle.writer_normal.proofs.tidy.is_absent_clause.Goals as goal

pub returns-in_default : goal.returns-in_default
returns-in_default c n =
    let e : Some (kind_of c.in-Some.kind, c.in-Some.clause.now) ≡ node_of c.args.tree.now = search rules in
    absent_other n c.args.tree.now c.in-Some.kind c.in-Some.clause.now e c.in_default.not-Where
