use Rattle.std.specs.Prelude.{Some}
use Rattle.std.proofs.Common.{◌≡◌, rules}
use Rattle.reader_table.specs.Kinds.{kind_of}
use Rattle.reader_tree.specs.Shapes.{alone_of}
use Rattle.writer_normal.proofs.Peeling.{macro_other}
use Rattle.writer_normal.proofs.peel.macro_in.Goals as goal

pub returns-in_default : goal.returns-in_default
returns-in_default c =
    let e : Some (kind_of c.in-Some.kind, c.in-Some.own.now) ≡ alone_of c.args.form.now = search rules in
    macro_other c.args.form.now c.in-Some.kind c.in-Some.own.now e c.in_default.not-ExprMacro
