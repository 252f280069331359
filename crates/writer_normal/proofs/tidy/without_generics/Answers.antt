use Rattle.std.specs.Prelude.{Some}
use Rattle.std.proofs.Common.{◌≡◌, ◌∙◌, rules}
use Rattle.reader_table.specs.Kinds.{kind_of}
use Rattle.reader_tree.specs.Shapes.{node_of}
use Rattle.writer_normal.proofs.Tidying.{generics_other}
use Rattle.writer_normal.proofs.tidy.without_generics.Goals as goal

pub returns-in_default : goal.returns-in_default
returns-in_default c =
    let e : Some (kind_of c.in-Some.kind, c.in-Some.inner.now) ≡ node_of c.args.tree.now = search rules in
    c.copy-in_default.ensures ∙ generics_other c.args.tree.now c.in-Some.kind c.in-Some.inner.now e
    c.in_default.not-ImplGenerics
