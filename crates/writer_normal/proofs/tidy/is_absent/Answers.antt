use Rattle.std.proofs.Common.{◌≡◌, ◌∙◌, ap, sym}
use Rattle.syn_grammar.specs.Tidy.{is_absent}
use Rattle.syn_grammar.specs.Tree as t
use Rattle.reader_table.specs.Parts.{part_of}
use Rattle.reader_tree.specs.Forms.{tree_of}
use Rattle.writer_normal.proofs.tidy.is_absent.Goals as goal

pub returns-in-Called : goal.returns-in-Called
returns-in-Called c =
    let view : c.args.tree.now ≡ t.Called (part_of c.in-Called.field-0) c.in-Called.inner.now =
    sym c.tree.view_is ∙ ap tree_of c.in-Called.is in
    c.is_absent_clause.ensures (part_of c.in-Called.field-0) ∙ ap is_absent (sym view)
