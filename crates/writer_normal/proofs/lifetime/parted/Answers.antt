use Rattle.std.specs.Prelude.{List}
use Rattle.std.proofs.Common.{◌∙◌, ◌++◌, ap}
use Rattle.reader_table.specs.Ops.{separator_of}
use Rattle.reader_tree.specs.Forms.{elements, ending}
use Rattle.reader_tree.specs.declared.tree.Element.{Element}
use Rattle.writer_normal.specs.Changes.{others_in, passes, those_in}
use Rattle.writer_normal.proofs.Stepping.{made_so}
use Rattle.writer_normal.proofs.lifetime.parted.Goals as goal

pub returns : goal.returns
returns c =
    let list = c.args.list.now in
    let those : List Element = those_in (passes c.args.which) list.before.now in
    let others : List Element = others_in (passes c.args.which) list.before.now in
    made_so c.elements.result _ _ c.elements.ensures
    (ap (λ es. elements (separator_of list.separator) es (ending (λ y. y) c.args.last)) (c.in_ok-put_others.ensures
    ∙ ap (λ es. es ++ others) (c.in_ok-put_those.ensures ∙ ap (λ es. es ++ those) c.new-parted.ensures.items)))
