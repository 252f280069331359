use Rattle.std.proofs.Common.{ap, sym, ◌∙◌}
use Rattle.reader_table.specs.Ops.{separator_of}
use Rattle.reader_tree.specs.Forms.{elements, tree_of}
use Rattle.reader_tree.proofs.Shapes.{ending_now}
use Rattle.reader_tree.proofs.tree.Tree.list.Goals as goal

pub returns-in-Elements : goal.returns-in-Elements
returns-in-Elements c =
    let list = c.in-Elements.list.now in (
      separator_of list.separator,
      sym c.self.view_is ∙ ap tree_of c.in-Elements.is
          ∙ ap (elements (separator_of list.separator) list.before.now) (ending_now list.last),
    )
