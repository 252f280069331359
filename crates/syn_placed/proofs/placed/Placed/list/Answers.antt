use Rattle.std.proofs.Common.{ap, sym, ◌∙◌}
use Rattle.reader_table.specs.Ops.{separator_of}
use Rattle.reader_tree.specs.Forms.{elements, tree_of}
use Rattle.reader_tree.proofs.Shapes.{ending_now}
use Rattle.syn_placed.proofs.placed.Placed.list.Goals as goal

pub returns-in-Elements-clause-tree : goal.returns-in-Elements-clause-tree
returns-in-Elements-clause-tree c =
    let list = c.in-Elements.list.now in (
      separator_of list.separator,
      sym c.tree.view_is ∙ ap tree_of c.in-Elements.is
          ∙ ap (elements (separator_of list.separator) list.before.now) (ending_now list.last),
    )
