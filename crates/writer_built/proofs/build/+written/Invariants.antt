use Rattle.std.proofs.Common.{◌+◌, ◌*◌}
use Rattle.reader_tree.specs.declared.tree.Tree.TheDeep.{size-Tree}
use Rattle.reader_tree.specs.Size.{node_count}
use Rattle.writer_built.proofs.build.+written.Given as goal

-- an operand is written by another, which puts it in parentheses or not
abbrev pub decreases-right : goal.decreases-right
decreases-right l = size-Tree l.tree.now + 1

abbrev pub decreases-left : goal.decreases-left
decreases-left l = size-Tree l.tree.now + 1

abbrev pub decreases-front : goal.decreases-front
decreases-front l = 4 * (node_count l.two.now.front + node_count l.two.now.back) + 7

abbrev pub decreases-back : goal.decreases-back
decreases-back l = 4 * (node_count l.two.now.front + node_count l.two.now.back) + 7

abbrev pub decreases-infix : goal.decreases-infix
decreases-infix l =
    4 * (node_count l.three.now.left + node_count l.three.now.own + node_count l.three.now.right) + 7
