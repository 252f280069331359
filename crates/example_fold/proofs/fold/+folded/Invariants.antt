use Rattle.std.proofs.Common.{◌+◌, ◌*◌}
use Rattle.reader_tree.specs.Size.{node_count}
use Rattle.example_fold.proofs.fold.+folded.Given as goal

abbrev pub decreases-folded : goal.decreases-folded
decreases-folded l = 2 * node_count l.tree.now

abbrev pub decreases-front : goal.decreases-front
decreases-front l = 2 * (node_count l.two.now.front + node_count l.two.now.back) + 1

abbrev pub decreases-back : goal.decreases-back
decreases-back l = 2 * (node_count l.two.now.front + node_count l.two.now.back) + 1

abbrev pub decreases-infix : goal.decreases-infix
decreases-infix l = 2 * (node_count l.three.now.left + node_count l.three.now.own + node_count l.three.now.right) + 1
