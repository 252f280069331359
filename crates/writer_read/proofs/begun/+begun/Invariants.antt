use Rattle.std.proofs.Common.{◌≡◌, drop}
use Rattle.syn_grammar.specs.Tree.{flat}
use Rattle.reader_tree.specs.Forms.{turns}
use Rattle.writer_rules.specs.Turns.{begun}
use Rattle.writer_read.proofs.begun.+begun.Given as goal

-- what was passed has no token
abbrev pub invariant-begun_turns-loop-tree : goal.invariant-begun_turns-loop-tree
invariant-begun_turns-loop-tree l =
    begun (flat (turns (drop l.tree-index l.trees))) ≡ begun (flat (turns l.trees))
