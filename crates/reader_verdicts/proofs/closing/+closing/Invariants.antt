use Rattle.std.proofs.Common.{◌≡◌, drop}
use Rattle.syn_grammar.specs.Tree.{flat}
use Rattle.reader_tree.specs.Forms.{turns}
use Rattle.reader_verdicts.specs.Closing.{ending, later}
use Rattle.reader_verdicts.proofs.closing.+closing.Given as goal

-- what is left comes behind what was found
abbrev pub invariant-ending_of_turns-loop-tree : goal.invariant-ending_of_turns-loop-tree
invariant-ending_of_turns-loop-tree l =
    later l.found (ending (flat (turns (drop l.tree-index l.trees)))) ≡ ending (flat (turns l.trees))
