use Rattle.canon.proofs.Parted.{Progress}
use Rattle.canon.proofs.parts.text_of_file.Given as goal

-- the attributes and some items are printed
abbrev pub invariant-loop-left : goal.invariant-loop-left
invariant-loop-left l = Progress l.entries l.left l.sheet

abbrev pub decreases-loop-left : goal.decreases-loop-left
decreases-loop-left l = l.left
