use Rattle.std.proofs.Common.{◌-◌, length}
use Rattle.rust_escape.proofs.LexicalSteps.{PassesLines}
use Rattle.rust_escape.proofs.lexical.past_lines.Given as goal

abbrev pub invariant-loop-at : goal.invariant-loop-at
invariant-loop-at l = PassesLines l.text l.start l.at

abbrev pub decreases-loop-at : goal.decreases-loop-at
decreases-loop-at l = length l.text - l.at
