use Rattle.std.proofs.Common.{length, ◌-◌}
use Rattle.proc_macro2.proofs.Reading.{ReadTo}
use Rattle.proc_macro2.proofs.parse.lex_with.Given as goal

abbrev pub invariant-loop-at : goal.invariant-loop-at
invariant-loop-at l = ReadTo l.whole.start l.text l.at l.count l.builder

abbrev pub decreases-loop-at : goal.decreases-loop-at
decreases-loop-at l = length l.text - l.at
