use Rattle.proc_macro2.proofs.Counts.{Counts}
use Rattle.proc_macro2.proofs.place.place_behind.Given as goal

abbrev pub invariant-loop-passed : goal.invariant-loop-passed
invariant-loop-passed l = Counts l.text l.passed l.at l.line l.column
