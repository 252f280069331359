use Rattle.std.proofs.Common.{◌-◌, length}
use Rattle.rust_lex.specs.QuotedScan.{past_raw}
use Rattle.rust_lex.proofs.Walks.{Walks}
use Rattle.rust_lex.proofs.raw.raw_end.Given as goal

abbrev pub invariant-loop-at : goal.invariant-loop-at
invariant-loop-at l = Walks (past_raw l.mode l.count) l.text l.start l.at

abbrev pub decreases-loop-at : goal.decreases-loop-at
decreases-loop-at l = length l.text - l.at
