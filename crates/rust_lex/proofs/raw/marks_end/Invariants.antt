use Rattle.rust_lex.proofs.Walks.{WalksDown}
use Rattle.rust_lex.specs.QuotedScan.{past_marks}
use Rattle.rust_lex.proofs.raw.marks_end.Given as goal

abbrev pub invariant-loop-left : goal.invariant-loop-left
invariant-loop-left l = WalksDown past_marks l.count l.left l.text l.start l.at

abbrev pub decreases-loop-left : goal.decreases-loop-left
decreases-loop-left l = l.left
