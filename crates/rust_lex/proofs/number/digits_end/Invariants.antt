use Rattle.std.proofs.Common.{◌-◌, length}
use Rattle.rust_lex.specs.Chars.{past}
use Rattle.rust_lex.specs.Number.{is_digit_of_or_line}
use Rattle.rust_lex.proofs.Walks.{Walks}
use Rattle.rust_lex.proofs.number.digits_end.Given as goal

abbrev pub invariant-loop-at : goal.invariant-loop-at
invariant-loop-at l = Walks (past (is_digit_of_or_line l.base)) l.text l.start l.at

abbrev pub decreases-loop-at : goal.decreases-loop-at
decreases-loop-at l = length l.text - l.at
