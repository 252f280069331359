use Rattle.std.proofs.Common.{◌-◌, length}
use Rattle.rust_lex.specs.Comment.{past_comment}
use Rattle.rust_lex.proofs.Walks.{WalksIn}
use Rattle.rust_lex.proofs.comment.comment_end.Given as goal

abbrev pub invariant-loop-at : goal.invariant-loop-at
invariant-loop-at l = WalksIn (past_comment l.doc) l.depth l.text l.start l.at

abbrev pub decreases-loop-at : goal.decreases-loop-at
decreases-loop-at l = length l.text - l.at
