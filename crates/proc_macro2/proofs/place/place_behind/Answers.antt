use Rattle.std.proofs.Common.{arith}
use Rattle.proc_macro2.proofs.Counts.{counts_feed, counts_other, more_here}
use Rattle.proc_macro2.proofs.place.place_behind.Goals as goal
use Rattle.proc_macro2.proofs.place.place_behind.Goals.{then-c-eq10, else-c-eq10}

pub char_at-c-requires-clause-more : goal.char_at-c-requires-clause-more
char_at-c-requires-clause-more c = more_here _ _ _ _ _ c.loop-passed.invariant (omega arith)

pub loop-passed-preserved : goal.loop-passed-preserved
loop-passed-preserved c = elim c.if-c-eq10.branch [
  | then-c-eq10 w ↦ rw (w.line-is, w.column-is)
      (counts_feed _ _ _ _ _ _ _ c.loop-passed.invariant c.char_at-c.ensures.rest c.char_at-c.ensures.behind
      w.if-c-eq10.true)
  | else-c-eq10 w ↦ rw (w.line-is, w.column-is)
      (counts_other _ _ _ _ _ _ _ c.loop-passed.invariant c.char_at-c.ensures.rest c.char_at-c.ensures.behind
      w.if-c-eq10.false)
]
