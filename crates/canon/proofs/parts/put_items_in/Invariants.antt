use Rattle.std.proofs.Common.{length}
use Rattle.canon.proofs.Parted.{Some}
use Rattle.canon.proofs.parts.put_items_in.Given as goal

abbrev pub invariant-loop-work : goal.invariant-loop-work
invariant-loop-work l = Some l.initial.entries l.rest.entries.now l.pieces.items

abbrev pub decreases-loop-work : goal.decreases-loop-work
decreases-loop-work l = length l.rest.entries.now
