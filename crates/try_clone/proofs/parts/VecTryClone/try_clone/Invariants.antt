use Rattle.std.proofs.Common.{map, take, ◌≡◌}
use Rattle.try_clone.proofs.parts.VecTryClone.try_clone.Given as goal

abbrev pub invariant-loop-value : goal.invariant-loop-value
invariant-loop-value g l =
    map g.T.TryClone.shown l.copies.items ≡ map g.T.TryClone.shown (take l.value-index l.self.items)
