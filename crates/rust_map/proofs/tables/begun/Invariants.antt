use Rattle.std.proofs.Common.{◌≡◌, ◌+◌, length}
use Rattle.rust_map.specs.Bytes.{begun}
use Rattle.rust_map.proofs.tables.begun.Given as goal

abbrev pub invariant-loop-rest : goal.invariant-loop-rest
invariant-loop-rest l = l.count + begun l.rest ≡ begun l.bytes

abbrev pub decreases-loop-rest : goal.decreases-loop-rest
decreases-loop-rest l = length l.rest
