use Rattle.std.proofs.Common.{arith}
use Rattle.rust_map.proofs.ByteCounts.{narrow_on}
use Rattle.rust_map.proofs.tables.push_narrow_starts.Goals as goal

pub overflow_add-characters : goal.overflow_add-characters
overflow_add-characters c =
    let one = narrow_on c.args.bytes.now c.loop-byte.byte-index c.loop-byte-test.true c.loop-byte.invariant.narrow in
    omega arith
