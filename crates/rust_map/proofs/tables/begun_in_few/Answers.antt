use Rattle.std.proofs.Common.{arith}
use Rattle.std.proofs.lemmas.List.{at_drop_all}
use Rattle.rust_map.specs.Bytes.{begun}
use Rattle.rust_map.proofs.tables.begun_in_few.Goals as goal

pub returns : goal.returns
returns c =
    let counted = c.loop-byte.invariant.counted in
    let none = at_drop_all begun c.args.bytes.now c.loop-byte.byte-index c.loop-byte-test.false in
    omega arith
