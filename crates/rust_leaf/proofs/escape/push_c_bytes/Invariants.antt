use Rattle.std.proofs.Common.{length}
use Rattle.rust_leaf.specs.Leaf.{text_of}
use Rattle.rust_leaf.proofs.CStrings.{HasWritten}
use Rattle.rust_leaf.proofs.escape.push_c_bytes.Given as goal

abbrev pub invariant-loop-byte : goal.invariant-loop-byte
invariant-loop-byte l = HasWritten l.bytes l.rest (text_of l.initial.out) (text_of l.out)

abbrev pub decreases-loop-byte : goal.decreases-loop-byte
decreases-loop-byte l = length l.rest
