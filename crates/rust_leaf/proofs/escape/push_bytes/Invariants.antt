use Rattle.std.proofs.Common.{◌≡◌, ◌++◌, length}
use Rattle.rust_leaf.specs.Escaped.{escaped_bytes}
use Rattle.rust_leaf.specs.Leaf.{text_of}
use Rattle.rust_leaf.proofs.escape.push_bytes.Given as goal

abbrev pub invariant-loop-byte : goal.invariant-loop-byte
invariant-loop-byte l = text_of l.out ++ escaped_bytes l.quote l.rest
    ≡ text_of l.initial.out ++ escaped_bytes l.quote l.bytes

abbrev pub decreases-loop-byte : goal.decreases-loop-byte
decreases-loop-byte l = length l.rest
