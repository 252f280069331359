use Rattle.std.proofs.Common.{ℕ, ◌<◌, take}
use Rattle.std.specs.Str.{IsUtf8}
use Rattle.rust_leaf.proofs.escape.first_char.Given as goal

abbrev pub invariant-loop-len : goal.invariant-loop-len
invariant-loop-len l = (k : ℕ) → 0 < k → k < l.len → IsUtf8 (take k l.bytes) → ⊥
