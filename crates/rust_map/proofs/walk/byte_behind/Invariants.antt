use Rattle.std.proofs.Common.{◌≡◌, ◌+◌, ◌-◌, ◌≤◌, length, take}
use Rattle.rust_map.specs.Bytes.{IsPlace, rest_at, byte_length}
use Rattle.rust_map.proofs.walk.byte_behind.Given as goal

abbrev pub invariant-loop-passed : goal.invariant-loop-passed
invariant-loop-passed l = record {
  place : IsPlace l.text l.at;
  there : l.count - l.passed ≤ length (rest_at l.text l.at);
  same : l.at + byte_length (take (l.count - l.passed) (rest_at l.text l.at))
      ≡ l.from + byte_length (take l.count (rest_at l.text l.from));
}
