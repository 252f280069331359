use Rattle.std.proofs.Common.{◌≡◌, ◌+◌, ◌≤◌, drop}
use Rattle.rust_map.specs.Bytes.{begun}
use Rattle.rust_map.proofs.tables.begun_in_few.Given as goal

abbrev pub invariant-loop-byte : goal.invariant-loop-byte
invariant-loop-byte l = record {
  counted : l.count + begun (drop l.byte-index l.bytes) ≡ begun l.bytes;
  few : l.count ≤ l.byte-index;
}
