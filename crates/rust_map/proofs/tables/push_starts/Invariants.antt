use Rattle.std.proofs.Common.{◌≡◌, ◌+◌, ◌++◌, drop}
use Rattle.rust_map.specs.Bytes.{begun}
use Rattle.rust_map.specs.Tables.{starts_by}
use Rattle.rust_map.proofs.tables.push_starts.Given as goal

abbrev pub invariant-loop-byte : goal.invariant-loop-byte
invariant-loop-byte l = record {
  counted : l.characters + begun (drop l.byte-index l.bytes) ≡ l.before + begun l.bytes;
  whole : l.starts.items ++ starts_by l.characters (drop l.byte-index l.bytes)
      ≡ l.initial.starts.items ++ starts_by l.before l.bytes;
}
