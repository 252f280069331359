use Rattle.std.proofs.Common.{◌≡◌, ◌+◌, ◌++◌, drop, true}
use Rattle.std.specs.List.{list_all}
use Rattle.text_chars.specs.Chars.{narrow}
use Rattle.rust_map.specs.Bytes.{begun, is_narrow}
use Rattle.rust_map.specs.Tables.{starts_by}
use Rattle.rust_map.proofs.tables.push_narrow_starts.Given as goal

abbrev pub invariant-loop-byte : goal.invariant-loop-byte
invariant-loop-byte l = record {
  counted : l.characters + begun (drop l.byte-index l.bytes) ≡ l.before + begun l.bytes;
  whole : l.starts.items ++ starts_by l.characters (drop l.byte-index l.bytes)
      ≡ l.initial.starts.items ++ starts_by l.before l.bytes;
  narrow : list_all (narrow is_narrow) (drop l.byte-index l.bytes) ≡ true;
}
