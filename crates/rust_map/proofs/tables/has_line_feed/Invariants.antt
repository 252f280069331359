use Rattle.std.proofs.Common.{◌≡◌, drop}
use Rattle.std.specs.Prelude.{◌||◌}
use Rattle.std.specs.List.{list_any}
use Rattle.rust_map.specs.Places.{is_line_feed}
use Rattle.rust_map.proofs.tables.has_line_feed.Given as goal

abbrev pub invariant-loop-byte : goal.invariant-loop-byte
invariant-loop-byte l = (l.found || list_any is_line_feed (drop l.byte-index l.bytes)) ≡ list_any is_line_feed l.bytes
