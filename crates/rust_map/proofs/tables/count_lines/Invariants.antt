use Rattle.std.proofs.Common.{◌≡◌, ◌+◌, ◌++◌, ◌∷◌, length}
use Rattle.rust_map.specs.Bytes.{begun}
use Rattle.rust_map.specs.Tables.{starts_by}
use Rattle.rust_map.proofs.tables.count_lines.Given as goal

abbrev pub invariant-loop-rest : goal.invariant-loop-rest
invariant-loop-rest l = record {
  counted : l.characters + begun l.rest ≡ begun l.text;
  whole : l.starts.items ++ starts_by l.characters l.rest ≡ 0 ∷ starts_by 0 l.text;
}

abbrev pub decreases-loop-rest : goal.decreases-loop-rest
decreases-loop-rest l = length l.rest
