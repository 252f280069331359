use Rattle.std.proofs.Common.{◌≡◌, ◌-◌, ◌++◌, ◌∷◌, ◌≤◌, length}
use Rattle.std.specs.Str.{chars}
use Rattle.rust_map.specs.Bytes.{IsPlace, rest_at}
use Rattle.rust_map.specs.Tables.{byte_steps_from}
use Rattle.rust_map.proofs.tables.every_step.Given as goal

abbrev pub invariant-loop-at : goal.invariant-loop-at
invariant-loop-at l = record {
  place : IsPlace l.text l.at;
  few : l.count ≤ l.at;
  whole : l.steps.items ++ byte_steps_from l.at l.count (rest_at l.text l.at) ≡ 0 ∷ byte_steps_from 0 0 (chars l.text);
}

abbrev pub decreases-loop-at : goal.decreases-loop-at
decreases-loop-at l = length l.text - l.at
