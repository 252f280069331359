use Rattle.std.proofs.Common.{◌≡◌, ◌≤◌, ◌-◌, IsTrue, drop, take}
use Rattle.syn_buffer.specs.Behind.{Passes}
use Rattle.syn_buffer.specs.Entries.{is_whole, spanned_entries}
use Rattle.syn_buffer.specs.Position.{rest}
use Rattle.node_seen.proofs.behind_seen.Given as goal

-- the place stands behind the entries that have been passed, which are whole trees
abbrev pub invariant-loop-passed : goal.invariant-loop-passed
invariant-loop-passed l =
    (l.passed ≤ l.count) × (spanned_entries (drop l.passed l.entries) ≡ rest l.at)
    × IsTrue (is_whole (drop l.passed l.entries)) × Passes l.initial.from (take l.passed (rest l.initial.from)) l.at

abbrev pub decreases-loop-passed : goal.decreases-loop-passed
decreases-loop-passed l = l.count - l.passed
