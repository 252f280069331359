use Rattle.std.proofs.Common.{◌≡◌, ◌+◌, ◌*◌, ◌-◌, ◌≤◌, ◌++◌, length, drop, IsTrue}
use Rattle.syn_buffer.specs.Entries.{is_laid}
use Rattle.syn_buffer.specs.Standing.{trees_of}
use Rattle.syn_buffer.proofs.trees.+building.Given as goal

-- a tree's entries are fewer than those among which it stands, and its inside has fewer
abbrev pub decreases-first_tree : goal.decreases-first_tree
decreases-first_tree l = 2 * length l.entries.now

abbrev pub decreases-stream_of : goal.decreases-stream_of
decreases-stream_of l = 2 * length l.entries.now + 1

-- the trees so far are in the stream
abbrev pub invariant-stream_of-loop-stream : goal.invariant-stream_of-loop-stream
invariant-stream_of-loop-stream l = record {
  stands : trees_of l.entries ≡ l.stream ++ trees_of (drop l.at l.entries);
  lies : IsTrue (is_laid (drop l.at l.entries));
  within : l.at ≤ length l.entries;
}

abbrev pub decreases-stream_of-loop-stream : goal.decreases-stream_of-loop-stream
decreases-stream_of-loop-stream l = length l.entries - l.at
