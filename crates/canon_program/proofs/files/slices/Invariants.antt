use Rattle.std.proofs.Common.{◌≡◌, map, take}
use Rattle.std.specs.Prelude.{vec_items}
use Rattle.canon.specs.JoinedRun.{bytes_of}
use Rattle.canon_program.proofs.files.slices.Given as goal

-- the slices are of the texts up to here
abbrev pub invariant-loop-text : goal.invariant-loop-text
invariant-loop-text l = bytes_of l.slices.items ≡ map vec_items (take l.text-index l.texts)
