use Rattle.std.proofs.Common.{map, take}
use Rattle.std.specs.Prelude.{string_bytes, vec_items}
use Rattle.canon_program.specs.Files.{AreHeld}
use Rattle.canon_program.proofs.files.read_all.Given as goal

-- the texts are what the files up to here hold
abbrev pub invariant-loop-name : goal.invariant-loop-name
invariant-loop-name g l =
    AreHeld (g.F.Files.held l.files) (map string_bytes (take l.name-index l.names)) (map vec_items l.texts.items)
