use Rattle.std.proofs.Common.{◌≡◌, drop}
use Rattle.std.specs.Prelude.{◌&&◌}
use Rattle.std.specs.List.{list_all}
use Rattle.text_chars.specs.Chars.{narrow}
use Rattle.text_chars.proofs.walk.all_pass.Given as goal

abbrev pub invariant-loop-byte : goal.invariant-loop-byte
invariant-loop-byte g l =
    (l.all && list_all (narrow g.T.Test.test) (drop l.byte-index l.bytes)) ≡ list_all (narrow g.T.Test.test) l.bytes
