use Rattle.std.proofs.Common.{◌≡◌, drop}
use Rattle.std.specs.Prelude.{◌&&◌}
use Rattle.std.specs.List.{list_all}
use Rattle.text_chars.specs.Chars.{or_wide}
use Rattle.text_chars.proofs.walk.all_pass_or_wide.Given as goal

abbrev pub invariant-loop-byte : goal.invariant-loop-byte
invariant-loop-byte g l =
    (l.all && list_all (or_wide g.T.Test.test) (drop l.byte-index l.bytes)) ≡ list_all (or_wide g.T.Test.test) l.bytes
