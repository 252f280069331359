use Rattle.std.proofs.Common.{◌≡◌, take}
use Rattle.canon.specs.JoinedRun.{AreUtf8, bytes_of}
use Rattle.canon.proofs.pages.checked.Given as goal

-- those before are texts, and are there
abbrev pub invariant-loop-bytes : goal.invariant-loop-bytes
invariant-loop-bytes l =
    (bytes_of l.texts.items ≡ bytes_of (take l.bytes-index l.all)) × AreUtf8 (bytes_of (take l.bytes-index l.all))
