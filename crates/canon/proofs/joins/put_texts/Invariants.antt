use Rattle.std.proofs.Common.{take}
use Rattle.canon.specs.Joined.{ArePut, texts_of}
use Rattle.canon.specs.JoinedRun.{AreUtf8, bytes_of}
use Rattle.canon.proofs.joins.put_texts.Given as goal

-- those before were put, and are texts
abbrev pub invariant-loop-index : goal.invariant-loop-index
invariant-loop-index l =
    ArePut (texts_of (take l.index l.texts)) l.initial.map l.map × AreUtf8 (bytes_of (take l.index l.texts))
