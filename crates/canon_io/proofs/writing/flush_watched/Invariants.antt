-- A flush keeps what was written.
use Rattle.std.specs.Io.KnownBytes.{Keeps}
use Rattle.canon_io.specs.Watched.{inner_of, watch_of}
use Rattle.canon_io.proofs.Retries.{retries_left}
use Rattle.canon_io.proofs.writing.flush_watched.Given as goal

abbrev pub invariant-loop-writer : goal.invariant-loop-writer
invariant-loop-writer g l = Keeps (g.W.Write.contents (inner_of l.initial.writer))
    (g.W.Write.contents (inner_of l.writer))

abbrev pub decreases-loop-writer : goal.decreases-loop-writer
decreases-loop-writer g l = retries_left (watch_of l.writer)
