-- An interrupted read consumes nothing.
use Rattle.std.specs.Io.KnownBytes.{Keeps}
use Rattle.canon_io.specs.Watched.{inner_of, watch_of}
use Rattle.canon_io.proofs.Retries.{retries_left}
use Rattle.canon_io.proofs.reading.read_retrying.Given as goal

abbrev pub invariant-loop-reader : goal.invariant-loop-reader
invariant-loop-reader g l = Keeps (g.R.Read.remaining (inner_of l.initial.reader))
    (g.R.Read.remaining (inner_of l.reader))

abbrev pub decreases-loop-reader : goal.decreases-loop-reader
decreases-loop-reader g l = retries_left (watch_of l.reader)
