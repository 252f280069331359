-- What is gone from the rest was written, and where nothing is left no write failed.
use Rattle.std.proofs.Common.{◌≡◌, ℕ, ◌+◌, ◌*◌, List, ◌++◌, length, false}
use Rattle.std.specs.Io.KnownBytes.{Appends}
use Rattle.canon_io.specs.Watched.{inner_of, watch_of, has_failed}
use Rattle.canon_io.proofs.Retries.{retries_left}
use Rattle.canon_io.proofs.writing.write_all_watched.Given as goal

abbrev pub invariant-loop-rest : goal.invariant-loop-rest
invariant-loop-rest g l = (done : List ℕ) × (l.initial.rest ≡ done ++ l.rest)
    × Appends (g.W.Write.contents (inner_of l.initial.writer)) (g.W.Write.contents (inner_of l.writer)) done
    × (length l.rest ≡ 0 → has_failed l.writer ≡ false)

abbrev pub decreases-loop-rest : goal.decreases-loop-rest
decreases-loop-rest g l = 1002 * length l.rest + retries_left (watch_of l.writer)
