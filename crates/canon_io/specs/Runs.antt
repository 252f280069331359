-- Whole runs of calls.
use Rattle.std.specs.Prelude.{◌≡◌, ◌⊎◌, List, ◌∷◌, ◌++◌, replicate}
use Rattle.canon_io.specs.declared.watch.Answer.{Answer}
use Rattle.canon_io.specs.declared.watch.Answer.TheVariants.{Interruption, Failure}

-- one of the calls failed
abbrev pub HasFailure : List Answer → Type 0
HasFailure answers =
    (front : List Answer) × (back : List Answer) × (answers ≡ front ++ Failure ∷ back)

-- 1,000 calls in a row were interrupted
abbrev pub HasThousandInterruptions : List Answer → Type 0
HasThousandInterruptions answers = (front : List Answer) × (back : List Answer)
    × (answers ≡ front ++ (replicate 1000 Interruption ++ back))

-- the run of calls failed
abbrev pub IsFailedRun : List Answer → Type 0
IsFailedRun answers = HasFailure answers ⊎ HasThousandInterruptions answers
