-- What is remembered of the calls of a reader or a writer, and how each answer changes it.
use Rattle.std.specs.Prelude.{◌+◌, Bool, true, false, List, [], ◌∷◌, nat_lt, if◌then◌else◌}
use Rattle.canon_io.specs.declared.watch.Answer.{Answer}
use Rattle.canon_io.specs.declared.watch.Answer.TheVariants.{Normal, Interruption, Failure}
use Rattle.canon_io.specs.declared.watch.Watch.{Watch}
use Rattle.canon_io.specs.declared.watch.Watch.TheVariants.{Sound, Failed}

-- before any call
abbrev pub fresh : Watch
fresh = Sound 0

-- Behind one more answer: the 1,000th interruption in a row is a failure, as any other failure is, and
-- what has failed stays so. Every other answer begins the count of interruptions anew.
abbrev pub after : Watch → Answer → Watch
after Failed answer = Failed
after (Sound interrupted) Normal = Sound 0
after (Sound interrupted) Interruption =
    if nat_lt (interrupted + 1) 1000 then Sound (interrupted + 1) else Failed
after (Sound interrupted) Failure = Failed

-- behind some answers, the first of them first
abbrev pub after_all : Watch → List Answer → Watch
after_all watch [] = watch
after_all watch (answer ∷ answers) = after_all (after watch answer) answers

-- one of the calls failed
abbrev pub failed : Watch → Bool
failed (Sound interrupted) = false
failed Failed = true
