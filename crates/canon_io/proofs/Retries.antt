-- How often a call may still be interrupted.
use Rattle.std.proofs.Common.{◌≡◌, ℕ, ◌+◌, ◌-◌, ◌<◌, false, arith, Ok, List}
use Rattle.std.proofs.lemmas.Grind.{common_steps}
use Rattle.canon_io.specs.declared.watch.Watch.{Watch}
use Rattle.canon_io.specs.declared.watch.Watch.TheVariants.{Sound, Failed}
use Rattle.canon_io.specs.Watch.{after, failed}
use Rattle.canon_io.specs.Answers.{write_answer}

-- how many calls may still be interrupted in a row, and one more; 0 where one failed
abbrev pub retries_left : Watch → ℕ
retries_left (Sound interrupted) = (1000 - interrupted) + 1
retries_left Failed = 0

-- a write that took some byte is no failure
pub failed-after_taken : (watch : Watch) (count : ℕ) (bytes : List ℕ) → failed watch ≡ false → 0 < count →
    failed (after watch (write_answer (Ok count) bytes)) ≡ false
failed-after_taken (Sound n) count bytes sound some = grind (arith, common_steps)
failed-after_taken Failed count bytes sound some = absurd (cc)
