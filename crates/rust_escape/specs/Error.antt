-- What is wrong with a unit of a literal's inside.
use Rattle.std.specs.Prelude.{Bool, true, false}
use Rattle.rust_escape.specs.declared.error.EscapeError.{EscapeError}
use Rattle.rust_escape.specs.declared.error.EscapeError.TheVariants.{UnskippedWhitespaceWarning}
use Rattle.rust_escape.specs.declared.error.EscapeError.TheVariants.{MultipleSkippedLinesWarning}

-- the literal is malformed: not so under a warning
abbrev pub is_fatal : EscapeError → Bool
is_fatal UnskippedWhitespaceWarning = false
is_fatal MultipleSkippedLinesWarning = false
is_fatal _ = true
