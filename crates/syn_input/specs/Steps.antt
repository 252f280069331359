-- Steps.
use Rattle.syn_input.specs.declared.input.ParseBuffer.{ParseBuffer}
use Rattle.syn_input.specs.declared.step.StepCursor.{StepCursor}

-- what a step's function is handed: the place from which is read next
abbrev pub step_from : ParseBuffer → StepCursor
step_from input = record { cursor = input.cursor; alloc = input.alloc }
