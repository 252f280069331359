-- Commands, as what they do to a stream that is read: where it stands, and what was left over in closed groups.
use Rattle.std.specs.Prelude.{List, [], ◌∷◌, Option, None}
use Rattle.syn_buffer.specs.declared.position.Cursor.{Cursor}
use Rattle.syn_input.specs.Input.{first_of_two}
use Rattle.syn_input.specs.declared.input.Leftover.{Leftover}
use Rattle.syn_input.specs.declared.input.ParseBuffer.{ParseBuffer}

-- what a command does is known from the place alone: the place behind it, and what it leaves over in groups that it
-- closes
abbrev pub Command : Type 0
Command = Cursor → Cursor × Option Leftover

abbrev pub ran : Command → ParseBuffer → ParseBuffer
ran f input = record input { cursor = (f input.cursor).0; noted = first_of_two input.noted (f input.cursor).1 }

-- commands one behind the other
abbrev pub ran_all : List Command → ParseBuffer → ParseBuffer
ran_all [] input = input
ran_all (f ∷ fs) input = ran_all fs (ran f input)

-- a fork, and what advancing to one makes of a stream
abbrev pub fork_of : ParseBuffer → ParseBuffer
fork_of input = record input { noted = None }

abbrev pub advanced : ParseBuffer → ParseBuffer → ParseBuffer
advanced input fork = record input { cursor = fork.cursor; noted = first_of_two input.noted fork.noted }
