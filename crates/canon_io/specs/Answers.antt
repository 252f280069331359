-- What a call of a reader or a writer answered.
use Rattle.std.specs.Prelude.{ℕ, Bool, ◌==◌, ◌&&◌, List, length, nat_lt, if◌then◌else◌, Result, Ok, Err}
use Rattle.std.specs.IoError.{error_kind}
use Rattle.std.specs.declared.io.Error.{Error}
use Rattle.std.specs.declared.io.ErrorKind.{ErrorKind}
use Rattle.std.specs.declared.io.ErrorKind.TheVariants.{Interrupted}
use Rattle.canon_io.specs.declared.watch.Answer.{Answer}
use Rattle.canon_io.specs.declared.watch.Answer.TheVariants.{Normal, Interruption, Failure}

-- an error is an interruption or a failure, by its kind
abbrev pub answer_of_kind : ErrorKind → Answer
answer_of_kind Interrupted = Interruption
answer_of_kind _ = Failure

-- the answer of a read or a flush
abbrev pub answer_of : {A : Type 0} → Result A Error → Answer
answer_of (Ok value) = Normal
answer_of (Err e) = answer_of_kind (error_kind e)

-- no byte is taken of some
abbrev pub takes_none : ℕ → List ℕ → Bool
takes_none count bytes = count == 0 && nat_lt 0 (length bytes)

-- the answer of a write of these bytes: it also failed where it took none of some
abbrev pub write_answer : Result ℕ Error → List ℕ → Answer
write_answer (Ok count) bytes = if takes_none count bytes then Failure else Normal
write_answer (Err e) bytes = answer_of_kind (error_kind e)
