-- What the program says of a fault, and the status with which it ends.
use Rattle.std.specs.Prelude.{ℕ, ◌+◌, List, ◌++◌, Option, Some, None, Result, Ok, Err, codes}
use Rattle.std.specs.Fmt.{decimal}
use Rattle.rust_map.specs.Faults.{shown_place}
use Rattle.rust_map.specs.declared.place.LineColumn.{LineColumn}
use Rattle.syn_error.specs.Notes.{words_of}
use Rattle.canon.specs.declared.fault.Fault.{Fault}
use Rattle.canon.specs.declared.fault.Fault.TheVariants.{NotUtf8, Lexical, Syntax, NotFirst, MapFull, Memory}
use Rattle.canon.specs.declared.fault.Fault.TheVariants.{Reading, Writing}

-- of an error that says these words
abbrev pub syntax_message : List ℕ → Option LineColumn → List ℕ
syntax_message words None = codes "syntax fault at end of input: " ++ words
syntax_message words (Some p) = codes "syntax fault at " ++ shown_place p ++ codes ": " ++ words

abbrev pub message : Fault → List ℕ
message NotUtf8 = codes "not UTF-8"
message (Lexical p) = codes "lexical fault at " ++ shown_place p
message (Syntax error place) = syntax_message (words_of error) place
message (NotFirst index) = codes "text " ++ decimal (index + 1) ++ codes " must come first"
message MapFull = codes "source map full"
message Memory = codes "out of memory"
message Reading = codes "reading failed"
message Writing = codes "writing failed"

-- 0 where the text was written; 1 where it is at fault; 3 where something else failed
abbrev pub status_of : Result (Unit {0}) Fault → ℕ
status_of (Ok _) = 0
status_of (Err NotUtf8) = 1
status_of (Err (Lexical p)) = 1
status_of (Err (Syntax error place)) = 1
status_of (Err (NotFirst index)) = 1
status_of (Err MapFull) = 3
status_of (Err Memory) = 3
status_of (Err Reading) = 3
status_of (Err Writing) = 3
