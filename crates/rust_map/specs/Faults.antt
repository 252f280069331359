-- Where a text is at fault, and what is said of it.
use Rattle.std.specs.Prelude.{ℕ, List, ◌++◌, codes}
use Rattle.std.specs.Fmt.{decimal}
use Rattle.rust_map.specs.declared.place.LineColumn.{LineColumn}
use Rattle.rust_map.specs.Spans.{span_from}
use Rattle.rust_map.specs.declared.fault.LexError.{LexError}
use Rattle.rust_map.specs.declared.fault.LexFault.{LexFault}
use Rattle.rust_map.specs.declared.fault.LexFault.TheVariants.{Lex, MapFull, Memory}

-- the error at the front of a text whose first character stands at the position base
abbrev pub front_error : ℕ → LexError
front_error base = record { span = span_from base base; place = record { line = 1; column = 0 } }

-- a place as its line, a colon and its column
abbrev pub shown_place : LineColumn → List ℕ
shown_place p = decimal p.line ++ codes ":" ++ decimal p.column

abbrev pub error_message : LexError → List ℕ
error_message e = codes "lexical fault at " ++ shown_place e.place

abbrev pub fault_message : LexFault → List ℕ
fault_message (Lex e) = error_message e
fault_message MapFull = codes "source map full"
fault_message Memory = codes "out of memory"
