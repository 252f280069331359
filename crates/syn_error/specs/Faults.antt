-- Faults of parsing, and of texts.
use Rattle.std.specs.Prelude.{ℕ, List, codes}
use Rattle.rust_map.specs.Faults.{error_message}
use Rattle.rust_map.specs.declared.fault.LexFault.{LexFault}
use Rattle.rust_map.specs.declared.fault.LexFault.TheVariants as lex
use Rattle.syn_error.specs.Notes.{words_of}
use Rattle.syn_error.specs.declared.fault.ParseFault.{ParseFault}
use Rattle.syn_error.specs.declared.fault.ParseFault.TheVariants as parse
use Rattle.syn_error.specs.declared.fault.TextFault.{TextFault}
use Rattle.syn_error.specs.declared.fault.TextFault.TheVariants as fault

-- the tokens are at fault: want of memory says nothing of them
abbrev pub IsSyntax : ParseFault → Type 0
IsSyntax (parse.Syntax e) = Unit {0}
IsSyntax parse.Memory = ⊥

-- what a fault says, in bytes
abbrev pub parse_fault_words : ParseFault → List ℕ
parse_fault_words (parse.Syntax e) = words_of e
parse_fault_words parse.Memory = codes "out of memory"

abbrev pub text_fault_words : TextFault → List ℕ
text_fault_words (fault.Lexical e) = error_message e
text_fault_words (fault.Syntax e) = words_of e
text_fault_words fault.MapFull = codes "source map full"
text_fault_words fault.Memory = codes "out of memory"

-- the fault of a text that is not lexed
abbrev pub of_lexing : LexFault → TextFault
of_lexing (lex.Lex e) = fault.Lexical e
of_lexing lex.MapFull = fault.MapFull
of_lexing lex.Memory = fault.Memory

-- and of one whose tokens are not read
abbrev pub of_parsing : ParseFault → TextFault
of_parsing (parse.Syntax e) = fault.Syntax e
of_parsing parse.Memory = fault.Memory
