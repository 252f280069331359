-- What messages say.
use Rattle.std.specs.Prelude.{ℕ, Bool, List, [], ◌++◌, Some, cond, codes}
use Rattle.rust_map.specs.declared.span.Span.{Span}
use Rattle.proc_macro2.specs.declared.delimiter.Delimiter.{Delimiter}
use Rattle.proc_macro2.specs.declared.delimiter.Delimiter.TheVariants as delimiter
use Rattle.syn_error.specs.Notes.{Says}
use Rattle.syn_error.specs.declared.fault.ParseFault.{ParseFault}
use Rattle.syn_error.specs.declared.fault.ParseFault.TheVariants.{Syntax, Memory}

-- what was expected, and whether the end was met
abbrev pub expected_words : Bool → List ℕ → List ℕ
expected_words at_end what = cond at_end (codes "unexpected end of input, ") [] ++ codes "expected " ++ what

-- what is said of a token that is left over in a list that is closed so
abbrev pub unexpected_words : Delimiter → List ℕ
unexpected_words delimiter.Parenthesis = codes "unexpected token, expected `)`"
unexpected_words delimiter.Brace = codes "unexpected token, expected `}`"
unexpected_words delimiter.Bracket = codes "unexpected token, expected `]`"
unexpected_words delimiter.None = codes "unexpected token"

-- a fault of syntax has one message, which says these words at that span; want of memory says nothing
abbrev pub SaysAt : List ℕ → Span → ParseFault → Type 0
SaysAt words span (Syntax e) = Says (Some words) span span e
SaysAt words span Memory = Unit {0}
