-- Forms that are one of several of a kind.
use Rattle.std.specs.Prelude.{List, None}
use Rattle.proc_macro2.specs.Token.{Token}
use Rattle.rust_map.specs.declared.span.Span.{Span}
use Rattle.syn_error.specs.Notes.{Says}
use Rattle.syn_error.specs.declared.fault.ParseFault.{ParseFault}
use Rattle.syn_error.specs.declared.fault.ParseFault.TheVariants as fault
use Rattle.syn_grammar.specs.Kind.{Kind}
use Rattle.syn_grammar.specs.Read.{IsDerived}
use Rattle.syn_grammar.specs.Tree.{Tree}
use Rattle.syn_read.specs.Parsed.{IsAll}

-- The tokens begin with no tree of the kind that is meant.
abbrev pub NoneMeant : Kind → (Tree → Type 0) → List Token → Type 0
NoneMeant k is_meant tokens = (tree : Tree) (rest : List Token) → IsDerived k tokens tree rest → is_meant tree → ⊥

-- All of them are no such tree.
abbrev pub IsNoneMeant : Kind → (Tree → Type 0) → List Token → Type 0
IsNoneMeant k is_meant tokens = (tree : Tree) → IsAll k tokens tree → is_meant tree → ⊥

-- A fault has one message, which stands at that span; want of memory says nothing.
abbrev pub StandsAt : Span → ParseFault → Type 0
StandsAt span (fault.Syntax e) = Says None span span e
StandsAt span fault.Memory = Unit {0}
