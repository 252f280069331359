-- What all tokens are read as.
use Rattle.std.specs.Prelude.{◌≡◌, List, []}
use Rattle.proc_macro2.specs.Token.{Token}
use Rattle.rust_map.specs.Spans.{call_site}
use Rattle.rust_map.specs.declared.span.Span.{Span}
use Rattle.syn_buffer.specs.Entries.{spanned_entries}
use Rattle.syn_buffer.specs.Position.{next_span}
use Rattle.syn_buffer.specs.declared.buffer.TokenBuffer.{TokenBuffer}
use Rattle.syn_grammar.specs.Kind.{Kind}
use Rattle.syn_grammar.specs.Tree.{Tree, flat}
use Rattle.syn_grammar.specs.Gram.{ref}
use Rattle.syn_grammar.specs.Derives.{Derives}

-- All of the tokens are a tree of the kind, where nothing follows it.
abbrev pub IsAll : Kind → List Token → Tree → Type 0
IsAll k tokens tree = Derives tree (ref k) [] × (flat tree ≡ tokens)

-- They are none.
abbrev pub IsNone : Kind → List Token → Type 0
IsNone k tokens = (tree : Tree) → IsAll k tokens tree → ⊥

-- where the first token of a buffer stands, and the call site where it has none
abbrev pub first_place : TokenBuffer → Span
first_place b = next_span call_site (spanned_entries b.entries.items)
