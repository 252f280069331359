-- What is said of what stands in front of an item, where none of it was to stand.
use Rattle.rust_leaf.specs.Leaf.{ident_span}
use Rattle.rust_leaf.specs.declared.ident.Ident.{Ident}
use Rattle.rust_map.specs.declared.span.Span.{Span}
use Rattle.std.specs.Prelude.{◌≡◌, ℕ, List, [], ◌∷◌, ◌++◌, None, Option, Some, codes}
use Rattle.syn_part.specs.declared.leaf.Mark.{Mark}
use Rattle.syn_error.specs.Notes.{Note}
use Rattle.syn_error.specs.declared.fault.ParseFault.{ParseFault}
use Rattle.syn_error.specs.declared.fault.ParseFault.TheVariants as faults
use Rattle.syn_item.specs.declared.modifiers.ImplModifiers.{ImplModifiers}
use denote.Bor.{Bor}

-- a message of one token, where that stands
abbrev pub note_at : List ℕ → Span → Note
note_at words span = record { start = span; end = span; text = words }

-- what is said of a word, if it stands there: these words, at its place
abbrev pub word_notes : List ℕ → Option (Bor Ident) → List Note
word_notes words None = []
word_notes words (Some i) = note_at words (ident_span i.now) ∷ []

-- what is said of a mark, if it stands there: these words, at its place
abbrev pub mark_notes : List ℕ → Option Mark → List Note
mark_notes words None = []
mark_notes words (Some m) = note_at words m.span ∷ []

-- what is said of the modifiers of an impl: the same of each that stands there, in their order
abbrev pub impl_notes : ImplModifiers → List Note
impl_notes x = word_notes (codes "unexpected impl modifier") x.defaultness
    ++ mark_notes (codes "unexpected impl modifier") x.polarity

-- the fault where these messages are to be said, at least one: a fault of syntax says just these; memory for them may
-- be refused
abbrev pub IsRefusal : List Note → ParseFault → Type 0
IsRefusal [] f = ⊥
IsRefusal (n ∷ ns) (faults.Syntax e) = e ≡ n ∷ ns
IsRefusal (n ∷ ns) faults.Memory = Unit {0}
