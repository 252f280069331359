-- What stands first among tokens, and what is left behind it.
use Rattle.std.specs.Prelude.{◌≡◌, ℕ, Bool, true, false, Some, List, [], ◌∷◌, ◌++◌}
use Rattle.rust_map.specs.declared.span.Span.{Span}
use Rattle.rust_leaf.specs.declared.punct.Spacing.{Spacing}
use Rattle.proc_macro2.specs.Flat.{spanned}
use Rattle.proc_macro2.specs.Token.{Token, Spanned, Opens, Closes, Ident, Literal}
use Rattle.proc_macro2.specs.declared.delimiter.Delimiter.{Delimiter}
use Rattle.syn_grammar.specs.Tree.{marks}
use Rattle.syn_grammar.specs.Gram.{is_balanced}
use Rattle.reader_steps.specs.Answers.{tokens}
use Rattle.reader_steps.specs.declared.refusal.Wanted.{Wanted}
use Rattle.reader_rust.specs.Said.{message}
use Rattle.syn_buffer.specs.Entries.{spanned_entries}
use Rattle.syn_buffer.specs.Position.{next_span}
use Rattle.syn_buffer.specs.declared.entry.Entry.{Entry}
use Rattle.syn_error.specs.Notes.{Says}
use Rattle.syn_error.specs.declared.fault.ParseFault.{ParseFault}
use Rattle.syn_error.specs.declared.fault.ParseFault.TheVariants as fault
use Rattle.syn_read.specs.declared.reader.Entered.{Entered}
use Rattle.syn_read.specs.declared.reader.Reader.{Reader}

-- the tokens that are left
abbrev pub left : Reader → List Token
left r = tokens r.entries.now

-- the same, with where they stand
abbrev pub spanned_left : Reader → List Spanned
spanned_left r = spanned_entries r.entries.now

-- The same list is read, from the same place on or from one behind it: what is left are the last of the tokens that
-- were left, each where it stood, and the same closes the list.
abbrev pub IsOnward : Reader → Reader → Type 0
IsOnward old new =
    (new.closing ≡ old.closing) × ((passed : List Spanned) × (spanned_left old ≡ passed ++ spanned_left new))

-- A group was entered: both its marks stand where all of it does, its inside is left to what reads that, and what
-- stands behind it is left to the reader.
abbrev pub Enters : Delimiter → Entered → Reader → Reader → Type 0
Enters d r old new =
    spanned_left old ≡ spanned (Opens d) r.span ∷ spanned_left r.inside ++ spanned (Closes d) r.span ∷ spanned_left new

-- A word of that text stands first, the text passes, and the rest is left.
abbrev pub StandsWord : (List ℕ → Bool) → List ℕ → List Token → List Token → Type 0
StandsWord p cs ts rest = (p cs ≡ true) × (ts ≡ Ident cs ∷ rest)

-- No word stands first whose text passes.
abbrev pub NoWord : (List ℕ → Bool) → List Token → Type 0
NoWord p ts = (cs : List ℕ) (rest : List Token) → StandsWord p cs ts rest → ⊥

-- A literal of that text stands first, the text passes, and the rest is left.
abbrev pub StandsLiteral : (List ℕ → Bool) → List ℕ → List Token → List Token → Type 0
StandsLiteral p cs ts rest = (p cs ≡ true) × (ts ≡ Literal cs ∷ rest)

-- No literal stands first whose text passes.
abbrev pub NoLiteral : (List ℕ → Bool) → List Token → Type 0
NoLiteral p ts = (cs : List ℕ) (rest : List Token) → StandsLiteral p cs ts rest → ⊥

-- A punctuation stands first: its marks, all joint but the last, which is spaced so; and the rest is left.
abbrev pub StandsSign : List ℕ → Spacing → List Token → List Token → Type 0
StandsSign [] spacing ts rest = ⊥
StandsSign (c ∷ cs) spacing ts rest = ts ≡ marks c cs spacing ++ rest

-- It stands there in no spacing.
abbrev pub NoSign : List ℕ → List Token → Type 0
NoSign text ts = (spacing : Spacing) (rest : List Token) → StandsSign text spacing ts rest → ⊥

-- A group with that delimiter stands first: its mark, its inside, in which each group is closed, its other mark, and
-- the rest.
abbrev pub StandsGroup : Delimiter → List Token → List Token → List Token → Type 0
StandsGroup d inside ts rest = (is_balanced inside ≡ true) × (ts ≡ Opens d ∷ inside ++ Closes d ∷ rest)

-- No group with that delimiter opens there.
abbrev pub NoGroup : Delimiter → List Token → Type 0
NoGroup d ts = (rest : List Token) → ts ≡ Opens d ∷ rest → ⊥

-- where the next token stands, or what closes the list
abbrev pub standing : Reader → Span
standing r = next_span r.closing (spanned_left r)

-- no token is left
abbrev pub are_none : List Entry → Bool
are_none [] = true
are_none (e ∷ es) = false

-- A fault says that this was wanted, and that no token was left, where none was; it stands at the next token, or at
-- what closes the list. Want of memory says nothing.
abbrev pub SaysWanted : Wanted → Reader → ParseFault → Type 0
SaysWanted w r (fault.Syntax e) = Says (Some (message (are_none r.entries.now) w)) (standing r) (standing r) e
SaysWanted w r fault.Memory = Unit {0}
