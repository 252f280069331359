-- Streams that are read: the place, and what was left over in groups that have been closed.
use Rattle.std.specs.Prelude.{List, [], ◌∷◌, Option, Some, None}
use Rattle.rust_map.specs.declared.span.Span.{Span}
use Rattle.proc_macro2.specs.Token.{Token, Spanned, plain}
use Rattle.syn_buffer.specs.Position as place
use Rattle.syn_buffer.specs.declared.position.Cursor.{Cursor}
use Rattle.syn_input.specs.declared.input.Leftover.{Leftover}
use Rattle.syn_input.specs.declared.input.ParseBuffer.{ParseBuffer}

-- the tokens that are left in the list, with where they stand
abbrev pub rest : ParseBuffer → List Spanned
rest input = place.rest input.cursor

-- the tokens alone
abbrev pub left : ParseBuffer → List Token
left input = plain (rest input)

-- where the next token stands, a group with all of it, or where the list closes
abbrev pub next_place : ParseBuffer → Span
next_place input = place.next_span input.cursor.closing (rest input)

-- the first of two, if there is one
abbrev pub first_of_two : {A : Type 0} → Option A → Option A → Option A
first_of_two (Some a) b = Some a
first_of_two None b = b

-- the first of the tokens at a place that are left over when its list is closed there
abbrev pub leftover_of : Cursor → List Spanned → Option Leftover
leftover_of c [] = None
leftover_of c (t ∷ ts) = Some (record { span = t.span; closer = c.closer })

-- the first thing that is left over when a list is closed: in a group in it that has been closed, or in it
abbrev pub leftover : ParseBuffer → Option Leftover
leftover input = first_of_two input.noted (leftover_of input.cursor (rest input))

-- the same list is read, from the same place on or from one past it
abbrev pub IsOnward : ParseBuffer → ParseBuffer → Type 0
IsOnward old new = place.IsPast old.cursor new.cursor
