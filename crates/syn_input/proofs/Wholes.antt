-- Whole parses, by their steps.
use Rattle.std.proofs.Common.{◌≡◌, ◌∙◌, ap, ℕ, List, [], ◌∷◌, Some, None, Result, Ok, Err, subst, refl}
use Rattle.std.specs.Prelude.{Bool, true, false}
use Rattle.proc_macro2.specs.Token.{Spanned, plain}
use Rattle.syn_error.specs.declared.fault.ParseFault.{ParseFault}
use Rattle.syn_buffer.specs.Position as place
use Rattle.syn_buffer.specs.Seen.{all_seen, seen}
use Rattle.syn_buffer.specs.declared.position.Cursor.{Cursor}
use Rattle.syn_input.specs.Input.{leftover}
use Rattle.syn_buffer.specs.Stands.{end_stands}
use Rattle.rust_map.specs.declared.span.Span.{Span}
use Rattle.syn_input.specs.Whole.{IsBegin, IsReadWithin, IsRefusedWithin, ReadsShort}
use Rattle.syn_input.specs.declared.input.Leftover.{Leftover}
use Rattle.syn_input.specs.declared.input.ParseBuffer.{ParseBuffer}

-- the beginning of a buffer of tokens
pub begun : (tokens es : List Spanned) (begin : ParseBuffer) (at : Cursor) (closing : Span) (number end : ℕ)
    (v : Bool) →
    begin.cursor ≡ at → place.rest at ≡ seen es → es ≡ tokens → v ≡ all_seen tokens →
    place.scope at ≡ place.whole_at closing number end v → begin.noted ≡ None →
    IsBegin closing tokens begin
begun tokens es begin at closing number end v c r t a l n = record {
  tokens_are = ap (λ (x : Cursor). place.rest x) c ∙ r ∙ ap (λ (x : List Spanned). seen x) t;
  list = (
    number,
    end,
    ap (λ (x : Cursor). place.scope x) c ∙ l ∙ ap (λ b. place.whole_at closing number end b) a,
  );
  nothing_noted = n;
}

pub whole_read : {A : Type 0} (runs : ParseBuffer → Result A ParseFault → ParseBuffer →
    Type 0) (closing : Span) (tokens : List Spanned) (begin end : ParseBuffer) (answer : Result A ParseFault)
    (value : A) → IsBegin closing tokens begin → runs begin answer end → answer ≡ Ok value → leftover end ≡ None →
    IsReadWithin closing runs tokens value
whole_read runs closing tokens begin end answer value b r e n =
    let P : Result _ ParseFault → Type 0 = λ a. runs begin a end in
    record { begin = begin; end = end; begins = b; ran = subst P e r; nothing_left = n }

pub whole_refused : {A : Type 0} (runs : ParseBuffer → Result A ParseFault → ParseBuffer →
    Type 0) (closing : Span) (tokens : List Spanned) (begin end : ParseBuffer) (answer : Result A ParseFault)
    (fault : ParseFault) → IsBegin closing tokens begin → runs begin answer end → answer ≡ Err fault →
    IsRefusedWithin closing runs tokens
whole_refused {A} runs closing tokens begin end answer fault b r e =
    let P : Result A ParseFault → Type 0 = λ a. runs begin a end in
    record { begin = begin; end = end; answer = Err fault; begins = b; ran = subst P e r; refused = tt }

pub whole_left : {A : Type 0} (runs : ParseBuffer → Result A ParseFault → ParseBuffer →
    Type 0) (closing : Span) (tokens : List Spanned) (begin end : ParseBuffer) (answer : Result A ParseFault)
    (value : A) → IsBegin closing tokens begin → runs begin answer end → answer ≡ Ok value →
    (left : Leftover) × (leftover end ≡ Some left) → IsRefusedWithin closing runs tokens
whole_left {A} runs closing tokens begin end answer value b r e l =
    let P : Result A ParseFault → Type 0 = λ a. runs begin a end in
    record { begin = begin; end = end; answer = Ok value; begins = b; ran = subst P e r; refused = l }

nothing_left : (ts : List Spanned) → end_stands (plain ts) ≡ true → ts ≡ []
nothing_left [] e = refl
nothing_left (t ∷ ts) e = cc

-- a value that is read to the end, or not to the end
pub read_all : {A : Type 0} (reads : List Spanned → A → List Spanned → Type 0) (tokens behind : List Spanned)
    (value : A) → reads tokens value behind → end_stands (plain behind) ≡ true → reads tokens value []
read_all reads tokens behind value r e =
    let P : List Spanned → Type 0 = λ ts. reads tokens value ts in
    subst P (nothing_left behind e) r

pub read_short : {A : Type 0} (reads : List Spanned → A → List Spanned → Type 0) (tokens behind : List Spanned)
    (value : A) → reads tokens value behind → end_stands (plain behind) ≡ false → ReadsShort reads tokens
read_short reads tokens [] value r e = cc
read_short reads tokens (t ∷ ts) value r e = record { value = value; next = t; behind = ts; read = r }
