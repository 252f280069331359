-- Whole parses: a stream is read from its beginning, and nothing is left over.
use Rattle.std.specs.Prelude.{◌≡◌, ◌⊎◌, ◌≤◌, ◌+◌, ◌^◌, ℕ, List, [], ◌∷◌, length, Some, None, Result, Ok, IfOk}
use Rattle.proc_macro2.specs.Token.{Spanned}
use Rattle.proc_macro2.specs.Forest.{IsFault, IsForest}
use Rattle.rust_map.specs.Sources.{Sources, with_text}
use Rattle.rust_map.specs.declared.fault.LexFault.TheVariants.{Lex}
use Rattle.syn_error.specs.declared.fault.ParseFault.{ParseFault}
use Rattle.syn_error.specs.declared.fault.TextFault.{TextFault}
use Rattle.syn_error.specs.declared.fault.TextFault.TheVariants as fault
use Rattle.rust_map.specs.Spans.{call_site}
use Rattle.rust_map.specs.declared.span.Span.{Span}
use Rattle.syn_buffer.specs.Position.{scope, whole_at}
use Rattle.syn_buffer.specs.Seen.{all_seen, seen}
use Rattle.syn_input.specs.Input.{leftover, rest}
use Rattle.syn_input.specs.declared.input.Leftover.{Leftover}
use Rattle.syn_input.specs.declared.input.ParseBuffer.{ParseBuffer}

-- the tokens of the stream are to be read, all of a buffer, at whose end that span is said; nothing is left over yet
pub record IsBegin (closing : Span) (tokens : List Spanned) (begin : ParseBuffer) : Type 0 where
  pub tokens_are : rest begin ≡ seen tokens
  pub list : (number : ℕ) × (end : ℕ) × (scope begin.cursor ≡ whole_at closing number end (all_seen tokens))
  pub nothing_noted : begin.noted ≡ None

-- the parser read the value from the stream, which stands within that span, and nothing is left over
pub record IsReadWithin {A : Type 0} (closing : Span) (runs : ParseBuffer → Result A ParseFault → ParseBuffer → Type 0)
    (tokens : List Spanned) (value : A) : Type 0 where
  pub begin : ParseBuffer
  pub end : ParseBuffer
  pub begins : IsBegin closing tokens begin
  pub ran : runs begin (Ok value) end
  pub nothing_left : leftover end ≡ None

-- the parser refused the stream, which stands within that span, or left something over
pub record IsRefusedWithin {A : Type 0} (closing : Span)
    (runs : ParseBuffer → Result A ParseFault → ParseBuffer → Type 0) (tokens : List Spanned) : Type 0 where
  pub begin : ParseBuffer
  pub end : ParseBuffer
  pub answer : Result A ParseFault
  pub begins : IsBegin closing tokens begin
  pub ran : runs begin answer end
  pub refused : IfOk answer (λ _. (left : Leftover) × (leftover end ≡ Some left))

-- by itself a stream ends at the call site
abbrev pub IsRead : {A : Type 0} → (ParseBuffer → Result A ParseFault → ParseBuffer → Type 0) → List Spanned → A →
    Type 0
IsRead runs tokens value = IsReadWithin call_site runs tokens value

abbrev pub IsRefused : {A : Type 0} → (ParseBuffer → Result A ParseFault → ParseBuffer → Type 0) → List Spanned →
    Type 0
IsRefused runs tokens = IsRefusedWithin call_site runs tokens

-- a value is read from the tokens, and some are left behind it
pub record ReadsShort {A : Type 0} (reads : List Spanned → A → List Spanned → Type 0) (tokens : List Spanned) :
    Type 0 where
  pub value : A
  pub next : Spanned
  pub behind : List Spanned
  pub read : reads tokens value (next ∷ behind)

-- the value is read from the whole stream
abbrev pub reads_whole : {A : Type 0} → (List Spanned → A → List Spanned → Type 0) → List Spanned → A → Type 0
reads_whole reads tokens value = reads (seen tokens) value []

-- none is, or one is read and tokens are left behind it
abbrev pub refuses_whole : {A : Type 0} → (List Spanned → A → List Spanned → Type 0) → (List Spanned → Type 0) →
    List Spanned → Type 0
refuses_whole reads refuses tokens = refuses (seen tokens) ⊎ ReadsShort reads (seen tokens)

-- a text, whose first character stands at the position base, has a stream, and that is read so
pub record ReadsText {A : Type 0} (reads : List Spanned → A → Type 0) (base : ℕ) (text : List ℕ) (value : A) :
    Type 0 where
  pub stream : List Spanned
  pub forest : IsForest base text stream
  pub read : reads stream value

-- it has none, or its stream is refused so, or the map has no positions left for it
abbrev pub RefusesText : (List Spanned → Type 0) → ℕ → List ℕ → TextFault → Type 0
RefusesText refuses base text (fault.Lexical e) = IsFault base text (Lex e)
RefusesText refuses base text (fault.Syntax e) = (stream : List Spanned) × IsForest base text stream × refuses stream
RefusesText refuses base text fault.MapFull = 2 ^ 32 ≤ base + length text
RefusesText refuses base text fault.Memory = Unit {0}

-- what a fault of a text leaves of the map: the text is behind the others once it has been lexed
abbrev pub LeavesMap : Sources → List ℕ → Sources → TextFault → Type 0
LeavesMap old text new (fault.Lexical e) = new ≡ old
LeavesMap old text new (fault.Syntax e) = new ≡ with_text old text
LeavesMap old text new fault.MapFull = new ≡ old
LeavesMap old text new fault.Memory = (new ≡ old) ⊎ (new ≡ with_text old text)
