-- What an error says.
use Rattle.std.specs.Prelude.{◌≡◌, ℕ, List, [], ◌∷◌, Option, IfSome}
use Rattle.rust_map.specs.Spans.{call_site}
use Rattle.rust_map.specs.declared.span.Span.{Span}
use Rattle.proc_macro2.specs.Token.{Spanned}

-- a message, in bytes, and where what it speaks of starts and ends: the spans of its first and of its last token
pub record Note : Type 0 where
  pub start : Span
  pub end : Span
  pub text : List ℕ

-- where the first of the messages starts
abbrev pub place_of : List Note → Span
place_of [] = call_site
place_of (n ∷ ns) = n.start

-- what the first of them says
abbrev pub words_of : List Note → List ℕ
words_of [] = []
words_of (n ∷ ns) = n.text

-- one message between two spans, which says what is displayed, where that is specified
abbrev pub Says : Option (List ℕ) → Span → Span → List Note → Type 0
Says output start end notes =
    (text : List ℕ) × (notes ≡ record { start = start; end = end; text = text } ∷ [])
    × IfSome output (λ bytes. text ≡ bytes)

-- where the first of some tokens stands, and where the last; of no tokens, the call site
abbrev pub first_place : List Spanned → Span
first_place [] = call_site
first_place (t ∷ ts) = t.span

abbrev pub last_place_from : Span → List Spanned → Span
last_place_from span [] = span
last_place_from span (t ∷ ts) = last_place_from t.span ts

abbrev pub last_place : List Spanned → Span
last_place ts = last_place_from call_site ts
