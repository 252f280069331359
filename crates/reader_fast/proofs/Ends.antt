-- What stands behind a name where a group opens.
use Rattle.std.proofs.Common.{◌≡◌, ℕ, List, ◌∷◌, sym, subst}
use Rattle.proc_macro2.specs.Token.{Token, Opens}
use Rattle.proc_macro2.specs.declared.delimiter.Delimiter.{Delimiter}
use Rattle.rust_map.specs.declared.span.Span.{Span}
use Rattle.syn_buffer.specs.Entries.{entry_token}
use Rattle.syn_buffer.specs.declared.entry.Entry.{Entry}
use Rattle.syn_buffer.specs.declared.entry.Entry.TheVariants as entry
use Rattle.syn_grammar.specs.Kind.{Style}
use Rattle.reader_tokens.specs.Tokens.{tokens}
use Rattle.reader_fast.specs.Names.{IsBehind}
use Rattle.reader_fast.specs.declared.names.Behind.{Behind}

-- a group that opens
pub opened : (s : Style) (d : Delimiter) (span : Span) (n : ℕ) (x : Entry) (es fs : List Entry) (b : Behind)
    → es ≡ x ∷ fs → x ≡ entry.Open d span n → ((ts : List Token) → IsBehind s (Opens d ∷ ts) b)
    → IsBehind s (tokens es) b
opened s d span n x es fs b e f h =
    let P : List Entry → Type 0 = λ es. IsBehind s (tokens es) b in
    let Q : Entry → Type 0 = λ x. IsBehind s (entry_token x ∷ tokens fs) b in
    subst P (sym e) (subst Q (sym f) (h (tokens fs)))
