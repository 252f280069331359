-- The tokens that entries are, where they stand, and how entries lie. Where a group opens and where it
-- closes the span of all of it stands, as in a stream.
use Rattle.std.specs.Prelude.{option_map, slice_get, unwrap_or, ◌-◌}
use Rattle.std.specs.Prelude.{ℕ, zero, suc, Bool, true, false, ◌&&◌, ◌==◌, not, List, [], ◌∷◌, length, map, take, drop}
use Rattle.rust_map.specs.Spans.{last_of}
use Rattle.rust_map.specs.declared.span.Span.{Span}
use Rattle.rust_leaf.specs.Minus.{starts_with_minus}
use Rattle.rust_leaf.specs.Leaf.{ident_span, ident_text, literal_span, literal_text, punct_char, punct_spacing}
use Rattle.rust_leaf.specs.Leaf.{punct_span}
use Rattle.proc_macro2.specs.declared.delimiter.Delimiter.{Delimiter}
use Rattle.proc_macro2.specs.Groups.{same_delimiter}
use Rattle.proc_macro2.specs.Token.{Token, Opens, Closes, Ident, Literal, Punct, Spanned}
use Rattle.proc_macro2.specs.Flat.{spanned}
use Rattle.syn_buffer.specs.Seen.{is_visible}
use Rattle.syn_buffer.specs.declared.entry.Entry.{Entry}
use Rattle.syn_buffer.specs.declared.entry.Entry.TheVariants as entry

abbrev pub entry_token : Entry → Token
entry_token (entry.Open d span n) = Opens d
entry_token (entry.Close d span) = Closes d
entry_token (entry.Ident i) = Ident (ident_text i.now)
entry_token (entry.Punct p) = Punct (punct_char p.now) (punct_spacing p.now)
entry_token (entry.Literal l) = Literal (literal_text l.now)

abbrev pub entry_span : Entry → Span
entry_span (entry.Open d span n) = span
entry_span (entry.Close d span) = span
entry_span (entry.Ident i) = ident_span i.now
entry_span (entry.Punct p) = punct_span p.now
entry_span (entry.Literal l) = literal_span l.now

-- where it ends: a mark that closes a group is the last character of that
abbrev pub entry_end : Entry → Span
entry_end (entry.Open d span n) = span
entry_end (entry.Close d span) = last_of span
entry_end (entry.Ident i) = ident_span i.now
entry_end (entry.Punct p) = punct_span p.now
entry_end (entry.Literal l) = literal_span l.now

-- where the last of entries ends, and of none what is said
abbrev pub last_end : Span → List Entry → Span
last_end none es = unwrap_or (option_map entry_end (slice_get es (length es - 1))) none

abbrev pub spanned_entry : Entry → Spanned
spanned_entry e = spanned (entry_token e) (entry_span e)

-- the tokens of entries, with where they stand
abbrev pub spanned_entries : List Entry → List Spanned
spanned_entries es = map spanned_entry es

-- two spans are one
abbrev pub same_span : Span → Span → Bool
same_span s t = (s.start == t.start) && (s.end == t.end)

-- a group with that delimiter and that span closes there
abbrev pub closes_with : Delimiter → Span → List Entry → Bool
closes_with d s (entry.Close e t ∷ es) = same_delimiter e d && same_span t s
closes_with d s _ = false

-- Entries lie as those do that are left of a list: where a group opens it is known how many stand inside, and behind
-- those it closes; no visible group closes that has not been opened there; and no literal begins with a minus. An
-- invisible group that has been entered before may close, if it is said so first, but never inside a group.
abbrev pub laid : Bool → ℕ → List Entry → Bool
laid entered k [] = true
laid entered zero (e ∷ es) = false
laid entered (suc k) (entry.Open d s n ∷ es) =
    closes_with d s (drop n es) && (laid false k (take n es) && laid entered k (drop (suc n) es))
laid entered (suc k) (entry.Close d s ∷ es) = (entered && not (is_visible d)) && laid entered k es
laid entered (suc k) (entry.Ident i ∷ es) = laid entered k es
laid entered (suc k) (entry.Punct p ∷ es) = laid entered k es
laid entered (suc k) (entry.Literal l ∷ es) = not (starts_with_minus (literal_text l.now)) && laid entered k es

-- what is left of a list
abbrev pub is_laid : List Entry → Bool
is_laid es = laid true (length es) es

-- whole trees: no group closes that has not been opened there
abbrev pub is_whole : List Entry → Bool
is_whole es = laid false (length es) es
