-- What leaves are to a contract: the characters that are printed, and the span.
use Rattle.std.specs.Prelude.{◌≡◌, ℕ, true, List, String, string_bytes}
use lib.Utf8.{scalars}
use Rattle.std.specs.Str.{chars}
use Rattle.rust_map.specs.declared.span.Span.{Span}
use Rattle.rust_leaf.specs.LeafText.{leaf_bytes}
use Rattle.rust_leaf.specs.declared.ident.Ident.{Ident}
use Rattle.rust_leaf.specs.declared.literal.Literal.{Literal}
use Rattle.rust_leaf.specs.declared.punct.Punct.{Punct}
use Rattle.rust_leaf.specs.declared.punct.Spacing.{Spacing}

-- each number is that of a character
abbrev pub AreCharacters : List ℕ → Type 0
AreCharacters cs = scalars cs ≡ true

-- the characters of a string
abbrev pub text_of : {A : Type 0} → String A → List ℕ
text_of s = chars (string_bytes s)

-- the characters of an identifier as it is printed, a raw one with its r#
abbrev pub ident_text : Ident → List ℕ
ident_text i = chars (leaf_bytes i.text)

-- where an identifier stands
abbrev pub ident_span : Ident → Span
ident_span i = i.span

-- the characters of a literal as it is printed
abbrev pub literal_text : Literal → List ℕ
literal_text l = chars (leaf_bytes l.text)

-- where a literal stands
abbrev pub literal_span : Literal → Span
literal_span l = l.span

-- the character of a mark, whether another mark follows at once, and where it stands
abbrev pub punct_char : Punct → ℕ
punct_char p = p.mark

abbrev pub punct_spacing : Punct → Spacing
punct_spacing p = p.spacing

abbrev pub punct_span : Punct → Span
punct_span p = p.span

-- the text of an identifier in bytes, by which identifiers are compared
abbrev pub ident_bytes : Ident → List ℕ
ident_bytes i = leaf_bytes i.text
