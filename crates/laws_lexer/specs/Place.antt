-- Where a text's tokens stand in a map that holds the text.
use Rattle.std.specs.Prelude.{◌≡◌, ◌≤◌, ℕ, Some, List, ◌∷◌, [], ◌++◌, ◌⊎◌}
use Rattle.std.specs.List.{Contains}
use Rattle.rust_lex.specs.Comment.{IsDoc}
use Rattle.rust_lex.specs.declared.piece.DocKind.{DocKind}
use Rattle.rust_map.specs.Answers.{source_of}
use Rattle.rust_map.specs.Sources.{Sources}
use Rattle.rust_map.specs.declared.span.Span.{Span}
use Rattle.proc_macro2.specs.Pieces.{doc_group, doc_marks, doc_text, edge}
use Rattle.proc_macro2.specs.Printed.{closing, opening}
use Rattle.proc_macro2.specs.declared.delimiter.Delimiter.{Delimiter}
use Rattle.proc_macro2.specs.Token.{Token, Opens, Closes, Ident, Literal, Punct, Spanned}

-- characters from an opening delimiter to a closing one
abbrev pub IsEnclosed : Delimiter → List ℕ → Type 0
IsEnclosed d cs = (inside : List ℕ) × (cs ≡ opening d ++ (inside ++ closing d))

-- the characters are the token's, as it is printed; those of a group's two tokens are the whole group's
abbrev pub IsWritten : Token → List ℕ → Type 0
IsWritten (Opens d) cs = IsEnclosed d cs
IsWritten (Closes d) cs = IsEnclosed d cs
IsWritten (Ident text) cs = cs ≡ text
IsWritten (Literal text) cs = cs ≡ text
IsWritten (Punct c spacing) cs = cs ≡ c ∷ []

-- the characters are a doc comment, and the token is one of the attribute that it stands for
pub record IsOfDoc (token : Token) (cs : List ℕ) : Type 0 where
  pub kind : DocKind
  pub rest : List ℕ
  pub doc : IsDoc kind cs rest
  pub among : Contains (doc_marks kind ++ doc_group (doc_text kind cs)) token

-- the map's text under a token's span is the token's, or that of the doc that the token comes of
abbrev pub IsFound : Sources → Spanned → Type 0
IsFound map s = (cs : List ℕ) × (source_of map s.span ≡ Some cs) × (IsWritten s.token cs ⊎ IsOfDoc s.token cs)

-- two tokens come of one doc
abbrev pub AreOfOneDoc : Sources → Spanned → Spanned → Type 0
AreOfOneDoc map s t = (s.span ≡ t.span) × (cs : List ℕ) × (source_of map s.span ≡ Some cs) × IsOfDoc s.token cs ×
    IsOfDoc t.token cs

-- where a token itself stands: of a group's two, the opening one is the first character and the closing one the last
abbrev pub own_span : Spanned → Span
own_span s = edge s.token s.span

-- a token stands behind another, or both come of one doc
abbrev pub IsBehind : Sources → Spanned → Spanned → Type 0
IsBehind map s t = ((own_span s).«end» ≤ (own_span t).start) ⊎ AreOfOneDoc map s t
