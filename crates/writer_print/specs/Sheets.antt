-- Texts that are printed part by part: the text of all tokens, with the spaces that stand between two parts as between
-- any two tokens.
use Rattle.std.specs.Prelude.{◌≡◌, ℕ, not, ◌&&◌, ◌||◌, Option, Some, None, List, [], ◌∷◌, ◌++◌}
use Rattle.proc_macro2.specs.Printed as printed
use Rattle.proc_macro2.specs.Token.{Token}
use Rattle.rust_leaf.specs.Leaf.{text_of}
use Rattle.writer_print.specs.declared.sheet.Edge.{Edge}
use Rattle.writer_print.specs.declared.sheet.Sheet.{Sheet}

-- So the last of some tokens stands to what is printed behind it. None stands there where there is no token.
abbrev pub IsEdge : Option Edge → List Token → Type 0
IsEdge None ts = ts ≡ []
IsEdge (Some e) ts =
    (us : List Token) × (t : Token) × (ts ≡ us ++ t ∷ []) × (e.opens_brace ≡ printed.opens_brace t)
    × (e.hugs ≡ printed.hugs t)

-- the space between the last token and the next one, if there is one
abbrev pub space_at : Option Edge → Token → List ℕ
space_at None t = []
space_at (Some e) t =
    printed.space ((e.opens_brace || printed.closes_brace t) || (not e.hugs && not (printed.is_hugged t)))

-- The text is that of these tokens, and it is known how the last of them stands.
pub record Shows (sheet : Sheet) (ts : List Token) : Type 0 where
  pub text : text_of sheet.text ≡ printed.text ts
  pub edge : IsEdge sheet.edge ts
