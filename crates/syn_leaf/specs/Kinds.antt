-- Which literal a text is.
use Rattle.std.specs.Prelude.{ℕ, Bool, false, ◌==◌, List, [], ◌∷◌}
use Rattle.proc_macro2.specs.Token.{Token, Literal}
use Rattle.rust_lex.specs.Piece.{IsLiteral}
use Rattle.rust_lex.specs.Scan.{Scanned, Ends, scan}
use Rattle.rust_lex.specs.declared.piece.LiteralKind.{LiteralKind}
use Rattle.rust_lex.specs.declared.piece.LiteralKind.TheVariants.{Str, ByteStr, CStr, Byte, Char, Int, Float}
use Rattle.rust_lex.specs.declared.piece.PieceKind.TheVariants as piece

-- all of the text is a literal of the kind, with its suffix, by the lexical rules
unfoldable pub IsKind : LiteralKind → List ℕ → Type 0
IsKind kind text = IsLiteral kind text []

-- the kinds by numbers
abbrev pub kind_number : LiteralKind → ℕ
kind_number Str = 0
kind_number ByteStr = 1
kind_number CStr = 2
kind_number Byte = 3
kind_number Char = 4
kind_number Int = 5
kind_number Float = 6

-- what was found is a literal of the kind, and nothing is left
abbrev pub is_found : LiteralKind → Scanned → Bool
is_found kind (Ends (piece.Literal k) []) = kind_number k == kind_number kind
is_found kind _ = false

-- the same of a text as a test, by the lexer's scan: IsKind holds exactly where it is true (`laws::tested_kinds`)
unfoldable pub is_kind : LiteralKind → List ℕ → Bool
is_kind kind text = is_found kind (scan text)

-- a literal of the kind stands first
abbrev pub kind_stands : LiteralKind → List Token → Bool
kind_stands kind (Literal cs ∷ ts) = is_kind kind cs
kind_stands kind _ = false
