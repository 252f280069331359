-- Which texts are a literal, and what is said of one that is none.
use Rattle.std.specs.Prelude.{◌≡◌, ℕ, Bool, true, false, List, [], ◌∷◌, Option, Some, None, ◌⊎◌}
use Rattle.rust_leaf.specs.Minus.{minus}
use Rattle.rust_lex.specs.Piece.{IsLiteral}
use Rattle.rust_lex.specs.declared.piece.LiteralKind.{LiteralKind}
use Rattle.rust_lex.specs.declared.piece.LiteralKind.TheVariants.{Int, Float}
use Rattle.rust_lex.specs.declared.piece.PieceKind.{PieceKind}
use Rattle.rust_lex.specs.declared.piece.PieceKind.TheVariants.{Literal}
use Rattle.rust_map.specs.Faults.{front_error}
use Rattle.rust_map.specs.declared.fault.LexFault.{LexFault}
use Rattle.rust_map.specs.declared.fault.LexFault.TheVariants.{Lex, MapFull, Memory}

-- the text is one literal token, with its suffix, from end to end
abbrev pub IsLiteralLeaf : List ℕ → Type 0
IsLiteralLeaf text = (kind : LiteralKind) × IsLiteral kind text []

-- a minus may stand before numbers
abbrev pub is_number_kind : LiteralKind → Bool
is_number_kind Int = true
is_number_kind Float = true
is_number_kind _ = false

-- the text is a minus directly before a number
abbrev pub IsNegative : List ℕ → Type 0
IsNegative text = (kind : LiteralKind) × (number : List ℕ) × (text ≡ minus ∷ number) × IsLiteral kind number []
    × (is_number_kind kind ≡ true)

-- the text is that of a literal: one literal token, or a minus directly before a number
abbrev pub IsLiteralText : List ℕ → Type 0
IsLiteralText text = IsLiteralLeaf text ⊎ IsNegative text

-- what a refusal says of a text whose first character would stand at the position base: that it is no
-- literal's, which is said of its front; nothing, where the map is full; that it is one, where memory was
-- refused
abbrev pub IsRefusal : ℕ → List ℕ → LexFault → Type 0
IsRefusal base text (Lex error) = (IsLiteralText text → ⊥) × (error ≡ front_error base)
IsRefusal base text MapFull = Unit {0}
IsRefusal base text Memory = IsLiteralText text

-- which literal a piece is, if it is one: a tool
abbrev pub literal_of : PieceKind → Option LiteralKind
literal_of (Literal kind) = Some kind
literal_of _ = None
