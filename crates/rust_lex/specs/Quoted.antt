-- Literals in quotes: what each begins with, and what follows. An inside is made of units, by the lexical rule.
use Rattle.std.specs.Prelude.{◌≡◌, ℕ, ◌≤◌, ◌&&◌, ◌==◌, List, [], ◌∷◌, ◌++◌, replicate, Option, Some, None}
use Rattle.std.specs.Prelude.{if◌then◌else◌}
use Rattle.rust_escape.specs.declared.mode.Mode.{Mode}
use Rattle.rust_escape.specs.declared.mode.Mode.TheVariants as modes
use Rattle.rust_escape.specs.Unit.{Lexical, IsUnit, IsInside}
use Rattle.rust_escape.specs.declared.value.Value.{Value}
use Rattle.rust_lex.specs.Chars.{begins, is_quote_or_hash}
pub use Rattle.rust_lex.specs.declared.piece.LiteralKind.{LiteralKind}
pub use Rattle.rust_lex.specs.declared.piece.LiteralKind.TheVariants.{Str, ByteStr, CStr, Byte, Char, Int, Float}

-- a character or a byte: one unit, and the closing quote
pub record IsSingle (mode : Mode) (cs : List ℕ) : Type 0 where
  pub unit : List ℕ
  pub value : Option Value
  pub joined : cs ≡ unit ++ 39 ∷ []
  pub is : IsUnit Lexical mode unit (39 ∷ []) value

-- a string that isn't raw: units, and the closing quote
pub record IsCooked (mode : Mode) (cs : List ℕ) : Type 0 where
  pub inside : List ℕ
  pub values : List Value
  pub joined : cs ≡ inside ++ 34 ∷ []
  pub is : IsInside Lexical mode inside (34 ∷ []) values

-- n #
abbrev pub hashes : ℕ → List ℕ
hashes n = replicate n 35

-- a quote and n #, which close a raw string that n # opened
abbrev pub raw_closing : ℕ → List ℕ
raw_closing n = 34 ∷ hashes n

-- a raw string: at most 255 # and a quote; units, in which no quote is followed by as many #; a quote and as many #
pub record IsRaw (mode : Mode) (cs : List ℕ) : Type 0 where
  pub count : ℕ
  pub inside : List ℕ
  pub values : List Value
  pub few : count ≤ 255
  pub joined : cs ≡ hashes count ++ 34 ∷ (inside ++ raw_closing count)
  pub is : IsInside Lexical mode inside (raw_closing count) values
  pub unclosed : (front rest : List ℕ) → inside ≡ front ++ (raw_closing count ++ rest) → ⊥

-- what follows the opening, with the closing quote
abbrev pub IsTail : Mode → List ℕ → Type 0
IsTail modes.Char cs = IsSingle modes.Char cs
IsTail modes.Byte cs = IsSingle modes.Byte cs
IsTail modes.Str cs = IsCooked modes.Str cs
IsTail modes.ByteStr cs = IsCooked modes.ByteStr cs
IsTail modes.CStr cs = IsCooked modes.CStr cs
IsTail modes.RawStr cs = IsRaw modes.RawStr cs
IsTail modes.RawByteStr cs = IsRaw modes.RawByteStr cs
IsTail modes.RawCStr cs = IsRaw modes.RawCStr cs

-- the prefix b or c, if there is one, and then the quote, or the r of a raw string
abbrev pub opening_of : Mode → List ℕ
opening_of modes.Char = 39 ∷ []
opening_of modes.Byte = 98 ∷ 39 ∷ []
opening_of modes.Str = 34 ∷ []
opening_of modes.ByteStr = 98 ∷ 34 ∷ []
opening_of modes.CStr = 99 ∷ 34 ∷ []
opening_of modes.RawStr = 114 ∷ []
opening_of modes.RawByteStr = 98 ∷ 114 ∷ []
opening_of modes.RawCStr = 99 ∷ 114 ∷ []

abbrev pub literal_kind : Mode → LiteralKind
literal_kind modes.Char = Char
literal_kind modes.Byte = Byte
literal_kind modes.Str = Str
literal_kind modes.ByteStr = ByteStr
literal_kind modes.CStr = CStr
literal_kind modes.RawStr = Str
literal_kind modes.RawByteStr = ByteStr
literal_kind modes.RawCStr = CStr

-- a literal in quotes, without its suffix
abbrev pub IsQuotedLiteral : LiteralKind → List ℕ → Type 0
IsQuotedLiteral kind cs = (mode : Mode) × (tail : List ℕ) × (kind ≡ literal_kind mode) × (cs ≡ opening_of mode ++ tail)
    × IsTail mode tail

-- the prefixed literal as which a text begins: r" r# b" b' br" br# c" cr" cr#
unfoldable pub opener_of : List ℕ → Option Mode
opener_of [] = None
opener_of (c ∷ []) = None
opener_of (c ∷ d ∷ cs) =
    if c == 114 && is_quote_or_hash d then Some modes.RawStr
    else (if c == 98 && d == 34 then Some modes.ByteStr
    else (if c == 98 && d == 39 then Some modes.Byte
    else (if c == 98 && (d == 114 && begins is_quote_or_hash cs) then Some modes.RawByteStr
    else (if c == 99 && d == 34 then Some modes.CStr
    else (if c == 99 && (d == 114 && begins is_quote_or_hash cs) then Some modes.RawCStr
    else None)))))
