-- What literals in quotes spell, by the lexical rules, and what stands behind them.
use Rattle.std.specs.Prelude.{◌≡◌, ℕ, Bool, true, false, ◌==◌, List, [], ◌∷◌, ◌++◌, if◌then◌else◌, option_to_list}
use Rattle.std.specs.Prelude.{Some}
use Rattle.std.specs.List.{flat_map, list_any}
use Rattle.rust_escape.specs.Unit.{Lexical, IsUnit}
use Rattle.rust_escape.specs.declared.mode.Mode.{Mode}
use Rattle.rust_escape.specs.declared.mode.Mode.TheVariants as modes
use Rattle.rust_escape.specs.declared.value.Value.{Value}
use Rattle.rust_leaf.specs.Value.{value_bytes}
use Rattle.rust_lex.specs.Piece.{IsBody, IsSuffix}
use Rattle.rust_lex.specs.Quoted.{IsTail, literal_kind, opening_of}
use Rattle.rust_lex.specs.declared.piece.LiteralKind.{LiteralKind}
use Rattle.rust_lex.specs.declared.piece.LiteralKind.TheVariants as kinds

-- the text is a literal of the kind with this suffix, or without one where the suffix is empty
pub record HasSuffix (kind : LiteralKind) (text suffix : List ℕ) : Type 0 where
  pub body : List ℕ
  pub joined : text ≡ body ++ suffix
  pub is : IsBody kind body (suffix ++ [])
  pub ends : IsSuffix suffix []

-- what the units behind the opening of a literal in quotes spell, in their order
abbrev pub tail_values : (mode : Mode) (tail : List ℕ) → IsTail mode tail → List Value
tail_values modes.Char tail t = option_to_list t.value
tail_values modes.Byte tail t = option_to_list t.value
tail_values modes.Str tail t = t.values
tail_values modes.ByteStr tail t = t.values
tail_values modes.CStr tail t = t.values
tail_values modes.RawStr tail t = t.values
tail_values modes.RawByteStr tail t = t.values
tail_values modes.RawCStr tail t = t.values

-- the text is a literal of the kind in quotes, whatever its suffix, and the units of its inside spell the values
pub record Spells (kind : LiteralKind) (text : List ℕ) (values : List Value) : Type 0 where
  pub mode : Mode
  pub tail : List ℕ
  pub suffix : List ℕ
  pub kind_is : kind ≡ literal_kind mode
  pub joined : text ≡ (opening_of mode ++ tail) ++ suffix
  pub is : IsTail mode tail
  pub ends : IsSuffix suffix []
  pub spelled : values ≡ tail_values mode tail is

-- the same as bytes, a character's in UTF-8
pub record SpellsBytes (kind : LiteralKind) (text bytes : List ℕ) : Type 0 where
  pub values : List Value
  pub spelled : Spells kind text values
  pub bytes_are : bytes ≡ flat_map value_bytes values

-- and a C string's, with a zero behind them
pub record SpellsCBytes (text bytes : List ℕ) : Type 0 where
  pub front : List ℕ
  pub spelled : SpellsBytes kinds.CStr text front
  pub bytes_are : bytes ≡ front ++ 0 ∷ []

-- a kind in quotes
abbrev pub is_quoted : LiteralKind → Bool
is_quoted kinds.Int = false
is_quoted kinds.Float = false
is_quoted _ = true

-- and its quote
abbrev pub quote_of : LiteralKind → ℕ
quote_of kinds.Byte = 39
quote_of kinds.Char = 39
quote_of _ = 34

-- a character stands among others
abbrev pub has : ℕ → List ℕ → Bool
has c cs = list_any (λ d. d == c) cs

-- a text up to its first quote, between this and its last one, and behind that: a tool
pub record IsFenced (quote : ℕ) (text opening inside closing : List ℕ) : Type 0 where
  pub joined : text ≡ opening ++ (quote ∷ (inside ++ (quote ∷ closing)))
  pub first : has quote opening ≡ false
  pub last : has quote closing ≡ false

-- the mode of a literal: it is raw where an r stands before its first quote
abbrev pub mode_of : LiteralKind → Bool → Mode
mode_of kinds.Char raw = modes.Char
mode_of kinds.Byte raw = modes.Byte
mode_of kinds.ByteStr raw = if raw then modes.RawByteStr else modes.ByteStr
mode_of kinds.CStr raw = if raw then modes.RawCStr else modes.CStr
mode_of _ raw = if raw then modes.RawStr else modes.Str

-- the literal's mode, its inside, and what stands behind its last quote: a tool
pub record IsTakenApart (kind : LiteralKind) (text : List ℕ) (mode : Mode) (inside closing : List ℕ) : Type 0 where
  pub opening : List ℕ
  pub fenced : IsFenced (quote_of kind) text opening inside closing
  pub mode_is : mode ≡ mode_of kind (has 114 opening)

-- the values of all units that the lexer takes there are taken: a tool
abbrev pub TakesUnits : (Value → Type 0) → Mode → Type 0
TakesUnits takes mode = (cs rest : List ℕ) (v : Value) → IsUnit Lexical mode cs rest (Some v) → takes v
