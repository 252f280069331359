-- The values of literals in quotes.
use Rattle.std.specs.Prelude.{◌≡◌, ◌<◌, ◌==◌, ℕ, Bool, List, [], ◌∷◌, ◌++◌, Some, false, if◌then◌else◌, map}
use Rattle.std.specs.Char.{encode_utf8}
use Rattle.std.specs.List.{AllByRecursion, flat_map, list_any}
use Rattle.rust_escape.specs.declared.mode.Mode.{Mode}
use Rattle.rust_escape.specs.declared.mode.Mode.TheVariants.{Byte, Char}
use Rattle.rust_escape.specs.Mode.{is_raw}
use Rattle.rust_escape.specs.Unit.{Rule, Lexical, Strict, IsUnit, IsInside, IsOnlyUnit}
use Rattle.rust_escape.specs.Value.{byte_value}
use Rattle.rust_escape.specs.declared.value.Value.{Value}
use Rattle.rust_escape.specs.declared.value.Value.TheVariants.{Character, HighByte}
use Rattle.rust_leaf.specs.Quoted.{IsQuoted, IsLiteralOf, in_byte_quotes, in_single_quotes}
use Rattle.rust_lex.specs.Quoted as lexed
use Rattle.rust_lex.specs.declared.piece.LiteralKind.{LiteralKind}
use Rattle.rust_leaf.specs.declared.quoted.Content.{Content}
use Rattle.rust_leaf.specs.declared.quoted.Content.TheVariants.{Text, Bytes, CText}

-- the rule by which an inside is read: one that isn't raw by that of the escape calls; in a raw one each character
-- stands for itself, also a carriage return before a line feed, as to the lexer
abbrev pub value_rule : Mode → Rule
value_rule mode = if is_raw mode then Lexical else Strict

-- the values of all units of such a literal are taken: a tool of the proofs
abbrev pub TakesValues : (Value → Type 0) → Mode → Type 0
TakesValues takes mode = (cs rest : List ℕ) (v : Value) → IsUnit (value_rule mode) mode cs rest (Some v) → takes v

-- the text is a literal, and the units of its inside spell the values
pub record HasValues (content : Content) (text : List ℕ) (values : List Value) : Type 0 where
  pub mode : Mode
  pub inside : List ℕ
  pub quoted : IsQuoted content mode text inside
  pub units : IsInside (value_rule mode) mode inside [] values

-- the text is a literal, and its inside isn't made of units, so that it spells no values
abbrev pub IsMalformed : Content → List ℕ → Type 0
IsMalformed content text = IsLiteralOf content text × ((values : List Value) → HasValues content text values → ⊥)

-- a string literal; its value is the characters that its units spell
abbrev pub IsStr : List ℕ → Type 0
IsStr text = IsLiteralOf Text text

abbrev pub IsMalformedStr : List ℕ → Type 0
IsMalformedStr text = IsMalformed Text text

abbrev pub IsStrValue : List ℕ → List ℕ → Type 0
IsStrValue text cs = HasValues Text text (map Character cs)

-- a byte string literal; its value is the bytes that its units spell
abbrev pub IsByteStr : List ℕ → Type 0
IsByteStr text = IsLiteralOf Bytes text

abbrev pub IsMalformedByteStr : List ℕ → Type 0
IsMalformedByteStr text = IsMalformed Bytes text

abbrev pub IsByteStrValue : List ℕ → List ℕ → Type 0
IsByteStrValue text bs = HasValues Bytes text (map byte_value bs)

-- the bytes of what a unit spells: a character in UTF-8, or the byte
abbrev pub value_bytes : Value → List ℕ
value_bytes (Character c) = encode_utf8 c
value_bytes (HighByte b) = b ∷ []

-- a C string literal; its value is the bytes of what its units spell, and a zero behind them
abbrev pub IsCStr : List ℕ → Type 0
IsCStr text = IsLiteralOf CText text

abbrev pub IsMalformedCStr : List ℕ → Type 0
IsMalformedCStr text = IsMalformed CText text

pub record IsCStrValue (text bs : List ℕ) : Type 0 where
  pub values : List Value
  pub spelled : HasValues CText text values
  pub bytes : bs ≡ flat_map value_bytes values ++ 0 ∷ []

-- a character literal; its value is the character that its one unit spells
abbrev pub IsCharLiteral : List ℕ → Type 0
IsCharLiteral text = (inside : List ℕ) × (text ≡ in_single_quotes inside)

pub record IsCharValue (text : List ℕ) (c : ℕ) : Type 0 where
  pub inside : List ℕ
  pub quoted : text ≡ in_single_quotes inside
  pub unit : IsOnlyUnit Char inside (Character c)

abbrev pub IsMalformedChar : List ℕ → Type 0
IsMalformedChar text = IsCharLiteral text × ((c : ℕ) → IsCharValue text c → ⊥)

-- a byte literal; its value is the byte that its one unit spells
abbrev pub IsByteLiteral : List ℕ → Type 0
IsByteLiteral text = (inside : List ℕ) × (text ≡ in_byte_quotes inside)

pub record IsByteValue (text : List ℕ) (b : ℕ) : Type 0 where
  pub inside : List ℕ
  pub quoted : text ≡ in_byte_quotes inside
  pub unit : IsOnlyUnit Byte inside (byte_value b)

abbrev pub IsMalformedByte : List ℕ → Type 0
IsMalformedByte text = IsByteLiteral text × ((b : ℕ) → IsByteValue text b → ⊥)

-- each number is that of a byte
abbrev pub AreBytes : List ℕ → Type 0
AreBytes bs = AllByRecursion (λ b. b < 256) bs

-- a carriage return stands among characters
abbrev pub has_return : List ℕ → Bool
has_return cs = list_any (λ c. c == 13) cs

-- one stands among those of a literal that isn't raw
abbrev pub has_barred_return : Mode → List ℕ → Bool
has_barred_return mode cs = if is_raw mode then false else has_return cs

-- the lexer takes the characters as a literal of the kind, without a suffix; it is raw, or holds no carriage return
abbrev pub IsTaken : LiteralKind → List ℕ → Type 0
IsTaken kind cs = (q : lexed.IsQuotedLiteral kind cs) × (has_barred_return q.0 cs ≡ false)
