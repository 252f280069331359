-- How characters and bytes are written inside quotes.
use Rattle.std.specs.Prelude.{ℕ, ◌/◌, ◌%◌, Bool, true, false, cond, not, ◌==◌, List, [], ◌∷◌, ◌++◌, codes}
use Rattle.std.specs.Char.{is_ascii, is_ascii_control}
use Rattle.std.specs.Int.{is_in_range}
use Rattle.std.specs.Fmt.{digits, digit_glyph}
use Rattle.ucd_category.specs.GeneralCategory.{general_category}
use Rattle.ucd_category.specs.declared.GeneralCategory.{GeneralCategory}
use Rattle.ucd_category.specs.declared.GeneralCategory.TheVariants.{Control, Format, Unassigned, PrivateUse}
use Rattle.ucd_category.specs.declared.GeneralCategory.TheVariants.{NonspacingMark, EnclosingMark, LineSeparator}
use Rattle.ucd_category.specs.declared.GeneralCategory.TheVariants.{ParagraphSeparator, SpaceSeparator}

-- Cc Cf Cn Co Mn Me Zl Zp Zs
abbrev pub is_hidden_category : GeneralCategory → Bool
is_hidden_category Control = true
is_hidden_category Format = true
is_hidden_category Unassigned = true
is_hidden_category PrivateUse = true
is_hidden_category NonspacingMark = true
is_hidden_category EnclosingMark = true
is_hidden_category LineSeparator = true
is_hidden_category ParagraphSeparator = true
is_hidden_category SpaceSeparator = true
is_hidden_category _ = false

-- a character that stands for itself: ASCII but for its controls, and past ASCII what no hidden
-- category has
unfoldable pub is_bare : ℕ → Bool
is_bare c = cond (is_ascii c) (not (is_ascii_control c)) (not (is_hidden_category (general_category c)))

-- \u{..}: the number in hex, lower case, without leading zeros
unfoldable pub by_number : ℕ → List ℕ
by_number c = codes "\\u{" ++ digits 16 false c ++ codes "}"

-- \x and two hex digits, upper case
unfoldable pub by_byte : ℕ → List ℕ
by_byte b = codes "\\x" ++ digit_glyph true (b / 16) ∷ digit_glyph true (b % 16) ∷ []

-- what follows begins with a digit 0 to 7
abbrev pub begins_octal : List ℕ → Bool
begins_octal [] = false
begins_octal (c ∷ cs) = is_in_range 48 55 c

-- zero is \0, before such a digit \x00
abbrev pub zero_before : Bool → List ℕ
zero_before true = codes "\\x00"
zero_before false = codes "\\0"

-- what has an escape of its own: \t \n \r \\, the own quote, and zero; anything else is written otherwise
abbrev pub escaped_or : ℕ → ℕ → List ℕ → List ℕ → List ℕ
escaped_or quote c next otherwise =
    cond (c == 9) (codes "\\t")
    (cond (c == 10) (codes "\\n")
    (cond (c == 13) (codes "\\r")
    (cond (c == 92) (codes "\\\\")
    (cond (c == quote) (92 ∷ quote ∷ [])
    (cond (c == 0) (zero_before (begins_octal next))
    otherwise)))))

-- a character, before the characters that follow it
unfoldable pub escaped : ℕ → ℕ → List ℕ → List ℕ
escaped quote c next = escaped_or quote c next (cond (is_bare c) (c ∷ []) (by_number c))

-- characters one after the other
abbrev pub escaped_all : ℕ → List ℕ → List ℕ
escaped_all quote [] = []
escaped_all quote (c ∷ cs) = escaped quote c cs ++ escaped_all quote cs

-- a byte, before the bytes that follow it: bare from the space to ~
unfoldable pub escaped_byte : ℕ → ℕ → List ℕ → List ℕ
escaped_byte quote b next = escaped_or quote b next (cond (is_in_range 32 126 b) (b ∷ []) (by_byte b))

-- bytes one after the other
abbrev pub escaped_bytes : ℕ → List ℕ → List ℕ
escaped_bytes quote [] = []
escaped_bytes quote (b ∷ bs) = escaped_byte quote b bs ++ escaped_bytes quote bs

-- the text of a string literal, and of a character literal
abbrev pub string_text : List ℕ → List ℕ
string_text cs = codes "\"" ++ escaped_all 34 cs ++ codes "\""

abbrev pub character_text : ℕ → List ℕ
character_text c = codes "'" ++ escaped 39 c [] ++ codes "'"

-- the text of a byte literal, and of a byte string literal
abbrev pub byte_character_text : ℕ → List ℕ
byte_character_text b = codes "b'" ++ escaped_byte 39 b [] ++ codes "'"

abbrev pub byte_string_text : List ℕ → List ℕ
byte_string_text bs = codes "b\"" ++ escaped_bytes 34 bs ++ codes "\""
