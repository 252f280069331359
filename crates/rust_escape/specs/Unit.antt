-- The units of a literal's inside: each is one escape or one character, and most spell a value.
use Rattle.std.specs.Prelude.{◌≡◌, ℕ, Bool, true, false, ◌&&◌, ◌||◌, ◌==◌, not, nat_lt, List, [], ◌∷◌, ◌++◌, Option}
use Rattle.std.specs.Prelude.{Some, None, if◌then◌else◌, option_to_list}
use Rattle.rust_escape.specs.Chars.{is_among, begins, passes, is_line_feed, is_blank}
use Rattle.rust_escape.specs.Escape.{IsEscape, may_hold}
use Rattle.rust_escape.specs.Mode.{Mode, in_double_quotes, is_raw, holds_bytes}
use Rattle.rust_escape.specs.Value.{Value, Character}

-- what the lexer takes as a literal, and the stricter rule of the escape calls
pub data Rule : Type 0 where
  Lexical : Rule
  Strict : Rule

-- what doesn't stand for itself in a character or byte literal: a backslash;
-- to the calls the own quote, a carriage return, a line feed and a tab too
abbrev pub barred_alone : Rule → List ℕ
barred_alone Lexical = 92 ∷ []
barred_alone Strict = 92 ∷ 39 ∷ 13 ∷ 10 ∷ 9 ∷ []

-- what doesn't stand for itself: in raw literals a carriage return,
-- in other double quotes a backslash, the quote and a carriage return
abbrev pub barred : Rule → Mode → List ℕ
barred rule mode = if is_raw mode then 13 ∷ [] else
    (if in_double_quotes mode then 92 ∷ 34 ∷ 13 ∷ [] else barred_alone rule)

-- the character may stand for itself: in byte literals if it is ASCII
abbrev pub is_plain : Rule → Mode → ℕ → Bool
is_plain rule mode c = not (is_among (barred rule mode) c)
    && (may_hold mode c && (nat_lt c 128 || not (holds_bytes mode)))

-- each carriage return stands before a line feed
abbrev pub are_returns_paired : List ℕ → Bool
are_returns_paired [] = true
are_returns_paired (c ∷ cs) = (not (c == 13) || begins is_line_feed cs) && are_returns_paired cs

-- a line end and all spaces, tabs and line ends that follow; a line end is a line feed,
-- to the lexer also a carriage return and a line feed
abbrev pub is_skipped : Rule → List ℕ → Bool
is_skipped Lexical cs = (begins is_line_feed cs || begins (λ c. c == 13) cs)
    && (passes is_blank cs && are_returns_paired cs)
is_skipped Strict cs = begins is_line_feed cs && passes is_blank cs

-- before a line feed the lexer takes a carriage return, which in a raw literal stands for itself and else for nothing
abbrev pub return_value : Mode → Option Value
return_value mode = if is_raw mode then Some (Character 13) else None

-- before the rest the characters are one unit, which spells the value if there is one
pub data IsUnit : Rule → Mode → List ℕ → List ℕ → Option Value → Type 0 where
  -- a character that stands for itself
  plain : {rule : Rule} {mode : Mode} {c : ℕ} {rest : List ℕ} → is_plain rule mode c ≡ true
      → IsUnit rule mode (c ∷ []) rest (Some (Character c))
  -- a backslash and an escape
  escape : {rule : Rule} {mode : Mode} {cs rest : List ℕ} {value : Value} → is_raw mode ≡ false → IsEscape mode cs value
      → IsUnit rule mode (92 ∷ cs) rest (Some value)
  -- a backslash before a line end skips all spaces, tabs and line ends that follow
  skip : {rule : Rule} {mode : Mode} {cs rest : List ℕ} → is_raw mode ≡ false → in_double_quotes mode ≡ true
      → is_skipped rule cs ≡ true → begins is_blank rest ≡ false → IsUnit rule mode (92 ∷ cs) rest None
  -- a carriage return before a line feed
  return : {mode : Mode} {rest : List ℕ} → in_double_quotes mode ≡ true
      → IsUnit Lexical mode (13 ∷ []) (10 ∷ rest) (return_value mode)

-- no unit stands at the front of the text
abbrev pub NoUnit : Rule → Mode → List ℕ → Type 0
NoUnit rule mode text = (cs rest : List ℕ) (value : Option Value) → text ≡ cs ++ rest → IsUnit rule mode cs rest value
    → ⊥

-- the text is one unit that spells the value
abbrev pub IsOnlyUnit : Mode → List ℕ → Value → Type 0
IsOnlyUnit mode text value = IsUnit Strict mode text [] (Some value)

-- before the rest the characters are the inside of a literal: units one after the other, which spell the values.
-- In double quotes no unit is the bare quote, so that the first one is the closing quote.
pub data IsInside (rule : Rule) (mode : Mode) : List ℕ → List ℕ → List Value → Type 0 where
  empty : {rest : List ℕ} → IsInside rule mode [] rest []
  more : {cs inside rest : List ℕ} {value : Option Value} {values : List Value}
      → IsUnit rule mode cs (inside ++ rest) value → IsInside rule mode inside rest values
      → IsInside rule mode (cs ++ inside) rest (option_to_list value ++ values)
