-- Numbers. Each part of one goes on as far as it can, so a number is what stands before the text behind it.
use Rattle.std.specs.Prelude.{◌≡◌, ℕ, Bool, true, false, ◌&&◌, ◌||◌, ◌==◌, not, nat_lt, List, [], ◌∷◌, ◌++◌, drop}
use Rattle.std.specs.Prelude.{Option, Some, None, if◌then◌else◌}
use Rattle.std.specs.Char.{digit_value}
use Rattle.rust_lex.specs.Chars.{is_first, is_digit, begins, is_underscore, past}
use Rattle.rust_lex.specs.Quoted.{LiteralKind, Int, Float}

abbrev pub is_digit_or_line : ℕ → Bool
is_digit_or_line c = is_digit c || c == 95

abbrev pub is_digit_of : ℕ → ℕ → Bool
is_digit_of base c = nat_lt (digit_value c) base

abbrev pub is_digit_of_or_line : ℕ → ℕ → Bool
is_digit_of_or_line base c = is_digit_of base c || c == 95

abbrev pub is_dot_or_first : ℕ → Bool
is_dot_or_first c = c == 46 || is_first c

-- e E
abbrev pub is_exponent_letter : ℕ → Bool
is_exponent_letter c = c == 101 || c == 69

abbrev pub is_sign : ℕ → Bool
is_sign c = c == 43 || c == 45

-- a dot that isn't followed by a dot or an identifier's beginning
abbrev pub begins_fraction : List ℕ → Bool
begins_fraction [] = false
begins_fraction (c ∷ cs) = c == 46 && not (begins is_dot_or_first cs)

-- behind the dot of a fraction and the digits and underscores that follow, if one stands there
abbrev pub past_fraction : List ℕ → List ℕ
past_fraction cs = if begins_fraction cs then past is_digit_or_line (drop 1 cs) else cs

-- behind at most one sign
abbrev pub past_sign : List ℕ → List ℕ
past_sign cs = if begins is_sign cs then drop 1 cs else cs

-- behind what may stand between the e of an exponent and its first digit: underscores, at most one sign, underscores
abbrev pub past_lead : List ℕ → List ℕ
past_lead cs = past is_underscore (past_sign (past is_underscore cs))

-- an exponent: e or E, and then a digit
abbrev pub begins_exponent : List ℕ → Bool
begins_exponent [] = false
begins_exponent (c ∷ cs) = is_exponent_letter c && begins is_digit (past_lead cs)

-- behind an exponent with all its digits and underscores, if one stands there
abbrev pub past_exponent : List ℕ → List ℕ
past_exponent cs = if begins_exponent cs then past is_digit_or_line (past_lead (drop 1 cs)) else cs

-- behind a number without a prefix: digits and underscores, a fraction, an exponent
abbrev pub past_decimal : List ℕ → List ℕ
past_decimal cs = past_exponent (past_fraction (past is_digit_or_line cs))

-- behind the digits of an integer whose prefix has been read: at least one, and underscores; none where
-- a decimal digit follows that is too large
abbrev pub past_based : ℕ → List ℕ → Option (List ℕ)
past_based base cs =
    if begins (is_digit_of base) (past is_underscore cs) && not (begins is_digit (past (is_digit_of_or_line base) cs))
    then Some (past (is_digit_of_or_line base) cs) else None

-- 0x 0o 0b: the base of the prefix, and 0 without one
abbrev pub base_by : ℕ → ℕ → ℕ
base_by c d = if c == 48 then (if d == 120 then 16 else (if d == 111 then 8 else (if d == 98 then 2 else 0))) else 0

abbrev pub base_of : List ℕ → ℕ
base_of [] = 0
base_of (c ∷ []) = 0
base_of (c ∷ d ∷ cs) = base_by c d

-- behind a number, whose first character is a digit
unfoldable pub past_number : List ℕ → Option (List ℕ)
past_number cs = if base_of cs == 0 then Some (past_decimal cs) else past_based (base_of cs) (drop 2 cs)

-- a number has a fraction or an exponent
abbrev pub is_split : List ℕ → Bool
is_split cs = begins_fraction (past is_digit_or_line cs) || begins_exponent (past is_digit_or_line cs)

-- which makes it a float
abbrev pub decimal_kind : List ℕ → LiteralKind
decimal_kind cs = if is_split cs then Float else Int

unfoldable pub number_kind : List ℕ → LiteralKind
number_kind cs = if base_of cs == 0 then decimal_kind cs else Int

-- a number before a rest
abbrev pub IsNumber : LiteralKind → List ℕ → List ℕ → Type 0
IsNumber kind cs rest = (begins is_digit cs ≡ true) × (past_number (cs ++ rest) ≡ Some rest) ×
    (kind ≡ number_kind (cs ++ rest))
