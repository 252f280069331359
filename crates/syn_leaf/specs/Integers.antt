-- The numbers that integer literals write.
use Rattle.std.specs.Prelude.{ℕ, ◌+◌, ◌*◌, ◌==◌, List, [], ◌∷◌, drop, if◌then◌else◌}
use Rattle.std.specs.Char.{digit_value}
use Rattle.rust_lex.specs.Chars.{past}
use Rattle.rust_lex.specs.Number.{base_of, is_digit_of, is_digit_of_or_line}

-- the base: 16, 8 or 2 behind 0x, 0o or 0b, else 10
abbrev pub int_base : List ℕ → ℕ
int_base cs = if base_of cs == 0 then 10 else base_of cs

-- the digits, and what follows them: what stands behind the prefix, if there is one
abbrev pub int_digits : List ℕ → List ℕ
int_digits cs = if base_of cs == 0 then cs else drop 2 cs

-- the number that further digits make of one, up to what is no digit; an underscore between digits says nothing
abbrev pub number_from : ℕ → ℕ → List ℕ → ℕ
number_from base n [] = n
number_from base n (c ∷ cs) =
    if c == 95 then number_from base n cs
    else (if is_digit_of base c then number_from base (n * base + digit_value c) cs else n)

-- the number that the digits of an integer literal write in their base; its suffix says nothing
unfoldable pub int_value : List ℕ → ℕ
int_value cs = number_from (int_base cs) 0 (int_digits cs)

-- its suffix, or nothing: what stands behind its digits and underscores
unfoldable pub int_suffix : List ℕ → List ℕ
int_suffix cs = past (is_digit_of_or_line (int_base cs)) (int_digits cs)
