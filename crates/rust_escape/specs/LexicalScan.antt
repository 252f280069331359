-- Which unit a text begins with to the lexer: a tool of the proofs.
use Rattle.std.specs.Prelude.{ℕ, Bool, ◌&&◌, ◌||◌, ◌==◌, not, nat_le, List, [], ◌∷◌, Option, Some, None, if◌then◌else◌}
use Rattle.rust_escape.specs.Chars.{begins, is_blank, is_line_feed}
use Rattle.rust_escape.specs.Mode.{Mode, in_double_quotes, is_raw}
use Rattle.rust_escape.specs.Scan.{Scanned, Malformed, Reads, escape}
use Rattle.rust_escape.specs.Unit.{Lexical, is_plain, return_value}
use Rattle.rust_escape.specs.Value.{Character}

-- behind spaces, tabs and line ends, if each carriage return stands before a line feed
unfoldable pub past_lines : List ℕ → Option (List ℕ)
past_lines [] = Some []
past_lines (c ∷ cs) = if c == 13 then (if begins is_line_feed cs then past_lines cs else None)
    else (if is_blank c then past_lines cs else Some (c ∷ cs))

abbrev pub skipped : Option (List ℕ) → Scanned
skipped None = Malformed
skipped (Some cs) = Reads None cs

abbrev pub begins_line_end : List ℕ → Bool
begins_line_end cs = begins is_line_feed cs || begins (λ c. c == 13) cs

-- behind a backslash
unfoldable pub lexical_slash : Mode → List ℕ → Scanned
lexical_slash mode cs = if in_double_quotes mode && begins_line_end cs then skipped (past_lines cs) else escape mode cs

-- stands for itself in every literal: ASCII from the space to ~, but for " and \
abbrev pub is_common : ℕ → Bool
is_common c = (nat_le 32 c && nat_le c 126) && (not (c == 34) && not (c == 92))

-- one character
abbrev pub lexical_one : Mode → ℕ → List ℕ → Scanned
lexical_one mode c cs = if is_plain Lexical mode c then Reads (Some (Character c)) cs
    else (if c == 13 && (in_double_quotes mode && begins is_line_feed cs) then Reads (return_value mode) cs else
    Malformed)

-- a unit
unfoldable pub lexical_scan : Mode → List ℕ → Scanned
lexical_scan mode [] = Malformed
lexical_scan mode (c ∷ cs) = if c == 92 && not (is_raw mode) then lexical_slash mode cs else lexical_one mode c cs
