-- Where a literal in quotes ends: a tool of the proofs, drawn from the scan of a unit.
use Rattle.std.specs.Prelude.{ℕ, zero, suc, ◌+◌, ◌-◌, ◌&&◌, ◌||◌, ◌==◌, nat_le, Bool, List, [], ◌∷◌, length, Option}
use Rattle.std.specs.Prelude.{Some, None, if◌then◌else◌}
use Rattle.rust_escape.specs.declared.mode.Mode.{Mode}
use Rattle.rust_escape.specs.declared.mode.Mode.TheVariants as modes
use Rattle.rust_escape.specs.LexicalScan.{lexical_scan}
use Rattle.rust_escape.specs.Scan.{Scanned, Malformed, Reads}
use Rattle.rust_escape.specs.Unit.{Lexical, is_plain}
use Rattle.rust_lex.specs.Chars.{begins, is_line_feed}
use Rattle.rust_lex.specs.Ends.{past_one}

abbrev pub behind : Scanned → Option (List ℕ)
behind Malformed = None
behind (Reads value rest) = Some rest

-- behind one unit
unfoldable pub past_unit : Mode → List ℕ → Option (List ℕ)
past_unit mode cs = behind (lexical_scan mode cs)

-- behind the closing quote of a character or a byte
unfoldable pub past_char : Mode → List ℕ → Option (List ℕ)
past_char mode cs = elim (past_unit mode cs) [ None ↦ None | Some rest ↦ past_one 39 rest ]

-- behind the closing quote of a string, the first n characters being of one unit
unfoldable pub past_units : Mode → ℕ → List ℕ → Option (List ℕ)
past_units mode n [] = None
past_units mode zero (c ∷ cs) =
    if c == 34 then Some cs else
    (elim (past_unit mode (c ∷ cs)) [ None ↦ None | Some rest ↦ past_units mode (length cs - length rest) cs ])
past_units mode (suc n) (c ∷ cs) = past_units mode n cs

-- behind n #
abbrev pub past_marks : ℕ → List ℕ → Option (List ℕ)
past_marks zero cs = Some cs
past_marks (suc n) [] = None
past_marks (suc n) (c ∷ cs) = if c == 35 then past_marks n cs else None

-- behind the quote and the n # that close a raw string
abbrev pub past_close : ℕ → List ℕ → Option (List ℕ)
past_close n [] = None
past_close n (c ∷ cs) = if c == 34 then past_marks n cs else None

-- a character is a unit of a raw string
abbrev pub stands : Mode → ℕ → List ℕ → Bool
stands mode c cs = is_plain Lexical mode c || (c == 13 && begins is_line_feed cs)

-- behind the first quote that n # follow, before which units stand
unfoldable pub past_raw : Mode → ℕ → List ℕ → Option (List ℕ)
past_raw mode n [] = None
past_raw mode n (c ∷ cs) = elim (past_close n (c ∷ cs)) [
  | Some rest ↦ Some rest
  | None ↦ if stands mode c cs then past_raw mode n cs else None
]

-- behind a raw string, n # of whose front have been read
unfoldable pub past_hashes : Mode → ℕ → List ℕ → Option (List ℕ)
past_hashes mode n [] = None
past_hashes mode n (c ∷ cs) =
    if c == 35 then past_hashes mode (n + 1) cs else (if c == 34 && nat_le n 255 then past_raw mode n cs else None)

-- behind what follows an opening
abbrev pub past_tail : Mode → List ℕ → Option (List ℕ)
past_tail modes.Char cs = past_char modes.Char cs
past_tail modes.Byte cs = past_char modes.Byte cs
past_tail modes.Str cs = past_units modes.Str 0 cs
past_tail modes.ByteStr cs = past_units modes.ByteStr 0 cs
past_tail modes.CStr cs = past_units modes.CStr 0 cs
past_tail modes.RawStr cs = past_hashes modes.RawStr 0 cs
past_tail modes.RawByteStr cs = past_hashes modes.RawByteStr 0 cs
past_tail modes.RawCStr cs = past_hashes modes.RawCStr 0 cs
