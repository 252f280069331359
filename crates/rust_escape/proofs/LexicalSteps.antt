-- What the search for a unit of the lexer does at each character.
use Rattle.std.proofs.Common.{◌≡◌, ℕ, ◌≤◌, List, [], ◌∷◌, refl}
use Rattle.std.specs.Prelude.{true, false, ◌&&◌, ◌==◌, Some, None, not}
use Rattle.std.proofs.lemmas.Bool.{ne_eqb, eq-eqb, cond-true, cond-false}
use Rattle.rust_escape.specs.Chars.{begins, is_blank, is_line_feed}
use Rattle.rust_escape.specs.Mode.{Mode, in_double_quotes, is_raw}
use Rattle.rust_escape.specs.Places.{rest_at, IsPlace}
use Rattle.rust_escape.specs.Scan.{escape}
use Rattle.rust_escape.specs.LexicalScan.{past_lines, skipped, begins_line_end, lexical_slash, lexical_one}
use Rattle.rust_escape.specs.LexicalScan.{lexical_scan}
use Rattle.rust_escape.proofs.LexicalUnits.{lines_blank, lines_other}
use Rattle.rust_escape.proofs.PlacesLemmas.{rest_end}

pub lines_none : past_lines [] ≡ Some []
unfolding past_lines
lines_none = refl

pub lines_return : (c : ℕ) (cs : List ℕ) → c ≡ 13 → begins is_line_feed cs ≡ true → past_lines (c ∷ cs) ≡ past_lines cs
unfolding past_lines
lines_return c cs e h = rw (e, h) refl

pub lines_lone : (c : ℕ) (cs : List ℕ) → c ≡ 13 → begins is_line_feed cs ≡ false → past_lines (c ∷ cs) ≡ None
unfolding past_lines
lines_lone c cs e h = rw (e, h) refl

pub lines_pass : (c : ℕ) (cs : List ℕ) → (c ≡ 13 → ⊥) → is_blank c ≡ true → past_lines (c ∷ cs) ≡ past_lines cs
lines_pass c cs n h = lines_blank c cs (ne_eqb c 13 n) h

pub lines_stop : (c : ℕ) (cs : List ℕ) → is_blank c ≡ false → past_lines (c ∷ cs) ≡ Some (c ∷ cs)
lines_stop c cs h = lines_other c cs h

pub ruleset lines = (rest_end, lines_none, lines_return, lines_lone, lines_pass, lines_stop)

-- the line ends from the place on end where those from the start on do
pub record PassesLines (bytes : List ℕ) (start at : ℕ) : Type 0 where
  pub same : past_lines (rest_at bytes at) ≡ past_lines (rest_at bytes start)
  pub place : IsPlace bytes at
  pub on : start ≤ at

pub slash_lines : (mode : Mode) (cs : List ℕ) → in_double_quotes mode ≡ true → begins_line_end cs ≡ true
    → lexical_slash mode cs ≡ skipped (past_lines cs)
unfolding lexical_slash
slash_lines mode cs q h = rw (q, h) refl

pub slash_alone : (mode : Mode) (cs : List ℕ) → in_double_quotes mode ≡ false → lexical_slash mode cs ≡ escape mode cs
unfolding lexical_slash
slash_alone mode cs q = rw q refl

pub slash_escape : (mode : Mode) (cs : List ℕ) → begins_line_end cs ≡ false → lexical_slash mode cs ≡ escape mode cs
unfolding lexical_slash
slash_escape mode cs h = rw (Rattle.std.proofs.lemmas.Bool.and_right (in_double_quotes mode) (begins_line_end cs) h)
    refl

pub ruleset slashes = (slash_lines, slash_alone, slash_escape)

pub scan_slash : (mode : Mode) (c : ℕ) (cs : List ℕ) → (c == 92 && not (is_raw mode)) ≡ true
    → lexical_scan mode (c ∷ cs) ≡ lexical_slash mode cs
unfolding lexical_scan
scan_slash mode c cs h = rw h refl

pub scan_one : (mode : Mode) (c : ℕ) (cs : List ℕ) → (c == 92 && not (is_raw mode)) ≡ false → lexical_scan mode (c ∷ cs)
    ≡ lexical_one mode c cs
unfolding lexical_scan
scan_one mode c cs h = rw h refl
