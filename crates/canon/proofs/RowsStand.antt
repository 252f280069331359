-- The name of each row of an outline stands in the text at the row's place.
use Rattle.std.proofs.Common.{◌≡◌, ℕ, List, [], ◌∷◌, sym, ap, ◌∙◌, subst}
use Rattle.std.specs.Prelude.{Option, Some, None}
use Rattle.rust_leaf.specs.Leaf.{text_of}
use Rattle.rust_map.specs.declared.place.LineColumn.{LineColumn}
use Rattle.proc_macro2.specs.Token.{Spanned}
use Rattle.syn_grammar.specs.Names.{Name, names}
use Rattle.laws_programs.specs.Faults.{token_place}
use Rattle.laws_programs.specs.Stands.{AllStandIn, NameStands, StandsAt}
use Rattle.laws_programs.proofs.Standing.{names_stand}
use Rattle.canon.specs.Outline.{IsOutline, Line, RowsStand, line_for, line_of, lines_for, lines_of}
use Rattle.canon.specs.declared.outlines.Row.{Row}

-- the first of some lines, and the others
abbrev first_of : Line → List Line → Line
first_of line [] = line
first_of line (l ∷ ls) = l

abbrev others_of : List Line → List Line
others_of [] = []
others_of (l ∷ ls) = ls

abbrev place_or : LineColumn → Option LineColumn → LineColumn
place_or p None = p
place_or p (Some q) = q

-- where tokens of a text begin
abbrev places : List ℕ → List Spanned → ℕ → Option LineColumn
places text tokens index = token_place text tokens (Some index)

row_stands : (text : List ℕ) (tokens : List Spanned) (row : Row) (name : Name)
    → line_of row ≡ line_for (places text tokens) name → NameStands text tokens name
    → StandsAt text (text_of row.name) row.place
row_stands text tokens row name e s =
    let p : row.place ≡ s.place =
    ap (place_or row.place) (ap (λ (l : Line). l.place) e ∙ s.begins) in
    subst (λ cs. StandsAt text cs row.place) (sym (ap (λ (l : Line). l.name) e))
    (subst (StandsAt text name.text) (sym p) s.stands)

each_stands : (text : List ℕ) (tokens : List Spanned) (rows : List Row) (ns : List Name)
    → lines_of rows ≡ lines_for (places text tokens) ns → AllStandIn text tokens ns → RowsStand text rows
each_stands text tokens [] ns e s = tt
each_stands text tokens (row ∷ rows) [] e s = cc e
each_stands text tokens (row ∷ rows) (n ∷ ns) e s = (
  row_stands text tokens row n (ap (first_of (line_of row)) e) s.0,
  each_stands text tokens rows ns (ap others_of e) s.1,
)

pub rows_stand : (text : List ℕ) (rows : List Row) → IsOutline text rows → RowsStand text rows
rows_stand text rows o =
    each_stands text o.is_program.tokens rows (names o.program.tree) o.are
    (names_stand text o.program o.is_program)
