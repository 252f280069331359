-- Where the tokens of a file stand, wherever the file's characters do.
use Rattle.std.proofs.Common.{◌≡◌, ℕ, ◌+◌, ◌≤◌, List, [], ◌∷◌, length, map, ap, ◌∙◌, subst, arith}
use Rattle.std.specs.Prelude.{Option, Some, None}
use Rattle.rust_lex.specs.Piece.{Piece}
use Rattle.rust_lex.proofs.OneCover.{one_cover}
use Rattle.proc_macro2.specs.FileForest.{IsFileForest}
use Rattle.proc_macro2.specs.Forest.{IsForest}
use Rattle.proc_macro2.specs.Token.{Spanned}
use Rattle.proc_macro2.specs.Pieces.{edged}
use Rattle.proc_macro2.proofs.Followed.{tokens_onto, forest_tokens}
use Rattle.proc_macro2.proofs.Lies.{AllLie, forest_lies}
use Rattle.proc_macro2.proofs.Shebangs.{one_shebang, shebang_length}
use Rattle.canon.proofs.Places.{AreBehind, tokens_behind}

-- the tokens of a text begin as far behind those of other positions as its characters do
forest_behind : (base a b : ℕ) (text : List ℕ) (ss ts : List Spanned) → a ≡ base + b → IsForest a text ss
    → IsForest b text ts → AreBehind base (map edged ss) (map edged ts)
forest_behind base a b text ss ts e f g =
    let same : f.pieces ≡ g.pieces = one_cover text f.pieces g.pieces f.cover g.cover in
    let behind : AreBehind base (tokens_onto a f.pieces [])
    (tokens_onto b f.pieces []) = tokens_behind base a b f.pieces [] e in
    let first : AreBehind base (map edged ss) (tokens_onto b f.pieces []) = subst
    (λ xs. AreBehind base xs (tokens_onto b f.pieces [])) (forest_tokens a text ss f) behind in
    subst (λ ys. AreBehind base (map edged ss) ys) (ap (λ (ps : List Piece). tokens_onto b ps []) same
    ∙ forest_tokens b text ts g) first

-- and those of a file behind those of positions from 0 on
pub file_behind : (base : ℕ) (text : List ℕ) (s : Option (List ℕ)) (ss ts : List Spanned) → IsFileForest base text s ss
    → IsFileForest 0 text s ts → AreBehind base (map edged ss) (map edged ts)
file_behind base text None ss ts (none, f) (other, g) = forest_behind base base 0 text ss ts (omega arith) f g
file_behind base text (Some line) ss ts f g =
    let (lines, rests, counts) =
    one_shebang text line line f.rest g.rest f.count g.count f.shebang g.shebang in
    forest_behind base (base + f.count) (0 + g.count) g.rest ss ts (omega (arith, counts))
    (subst (λ cs. IsForest (base + f.count) cs ss) rests f.forest) g.forest

-- they lie where its characters do
wider : (low high below above : ℕ) (ss : List Spanned) → below ≤ low → high ≤ above → AllLie low high ss
    → AllLie below above ss
wider low high below above [] l h a = tt
wider low high below above (s ∷ ss) l h a = (
  record {
    starts = omega (arith, a.0.starts, l);
    ordered = a.0.ordered;
    ends = omega (arith, a.0.ends, h);
  },
  wider low high below above ss l h a.1,
)

pub file_lies : (base : ℕ) (text : List ℕ) (s : Option (List ℕ)) (ss : List Spanned) → IsFileForest base text s ss
    → AllLie base (base + length text) (map edged ss)
file_lies base text None ss (none, f) = forest_lies base text ss f
file_lies base text (Some line) ss f =
    wider (base + f.count) (base + f.count + length f.rest) base (base + length text) (map edged ss) (omega arith)
    (omega (arith, shebang_length text line f.rest f.count f.shebang)) (forest_lies (base + f.count) f.rest ss f.forest)
