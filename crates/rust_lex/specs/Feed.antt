-- What may be followed by a line feed.
use Rattle.std.specs.Prelude.{ℕ, List, [], ◌∷◌}
use Rattle.rust_lex.specs.Piece.{Piece}
use Rattle.rust_lex.specs.Cover.{AreFit}

-- Pieces that fit before the end of a text fit before a line feed too, whatever follows that.
abbrev pub FitBeforeFeed : Type 0
FitBeforeFeed = (pieces : List Piece) (more : List ℕ) → AreFit pieces [] → AreFit pieces (10 ∷ more)
