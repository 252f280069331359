-- A text as a list of pieces that join to it.
use Rattle.std.specs.Prelude.{◌≡◌, ℕ, List, [], ◌∷◌, ◌++◌}
use Rattle.rust_lex.specs.Piece.{PieceKind, Piece, Fits, FitsFront, FitsAt}

-- the pieces one behind the other, and then the rest
abbrev pub onto : List Piece → List ℕ → List ℕ
onto [] rest = rest
onto (p ∷ ps) rest = p.chars ++ onto ps rest

-- each piece is of its class before what follows it
abbrev pub AreFit : List Piece → List ℕ → Type 0
AreFit [] rest = Unit {0}
AreFit (p ∷ ps) rest = Fits p.kind p.chars (onto ps rest) × AreFit ps rest

-- the same from the front of a text on, where a front mark may stand
abbrev pub AreFitFront : List Piece → List ℕ → Type 0
AreFitFront [] rest = Unit {0}
AreFitFront (p ∷ ps) rest = FitsFront p.kind p.chars (onto ps rest) × AreFit ps rest

-- the pieces cover a text up to a rest
pub record Covers (text : List ℕ) (pieces : List Piece) (rest : List ℕ) : Type 0 where
  pub joined : text ≡ onto pieces rest
  pub fit : AreFitFront pieces rest

-- the pieces cover the whole text
abbrev pub IsCover : List ℕ → List Piece → Type 0
IsCover text pieces = Covers text pieces []

-- no piece begins a text within another
abbrev pub NoPiece : List ℕ → Type 0
NoPiece text = (kind : PieceKind) (cs rest : List ℕ) → text ≡ cs ++ rest → Fits kind cs rest → ⊥

-- no piece begins a text that stands behind some number of characters or bytes
abbrev pub NoPieceAt : ℕ → List ℕ → Type 0
NoPieceAt at text = (kind : PieceKind) (cs rest : List ℕ) → text ≡ cs ++ rest → FitsAt at kind cs rest → ⊥
