-- A file as its front, and pieces that join to what stands behind that.
use Rattle.std.specs.Prelude.{◌≡◌, ℕ, false, ◌==◌, List, [], ◌∷◌, ◌++◌, ◌⊎◌, ◌↔◌, Bool}
use Rattle.rust_lex.specs.Chars.{begins}
use Rattle.rust_lex.specs.Piece.{FrontMark, Piece}
use Rattle.rust_lex.specs.Cover.{onto, AreFit, IsCover}
use Rattle.rust_lex.specs.Shebang.{IsShebang, begins_shebang}

-- the byte order mark
abbrev pub is_front_mark : ℕ → Bool
is_front_mark c = c == 65279

-- What stands in front of a file: its byte order mark, or nothing where it begins with none; and a shebang, or nothing
-- where none fits.
pub record FileFront (text mark line rest : List ℕ) : Type 0 where
  pub joined : text ≡ mark ++ (line ++ rest)
  pub marked : (mark ≡ 65279 ∷ []) ⊎ (mark ≡ []) × (begins is_front_mark text ≡ false)
  pub lined : IsShebang line rest ⊎ (line ≡ []) × (begins_shebang rest ≡ false)

-- The cover of a file: its front, and pieces that cover what stands behind that.
pub record IsFileCover (text mark line : List ℕ) (pieces : List Piece) : Type 0 where
  pub front : FileFront text mark line (onto pieces [])
  pub fit : AreFit pieces []

-- the byte order mark, or its absence, as pieces
abbrev pub mark_pieces : List ℕ → List Piece
mark_pieces [] = []
mark_pieces (c ∷ cs) = record { kind = FrontMark; chars = c ∷ cs } ∷ []

-- Where no shebang stands in front of a text, its cover as a file is its cover: the byte order mark, and the pieces.
abbrev pub CoverWithoutShebang : Type 0
CoverWithoutShebang = (text mark rest : List ℕ) → FileFront text mark [] rest → (pieces : List Piece)
    → IsFileCover text mark [] pieces ↔ IsCover text (mark_pieces mark ++ pieces)
