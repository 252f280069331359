-- Two texts joined by a line feed.
use Rattle.std.specs.Prelude.{◌≡◌, ℕ, false, List, [], ◌∷◌, ◌++◌, Option, None}
use Rattle.rust_lex.specs.Chars.{begins}
use Rattle.rust_lex.specs.Piece.{Piece}
use Rattle.rust_lex.specs.declared.piece.PieceKind.TheVariants.{White}
use Rattle.rust_lex.specs.FileCover.{IsFileCover, is_front_mark}
use Rattle.proc_macro2.specs.FileForest.{IsFileForest}
use Rattle.proc_macro2.specs.Forest.{IsForest}
use Rattle.proc_macro2.specs.Token.{Spanned, plain}

-- a text, a line feed, and another text
abbrev pub joined : List ℕ → List ℕ → List ℕ
joined first second = first ++ 10 ∷ second

-- the piece that a line feed is
abbrev pub feed : Piece
feed = record { kind = White; chars = 10 ∷ [] }

-- The cover of a file, a line feed, and the cover of a text without byte order mark and shebang: they are the cover of
-- the joined texts, with the front of the first.
abbrev pub JoinedCovers : Type 0
JoinedCovers = (first second mark line : List ℕ) (ps qs : List Piece) → IsFileCover first mark line ps
    → IsFileCover second [] [] qs → IsFileCover (joined first second) mark line (ps ++ feed ∷ qs)

-- Where two texts have forests, and the second has no byte order mark, the joined texts have one: of the tokens of the
-- first and then those of the second, spans aside. Each may stand at any position.
abbrev pub JoinedForest : Type 0
JoinedForest = (at behind whole : ℕ) (first second : List ℕ) (ts us : List Spanned) → IsForest at first ts
    → IsForest behind second us → begins is_front_mark second ≡ false
    → (read : List Spanned) × IsForest whole (joined first second) read × (plain read ≡ plain ts ++ plain us)

-- The same of files, of which the second has no shebang either: the shebang of the first is that of the joined texts.
abbrev pub JoinedFileForest : Type 0
JoinedFileForest = (at behind whole : ℕ) (first second : List ℕ) (shebang : Option (List ℕ)) (ts us : List Spanned)
    → IsFileForest at first shebang ts → IsFileForest behind second None us → begins is_front_mark second ≡ false
    → (read : List Spanned) × IsFileForest whole (joined first second) shebang read ×
    (plain read ≡ plain ts ++ plain us)
