-- The forest of a text: the tokens of its cover where its groups match. A text without one has a
-- lexical fault.
use Rattle.std.specs.Prelude.{◌≡◌, ◌≢◌, ℕ, ◌+◌, ◌≤◌, List, [], ◌∷◌, length, map, cond, Option, Some, None}
use Rattle.std.specs.Prelude.{option_and_then, ◌⊎◌}
use Rattle.rust_map.specs.declared.place.LineColumn.{LineColumn}
use Rattle.rust_map.specs.Places.{place_of}
use Rattle.rust_map.specs.Spans.{span_from}
use Rattle.rust_map.specs.declared.span.Span.{Span}
use Rattle.rust_lex.specs.Cover.{onto, Covers, IsCover, NoPieceAt}
use Rattle.rust_lex.specs.Piece.{Piece, closing}
use Rattle.rust_lex.specs.declared.group_marks.GroupMarks.{GroupMarks}
use Rattle.rust_lex.specs.declared.piece.PieceKind.{PieceKind}
use Rattle.rust_lex.specs.declared.piece.PieceKind.TheVariants as piece
use Rattle.proc_macro2.specs.Token.{Delimiter, Opens, Closes, Ident, Literal, Punct, Spanned}
use Rattle.proc_macro2.specs.Groups.{same_delimiter, IsMatched}
use Rattle.proc_macro2.specs.Pieces.{delimiter_of, edged, tokens_of}
use Rattle.proc_macro2.specs.declared.parse.Fault.{Fault}
use Rattle.proc_macro2.specs.declared.parse.Fault.TheVariants as fault
use Rattle.rust_map.specs.declared.fault.LexError.{LexError}
use Rattle.rust_map.specs.declared.fault.LexFault.{LexFault}
use Rattle.rust_map.specs.declared.fault.LexFault.TheVariants.{Lex, MapFull, Memory}

-- the closing token of each group carries the span of its opening one, where groups with these spans
-- are open, the innermost first; and none is open at the end
abbrev pub ArePaired : List Span → List Spanned → Type 0
ArePaired spans [] = spans ≡ []
ArePaired spans (s ∷ ss) = elim s.token [
  | Opens d ↦ ArePaired (s.span ∷ spans) ss
  | Closes d ↦ elim spans [ [] ↦ ⊥ | x ∷ xs ↦ (x ≡ s.span) × ArePaired xs ss ]
  | Ident cs ↦ ArePaired spans ss
  | Literal cs ↦ ArePaired spans ss
  | Punct c spacing ↦ ArePaired spans ss
]

-- the stream of a text whose first character stands at the position base: its tokens are those of the
-- text's cover, where each stands; each group is closed by its own token; and both tokens of a group
-- carry the span from the first character of its opening to the last of its closing one
pub record IsForest (base : ℕ) (text : List ℕ) (stream : List Spanned) : Type 0 where
  pub pieces : List Piece
  pub cover : IsCover text pieces
  pub tokens_are : tokens_of base pieces ≡ map edged stream
  pub matched : IsMatched stream
  pub paired : ArePaired [] stream

-- a group that has been opened: its delimiter, and the number of characters before its opening mark
pub record Opening : Type 0 where
  pub delimiter : Delimiter
  pub at : ℕ

-- behind a closing mark: it closes the innermost group, or nothing
abbrev pub openings_closed : List Opening → Delimiter → Option (List Opening)
openings_closed [] d = None
openings_closed (o ∷ os) d = cond (same_delimiter o.delimiter d) (Some os) None

-- the groups that are open behind one more piece, which n characters precede, the innermost first;
-- none where it closes nothing
abbrev pub open_behind : List Opening → PieceKind → ℕ → Option (List Opening)
open_behind os (piece.Open d) n = Some (record { delimiter = delimiter_of d; at = n } ∷ os)
open_behind os (piece.Close d) n = openings_closed os (delimiter_of d)
open_behind os piece.FrontMark n = Some os
open_behind os piece.White n = Some os
open_behind os piece.Comment n = Some os
open_behind os (piece.Doc kind) n = Some os
open_behind os piece.Mark n = Some os
open_behind os piece.Ident n = Some os
open_behind os (piece.Literal kind) n = Some os

-- and behind all of some pieces
abbrev pub openings : List Opening → ℕ → List Piece → Option (List Opening)
openings os n [] = Some os
openings os n (p ∷ ps) = option_and_then (λ qs. openings qs (n + length p.chars) ps) (open_behind os p.kind n)

-- the number of characters of pieces
abbrev pub count : List Piece → ℕ
count pieces = length (onto pieces [])

-- pieces cover the text up to a rest, before which these groups are open
pub record Reaches (text : List ℕ) (pieces : List Piece) (rest : List ℕ) (groups : List Opening) : Type 0 where
  pub covers : Covers text pieces rest
  pub opened : openings [] 0 pieces ≡ Some groups

-- no piece begins behind so many characters, where the text doesn't end
pub record IsStray (text : List ℕ) (n : ℕ) : Type 0 where
  pub pieces : List Piece
  pub rest : List ℕ
  pub groups : List Opening
  pub reaches : Reaches text pieces rest groups
  pub more : rest ≢ []
  pub none : NoPieceAt (count pieces) rest
  pub there : n ≡ count pieces

-- a closing mark that closes nothing stands behind so many characters
pub record IsUnmatched (text : List ℕ) (n : ℕ) : Type 0 where
  pub pieces : List Piece
  pub rest : List ℕ
  pub groups : List Opening
  pub delimiter : GroupMarks
  pub reaches : Reaches text pieces (closing delimiter ∷ rest) groups
  pub wrong : openings_closed groups (delimiter_of delimiter) ≡ None
  pub there : n ≡ count pieces

-- the text ends, and the innermost of its open groups was opened behind so many characters
pub record IsUnclosed (text : List ℕ) (n : ℕ) : Type 0 where
  pub pieces : List Piece
  pub innermost : Opening
  pub others : List Opening
  pub reaches : Reaches text pieces [] (innermost ∷ others)
  pub there : n ≡ innermost.at

-- behind its first n characters the text has its lexical fault
abbrev pub IsFaultBehind : List ℕ → ℕ → Type 0
IsFaultBehind text n = IsStray text n ⊎ IsUnmatched text n ⊎ IsUnclosed text n

-- what a lexer says of a text without trees: where its fault is, within it
abbrev pub IsFaultWithin : List ℕ → Fault → Type 0
IsFaultWithin text (fault.Behind n) = IsFaultBehind text n × (n ≤ length text)
IsFaultWithin text fault.Memory = Unit {0}

-- the text has its lexical fault there
abbrev pub IsLexicalFault : List ℕ → LineColumn → Type 0
IsLexicalFault text place = (n : ℕ) × IsFaultBehind text n × (place ≡ place_of text n)

-- an error says where the fault is: at a place of the text, and as the empty span at a position, where
-- the text's first character stands at the position base
pub record IsErrorOf (base : ℕ) (text : List ℕ) (error : LexError) : Type 0 where
  pub behind : ℕ
  pub fault : IsFaultBehind text behind
  pub place_is : error.place ≡ place_of text behind
  pub span_is : error.span ≡ span_from (base + behind) (base + behind)

-- what a refusal says of the text
abbrev pub IsFault : ℕ → List ℕ → LexFault → Type 0
IsFault base text (Lex error) = IsErrorOf base text error
IsFault base text MapFull = Unit {0}
IsFault base text Memory = Unit {0}
