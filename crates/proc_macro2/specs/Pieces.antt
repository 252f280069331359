-- The tokens of pieces, and where they stand. A text's characters stand at positions one behind the
-- other: a piece at a position, of so many characters, spans these.
use Rattle.std.specs.Prelude.{◌≡◌, ℕ, ◌+◌, ◌-◌, Bool, true, false, ◌||◌, ◌==◌, cond, List, [], ◌∷◌, ◌++◌, length}
use Rattle.std.specs.Prelude.{take, drop, map, codes}
use Rattle.rust_map.specs.Spans.{span_from, first_of, last_of}
use Rattle.rust_map.specs.declared.span.Span.{Span}
use Rattle.rust_leaf.specs.Escaped.{string_text}
use Rattle.rust_lex.specs.Piece.{Piece}
use Rattle.rust_lex.specs.declared.group_marks.GroupMarks.{GroupMarks}
use Rattle.rust_lex.specs.declared.group_marks.GroupMarks.TheVariants as lex
use Rattle.rust_lex.specs.declared.piece.DocKind.{DocKind}
use Rattle.rust_lex.specs.declared.piece.DocKind.TheVariants as doc
use Rattle.rust_lex.specs.declared.piece.LiteralKind.{LiteralKind}
use Rattle.rust_lex.specs.declared.piece.LiteralKind.TheVariants as literal
use Rattle.rust_lex.specs.declared.piece.PieceKind.{PieceKind}
use Rattle.rust_lex.specs.declared.piece.PieceKind.TheVariants as piece
use Rattle.proc_macro2.specs.declared.delimiter.Delimiter.TheVariants as delimiter
use Rattle.proc_macro2.specs.Token.{Delimiter, Token, Opens, Closes, Ident, Literal, Punct, Spacing, Alone, Joint}
use Rattle.proc_macro2.specs.Token.{Spanned}
use Rattle.proc_macro2.specs.Flat.{spanned}

-- what a pair of marks encloses a group as
abbrev pub delimiter_of : GroupMarks → Delimiter
delimiter_of lex.Parenthesis = delimiter.Parenthesis
delimiter_of lex.Brace = delimiter.Brace
delimiter_of lex.Bracket = delimiter.Bracket

abbrev pub spacing_of : Bool → Spacing
spacing_of joint = cond joint Joint Alone

abbrev pub head : List ℕ → ℕ
head [] = 0
head (c ∷ cs) = c

-- /** /*!
abbrev pub is_block : DocKind → Bool
is_block doc.OuterLine = false
is_block doc.InnerLine = false
is_block doc.OuterBlock = true
is_block doc.InnerBlock = true

-- characters that end with */
abbrev pub IsClosedDoc : List ℕ → Type 0
IsClosedDoc cs = (front : List ℕ) × (cs ≡ front ++ 42 ∷ 47 ∷ [])

-- the text of a doc: what follows its three opening characters, without the closing */ of a block
abbrev pub doc_text : DocKind → List ℕ → List ℕ
doc_text kind cs = cond (is_block kind) (take (length cs - 5) (drop 3 cs)) (drop 3 cs)

-- //! /*!
abbrev pub is_inner : DocKind → Bool
is_inner doc.OuterLine = false
is_inner doc.InnerLine = true
is_inner doc.OuterBlock = false
is_inner doc.InnerBlock = true

-- # and for an inner doc !
abbrev pub doc_marks : DocKind → List Token
doc_marks kind = cond (is_inner kind) (Punct 35 Alone ∷ Punct 33 Alone ∷ []) (Punct 35 Alone ∷ [])

-- [doc = "text"]
abbrev pub doc_group : List ℕ → List Token
doc_group text = Opens delimiter.Bracket ∷ Ident (codes "doc") ∷ Punct 61 Alone ∷ Literal (string_text text) ∷ Closes
    delimiter.Bracket ∷ []

-- a character literal
abbrev pub is_char : LiteralKind → Bool
is_char literal.Char = true
is_char literal.Str = false
is_char literal.ByteStr = false
is_char literal.CStr = false
is_char literal.Byte = false
is_char literal.Int = false
is_char literal.Float = false

-- a piece to which a mark that stands directly before it is joint: another mark, or a character literal
abbrev pub joins : PieceKind → Bool
joins piece.FrontMark = false
joins piece.White = false
joins piece.Comment = false
joins (piece.Doc kind) = false
joins (piece.Open d) = false
joins (piece.Close d) = false
joins piece.Mark = true
joins piece.Ident = false
joins (piece.Literal kind) = is_char kind

-- the first of the pieces is one
abbrev pub is_joined : List Piece → Bool
is_joined [] = false
is_joined (p ∷ ps) = joins p.kind

-- the spacing of a mark by the pieces that follow it: ' is always joint
abbrev pub mark_spacing : ℕ → List Piece → Spacing
mark_spacing c ps = spacing_of (c == 39 || is_joined ps)

-- the tokens of a piece of a class, a mark having this spacing. A gap and the front mark have none, a doc
-- is the attribute that it stands for, and any other piece is one token
abbrev pub piece_tokens : PieceKind → List ℕ → Spacing → List Token
piece_tokens piece.FrontMark cs spacing = []
piece_tokens piece.White cs spacing = []
piece_tokens piece.Comment cs spacing = []
piece_tokens (piece.Doc kind) cs spacing = doc_marks kind ++ doc_group (doc_text kind cs)
piece_tokens (piece.Open d) cs spacing = Opens (delimiter_of d) ∷ []
piece_tokens (piece.Close d) cs spacing = Closes (delimiter_of d) ∷ []
piece_tokens piece.Mark cs spacing = Punct (head cs) spacing ∷ []
piece_tokens piece.Ident cs spacing = Ident cs ∷ []
piece_tokens (piece.Literal kind) cs spacing = Literal cs ∷ []

-- where a token itself stands: in a stream each of a group's two tokens carries the group's whole span,
-- of which the opening one is the first character and the closing one the last
abbrev pub edge : Token → Span → Span
edge (Opens d) span = first_of span
edge (Closes d) span = last_of span
edge (Ident cs) span = span
edge (Literal cs) span = span
edge (Punct c spacing) span = span

abbrev pub edged : Spanned → Spanned
edged s = spanned s.token (edge s.token s.span)

-- tokens of which each carries the span, and where these stand
abbrev pub all_at : Span → List Token → List Spanned
all_at span ts = map (λ t. spanned t span) ts

abbrev pub edged_at : Span → List Token → List Spanned
edged_at span ts = map edged (all_at span ts)

-- the span of so many characters at a position
abbrev pub span_at : ℕ → ℕ → Span
span_at position count = span_from position (position + count)

-- the tokens of pieces that stand one behind the other from a position on, up to a text's end
abbrev pub tokens_of : ℕ → List Piece → List Spanned
tokens_of position [] = []
tokens_of position (p ∷ ps) =
    edged_at (span_at position (length p.chars)) (piece_tokens p.kind p.chars (mark_spacing (head p.chars) ps))
    ++ tokens_of (position + length p.chars) ps
