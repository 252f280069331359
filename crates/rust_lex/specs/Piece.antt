-- The pieces of a text. Each class is a set of texts, with a condition on what follows.
use Rattle.std.specs.Prelude.{◌≡◌, ℕ, zero, suc, Bool, true, false, ◌&&◌, ◌||◌, ◌==◌, not, is_some, List, [], ◌∷◌}
use Rattle.std.specs.Prelude.{◌++◌, ◌⊎◌}
use Rattle.rust_lex.specs.Chars.{is_white, is_first, is_next, is_mark_but_tick, begins, passes, is_slash_or_star}
use Rattle.rust_lex.specs.Comment.{IsComment, IsDoc}
use Rattle.rust_lex.specs.Quoted.{LiteralKind, Char, IsQuotedLiteral, opener_of}
use Rattle.rust_lex.specs.Number.{IsNumber}
use Rattle.rust_lex.specs.Word.{IsWord, IsRawWord, begins_lifetime}
pub use Rattle.rust_lex.specs.declared.group_marks.GroupMarks.{GroupMarks}
pub use Rattle.rust_lex.specs.declared.group_marks.GroupMarks.TheVariants.{Parenthesis, Brace, Bracket}
pub use Rattle.rust_lex.specs.declared.piece.PieceKind.{PieceKind}
pub use Rattle.rust_lex.specs.declared.piece.PieceKind.TheVariants.{FrontMark, White, Comment, Doc, Open, Close}
pub use Rattle.rust_lex.specs.declared.piece.PieceKind.TheVariants.{Mark, Ident, Literal}

-- ( { [
abbrev pub opening : GroupMarks → ℕ
opening Parenthesis = 40
opening Brace = 123
opening Bracket = 91

-- ) } ]
abbrev pub closing : GroupMarks → ℕ
closing Parenthesis = 41
closing Brace = 125
closing Bracket = 93

-- a part of a text that belongs together: its class and its characters
pub record Piece : Type 0 where
  pub kind : PieceKind
  pub chars : List ℕ

-- one character that passes
abbrev pub IsOne : (ℕ → Bool) → List ℕ → Type 0
IsOne p [] = ⊥
IsOne p (c ∷ []) = p c ≡ true
IsOne p (c ∷ d ∷ cs) = ⊥

-- the text begins as a prefixed literal, and so with no identifier but a raw one
abbrev pub is_prefixed : List ℕ → Bool
is_prefixed cs = is_some (opener_of cs)

-- a text begins with a mark: a / that begins // or /* is none, and ' is one before a lifetime's name
abbrev pub begins_mark : List ℕ → Bool
begins_mark [] = false
begins_mark (c ∷ cs) = (is_mark_but_tick c && not (c == 47 && begins is_slash_or_star cs))
    || (c == 39 && begins_lifetime cs)

-- a text begins with a character literal, its suffix aside
abbrev pub BeginsChar : List ℕ → Type 0
BeginsChar text = (cs rest : List ℕ) × (text ≡ cs ++ rest) × IsQuotedLiteral Char cs

-- the mark that a text begins with is joint: ' always is, another where a mark or a character literal follows at once
abbrev pub IsJoint : List ℕ → Type 0
IsJoint [] = ⊥
IsJoint (c ∷ cs) = (c ≡ 39) ⊎ (begins_mark cs ≡ true) ⊎ BeginsChar cs

-- a suffix or none: an identifier without raw mark directly behind a literal belongs to it
abbrev pub IsSuffix : List ℕ → List ℕ → Type 0
IsSuffix [] rest = begins is_first rest ≡ false
IsSuffix (c ∷ cs) rest = (is_first c ≡ true) × (passes is_next cs ≡ true) × (begins is_next rest ≡ false)

-- a literal without its suffix, before the suffix and the rest
abbrev pub IsBody : LiteralKind → List ℕ → List ℕ → Type 0
IsBody kind cs rest = IsQuotedLiteral kind cs ⊎ IsNumber kind cs rest

abbrev pub IsLiteral : LiteralKind → List ℕ → List ℕ → Type 0
IsLiteral kind cs rest = (body suffix : List ℕ) × (cs ≡ body ++ suffix) × IsBody kind body (suffix ++ rest) × IsSuffix
    suffix rest

-- an identifier before a rest goes on as long as it can. It may be raw; else the text doesn't begin as a
-- prefixed literal
abbrev pub IsIdent : List ℕ → List ℕ → Type 0
IsIdent cs rest = (begins is_next rest ≡ false) × (IsWord cs × (is_prefixed (cs ++ rest) ≡ false) ⊎ IsRawWord cs rest)

-- the characters are a piece of the class where the rest follows them, within a text:
-- a gap is one white character or one plain comment;
-- a delimiter is its mark;
-- a front mark stands at no place but a text's front
abbrev pub Fits : PieceKind → List ℕ → List ℕ → Type 0
Fits FrontMark cs rest = ⊥
Fits White cs rest = IsOne is_white cs
Fits Comment cs rest = IsComment cs rest
Fits (Doc kind) cs rest = IsDoc kind cs rest
Fits (Open d) cs rest = cs ≡ opening d ∷ []
Fits (Close d) cs rest = cs ≡ closing d ∷ []
Fits Mark cs rest = (c : ℕ) × (cs ≡ c ∷ []) × (begins_mark (c ∷ rest) ≡ true)
Fits Ident cs rest = IsIdent cs rest
Fits (Literal kind) cs rest = IsLiteral kind cs rest

-- the same at a text's front, where the byte order mark is a piece too
abbrev pub FitsFront : PieceKind → List ℕ → List ℕ → Type 0
FitsFront FrontMark cs rest = cs ≡ 65279 ∷ []
FitsFront kind cs rest = Fits kind cs rest

-- the same behind some number of characters or bytes
abbrev pub FitsAt : ℕ → PieceKind → List ℕ → List ℕ → Type 0
FitsAt zero kind cs rest = FitsFront kind cs rest
FitsAt (suc n) kind cs rest = Fits kind cs rest
