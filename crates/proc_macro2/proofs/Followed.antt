-- The tokens of pieces by the text behind each, and that they are those by the pieces behind it.
use Rattle.std.proofs.Common.{◌≡◌, ℕ, ◌+◌, List, [], ◌∷◌, ◌++◌, refl, sym, ap, ap₂, ◌∙◌, length, map}
use Rattle.std.specs.Prelude.{false, ◌||◌, ◌==◌}
use Rattle.std.proofs.lemmas.Bool.{false_from_ne_true, or_from, or_left, or_right}
use Rattle.rust_lex.specs.Cover.{onto, AreFit, AreFitFront}
use Rattle.rust_lex.specs.Piece.{Piece, Fits, FitsFront, begins_mark}
use Rattle.rust_lex.specs.Scan.{begins_char, is_joint}
use Rattle.rust_lex.specs.declared.piece.LiteralKind.TheVariants as literal
use Rattle.rust_lex.specs.declared.piece.PieceKind.{PieceKind}
use Rattle.rust_lex.specs.declared.piece.PieceKind.TheVariants as piece
use Rattle.rust_lex.proofs.Sound.{front_fits}
use Rattle.rust_lex.proofs.Joints.{mark_kind, char_kind, char_begins}
use Rattle.proc_macro2.specs.Token.{Token, Punct, Spanned}
use Rattle.proc_macro2.specs.Pieces.{joins, is_joined, mark_spacing, piece_tokens, spacing_of, head, edged}
use Rattle.proc_macro2.specs.Pieces.{edged_at, span_at, tokens_of}
use Rattle.proc_macro2.specs.Forest.{IsForest}

-- the tokens of a piece before a text
abbrev pub tokens_before : PieceKind → List ℕ → List ℕ → List Token
tokens_before kind cs rest = piece_tokens kind cs (spacing_of (is_joint (cs ++ rest)))

-- the tokens of pieces that stand from a position on and before a rest
abbrev pub tokens_onto : ℕ → List Piece → List ℕ → List Spanned
tokens_onto position [] rest = []
tokens_onto position (p ∷ ps) rest =
    edged_at (span_at position (length p.chars)) (tokens_before p.kind p.chars (onto ps rest))
    ++ tokens_onto (position + length p.chars) ps rest

-- a mark or a character literal begins the text of a piece exactly if it is one
joins_other : (k : PieceKind) (cs rest : List ℕ) → Fits k cs rest → (k ≡ piece.Mark → ⊥)
    → (k ≡ piece.Literal literal.Char → ⊥) → (begins_mark (cs ++ rest) || begins_char (cs ++ rest)) ≡ false
joins_other k cs rest f m c =
    or_from (begins_mark (cs ++ rest)) (begins_char (cs ++ rest))
    (false_from_ne_true (begins_mark (cs ++ rest)) (λ h. m (mark_kind k cs rest f h)))
    (false_from_ne_true (begins_char (cs ++ rest)) (λ h. c (char_kind k cs rest f h)))

joins_same : (k : PieceKind) (cs rest : List ℕ) → Fits k cs rest
    → (begins_mark (cs ++ rest) || begins_char (cs ++ rest)) ≡ joins k
joins_same piece.Mark cs rest (c, e, h) =
    or_left (begins_mark (cs ++ rest)) (begins_char (cs ++ rest)) (ap (λ x. begins_mark (x ++ rest)) e ∙ h)
joins_same (piece.Literal literal.Char) cs rest f =
    or_right (begins_mark (cs ++ rest)) (begins_char (cs ++ rest)) (char_begins cs rest f)
joins_same (piece.Literal literal.Str) cs rest f = joins_other (piece.Literal literal.Str) cs rest f (λ e. cc) (λ e. cc)
joins_same (piece.Literal literal.ByteStr) cs rest f =
    joins_other (piece.Literal literal.ByteStr) cs rest f (λ e. cc) (λ e. cc)
joins_same (piece.Literal literal.CStr) cs rest f =
    joins_other (piece.Literal literal.CStr) cs rest f (λ e. cc) (λ e. cc)
joins_same (piece.Literal literal.Byte) cs rest f =
    joins_other (piece.Literal literal.Byte) cs rest f (λ e. cc) (λ e. cc)
joins_same (piece.Literal literal.Int) cs rest f = joins_other (piece.Literal literal.Int) cs rest f (λ e. cc) (λ e. cc)
joins_same (piece.Literal literal.Float) cs rest f =
    joins_other (piece.Literal literal.Float) cs rest f (λ e. cc) (λ e. cc)
joins_same piece.FrontMark cs rest f = absurd f
joins_same piece.White cs rest f = joins_other piece.White cs rest f (λ e. cc) (λ e. cc)
joins_same piece.Comment cs rest f = joins_other piece.Comment cs rest f (λ e. cc) (λ e. cc)
joins_same (piece.Doc kind) cs rest f = joins_other (piece.Doc kind) cs rest f (λ e. cc) (λ e. cc)
joins_same (piece.Open d) cs rest f = joins_other (piece.Open d) cs rest f (λ e. cc) (λ e. cc)
joins_same (piece.Close d) cs rest f = joins_other (piece.Close d) cs rest f (λ e. cc) (λ e. cc)
joins_same piece.Ident cs rest f = joins_other piece.Ident cs rest f (λ e. cc) (λ e. cc)

joined_same : (ps : List Piece) → AreFit ps [] → (begins_mark (onto ps []) || begins_char (onto ps [])) ≡ is_joined ps
joined_same [] f = refl
joined_same (p ∷ ps) f = joins_same p.kind p.chars (onto ps []) f.0

-- a piece's tokens
front_same : (k : PieceKind) (cs : List ℕ) (ps : List Piece) → FitsFront k cs (onto ps []) → AreFit ps []
    → piece_tokens k cs (mark_spacing (head cs) ps) ≡ tokens_before k cs (onto ps [])
front_same piece.Mark cs ps (c, e, h) f =
    rw e (ap (λ b. Punct c (spacing_of (c == 39 || b)) ∷ []) (sym (joined_same ps f)))
front_same piece.FrontMark cs ps h f = refl
front_same piece.White cs ps h f = refl
front_same piece.Comment cs ps h f = refl
front_same (piece.Doc kind) cs ps h f = refl
front_same (piece.Open d) cs ps h f = refl
front_same (piece.Close d) cs ps h f = refl
front_same piece.Ident cs ps h f = refl
front_same (piece.Literal kind) cs ps h f = refl

-- those of all pieces of a text
pub onto_same : (position : ℕ) (ps : List Piece) → AreFitFront ps []
    → tokens_of position ps ≡ tokens_onto position ps []
onto_same position [] f = refl
onto_same position (p ∷ ps) f =
    ap₂ (λ x y. edged_at (span_at position (length p.chars)) x ++ y) (front_same p.kind p.chars ps f.0 f.1)
    (rest_same (position + length p.chars) ps f.1)
  where
    rest_same : (position : ℕ) (ps : List Piece) → AreFit ps [] → tokens_of position ps ≡ tokens_onto position ps []
    rest_same position [] f = refl
    rest_same position (p ∷ ps) f =
        ap₂ (λ x y. edged_at (span_at position (length p.chars)) x ++ y)
        (front_same p.kind p.chars ps (front_fits p.kind p.chars (onto ps []) f.0) f.1)
        (rest_same (position + length p.chars) ps f.1)

-- those of a forest
pub forest_tokens : (base : ℕ) (text : List ℕ) (stream : List Spanned) (f : IsForest base text stream)
    → tokens_onto base f.pieces [] ≡ map edged stream
forest_tokens base text stream f = sym (onto_same base f.pieces f.cover.fit) ∙ f.tokens_are
