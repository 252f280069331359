-- The tokens of pieces, their places aside.
use Rattle.std.proofs.Common.{◌≡◌, ℕ, ◌+◌, List, [], ◌∷◌, ◌++◌, length, refl, sym, ap, ◌∙◌}
use Rattle.rust_map.specs.declared.span.Span.{Span}
use Rattle.rust_lex.specs.Piece.{Piece}
use Rattle.rust_lex.specs.Cover.{onto, IsCover}
use Rattle.rust_lex.proofs.OneCover.{one_cover}
use Rattle.proc_macro2.specs.Token.{Token, Spanned, plain}
use Rattle.proc_macro2.specs.Pieces.{edged_at, span_at, tokens_of}
use Rattle.proc_macro2.proofs.Followed.{tokens_before, tokens_onto, onto_same}
use Rattle.laws_lexer.specs.Read.{IsReadAs}

abbrev pub plain_of : List Piece → List ℕ → List Token
plain_of [] rest = []
plain_of (p ∷ ps) rest = tokens_before p.kind p.chars (onto ps rest) ++ plain_of ps rest

pub plain_edged : (span : Span) (ts : List Token) (ss : List Spanned) → plain (edged_at span ts ++ ss) ≡ ts ++ plain ss
plain_edged span [] ss = refl
plain_edged span (t ∷ ts) ss = ap (λ us. t ∷ us) (plain_edged span ts ss)

pub plain_tokens : (position : ℕ) (ps : List Piece) (rest : List ℕ) →
    plain (tokens_onto position ps rest) ≡ plain_of ps rest
plain_tokens position [] rest = refl
plain_tokens position (p ∷ ps) rest =
    plain_edged (span_at position (length p.chars)) (tokens_before p.kind p.chars (onto ps rest))
    (tokens_onto (position + length p.chars) ps rest)
    ∙ ap (λ us. tokens_before p.kind p.chars (onto ps rest) ++ us) (plain_tokens (position + length p.chars) ps rest)

-- the tokens of the pieces of a cover
pub cover_tokens : (position : ℕ) (text : List ℕ) (ps : List Piece) → IsCover text ps →
    plain (tokens_of position ps) ≡ plain_of ps []
cover_tokens position text ps c = ap plain (onto_same position ps c.fit) ∙ plain_tokens position ps []

-- a text has one cover, and so one list of tokens
pub one_reading : (text : List ℕ) (ts us : List Token) → IsReadAs text ts → IsReadAs text us → ts ≡ us
one_reading text ts us r s = sym r.tokens_are
    ∙ ap (λ ps. plain (tokens_of 0 ps)) (one_cover text r.pieces s.pieces r.cover s.cover) ∙ s.tokens_are
