-- Tokens that are put behind others.
use Rattle.std.proofs.Common.{◌≡◌, ℕ, ◌+◌, ◌<◌, List, [], ◌∷◌, ◌++◌, length, get_or, drop, map, sym, ap, ◌∙◌}
use Rattle.std.proofs.Common.{append_assoc}
use Rattle.std.proofs.lemmas.List.{map-append, append-nil, at_drop_more}
use Rattle.proc_macro2.specs.Token.{Token}
use Rattle.writer_print.specs.Pieces.{piece_token}
use Rattle.writer_print.specs.declared.piece.Piece.{Piece}

pub one : (ps : List Piece) (p : Piece) → map piece_token (ps ++ p ∷ []) ≡ map piece_token ps ++ piece_token p ∷ []
one ps p = map-append piece_token ps (p ∷ [])

pub ruleset puts = (append_assoc, append-nil, one)

-- one token more has been put
pub put_more : (pieces : List Piece) (i : ℕ) (p : Piece) (old new : List Piece) (all : List Token)
    → p ≡ get_or pieces i p → i < length pieces → map piece_token new ≡ map piece_token old ++ piece_token p ∷ []
    → map piece_token old ++ map piece_token (drop i pieces) ≡ all
    → map piece_token new ++ map piece_token (drop (i + 1) pieces) ≡ all
put_more pieces i p old new all is below put h =
    ap (λ ts. ts ++ map piece_token (drop (i + 1) pieces)) put
    ∙ append_assoc (map piece_token old) (piece_token p ∷ []) (map piece_token (drop (i + 1) pieces))
    ∙ ap (λ x. map piece_token old ++ piece_token x ∷ map piece_token (drop (i + 1) pieces)) is
    ∙ sym (at_drop_more (λ ps. map piece_token old ++ map piece_token ps) pieces i p below) ∙ h
