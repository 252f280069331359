-- Tokens that are put behind others.
use Rattle.std.proofs.Common.{◌≡◌, List, [], ◌∷◌, ◌++◌, map, append_assoc}
use Rattle.std.proofs.lemmas.List.{map-append, append-nil}
use Rattle.writer_print.specs.Pieces.{piece_token}
use Rattle.writer_rules.proofs.Fronts.{kept}
use Rattle.writer_print.specs.declared.piece.Piece.{Piece}

pub one : (ps : List Piece) (p : Piece) → map piece_token (ps ++ p ∷ []) ≡ map piece_token ps ++ piece_token p ∷ []
one ps p = map-append piece_token ps (p ∷ [])

pub ruleset puts = (append_assoc, append-nil)

pub ruleset field_laws = (puts, kept)
