-- Where the tokens that are to be written stand in the stream of them.
use Rattle.std.specs.Prelude.{List, [], ◌∷◌, ◌++◌, map, reverse}
use Rattle.rust_map.specs.Spans.{call_site}
use Rattle.rust_map.specs.declared.span.Span.{Span}
use Rattle.proc_macro2.specs.Flat.{spanned}
use Rattle.proc_macro2.specs.Token.{Spanned, Opens, Closes}
use Rattle.writer_print.specs.Pieces.{piece_span, piece_token}
use Rattle.writer_print.specs.declared.piece.Piece.{Piece}
use Rattle.writer_print.specs.declared.piece.Piece.TheVariants as pieces
use Rattle.syn_tokens.specs.declared.tokens.Nest.{Nest}
use Rattle.syn_tokens.specs.declared.tokens.Outer.{Outer}

abbrev pub placed_piece : Piece → Spanned
placed_piece p = spanned (piece_token p) (piece_span p)

-- Tokens inside groups that stand there, the innermost first, each where it stands: what closes a group stands where
-- all of the group does.
abbrev pub placed : List Span → List Piece → List Spanned
placed ss [] = []
placed ss (pieces.Open d s ∷ ps) = spanned (Opens d) s ∷ placed (s ∷ ss) ps
placed [] (pieces.Close d ∷ ps) = spanned (Closes d) call_site ∷ placed [] ps
placed (s ∷ ss) (pieces.Close d ∷ ps) = spanned (Closes d) s ∷ placed ss ps
placed ss (pieces.Ident i ∷ ps) = placed_piece (pieces.Ident i) ∷ placed ss ps
placed ss (pieces.Literal l ∷ ps) = placed_piece (pieces.Literal l) ∷ placed ss ps
placed ss (pieces.Mark c spacing s ∷ ps) = placed_piece (pieces.Mark c spacing s) ∷ placed ss ps
placed ss (pieces.Underscore ∷ ps) = placed_piece pieces.Underscore ∷ placed ss ps
placed ss (pieces.Index n span ∷ ps) = placed_piece (pieces.Index n span) ∷ placed ss ps

-- The tokens before groups that are open, the outermost first, with the mark of each.
abbrev pub outer_tokens : List Outer → List Spanned
outer_tokens [] = []
outer_tokens (o ∷ os) = o.before ++ spanned (Opens o.delimiter) o.span ∷ outer_tokens os

-- What was put so far.
abbrev pub nest_tokens : Nest → List Spanned
nest_tokens n = outer_tokens n.outer.items ++ n.inside

-- Where the groups stand that are open, the innermost first.
abbrev pub spans : Nest → List Span
spans n = reverse (map (λ o. o.span) n.outer.items)
