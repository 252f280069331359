-- The tokens that pieces are, and where they stand.
use Rattle.std.specs.Prelude.{codes}
use Rattle.std.specs.Fmt.{decimal}
use Rattle.rust_map.specs.Spans.{call_site}
use Rattle.rust_map.specs.declared.span.Span.{Span}
use Rattle.rust_leaf.specs.Leaf.{ident_span, ident_text, literal_span, literal_text}
use Rattle.proc_macro2.specs.Token.{Token, Opens, Closes, Ident, Literal, Punct}
use Rattle.syn_buffer.specs.Entries.{entry_span}
use Rattle.syn_buffer.specs.declared.entry.Entry.{Entry}
use Rattle.syn_buffer.specs.declared.entry.Entry.TheVariants as entry
use Rattle.writer_print.specs.declared.piece.Piece.{Piece}
use Rattle.writer_print.specs.declared.piece.Piece.TheVariants as pieces

abbrev pub piece_token : Piece → Token
piece_token (pieces.Ident i) = Ident (ident_text i.now)
piece_token (pieces.Literal l) = Literal (literal_text l.now)
piece_token (pieces.Mark c spacing span) = Punct c spacing
piece_token (pieces.Open d span) = Opens d
piece_token (pieces.Close d) = Closes d
piece_token pieces.Underscore = Ident (codes "_")
piece_token (pieces.Index n span) = Literal (decimal n)

-- Words and literals stand where they were read, marks, groups and indices where it is said, and all else at no place
-- of a text.
abbrev pub piece_span : Piece → Span
piece_span (pieces.Ident i) = ident_span i.now
piece_span (pieces.Literal l) = literal_span l.now
piece_span (pieces.Mark c spacing span) = span
piece_span (pieces.Open d span) = span
piece_span (pieces.Close d) = call_site
piece_span pieces.Underscore = call_site
piece_span (pieces.Index n span) = span

-- A token that was read stands where it did; what closes a group keeps no place, since all of the group has one.
abbrev pub read_span : Entry → Span
read_span (entry.Close d span) = call_site
read_span e = entry_span e
