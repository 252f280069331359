use Rattle.std.proofs.Common.{◌∙◌, List, ap, map}
use Rattle.writer_print.specs.Pieces.{piece_token}
use Rattle.writer_print.specs.declared.piece.Piece.{Piece}
use Rattle.reader_table.specs.Kinds.{kind_of}
use Rattle.writer_built.specs.Facts.{last_of}
use Rattle.writer_built.specs.Heads.{head_tokens}
use Rattle.writer_built.specs.Kept.{own_tokens}
use Rattle.writer_built.proofs.Parts.{plain_behind}
use Rattle.writer_built.proofs.dots.plain.Goals as goal

-- its tokens, the first of them, and what it ends with
pub returns-clause-same : goal.returns-clause-same
returns-clause-same c h formed =
    plain_behind (kind_of c.args.kind) c.args.own.now (own_tokens c.in_ok-written.written)
    (head_tokens c.in_ok-written.written.head) (last_of c.last_of-last.result) h
    (c.in_ok-written.ensures.same formed) c.in_ok-written.ensures.head
    (λ z named is. c.last_of-last.ensures z (c.has.ensures ∙ named)
    (ap (λ (ps : List Piece). map piece_token ps) c.as_slice.ensures.value ∙ is))
