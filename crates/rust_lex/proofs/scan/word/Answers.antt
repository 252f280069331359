use Rattle.std.proofs.Common.{arith, sym, ap, ◌∙◌}
use Rattle.rust_lex.specs.Piece.{Ident}
use Rattle.rust_lex.specs.Scan.{Ends}
use Rattle.rust_lex.proofs.Scans.{plain_word}
use Rattle.rust_lex.proofs.scan.word.Goals as goal

pub returns : goal.returns
returns c = (
  plain_word _ _ c.args.c c.requires.is (sym c.begins_prefix.ensures ∙ c.if-begins_prefix.false)
      ∙ ap (Ends Ident) (c.requires.first ∙ sym c.past.ensures.rest),
  record { place = c.past.ensures.from.place; on = omega arith },
)
