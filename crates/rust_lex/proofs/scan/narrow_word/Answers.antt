use Rattle.std.proofs.Common.{sym, ◌∙◌}
use Rattle.rust_lex.proofs.NarrowPieces.{made, word_found}
use Rattle.rust_lex.proofs.scan.narrow_word.Goals as goal

pub returns-clause-piece : goal.returns-clause-piece
returns-clause-piece c =
    made _ _ _ c.of.result _ _ c.of.ensures.kind c.of.ensures.end c.of.ensures.joint
    (word_found c.args.text.now c.args.at c.args.next c.past_narrow-end.result c.args.c c.requires.place c.requires.is
    c.requires.behind c.requires.narrow c.requires.first (sym c.may_open.ensures ∙ c.if-may_open.false)
    c.past_narrow-end.ensures.rest c.past_narrow-end.ensures.from (sym c.begins.ensures ∙ c.if-begins.false))
