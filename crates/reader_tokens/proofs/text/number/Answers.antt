use Rattle.std.proofs.Common.{rules}
use Rattle.std.specs.Str.{chars}
use Rattle.reader_tokens.proofs.Dots.{turn_wrong}
use Rattle.reader_tokens.proofs.text.number.Goals as goal

pub returns-in_err-number-clause-reads : goal.returns-in_err-number-clause-reads
returns-in_err-number-clause-reads c =
    let wrong = turn_wrong c.args.base c.loop-character.number c.in-Some.character _
    (chars c.loop-character.rest.now) (chars c.args.digits.now) c.requires c.in-Some.ensures.some
    c.if-character-eq46.false c.if-character-ne95.true c.in_err-number.ensures.none
    (c.loop-character.invariant.1, c.loop-character.invariant.2) in
    search (rules, wrong)
