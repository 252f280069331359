use Rattle.std.proofs.Common.{inr}
use Rattle.syn_input.proofs.Closed.{within_closed}
use Rattle.syn_input.proofs.input.ParseBuffer.within.Goals as goal

pub returns-in-Ok-answer-clause-read : goal.returns-in-Ok-answer-clause-read
returns-in-Ok-answer-clause-read g c =
    within_closed _ c.args.delimiter c.in-Ok.entered.0.join c.args.self.now c.parse_group.new.self c.close.new.self
    c.in-Ok.entered.1 c.call-answer.new.self
    c.in-Ok.ensures.found c.in-Ok.ensures.fresh c.in-Ok-answer.ensures c.parse_group.ensures.noted
    c.close.ensures.stays c.close.ensures.noted

pub returns-in-Err-answer-clause-refused : goal.returns-in-Err-answer-clause-refused
returns-in-Err-answer-clause-refused g c =
    inr (
      c.in-Ok.entered.0.join,
      within_closed _ c.args.delimiter c.in-Ok.entered.0.join c.args.self.now c.parse_group.new.self c.close.new.self
          c.in-Ok.entered.1 c.call-answer.new.self
          c.in-Ok.ensures.found c.in-Ok.ensures.fresh c.in-Err-answer.ensures c.parse_group.ensures.noted
          c.close.ensures.stays c.close.ensures.noted,
    )
