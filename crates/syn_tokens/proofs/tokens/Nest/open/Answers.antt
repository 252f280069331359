use Rattle.std.proofs.Common.{◌∙◌}
use Rattle.syn_tokens.proofs.Nests.{group_opens}
use Rattle.syn_tokens.proofs.tokens.Nest.open.Goals as goal

pub returns-clause-put : goal.returns-clause-put
returns-clause-put c =
    group_opens c.args.self.now.outer.items c.push.new.self.items _ c.args.self.now.inside c.replace-before.new.dest
    c.in_ok-push.ensures.items c.replace-before.ensures.value (c.replace-before.ensures.after ∙ c.new-inside.ensures)
