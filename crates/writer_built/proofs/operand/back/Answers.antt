use Rattle.std.proofs.Common.{◌∙◌, ap, sym}
use Rattle.writer_built.specs.Facts.{facts_of}
use Rattle.writer_built.specs.Begins.{front3}
use Rattle.writer_built.specs.Heads.{head_tokens}
use Rattle.writer_built.specs.Kept.{own_tokens}
use Rattle.writer_built.specs.Ropes.{rope_tokens}
use Rattle.writer_built.proofs.Heads.{fronts_join}
use Rattle.writer_built.proofs.operand.back.Goals as goal

pub returns-clause-head : goal.returns-clause-head
returns-clause-head c left own =
    fronts_join (head_tokens c.joined-head.result) (head_tokens c.args.left.head) (head_tokens c.args.own.head)
    (rope_tokens c.args.left.rope) (own_tokens c.args.own) c.joined-head.ensures left own
    ∙ ap front3 (sym c.in_ok-rope.ensures)

pub returns-clause-same : goal.returns-clause-same
returns-clause-same c =
    ap (λ ts. facts_of ts c.back-facts.result) c.in_ok-rope.ensures
    ∙ c.back-facts.ensures (rope_tokens c.args.left.rope) (own_tokens c.args.own)
