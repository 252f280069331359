use Rattle.std.proofs.Common.{◌∙◌, ◌++◌, ap, sym}
use Rattle.writer_built.specs.Facts.{facts_of}
use Rattle.writer_built.specs.Begins.{front3}
use Rattle.writer_built.specs.Heads.{head_tokens}
use Rattle.writer_built.specs.Kept.{own_tokens}
use Rattle.writer_built.specs.Ropes.{rope_tokens}
use Rattle.writer_built.proofs.Heads.{fronts_join}
use Rattle.writer_built.proofs.operand.infix.Goals as goal

pub returns-clause-head : goal.returns-clause-head
returns-clause-head c left own right =
    fronts_join (head_tokens c.joined-head.result) (head_tokens c.args.left.head) (head_tokens c.joined-next.result)
    (rope_tokens c.args.left.rope) (rope_tokens c.in_ok-behind.behind) c.joined-head.ensures left
    (fronts_join (head_tokens c.joined-next.result) (head_tokens c.args.own.head) (head_tokens c.args.right.head)
    (own_tokens c.args.own) (rope_tokens c.args.right.rope) c.joined-next.ensures own right
    ∙ ap front3 (sym c.in_ok-behind.ensures))
    ∙ ap front3 (sym c.in_ok-rope.ensures)

pub returns-clause-same : goal.returns-clause-same
returns-clause-same c y is =
    ap (λ ts. facts_of ts c.infix-facts.result)
    (c.in_ok-rope.ensures ∙ ap (λ ts. rope_tokens c.args.left.rope ++ ts)
    (c.in_ok-behind.ensures ∙ ap (λ ts. ts ++ rope_tokens c.args.right.rope) is))
    ∙ c.infix-facts.ensures y (rope_tokens c.args.left.rope) (rope_tokens c.args.right.rope)
