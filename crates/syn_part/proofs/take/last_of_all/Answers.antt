use Rattle.std.proofs.Common.{subst}
use Rattle.syn_part.specs.Leaves.{behind_tree}
use Rattle.syn_part.specs.Shape.{IsShaped}
use Rattle.syn_part.proofs.Choices.{last_first, last_second}
use Rattle.syn_part.proofs.take.last_of_all.Goals as goal

pub returns-in-First : goal.returns-in-First
returns-in-First c = λ a e h.
    last_first c.in-First.field-0 c.in-First.field-1.now a e
    (subst (λ z. IsShaped (behind_tree z) a) c.in-First.is h)

pub returns-else-depth-eq0 : goal.returns-else-depth-eq0
returns-else-depth-eq0 c = λ a e h.
    last_second c.in-Second.depth c.in-Second.tree.now a c.if-depth-eq0.false e
    (subst (λ z. IsShaped (behind_tree z) a) c.in-Second.is h)
