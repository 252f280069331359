use Rattle.std.specs.Prelude.{not}
use Rattle.std.proofs.Common.{◌≡◌, drop}
use Rattle.std.specs.List.{list_any}
use Rattle.writer_rules.specs.Way.{passes}
use Rattle.writer_rules.proofs.way.lacks_some.Given as goal

abbrev pub invariant-loop-element : goal.invariant-loop-element
invariant-loop-element l =
    list_any (λ e. not (passes l.which e.tree)) l.before
    ≡ list_any (λ e. not (passes l.which e.tree)) (drop l.element-index l.before)
