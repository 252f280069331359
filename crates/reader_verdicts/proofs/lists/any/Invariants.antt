use Rattle.std.proofs.Common.{◌≡◌, drop}
use Rattle.std.specs.List.{list_any}
use Rattle.reader_verdicts.specs.Asked.{asked_of}
use Rattle.reader_verdicts.proofs.lists.any.Given as goal

abbrev pub invariant-loop-element : goal.invariant-loop-element
invariant-loop-element l =
    list_any (λ e. asked_of l.asked e.tree) l.elements
    ≡ list_any (λ e. asked_of l.asked e.tree) (drop l.element-index l.elements)
