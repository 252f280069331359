use Rattle.std.proofs.Common.{◌≡◌, ◌++◌, drop}
use Rattle.syn_made.proofs.lists.copied_elements.Given as goal

-- what is left is to stand behind what is copied
abbrev pub invariant-loop-element : goal.invariant-loop-element
invariant-loop-element l = l.copies.items ++ drop l.element-index l.elements ≡ l.elements
