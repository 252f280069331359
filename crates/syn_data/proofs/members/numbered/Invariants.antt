use Rattle.std.specs.List.{range_with_len}
use Rattle.std.specs.Prelude.{◌≡◌, map}
use Rattle.syn_data.specs.declared.members.Member.TheVariants as members
use Rattle.syn_data.proofs.members.numbered.Given as goal

-- so many numbers as were counted
abbrev pub invariant-loop-index : goal.invariant-loop-index
invariant-loop-index l = l.found.items ≡ map members.Unnamed (range_with_len 0 l.index)
