use Rattle.std.proofs.Common.{◌≡◌, ◌++◌}
use Rattle.std.specs.List.{flat_map}
use Rattle.syn_error.proofs.iter.ErrorExtend.extend.Given as goal

abbrev pub invariant-loop-error : goal.invariant-loop-error
invariant-loop-error g l = l.self ≡ l.initial.self ++ flat_map (λ e. e) l.yielded
