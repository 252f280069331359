use Rattle.syn_lists.specs.Added.{Extends, nothing}
use Rattle.syn_lists.specs.Lists.{separators, values}
use Rattle.syn_lists.proofs.collect.PunctuatedExtend.extend.Given as goal

abbrev pub invariant-loop-value : goal.invariant-loop-value
invariant-loop-value g l =
    Extends g.P.Default.is_default (values l.initial.self) (separators l.initial.self) l.yielded (nothing l.yielded)
    (values l.self) (separators l.self)
