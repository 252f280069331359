use Rattle.std.proofs.Common.{map}
use Rattle.syn_lists.specs.Added.{Extends, firsts, seconds}
use Rattle.syn_lists.specs.Lists.{separators, values}
use Rattle.syn_lists.specs.Pairs.{parts}
use Rattle.syn_lists.proofs.collect.PunctuatedExtendPair.extend.Given as goal

abbrev pub invariant-loop-pair : goal.invariant-loop-pair
invariant-loop-pair g l =
    Extends g.P.Default.is_default (values l.initial.self) (separators l.initial.self) (firsts (map parts l.yielded))
    (seconds (map parts l.yielded)) (values l.self) (separators l.self)
