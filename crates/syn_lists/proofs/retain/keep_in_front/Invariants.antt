use Rattle.std.proofs.Common.{◌≤◌}
use Rattle.std.specs.Fn.{CalledAtMut}
use Rattle.std.proofs.RetainMut.{RetainMutInvariant}
use Rattle.syn_lists.specs.Lists.{IsSeparated}
use Rattle.syn_lists.proofs.KeptPairs.{PairsKept}
use Rattle.syn_lists.proofs.retain.keep_in_front.Given as goal

abbrev pub invariant-loop-index : goal.invariant-loop-index
invariant-loop-index g l = record {
  few : l.kept ≤ l.index;
  callable : goal.F-IsAlwaysCallable g l.keeps;
  turns : RetainMutInvariant (CalledAtMut g.F.FnMut) l.initial.keeps l.initial.values l.keeps l.values l.kept l.index;
  pairs : IsSeparated l.initial.values l.initial.separators → PairsKept (CalledAtMut g.F.FnMut) l.initial.keeps
      l.initial.values l.initial.separators l.keeps l.values l.separators l.kept l.index;
}
