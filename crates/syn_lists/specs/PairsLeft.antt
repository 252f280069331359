-- What iterators over pairs still give, in order.
use Rattle.std.specs.Prelude.{List, Option}
use Rattle.syn_lists.specs.Left.{iter_mut_left}
use Rattle.syn_lists.specs.Pairs.{pairs}
use Rattle.syn_lists.specs.declared.pairs.IntoPairs.{IntoPairs}
use Rattle.syn_lists.specs.declared.pairs.Pairs.{Pairs}
use Rattle.syn_lists.specs.declared.pairs.PairsMut.{PairsMut}

abbrev pub pairs_left : {T P : Type 0} → Pairs T P → List (T × Option P)
pairs_left it = pairs it.values.now it.separators.now

abbrev pub into_pairs_left : {T P : Type 0} → IntoPairs T P → List (T × Option P)
into_pairs_left it = pairs it.values.items it.separators.items

abbrev pub pairs_mut_left : {T P : Type 0} → PairsMut T P → List (T × Option P)
pairs_mut_left it = pairs (iter_mut_left it.values) (iter_mut_left it.separators)
