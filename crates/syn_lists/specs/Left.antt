-- What iterators still give, in order.
use Rattle.std.specs.Prelude.{List}
use Rattle.syn_lists.specs.declared.iter.Iter.{Iter}
use Rattle.syn_lists.specs.declared.iter.IterMut.{IterMut}
use Rattle.syn_lists.specs.declared.iter.IntoIter.{IntoIter}

abbrev pub iter_left : {T : Type 0} → Iter T → List T
iter_left it = it.rest.now

abbrev pub into_iter_left : {T : Type 0} → IntoIter T → List T
into_iter_left it = it.rest.items

abbrev pub iter_mut_left : {T : Type 0} → IterMut T → List T
iter_mut_left it = it.rest.s.now
