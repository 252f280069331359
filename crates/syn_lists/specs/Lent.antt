-- What a list holds once its values are no longer lent.
use Rattle.std.specs.Prelude.{ℕ, ◌-◌, List, Option}
use Rattle.std.specs.Borrow.{Array, Fml, Lends, LendsIf, MutBor, RattleType, follows, follows_both}
use Rattle.std.specs.Slice.Iter.{iter_mut_name}
use Rattle.std.specs.Vec.{vec_len, with_item, with_items}
use Rattle.std.specs.contracts.alloc.Global.{the_row as global}
use Rattle.std.specs.contracts.impls.GlobalAllocator.TheImpl.{ghosts}
use Rattle.std.specs.contracts.vec.Vec.{the_row as vec_row}
use Rattle.std.specs.declared.alloc.Global.{Global}
use Rattle.std.specs.declared.vec.Vec.{Vec}
use Rattle.syn_lists.specs.declared.iter.IterMut.{IterMut}
use Rattle.syn_lists.specs.declared.pairs.PairsMut.{PairsMut}
use Rattle.syn_lists.specs.declared.punctuated.Punctuated.{Punctuated}
use Rattle.syn_lists.specs.contracts.punctuated.Punctuated.{the_row}

-- the list with another value at that index, and with other values, as many as there were
abbrev pub with_value : {T P : Type 0} → Punctuated T P → ℕ → T → Punctuated T P
with_value list i v = record list { values = with_item list.values i v }

abbrev pub with_values : {T P : Type 0} → Punctuated T P → List T → Punctuated T P
with_values list vs = record list { values = with_items list.values vs }

-- the list with other values and other separators, as many of each as there were
abbrev pub with_both : {T P : Type 0} → Punctuated T P → List T → List P → Punctuated T P
with_both list vs ps = record { values = with_items list.values vs; separators = with_items list.separators ps }

-- a vector holds what was written last through each of its values
abbrev pub lends_items : (T : RattleType) → MutBor (Vec T.Denot Global) → IterMut T.Denot → Fml
lends_items T items it = follows (vec_row T global ghosts) (Array T 0) items.ghost_name (iter_mut_name it.rest)
    (with_items items.now)

module _ (T P : RattleType) (list : MutBor (Punctuated T.Denot P.Denot)) where
  -- it holds at that index what was written last
  abbrev pub lends_value : ℕ → MutBor T.Denot → Fml
  lends_value i r = Lends (the_row T P) T list r (with_value list.now i)

  -- the same, if a value was lent, and else it is as it was
  abbrev pub lends_if : ℕ → Option (MutBor T.Denot) → Fml
  lends_if i r = LendsIf (the_row T P) T list r (with_value list.now i) list.now

  -- the same of the last value
  abbrev pub lends_last : Option (MutBor T.Denot) → Fml
  lends_last r = lends_if (vec_len list.now.values - 1) r

  -- it holds what was written last through each of its values
  abbrev pub lends_values : IterMut T.Denot → Fml
  lends_values it = follows (the_row T P) (Array T 0) list.ghost_name (iter_mut_name it.rest) (with_values list.now)

  -- it holds what was written last through each of its values and each of its separators
  abbrev pub lends_pairs : PairsMut T.Denot P.Denot → Fml
  lends_pairs it =
      follows_both (the_row T P) (Array T 0) (Array P 0) list.ghost_name (iter_mut_name it.values.rest)
      (iter_mut_name it.separators.rest)
      (with_both list.now)
