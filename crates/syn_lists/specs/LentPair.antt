-- What a pair holds once its value or its separator is no longer lent.
use Rattle.std.specs.Prelude.{Option}
use Rattle.std.specs.Borrow.{Fml, Lends, LendsIf, MutBor, RattleType}
use Rattle.syn_lists.specs.declared.pair.Pair.{Pair}
use Rattle.syn_lists.specs.declared.pair.Pair.TheVariants.{Punctuated, End}
use Rattle.syn_lists.specs.contracts.pair.Pair.{the_row}

-- the pair with another value, and with another separator, if it has one
abbrev pub with_value : {T P : Type 0} → Pair T P → T → Pair T P
with_value (Punctuated v p) w = Punctuated w p
with_value (End v) w = End w

abbrev pub with_separator : {T P : Type 0} → Pair T P → P → Pair T P
with_separator (Punctuated v p) q = Punctuated v q
with_separator (End v) q = End v

module _ (T P : RattleType) (pair : MutBor (Pair T.Denot P.Denot)) where
  -- it holds what was written last
  abbrev pub lends_value : MutBor T.Denot → Fml
  lends_value r = Lends (the_row T P) T pair r (with_value pair.now)

  -- the same of its separator, if one was lent, and else it is as it was
  abbrev pub lends_separator : Option (MutBor P.Denot) → Fml
  lends_separator r = LendsIf (the_row T P) P pair r (with_separator pair.now) pair.now
