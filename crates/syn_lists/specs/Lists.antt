-- Lists of values with separators.
use Rattle.std.specs.Prelude.{◌<◌, ◌≤◌, ◌+◌, List, length}
use Rattle.syn_lists.specs.declared.punctuated.Punctuated.{Punctuated}

-- the values of a list, and the separators behind them, each in their order
abbrev pub values : {T P : Type 0} → Punctuated T P → List T
values list = list.values.items

abbrev pub separators : {T P : Type 0} → Punctuated T P → List P
separators list = list.separators.items

-- there are as many separators as values, or one fewer
abbrev pub IsSeparated : {T P : Type 0} → List T → List P → Type 0
IsSeparated vs ps = (length ps ≤ length vs) × (length vs ≤ length ps + 1)

-- a call leaves a list separated, if it was
abbrev pub StaysSeparated : {T P : Type 0} → Punctuated T P → Punctuated T P → Type 0
StaysSeparated old new = IsSeparated (values old) (separators old) → IsSeparated (values new) (separators new)

-- a separator stands behind the last value
abbrev pub IsTrailing : {T P : Type 0} → List T → List P → Type 0
IsTrailing vs ps = (0 < length vs) × (length vs ≤ length ps)
