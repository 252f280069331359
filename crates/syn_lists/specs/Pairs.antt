-- Values with the separators behind them.
use Rattle.std.specs.Prelude.{◌≡◌, ◌<◌, List, [], ◌∷◌, ◌++◌, length, take, Option, Some, None}
use Rattle.std.specs.Option.{option_map}
use denote.Ref.{Bor}
use denote.MutBor.{MutBor}
use Rattle.syn_lists.specs.declared.pair.Pair.{Pair}
use Rattle.syn_lists.specs.declared.pair.Pair.TheVariants.{Punctuated, End}

-- each value with its separator, or with none where the separators have ended
abbrev pub pairs : {T P : Type 0} → List T → List P → List (T × Option P)
pairs [] ps = []
pairs (v ∷ vs) [] = (v, None) ∷ pairs vs []
pairs (v ∷ vs) (p ∷ ps) = (v, Some p) ∷ pairs vs ps

-- a pair as its value and its separator, if it has one
abbrev pub parts : {T P : Type 0} → Pair T P → T × Option P
parts (Punctuated v p) = (v, Some p)
parts (End v) = (v, None)

abbrev pub lent : {T P : Type 0} → Pair (Bor T) (Bor P) → T × Option P
lent (Punctuated v p) = (v.now, Some p.now)
lent (End v) = (v.now, None)

abbrev pub lent_mut : {T P : Type 0} → Pair (MutBor T) (MutBor P) → T × Option P
lent_mut (Punctuated v p) = (v.now, Some p.now)
lent_mut (End v) = (v.now, None)

-- the pair is the last of a list, without which these values are left
abbrev pub IsLastPair : {T P : Type 0} → Pair T P → List T → List P → List T → Type 0
IsLastPair (Punctuated v p) vs ps left = (vs ≡ left ++ v ∷ []) × (take (length vs) ps ≡ take (length left) ps ++ p ∷ [])
IsLastPair (End v) vs ps left = (vs ≡ left ++ v ∷ []) × (length ps < length vs)

-- what is lent, if something is
abbrev pub option_now : {P : Type 0} → Option (Bor P) → Option P
option_now None = None
option_now (Some p) = Some p.now

abbrev pub option_now_mut : {P : Type 0} → Option (MutBor P) → Option P
option_now_mut None = None
option_now_mut (Some p) = Some p.now

-- what the parts of a pair show
abbrev pub shown_parts : {T P S Q : Type 0} → (T → S) → (P → Q) → T × Option P → S × Option Q
shown_parts value separator (v, p) = (value v, option_map separator p)
