-- What stands behind a print in terms of what stood before it.
use Rattle.std.specs.Prelude.{◌≡◌, List, [], ◌∷◌, Option, Some, None}
use Rattle.proc_macro2.specs.Token.{Spanned}

-- what a print may make of tokens: those that stood there, and those that stand there behind it
abbrev pub Puts : Type 1
Puts = List Spanned → List Spanned → Type 0

-- of a value, if there is one; without one the tokens stay as they were
abbrev pub PutsSome : {A : Type 0} → (A → Puts) → Option A → Puts
PutsSome puts None old new = new ≡ old
PutsSome puts (Some value) old new = puts value old new

-- of values, one behind the other: each is put behind what the print of those before it left; without one the tokens
-- stay as they were
abbrev pub PutsAll : {A : Type 0} → (A → Puts) → List A → Puts
PutsAll puts [] old new = new ≡ old
PutsAll puts (value ∷ values) old new =
    (between : List Spanned) × puts value old between × PutsAll puts values between new
