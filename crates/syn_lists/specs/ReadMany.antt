-- Lists that are read: a value, and as long as a separator stands behind it the separator and a value again. Before
-- each value it is asked whether the list has ended.
use Rattle.std.specs.Prelude.{◌≡◌, ◌<◌, Bool, true, false, List, [], ◌∷◌, ◌++◌, ◌⊎◌, length}
use Rattle.std.specs.Prelude.{Result, Ok, Err}
use Rattle.std.specs.Borrow.{MutBor}
use Rattle.proc_macro2.specs.Token.{Token, Spanned, plain}
use Rattle.syn_error.specs.Faults.{IsSyntax}
use Rattle.syn_error.specs.declared.fault.ParseFault.{ParseFault}
use Rattle.syn_input.specs.Input.{rest}
use Rattle.syn_lists.specs.ReadLists.{Reading}
use Rattle.syn_input.specs.declared.input.ParseBuffer.{ParseBuffer}

-- what a function reads, and what it reads nothing from
abbrev pub ReadsBy : {T : Type 0} → (MutBor ParseBuffer → Result T ParseFault → MutBor ParseBuffer → Type 0) → Reading T
ReadsBy runs ts v us =
    (i : MutBor ParseBuffer) × (e : MutBor ParseBuffer) × (rest i.now ≡ ts) × (rest e.now ≡ us) × runs i (Ok v) e

abbrev pub RefusesBy : {T : Type 0} → (MutBor ParseBuffer → Result T ParseFault → MutBor ParseBuffer → Type 0)
    → List Spanned → Type 0
RefusesBy runs ts =
    (i : MutBor ParseBuffer) × (e : MutBor ParseBuffer) × (f : ParseFault) × (rest i.now ≡ ts) × IsSyntax f
    × runs i (Err f) e

module _ {T P : Type 0} (value : Reading T) (separator : Reading P) (ended follows : List Token → Bool) where
  -- values and separators in turn, a separator behind each value
  abbrev pub ReadsTurns : List Spanned → List T → List P → List Spanned → Type 0
  ReadsTurns ts [] ps behind = (ts ≡ behind) × (ps ≡ [])
  ReadsTurns ts (v ∷ vs) [] behind = ⊥
  ReadsTurns ts (v ∷ vs) (p ∷ ps) behind =
      (us : List Spanned) × (more : List Spanned) × (ended (plain ts) ≡ false) × value ts v us
      × (follows (plain us) ≡ true) × separator us p more × ReadsTurns more vs ps behind

  -- The list ends there, or behind one more value, which no separator follows.
  abbrev pub IsEnded : List Spanned → List T → List T → List Spanned → Type 0
  IsEnded us ws vs behind =
      ((vs ≡ ws) × (ended (plain us) ≡ true) × (behind ≡ us))
      ⊎ ((v : T) × (vs ≡ ws ++ v ∷ []) × (ended (plain us) ≡ false) × value us v behind
      × (follows (plain behind) ≡ false))

  -- a list of values and separators is read, and these tokens are left
  abbrev pub ReadsMany : List Spanned → List T → List P → List Spanned → Type 0
  ReadsMany ts vs ps behind =
      (ws : List T) × (us : List Spanned) × ReadsTurns ts ws ps us × IsEnded us ws vs behind

  module _ (no_value no_separator : List Spanned → Type 0) where
    -- The list has not ended, and no value stands there; or no separator, though it seemed to.
    abbrev pub StopsAt : List Spanned → Type 0
    StopsAt us = (ended (plain us) ≡ false) × (no_value us
        ⊎ ((v : T) × (xs : List Spanned) × value us v xs × (follows (plain xs) ≡ true) × no_separator xs))

    -- Behind some turns the list can't go on, or more values and separators were read than there are tokens.
    abbrev pub StopsMany : List Spanned → Type 0
    StopsMany ts = (vs : List T) × (ps : List P) × (us : List Spanned) × ReadsTurns ts vs ps us
        × (StopsAt us ⊎ (length ts < length vs))

  -- a list is read, and tokens are left behind it
  abbrev pub IsShort : List Spanned → Type 0
  IsShort ts = (vs : List T) × (ps : List P) × (us : List Spanned) × ReadsMany ts vs ps us × (0 < length us)
