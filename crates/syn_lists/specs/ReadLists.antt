-- Lists of values with separators, as they are read.
use Rattle.std.specs.Prelude.{◌≡◌, ◌<◌, List, [], ◌∷◌, ◌++◌, ◌⊎◌, length}
use Rattle.proc_macro2.specs.Token.{Spanned}

-- what is read as a value of a type: from tokens, and which are left
abbrev pub Reading : Type 0 → Type 1
Reading T = List Spanned → T → List Spanned → Type 0

-- values and separators in turn, a separator behind each value
abbrev pub ReadsPairs : {T P : Type 0} → Reading T → Reading P → List Spanned → List T → List P → List Spanned → Type 0
ReadsPairs value separator ts [] ps behind = (ts ≡ behind) × (ps ≡ [])
ReadsPairs value separator ts (v ∷ vs) [] behind = ⊥
ReadsPairs value separator ts (v ∷ vs) (p ∷ ps) behind =
    (us : List Spanned) × (more : List Spanned) × value ts v us × separator us p more
    × ReadsPairs value separator more vs ps behind

-- the same, and perhaps a last value that no separator follows
abbrev pub EndsInValue : {T P : Type 0} → Reading T → Reading P → List Spanned → List T → List P → List Spanned → Type 0
EndsInValue {T} value separator ts vs ps behind = (ws : List T) × (v : T) × (us : List Spanned)
    × (vs ≡ ws ++ v ∷ []) × ReadsPairs value separator ts ws ps us × value us v behind

abbrev pub ReadsList : {T P : Type 0} → Reading T → Reading P → List Spanned → List T → List P → List Spanned → Type 0
ReadsList value separator ts vs ps behind =
    ReadsPairs value separator ts vs ps behind ⊎ EndsInValue value separator ts vs ps behind

-- where tokens are left, no value is read, or no separator behind one
abbrev pub StopsAt : {T : Type 0} → Reading T → (List Spanned → Type 0) → (List Spanned → Type 0) → List Spanned
    → Type 0
StopsAt {T} value no_value no_separator ts = (0 < length ts) × (no_value ts
    ⊎ ((v : T) × (us : List Spanned) × value ts v us × (0 < length us) × no_separator us))

-- behind values and separators in turn the list can't go on, or more were read than there are tokens
abbrev pub StopsList : {T P : Type 0} → Reading T → Reading P → (List Spanned → Type 0) → (List Spanned → Type 0) →
    List Spanned → Type 0
StopsList {T} {P} value separator no_value no_separator ts = (vs : List T) × (ps : List P) × (us : List Spanned)
    × ReadsPairs value separator ts vs ps us
    × (StopsAt value no_value no_separator us ⊎ (length ts < length vs))
