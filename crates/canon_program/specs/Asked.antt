-- What the program is asked for by its arguments.
use Rattle.std.specs.Prelude.{◌≡◌, ◌≢◌, ℕ, List, [], ◌∷◌, codes, map, string_bytes}
use Rattle.canon_program.specs.declared.Asked.{Asked}
use Rattle.canon_program.specs.declared.Asked.TheVariants.{Canonical, Outline, Join, Unknown}

-- by no argument for the canonical form; by the one argument `outline` for the outline; by `join` and names, one at
-- least, for what the files of these names are joined to; and by others for nothing that it knows
abbrev pub IsAsked : List (List ℕ) → Asked → Type 0
IsAsked words Canonical = words ≡ []
IsAsked words Outline = words ≡ codes "outline" ∷ []
IsAsked words (Join names) = (words ≡ codes "join" ∷ map string_bytes names.now) × (names.now ≢ [])
IsAsked words Unknown =
    (words ≢ []) × (words ≢ codes "outline" ∷ [])
    × ((names : List (List ℕ)) → words ≡ codes "join" ∷ names → names ≡ [])
