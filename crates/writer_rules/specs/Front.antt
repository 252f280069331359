-- What stands in front of others, and stays there.
use Rattle.std.specs.Prelude.{◌≡◌, List, ◌++◌}

-- these stand in front
abbrev pub IsFront : {X : Type 0} → List X → List X → Type 0
IsFront {X} front all = (behind : List X) × (all ≡ front ++ behind)

-- whatever stood in front of the old ones stands in front of the new ones: so do the old ones themselves
unfoldable pub Keeps : {X : Type 0} → List X → List X → Type 0
Keeps {X} old new = (front : List X) → IsFront front old → IsFront front new
