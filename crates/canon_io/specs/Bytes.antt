-- Known bytes of which a number is consumed, or a front is appended.
use Rattle.std.specs.Prelude.{◌≡◌, ℕ, ◌<◌, ◌≤◌, List, length, take, Option}
use Rattle.std.specs.Io.KnownBytes.{Appends, Consumes}

-- known bytes lose their first ones, exactly so many
abbrev pub ConsumesExactly : Option (List ℕ) → Option (List ℕ) → ℕ → Type 0
ConsumesExactly old new count = (bs : List ℕ) × Consumes old new bs × (length bs ≡ count)

-- known bytes lose their first ones, at most so many
abbrev pub ConsumesAtMost : Option (List ℕ) → Option (List ℕ) → ℕ → Type 0
ConsumesAtMost old new most = (bs : List ℕ) × Consumes old new bs × (length bs ≤ most)

-- known bytes grow by the first of these bytes, and not by all of them
abbrev pub AppendsFront : Option (List ℕ) → Option (List ℕ) → List ℕ → Type 0
AppendsFront old new bytes =
    (count : ℕ) × (count < length bytes) × Appends old new (take count bytes)
