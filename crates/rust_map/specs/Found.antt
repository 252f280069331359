-- What the look-up in a map finds.
use Rattle.std.specs.Prelude.{◌-◌, ◌≤◌, length}
use Rattle.rust_map.specs.declared.source_map.Found.{Found}
use Rattle.rust_map.specs.Files.{text_of}
use Rattle.rust_map.specs.Sources.{Spot}

-- what is found, as the spot of a span
abbrev pub spot_of : Found → Spot
spot_of found = record { number = found.number - 1; text = text_of found.file.now; from = found.from; to = found.to }

-- files count from 1, and the counts are counts of characters of the file, in order
pub record IsWithin (found : Found) : Type 0 where
  pub counted : 1 ≤ found.number
  pub ordered : found.from ≤ found.to
  pub inside : found.to ≤ length (text_of found.file.now)
