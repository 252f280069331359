-- The files of a source map.
use Rattle.std.specs.Prelude.{◌≡◌, ℕ, ◌≤◌, ◌^◌, List, [], ◌∷◌, map}
use Rattle.std.specs.Str.{chars}
use Rattle.std.specs.String.{string_bytes}
use Rattle.rust_map.specs.Sources.{position_behind, position_behind_all}
use Rattle.rust_map.specs.declared.file.SourceFile.{SourceFile}

-- the characters of a file
abbrev pub text_of : SourceFile → List ℕ
text_of file = chars (string_bytes file.text)

-- the texts of files
abbrev pub texts_of : List SourceFile → List (List ℕ)
texts_of files = map text_of files

-- files lie one behind the other from a position on
abbrev pub AreLaid : ℕ → List SourceFile → Type 0
AreLaid position [] = Unit {0}
AreLaid position (file ∷ files) = (file.base ≡ position) × AreLaid (position_behind position (text_of file)) files

-- the fields of a map: its files lie from the position start on, next is the position behind them,
-- and no text takes the position 0 or one past 32 bits
pub record IsLaidOut (start next : ℕ) (files : List SourceFile) : Type 0 where
  pub positive : 1 ≤ start
  pub laid : AreLaid start files
  pub next_is : next ≡ position_behind_all start (texts_of files)
  pub room : next ≤ 2 ^ 32
