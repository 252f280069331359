-- Texts whose tokens are no file.
use Rattle.std.specs.Prelude.{◌≡◌, ℕ, List, Option, slice_get, option_and_then}
use Rattle.std.specs.Option.{option_map}
use Rattle.rust_map.specs.declared.place.LineColumn.{LineColumn}
use Rattle.rust_map.specs.Places.{place_of}
use Rattle.proc_macro2.specs.Token.{Spanned, plain}
use Rattle.proc_macro2.specs.Pieces.{edged}
use Rattle.proc_macro2.specs.FileForest.{IsFileForest}
use Rattle.laws_programs.specs.Program.{NoFile}

-- where a token of a text begins whose characters stand at the positions from 0 on: so many of them
-- precede it
abbrev pub begins_at : List ℕ → Spanned → LineColumn
begins_at text s = place_of text (edged s).span.start

-- where a token stands, by its index; nowhere, where there is no such token
abbrev pub token_place : List ℕ → List Spanned → Option ℕ → Option LineColumn
token_place text tokens index = option_map (begins_at text) (option_and_then (slice_get tokens) index)

-- The text has a forest, with its shebang if it has one, whose tokens are no file. The place is that of one of its
-- tokens, or none.
pub record IsSyntaxFault (text : List ℕ) (place : Option LineColumn) : Type 0 where
  pub shebang : Option (List ℕ)
  pub tokens : List Spanned
  pub forest : IsFileForest 0 text shebang tokens
  pub no_file : NoFile (plain tokens)
  pub index : Option ℕ
  pub there : place ≡ token_place text tokens index
