-- What a run reads and writes.
use Rattle.std.specs.Prelude.{◌≡◌, ℕ, ◌^◌, ◌<◌, ◌≤◌, List, [], ◌∷◌, ◌++◌, codes, length}
use Rattle.std.specs.Prelude.{take, Option, encode_utf8_all}
use Rattle.std.specs.Str.{chars, IsUtf8}
use Rattle.std.specs.Io.KnownBytes.{Appends}
use Rattle.rust_leaf.specs.Leaf.{text_of}
use Rattle.rust_map.specs.Faults.{shown_place}
use Rattle.laws_programs.specs.Program.{IsOutput}
use Rattle.canon.specs.Faults.{IsFaultOf}
use Rattle.canon.specs.Outline.{IsOutline}
use Rattle.canon.specs.declared.outlines.Row.{Row}
use Rattle.canon.specs.declared.pages.Page.{Page}
use Rattle.canon.specs.declared.pages.Page.TheVariants.{Canonical, Outline}
use Rattle.canon.specs.declared.fault.Fault.{Fault}
use Rattle.canon.specs.declared.fault.Fault.TheVariants.{NotUtf8, Lexical, Syntax, NotFirst, MapFull, Memory}
use Rattle.canon.specs.declared.fault.Fault.TheVariants.{Reading, Writing}

-- a run takes at most so many bytes, where it is given no limit of its own
abbrev pub run_limit : ℕ
run_limit = 2 ^ 30

-- the canonical form of the bytes, of which there are no more than the limit, and a line feed, as bytes
pub record IsPage (limit : ℕ) (bytes page : List ℕ) : Type 0 where
  pub short : length bytes ≤ limit
  pub text : IsUtf8 bytes
  pub output : List ℕ
  pub canonical : IsOutput (chars bytes) output
  pub is : page ≡ encode_utf8_all output ++ 10 ∷ []

-- the line of a row: its kind, its name and its place, with a space between them, and a line feed behind
abbrev pub row_text : Row → List ℕ
row_text row =
    chars row.kind.now ++ codes " " ++ text_of row.name ++ codes " " ++ shown_place row.place ++ 10 ∷ []

-- one line for each row
abbrev pub rows_text : List Row → List ℕ
rows_text [] = []
rows_text (row ∷ rows) = row_text row ++ rows_text rows

-- the lines of the outline of the bytes, of which there are no more than the limit, as bytes
pub record IsOutlinePage (limit : ℕ) (bytes page : List ℕ) : Type 0 where
  pub short : length bytes ≤ limit
  pub text : IsUtf8 bytes
  pub rows : List Row
  pub outline : IsOutline (chars bytes) rows
  pub is : page ≡ encode_utf8_all (rows_text rows)

-- what a run writes of the bytes, by what it was asked for
abbrev pub IsPageOf : Page → ℕ → List ℕ → List ℕ → Type 0
IsPageOf Canonical limit bytes page = IsPage limit bytes page
IsPageOf Outline limit bytes page = IsOutlinePage limit bytes page

-- known bytes of a writer grow by all of a page that is such a one
pub record Writes (IsSuch : List ℕ → Type 0) (old new : Option (List ℕ)) : Type 0 where
  pub page : List ℕ
  pub is : IsSuch page
  pub appends : Appends old new page

-- known bytes of a writer grow by a front of such a page
pub record WritesFront (IsSuch : List ℕ → Type 0) (old new : Option (List ℕ)) : Type 0 where
  pub page : List ℕ
  pub is : IsSuch page
  pub count : ℕ
  pub appends : Appends old new (take count page)

-- The fault of the bytes that a run reads: more than the limit; or no UTF-8; or the fault of the text.
abbrev pub IsRunFault : ℕ → List ℕ → Fault → Type 0
IsRunFault limit bytes MapFull = limit < length bytes
IsRunFault limit bytes NotUtf8 = (length bytes ≤ limit) × (IsUtf8 bytes → ⊥)
IsRunFault limit bytes (Lexical place) =
    (length bytes ≤ limit) × IsUtf8 bytes × IsFaultOf (chars bytes) (Lexical place)
IsRunFault limit bytes (Syntax error place) =
    (length bytes ≤ limit) × IsUtf8 bytes × IsFaultOf (chars bytes) (Syntax error place)
IsRunFault limit bytes (NotFirst index) = ⊥
IsRunFault limit bytes Memory = Unit {0}
IsRunFault limit bytes Reading = Unit {0}
IsRunFault limit bytes Writing = Unit {0}
