-- The forest of a file: that of a text whose first line may be a shebang. Nothing of a file's front is a token, so its
-- tokens are those of what stands behind the shebang. Characters and places count in the whole text.
use Rattle.std.specs.Prelude.{◌≡◌, ◌≢◌, ℕ, ◌+◌, if◌then◌else◌, false, List, [], ◌∷◌, ◌++◌, length, Option, Some, None}
use Rattle.std.specs.Prelude.{◌⊎◌}
use Rattle.rust_map.specs.declared.fault.LexError.{LexError}
use Rattle.rust_map.specs.declared.fault.LexFault.{LexFault}
use Rattle.rust_map.specs.declared.fault.LexFault.TheVariants.{Lex, MapFull, Memory}
use Rattle.rust_map.specs.declared.place.LineColumn.{LineColumn}
use Rattle.rust_map.specs.Places.{place_of}
use Rattle.rust_map.specs.Spans.{span_from}
use Rattle.rust_lex.specs.FileCover.{FileFront, is_front_mark}
use Rattle.rust_lex.specs.Shebang.{begins_shebang}
use Rattle.proc_macro2.specs.Token.{Spanned}
use Rattle.proc_macro2.specs.Forest.{IsFaultBehind, IsForest}

-- a text without the byte order mark that it may begin with
abbrev pub behind_mark : List ℕ → List ℕ
behind_mark [] = []
behind_mark (c ∷ cs) = if is_front_mark c then cs else c ∷ cs

-- no shebang stands in front of the text
abbrev pub NoShebang : List ℕ → Type 0
NoShebang text = begins_shebang (behind_mark text) ≡ false

-- the line is the shebang in front of the text, and behind it, after so many characters, stands the rest
pub record HasShebang (text line rest : List ℕ) (count : ℕ) : Type 0 where
  pub mark : List ℕ
  pub front : FileFront text mark line rest
  pub is_some : line ≢ []
  pub counted : count ≡ length (mark ++ line)

-- the stream of a text with that shebang: the rest's, whose first character stands so many behind that of the text
pub record IsForestBehind (base : ℕ) (text line : List ℕ) (stream : List Spanned) : Type 0 where
  pub rest : List ℕ
  pub count : ℕ
  pub shebang : HasShebang text line rest count
  pub forest : IsForest (base + count) rest stream

-- the shebang of a file, if it has one, and its stream, where its first character stands at the position base
abbrev pub IsFileForest : ℕ → List ℕ → Option (List ℕ) → List Spanned → Type 0
IsFileForest base text None stream = NoShebang text × IsForest base text stream
IsFileForest base text (Some line) stream = IsForestBehind base text line stream

-- a text has a shebang, and behind its first n characters the lexical fault of what stands behind that
pub record IsFaultBehindLine (text : List ℕ) (n : ℕ) : Type 0 where
  pub line : List ℕ
  pub rest : List ℕ
  pub count : ℕ
  pub shebang : HasShebang text line rest count
  pub behind : ℕ
  pub fault : IsFaultBehind rest behind
  pub there : n ≡ count + behind

-- behind its first n characters the file has its lexical fault
abbrev pub IsFileFaultBehind : List ℕ → ℕ → Type 0
IsFileFaultBehind text n = NoShebang text × IsFaultBehind text n ⊎ IsFaultBehindLine text n

-- the file has its lexical fault there
abbrev pub IsFileLexicalFault : List ℕ → LineColumn → Type 0
IsFileLexicalFault text place = (n : ℕ) × IsFileFaultBehind text n × (place ≡ place_of text n)

-- an error says where the fault is: at a place of the file, and as the empty span at a position, where the file's first
-- character stands at the position base
pub record IsFileErrorOf (base : ℕ) (text : List ℕ) (error : LexError) : Type 0 where
  pub behind : ℕ
  pub fault : IsFileFaultBehind text behind
  pub place_is : error.place ≡ place_of text behind
  pub span_is : error.span ≡ span_from (base + behind) (base + behind)

-- what a refusal says of the file
abbrev pub IsFileFault : ℕ → List ℕ → LexFault → Type 0
IsFileFault base text (Lex error) = IsFileErrorOf base text error
IsFileFault base text MapFull = Unit {0}
IsFileFault base text Memory = Unit {0}
