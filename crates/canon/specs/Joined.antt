-- Texts that are joined: which of them decides, and what becomes of the map that they are put into.
use Rattle.std.specs.Prelude.{◌≡◌, ℕ, ◌+◌, ◌^◌, ◌<◌, ◌≤◌, ◌⊎◌, Bool, true, false, not}
use Rattle.std.specs.Prelude.{◌&&◌, Option, is_none}
use Rattle.std.specs.Prelude.{List, [], ◌∷◌, ◌++◌, length, map}
use denote.Ref.{Bor}
use Rattle.std.specs.Str.{chars}
use Rattle.rust_lex.specs.Chars.{begins}
use Rattle.rust_lex.specs.FileCover.{is_front_mark}
use Rattle.rust_map.specs.Sources.{Sources, next_position, with_text}
use Rattle.laws_programs.specs.Joined.{AreJoinable, IsFirstFault, IsLater, MustBeFirst, NoFile, NoForest, joined}
use Rattle.laws_programs.specs.Program.{IsProgram, Program}
use Rattle.canon.specs.Faults.{IsFaultOf}
use Rattle.canon.specs.Maps.{IsLeft}
use Rattle.canon.specs.Places.{IsPlaced}
use Rattle.canon.specs.declared.fault.Fault.{Fault}
use Rattle.canon.specs.declared.fault.Fault.TheVariants.{NotUtf8, Lexical, Syntax, NotFirst, MapFull, Memory}
use Rattle.canon.specs.declared.fault.Fault.TheVariants.{Reading, Writing}

-- the characters of each
abbrev pub texts_of : List (Bor (List ℕ)) → List (List ℕ)
texts_of texts = map (λ text. chars text.now) texts

-- what is put into the map, one behind the other: the texts, and behind them what they are joined to
abbrev pub put_in : List (List ℕ) → List (List ℕ)
put_in texts = texts ++ joined texts ∷ []

-- the map has no room for a text
abbrev pub HasNoRoom : Sources → List ℕ → Type 0
HasNoRoom map text = 2 ^ 32 ≤ next_position map + length text

-- The map has no room for one of the texts, where each is put in once those before it may be joined. Whether the first
-- of them stands behind another is told (`later`).
abbrev pub LacksRoom : Bool → Sources → List (List ℕ) → Type 0
LacksRoom later map [] = ⊥
LacksRoom later map (text ∷ texts) =
    HasNoRoom map text
    ⊎ (program : Program) × IsProgram text program × (later ≡ true → IsLater text program)
    × LacksRoom true (with_text map text) texts

-- each of the texts is put behind those before it, and there is room for each
abbrev pub AreBehind : List (List ℕ) → Sources → Sources → Type 0
AreBehind [] old new = new ≡ old
AreBehind (text ∷ texts) old new = (HasNoRoom old text → ⊥) × AreBehind texts (with_text old text) new

-- Texts were put into a map, one behind the other: they may be joined, and there was room for each.
pub record ArePut (texts : List (List ℕ)) (old new : Sources) : Type 0 where
  pub programs : List Program
  pub joinable : AreJoinable false texts programs
  pub behind : AreBehind texts old new

-- a text has no byte order mark, no shebang and no attributes of its own
abbrev pub may_follow : List ℕ → Option (Bor (List ℕ)) → Bool → Bool
may_follow text shebang own = not own && (is_none shebang && not (begins is_front_mark text))

-- what a fault says of a text that so many others precede
abbrev pub IsFaultOfLater : ℕ → List ℕ → Fault → Type 0
IsFaultOfLater n text (NotFirst index) =
    (index ≡ n) × (0 < n) × (program : Program) × IsProgram text program × (IsLater text program → ⊥)
IsFaultOfLater n text fault = IsFaultOf text fault

-- The text that decides: those before it were put into the map, and there it is at fault, or the map has no room for
-- it, or memory is refused. Want of room is found first; but the last text, which is made of the others, may want
-- memory before.
pub record IsDecidedBy (texts : List (List ℕ)) (old new : Sources) (fault : Fault) : Type 0 where
  pub before : List (List ℕ)
  pub text : List ℕ
  pub others : List (List ℕ)
  pub split : texts ≡ before ++ text ∷ others
  pub between : Sources
  pub put : ArePut before old between
  pub is : IsFaultOfLater (length before) text fault
  pub full : fault ≡ MapFull → HasNoRoom between text
  pub no_room : HasNoRoom between text → (fault ≡ MapFull) ⊎ ((fault ≡ Memory) × (others ≡ []))
  pub placed : IsPlaced (next_position between) text new fault
  pub left : IsLeft text between new fault

-- what a fault says of the texts: it is that of the first that may not stand where it does
abbrev pub IsFaultAmong : List (List ℕ) → Fault → Type 0
IsFaultAmong texts (Lexical place) = (n : ℕ) × IsFirstFault false texts n (NoForest place)
IsFaultAmong texts (Syntax error place) = (n : ℕ) × IsFirstFault false texts n (NoFile place)
IsFaultAmong texts (NotFirst index) = IsFirstFault false texts index MustBeFirst
IsFaultAmong texts MapFull = Unit {0}
IsFaultAmong texts Memory = Unit {0}
IsFaultAmong texts NotUtf8 = ⊥
IsFaultAmong texts Reading = ⊥
IsFaultAmong texts Writing = ⊥
