-- Texts that are joined by line feeds, and the first of them that may not stand where it does.
use Rattle.std.specs.Prelude.{◌≡◌, ℕ, zero, suc, Bool, true, false, ◌&&◌, ◌||◌, List, [], ◌∷◌, ◌++◌, Option, None}
use Rattle.rust_lex.specs.Chars.{begins}
use Rattle.rust_lex.specs.FileCover.{is_front_mark}
use Rattle.rust_map.specs.declared.place.LineColumn.{LineColumn}
use Rattle.proc_macro2.specs.FileForest.{IsFileLexicalFault}
use Rattle.proc_macro2.specs.Printed.{space}
use Rattle.proc_macro2.specs.Token.{Token}
use Rattle.syn_grammar.specs.Kind.{AFile, InnerAttributes, Items}
use Rattle.syn_grammar.specs.Tree.{Tree, Pair, End, Again, Node, flat}
use Rattle.laws_programs.specs.Faults.{IsSyntaxFault}
use Rattle.laws_programs.specs.Program.{IsProgram, Program, written}

-- texts one behind the other, with a line feed between two
abbrev pub joined : List (List ℕ) → List ℕ
joined [] = []
joined (text ∷ []) = text
joined (text ∷ next ∷ texts) = text ++ 10 ∷ joined (next ∷ texts)

-- what stands one behind the other
abbrev pub turns : Tree → List Tree
turns (Again x y) = x ∷ turns y
turns x = []

-- the attributes of a file itself, and its items
abbrev pub attributes_of : Tree → List Tree
attributes_of (Node k (Pair (Node l x) y)) = turns x
attributes_of x = []

abbrev pub items_of : Tree → List Tree
items_of (Node k (Pair a (Node l x))) = turns x
items_of x = []

-- the file that has these attributes and these items
abbrev pub in_turn : List Tree → Tree
in_turn [] = End
in_turn (x ∷ xs) = Again x (in_turn xs)

abbrev pub file_of : List Tree → List Tree → Tree
file_of attributes items =
    Node AFile (Pair (Node InnerAttributes (in_turn attributes)) (Node Items (in_turn items)))

-- A text with this program may stand behind another: it has no byte order mark, no shebang, and no attribute or doc
-- comment of the file itself.
pub record IsLater (text : List ℕ) (program : Program) : Type 0 where
  pub no_mark : begins is_front_mark text ≡ false
  pub no_shebang : program.shebang ≡ None
  pub no_attributes : attributes_of program.tree ≡ []

-- Texts with these programs may be joined: each that stands behind another may do so. Whether the first of them stands
-- behind another is told (`later`).
abbrev pub AreJoinable : Bool → List (List ℕ) → List Program → Type 0
AreJoinable later [] [] = Unit {0}
AreJoinable later (text ∷ texts) (program ∷ programs) =
    IsProgram text program × (later ≡ true → IsLater text program) × AreJoinable true texts programs
AreJoinable later _ _ = ⊥

-- the items of all
abbrev pub all_items : List Program → List Tree
all_items [] = []
all_items (program ∷ programs) = items_of program.tree ++ all_items programs

-- whether there are tokens
abbrev pub has_tokens : List Token → Bool
has_tokens [] = false
has_tokens (t ∷ ts) = true

-- What is written of each, one behind the other: a space before that of a text that has tokens, where one before it has
-- tokens. Whether one that stands before all of these does is told.
abbrev pub spaced : Bool → List Program → List ℕ
spaced before [] = []
spaced before (program ∷ programs) =
    let some : Bool = has_tokens (flat program.tree) in
    space (before && some) ++ (written program ++ spaced (before || some) programs)

-- The canonical form of joined texts: they may be joined; what they are joined to is accepted, and this is its output;
-- its items are theirs, in order; and the output is theirs, one behind the other.
pub record IsJoinedOutput (texts : List (List ℕ)) (output : List ℕ) : Type 0 where
  pub programs : List Program
  pub joinable : AreJoinable false texts programs
  pub whole : Program
  pub accepted : IsProgram (joined texts) whole
  pub is : output ≡ written whole
  pub items : items_of whole.tree ≡ all_items programs
  pub parts : output ≡ spaced false programs

-- What may be wrong with a text where it stands: it has no forest, and its lexical fault is there; it has a forest that
-- is no file; or it must come first, and doesn't.
pub data Wrong : Type 0 where
  NoForest : (place : LineColumn) → Wrong
  NoFile : (place : Option LineColumn) → Wrong
  MustBeFirst : Wrong

-- The same is wrong: two lexical faults at one place, two that are no file, or two that must come first. The places of
-- the second kind may differ, as IsSyntaxFault leaves open which token it is.
abbrev pub AreAlike : Wrong → Wrong → Type 0
AreAlike (NoForest place) (NoForest other) = place ≡ other
AreAlike (NoFile place) (NoFile other) = Unit {0}
AreAlike MustBeFirst MustBeFirst = Unit {0}
AreAlike wrong other = ⊥

-- This is wrong with a text. Whether it stands behind another is told (`later`).
abbrev pub IsWrong : Bool → List ℕ → Wrong → Type 0
IsWrong later text (NoForest place) = IsFileLexicalFault text place
IsWrong later text (NoFile place) = IsSyntaxFault text place
IsWrong later text MustBeFirst =
    (later ≡ true) × (program : Program) × IsProgram text program × (IsLater text program → ⊥)

-- The text that so many others precede is the first that may not stand where it does, and this is wrong with it.
-- Whether the first of them stands behind another is told (`later`).
abbrev pub IsFirstFault : Bool → List (List ℕ) → ℕ → Wrong → Type 0
IsFirstFault later [] n wrong = ⊥
IsFirstFault later (text ∷ texts) zero wrong = IsWrong later text wrong
IsFirstFault later (text ∷ texts) (suc n) wrong =
    (program : Program) × IsProgram text program × (later ≡ true → IsLater text program)
    × IsFirstFault true texts n wrong
