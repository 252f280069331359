-- What is chosen in what was read.
use Rattle.std.specs.Prelude.{ℕ, List, Bool, true, false, Option, Some, None}
use Rattle.syn_grammar.specs.Name.{Part, the_unnamed}
use Rattle.syn_grammar.specs.Words.{is_ident}
use Rattle.syn_grammar.specs.Tree.{Tree, AWord, ALiteral, Nil, Pair, First, Second, Called}

-- an option that isn't there, which is the last of choices
abbrev pub is_missing : Tree → Bool
is_missing Nil = true
is_missing (Second x) = is_missing x
is_missing _ = false

-- one of two was chosen
abbrev pub is_choice : Tree → Bool
is_choice (First x) = true
is_choice (Second x) = true
is_choice _ = false

-- the second of three
abbrev pub middle_of : Tree → Option Tree
middle_of (Second (First x)) = Some x
middle_of _ = None

-- the third of four
abbrev pub third_of : Tree → Option Tree
third_of (Second (Second (First x))) = Some x
third_of _ = None

-- whether the fourth of four
abbrev pub is_fourth : Tree → Bool
is_fourth (Second (Second (Second x))) = true
is_fourth _ = false

-- the text of a literal
abbrev pub text_of_literal : Tree → Option (List ℕ)
text_of_literal (ALiteral cs) = Some cs
text_of_literal _ = None

-- of a part its name and its inside
abbrev pub called_of : Tree → Option (Part × Tree)
called_of (Called n x) = Some (n, x)
called_of _ = None

-- of a part that is a type alone the type
abbrev pub unnamed_of : Tree → Option Tree
unnamed_of (Called the_unnamed t) = Some t
unnamed_of _ = None

-- of a parameter that is a type alone: what stands in front of the type, and the type
abbrev pub type_alone : Tree → Option (Tree × Tree)
type_alone (Pair a (Second (Second (First (Called the_unnamed t))))) = Some (a, t)
type_alone _ = None

-- a word that is no keyword
abbrev pub is_free_word : Tree → Bool
is_free_word (AWord cs) = is_ident cs
is_free_word _ = false

-- an argument that is a constant, and a literal with a sign or without
abbrev pub is_constant : Tree → Bool
is_constant (Second (First (First x))) = true
is_constant (Second (First (Second x))) = true
is_constant _ = false
