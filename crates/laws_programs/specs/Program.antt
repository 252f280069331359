-- The program of a text, and the text that is written for it.
use Rattle.std.specs.Prelude.{◌≡◌, ℕ, Bool, false, ◌&&◌, ◌==◌, List, [], ◌∷◌, ◌++◌, Option, Some, None}
use Rattle.proc_macro2.specs.Token.{Spanned, Token, plain}
use Rattle.proc_macro2.specs.FileForest.{IsFileForest}
use Rattle.proc_macro2.specs.Printed as printed
use Rattle.syn_grammar.specs.Kind.{AFile}
use Rattle.syn_grammar.specs.Tree.{Tree, flat}
use Rattle.syn_grammar.specs.Gram.{ref}
use Rattle.syn_grammar.specs.Derives.{Derives}
use Rattle.syn_grammar.specs.Kept.{kept}
use Rattle.syn_grammar.specs.Normal.{normal}

-- the tree of a file, whose tokens these are
pub record IsFile (tokens : List Token) (tree : Tree) : Type 0 where
  pub derived : Derives tree (ref AFile) []
  pub spelled : flat tree ≡ tokens

-- the tokens are no file
abbrev pub NoFile : List Token → Type 0
NoFile tokens = (tree : Tree) → IsFile tokens tree → ⊥

-- the shebang of a text, without the line feed behind it, if there is one; and the tree of its tokens
pub record Program : Type 0 where
  pub shebang : Option (List ℕ)
  pub tree : Tree

-- the shebang, and the tree of a file that the grammar derives from the forest of the text, whose characters stand at
-- the positions from 0 on
pub record IsProgram (text : List ℕ) (program : Program) : Type 0 where
  pub tokens : List Spanned
  pub forest : IsFileForest 0 text program.shebang tokens
  pub file : IsFile (plain tokens) program.tree

-- a shebang, and the line feed that ends it
abbrev pub shebang_text : Option (List ℕ) → List ℕ
shebang_text None = []
shebang_text (Some line) = line ++ 10 ∷ []

-- the text of the normal form of what a syntax tree holds
abbrev pub tree_text : Tree → List ℕ
tree_text tree = printed.text (flat (normal (kept tree)))

-- the shebang, and the text of the normal form of what the syntax tree holds
abbrev pub written : Program → List ℕ
written program = shebang_text program.shebang ++ tree_text program.tree

-- a text that begins with #!
abbrev pub begins_bang : List ℕ → Bool
begins_bang (a ∷ b ∷ cs) = a == 35 && b == 33
begins_bang cs = false

-- the canonical form of a text that has a program
pub record IsOutput (text output : List ℕ) : Type 0 where
  pub program : Program
  pub is_program : IsProgram text program
  pub is : output ≡ written program
