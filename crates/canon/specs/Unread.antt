-- Tokens of which no file, or no form of a kind, is read; and the text of the file that tokens are.
use Rattle.std.specs.Prelude.{◌≡◌, ℕ, List}
use Rattle.proc_macro2.specs.Token.{Token}
use Rattle.syn_grammar.specs.Kind.{Kind}
use Rattle.syn_grammar.specs.Read.{NoneRead}
use Rattle.syn_grammar.specs.Tree.{Tree}
use Rattle.laws_programs.specs.Program.{IsFile, NoFile, tree_text}
use Rattle.canon.specs.declared.file.Unread.{Unread}
use Rattle.canon.specs.declared.file.Unread.TheVariants.{Memory, Syntax}

-- what a refusal says of the tokens: that memory was refused says nothing of them
abbrev pub IsUnread : List Token → Unread → Type 0
IsUnread tokens Memory = Unit {0}
IsUnread tokens (Syntax wrong) = NoFile tokens

-- what it says where a form of the kind was to stand first
abbrev pub IsUnreadAs : Kind → List Token → Unread → Type 0
IsUnreadAs k tokens Memory = Unit {0}
IsUnreadAs k tokens (Syntax wrong) = NoneRead k tokens

-- The text of the normal form of the file that tokens are.
pub record IsForm (tokens : List Token) (output : List ℕ) : Type 0 where
  pub tree : Tree
  pub file : IsFile tokens tree
  pub is : output ≡ tree_text tree
