-- A name that a pattern binds: what stands behind it, and its trees.
use Rattle.std.specs.Prelude.{◌≡◌, ℕ, List, None}
use Rattle.proc_macro2.specs.Token.{Token}
use Rattle.syn_grammar.specs.Kind.{IdentPattern, OnePattern, Pattern, SeveralPatterns}
use Rattle.syn_grammar.specs.Say.{brace as opens_brace, marks, parenthesis as opens_parenthesis}
use Rattle.syn_grammar.specs.Tree.{Tree, AWord, End, First, Nil, Node, Pair, Second}

-- a name is bound before what stands there, and nothing goes on with it
pub record IsBindingEnd (ts : List Token) : Type 0 where
  pub colons : marks "::" ts ≡ None
  pub parenthesis : opens_parenthesis ts ≡ None
  pub brace : opens_brace ts ≡ None
  pub dots : marks ".." ts ≡ None
  pub bang : marks "!" ts ≡ None
  pub at : marks "@" ts ≡ None

-- the name as it is bound, as one alternative, as the only one, and as a pattern
abbrev pub bound : List ℕ → Tree
bound cs = Node IdentPattern (Pair (Second Nil) (Pair (Second Nil) (Pair (AWord cs) (Second (Second Nil)))))

abbrev pub alternative : List ℕ → Tree
alternative cs = Node OnePattern (First (bound cs))

abbrev pub only_alternative : List ℕ → Tree
only_alternative cs = Node SeveralPatterns (Pair (alternative cs) End)

abbrev pub only_pattern : List ℕ → Tree
only_pattern cs = Node Pattern (Pair (Second Nil) (Pair (alternative cs) End))
