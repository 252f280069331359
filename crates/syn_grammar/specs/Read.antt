-- What is read of tokens as a kind.
use Rattle.std.specs.Prelude.{◌≡◌, List, ◌++◌}
use Rattle.proc_macro2.specs.Token.{Token}
use Rattle.syn_grammar.specs.Kind.{Kind}
use Rattle.syn_grammar.specs.Tree.{Tree, flat}
use Rattle.syn_grammar.specs.Gram.{ref}
use Rattle.syn_grammar.specs.Derives.{Derives}
use Rattle.syn_grammar.specs.Kept.{kept}

-- The tokens begin with a tree of the kind, and this rest follows it.
abbrev pub IsDerived : Kind → List Token → Tree → List Token → Type 0
IsDerived k tokens tree rest = Derives tree (ref k) rest × (flat tree ++ rest ≡ tokens)

-- They begin with none.
abbrev pub NoneRead : Kind → List Token → Type 0
NoneRead k tokens = (tree : Tree) (rest : List Token) → Derives tree (ref k) rest → flat tree ++ rest ≡ tokens → ⊥

-- They begin with one, of which this is kept, and this rest follows it.
pub record IsRead (k : Kind) (tokens : List Token) (form : Tree) (rest : List Token) : Type 0 where
  pub tree : Tree
  pub derived : Derives tree (ref k) rest
  pub spelled : flat tree ++ rest ≡ tokens
  pub kept_is : kept tree ≡ form
