-- Parts that may be absent: their tree where none stands, and the mark by which one is known. And pub alone.
use Rattle.std.specs.Prelude.{◌≡◌, ℕ, List, None}
use Rattle.proc_macro2.specs.Token.{Token}
use Rattle.syn_grammar.specs.Kind.{Kind, Visibility}
use Rattle.syn_grammar.specs.Look.{past_marks}
use Rattle.syn_grammar.specs.Name.{the_pub}
use Rattle.syn_grammar.specs.Tree.{Tree, AWord, Called, First, Nil, Node, Pair, Second}
use Rattle.reader_fast.specs.Read.{IsReadIn}

abbrev pub nothing : Kind → Tree
nothing k = Node k (Second Nil)

-- no punctuation that begins with that mark stands first
abbrev pub LacksMark : ℕ → List Token → Type 0
LacksMark c ts = (cs : List ℕ) → past_marks c cs ts ≡ None

-- where no such one stands first, nothing of the kind does
abbrev pub IsToldBy : Kind → ℕ → Type 0
IsToldBy k c = (ts : List Token) → LacksMark c ts → IsReadIn 1 k ts (nothing k) ts

-- pub, without a restriction
abbrev pub public : List ℕ → Tree
public cs = Node Visibility (First (Pair (Called the_pub (AWord cs)) (Second Nil)))
