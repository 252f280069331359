-- From what tokens begin with to what all of them are.
use Rattle.std.proofs.Common.{◌≡◌, List, [], ◌∷◌, sym, ◌∙◌}
use Rattle.std.proofs.lemmas.List.{append-nil}
use Rattle.proc_macro2.specs.Token.{Token}
use Rattle.syn_grammar.specs.Gram.{ref}
use Rattle.syn_grammar.specs.Kind.{Kind}
use Rattle.syn_grammar.specs.Read.{IsDerived, NoneRead}
use Rattle.syn_grammar.specs.Tree.{Tree, flat}
use Rattle.syn_grammar.proofs.Theorems.{one}
use Rattle.syn_read.specs.Parsed.{IsAll, IsNone}

-- nothing is left behind the tree
pub all_read : (k : Kind) (ts : List Token) (tree : Tree) → IsDerived k ts tree [] → IsAll k ts tree
all_read k ts tree d = (d.0, sym (append-nil (flat tree)) ∙ d.1)

-- they begin with no tree
pub none_read : (k : Kind) (ts : List Token) → NoneRead k ts → IsNone k ts
none_read k ts n tree h = n tree [] h.0 (append-nil (flat tree) ∙ h.1)

some_left : (t : Token) (ts : List Token) → t ∷ ts ≡ [] → ⊥
some_left t ts e = cc

-- something is left behind the tree
pub more_read : (k : Kind) (ts : List Token) (tree : Tree) (t : Token) (rest : List Token)
    → IsDerived k ts tree (t ∷ rest) → IsNone k ts
more_read k ts tree t rest d other h =
    some_left t rest (one (ref k) tree other (t ∷ rest) [] d.0 h.0 (d.1 ∙ sym (append-nil (flat other) ∙ h.1))).1
