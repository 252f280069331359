-- A tree as a list of its nodes, children before their parent, from which it is had back: by this its values are told
-- apart. No definition rests on it.
use Rattle.std.specs.Prelude.{◌≡◌, ℕ, List, [], ◌∷◌, refl}
use Rattle.std.proofs.Common.{◌∙◌, ap}
use Rattle.proc_macro2.specs.Token.{Token}
use Rattle.proc_macro2.specs.declared.delimiter.Delimiter.{Delimiter}
use Rattle.rust_leaf.specs.declared.punct.Spacing.{Spacing}
use Rattle.syn_grammar.specs.Kind.{Kind}
use Rattle.syn_grammar.specs.Name.{Part}
use Rattle.syn_grammar.specs.Tree as t
use Rattle.syn_grammar.specs.Tree.{Tree}

-- a node without its children
pub data Piece : Type 0 where
  AWord : (cs : List ℕ) → Piece
  ALiteral : (cs : List ℕ) → Piece
  AMark : (c : ℕ) (cs : List ℕ) (spacing : Spacing) → Piece
  ALifetime : (cs : List ℕ) → Piece
  ARaw : (ts : List Token) → Piece
  ANil : Piece
  AEnd : Piece
  AFirst : Piece
  ASecond : Piece
  AFinal : Piece
  AGroup : (d : Delimiter) → Piece
  ADropped : Piece
  ACalled : (n : Part) → Piece
  AVerbatim : Piece
  AHidden : Piece
  ANode : (k : Kind) → Piece
  AWhole : Piece
  AAlone : (k : Kind) → Piece
  APair : Piece
  AAgain : Piece
  AMore : (c : ℕ) (spacing : Spacing) → Piece
  AFront : (k : Kind) → Piece
  ABack : (k : Kind) → Piece
  AInfix : (k : Kind) → Piece

-- the nodes, and then others
abbrev pub onto : Tree → List Piece → List Piece
onto (t.AWord cs) ps = AWord cs ∷ ps
onto (t.ALiteral cs) ps = ALiteral cs ∷ ps
onto (t.AMark c cs spacing) ps = AMark c cs spacing ∷ ps
onto (t.ALifetime cs) ps = ALifetime cs ∷ ps
onto (t.Raw ts) ps = ARaw ts ∷ ps
onto t.Nil ps = ANil ∷ ps
onto t.End ps = AEnd ∷ ps
onto (t.First x) ps = onto x (AFirst ∷ ps)
onto (t.Second x) ps = onto x (ASecond ∷ ps)
onto (t.Final x) ps = onto x (AFinal ∷ ps)
onto (t.Group d x) ps = onto x (AGroup d ∷ ps)
onto (t.Dropped x) ps = onto x (ADropped ∷ ps)
onto (t.Called n x) ps = onto x (ACalled n ∷ ps)
onto (t.Verbatim x) ps = onto x (AVerbatim ∷ ps)
onto (t.Hidden x) ps = onto x (AHidden ∷ ps)
onto (t.Node k x) ps = onto x (ANode k ∷ ps)
onto (t.Whole x) ps = onto x (AWhole ∷ ps)
onto (t.Alone k x) ps = onto x (AAlone k ∷ ps)
onto (t.Pair x y) ps = onto x (onto y (APair ∷ ps))
onto (t.Again x y) ps = onto x (onto y (AAgain ∷ ps))
onto (t.More x c spacing y) ps = onto x (onto y (AMore c spacing ∷ ps))
onto (t.Front k x y) ps = onto x (onto y (AFront k ∷ ps))
onto (t.Back x k y) ps = onto x (onto y (ABack k ∷ ps))
onto (t.Infix x k y z) ps = onto x (onto y (onto z (AInfix k ∷ ps)))

abbrev pub pushed : Piece → List Tree → List Tree
pushed (AWord cs) s = t.AWord cs ∷ s
pushed (ALiteral cs) s = t.ALiteral cs ∷ s
pushed (AMark c cs spacing) s = t.AMark c cs spacing ∷ s
pushed (ALifetime cs) s = t.ALifetime cs ∷ s
pushed (ARaw ts) s = t.Raw ts ∷ s
pushed ANil s = t.Nil ∷ s
pushed AEnd s = t.End ∷ s
pushed AFirst (x ∷ s) = t.First x ∷ s
pushed ASecond (x ∷ s) = t.Second x ∷ s
pushed AFinal (x ∷ s) = t.Final x ∷ s
pushed (AGroup d) (x ∷ s) = t.Group d x ∷ s
pushed ADropped (x ∷ s) = t.Dropped x ∷ s
pushed (ACalled n) (x ∷ s) = t.Called n x ∷ s
pushed AVerbatim (x ∷ s) = t.Verbatim x ∷ s
pushed AHidden (x ∷ s) = t.Hidden x ∷ s
pushed (ANode k) (x ∷ s) = t.Node k x ∷ s
pushed AWhole (x ∷ s) = t.Whole x ∷ s
pushed (AAlone k) (x ∷ s) = t.Alone k x ∷ s
pushed APair (y ∷ x ∷ s) = t.Pair x y ∷ s
pushed AAgain (y ∷ x ∷ s) = t.Again x y ∷ s
pushed (AMore c spacing) (y ∷ x ∷ s) = t.More x c spacing y ∷ s
pushed (AFront k) (y ∷ x ∷ s) = t.Front k x y ∷ s
pushed (ABack k) (y ∷ x ∷ s) = t.Back x k y ∷ s
pushed (AInfix k) (z ∷ y ∷ x ∷ s) = t.Infix x k y z ∷ s
pushed _ s = s

abbrev pub pushed_all : List Piece → List Tree → List Tree
pushed_all [] s = s
pushed_all (p ∷ ps) s = pushed_all ps (pushed p s)

abbrev pub last : List Tree → Tree
last [] = t.Nil
last (x ∷ s) = x

abbrev pub pieces : Tree → List Piece
pieces x = onto x []

abbrev pub from_pieces : List Piece → Tree
from_pieces ps = last (pushed_all ps [])

had_back : (x : Tree) (ps : List Piece) (s : List Tree) → pushed_all (onto x ps) s ≡ pushed_all ps (x ∷ s)
had_back (t.AWord cs) ps s = refl
had_back (t.ALiteral cs) ps s = refl
had_back (t.AMark c cs spacing) ps s = refl
had_back (t.ALifetime cs) ps s = refl
had_back (t.Raw ts) ps s = refl
had_back t.Nil ps s = refl
had_back t.End ps s = refl
had_back (t.First x) ps s = had_back x (AFirst ∷ ps) s
had_back (t.Second x) ps s = had_back x (ASecond ∷ ps) s
had_back (t.Final x) ps s = had_back x (AFinal ∷ ps) s
had_back (t.Group d x) ps s = had_back x (AGroup d ∷ ps) s
had_back (t.Dropped x) ps s = had_back x (ADropped ∷ ps) s
had_back (t.Called n x) ps s = had_back x (ACalled n ∷ ps) s
had_back (t.Verbatim x) ps s = had_back x (AVerbatim ∷ ps) s
had_back (t.Hidden x) ps s = had_back x (AHidden ∷ ps) s
had_back (t.Node k x) ps s = had_back x (ANode k ∷ ps) s
had_back (t.Whole x) ps s = had_back x (AWhole ∷ ps) s
had_back (t.Alone k x) ps s = had_back x (AAlone k ∷ ps) s
had_back (t.Pair x y) ps s = had_back x (onto y (APair ∷ ps)) s ∙ had_back y (APair ∷ ps) (x ∷ s)
had_back (t.Again x y) ps s = had_back x (onto y (AAgain ∷ ps)) s ∙ had_back y (AAgain ∷ ps) (x ∷ s)
had_back (t.More x c spacing y) ps s = had_back x (onto y (AMore c spacing ∷ ps)) s
    ∙ had_back y (AMore c spacing ∷ ps) (x ∷ s)
had_back (t.Front k x y) ps s = had_back x (onto y (AFront k ∷ ps)) s ∙ had_back y (AFront k ∷ ps) (x ∷ s)
had_back (t.Back x k y) ps s = had_back x (onto y (ABack k ∷ ps)) s ∙ had_back y (ABack k ∷ ps) (x ∷ s)
had_back (t.Infix x k y z) ps s =
    had_back x (onto y (onto z (AInfix k ∷ ps))) s ∙ had_back y (onto z (AInfix k ∷ ps)) (x ∷ s)
    ∙ had_back z (AInfix k ∷ ps) (y ∷ x ∷ s)

pub same_again : (x : Tree) → from_pieces (pieces x) ≡ x
same_again x = ap last (had_back x [] [])
