-- The elements of a list, in order.
use Rattle.std.specs.Prelude.{◌≡◌, ℕ, List, [], ◌∷◌, ◌++◌, Option, Some, None, map, refl}
use Rattle.std.proofs.Common.{ap}
use Rattle.syn_grammar.specs.Tree.{Tree}
use Rattle.reader_tree.specs.declared.tree.Element.{Element}
use Rattle.reader_tree.specs.Forms.{elements, ending}
use Rattle.syn_part.specs.Iter.{last_part, parts}
use Rattle.syn_part.specs.Leaves.{node_tree}
use denote.Bor.{Bor}

pub parts_listed : (c : ℕ) (es : List Element) (o : Option (Bor Tree))
    → parts (elements c es (ending node_tree o)) ≡ map (λ e. e.tree) es ++ last_part o
parts_listed c [] None = refl
parts_listed c [] (Some x) = refl
parts_listed c (e ∷ es) o = ap (λ xs. e.tree ∷ xs) (parts_listed c es o)
