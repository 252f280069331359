-- What was read as an item of one kind by itself.
use Rattle.std.specs.Prelude.{◌≡◌, List}
use Rattle.std.proofs.Common.{◌∙◌, ap, subst}
use Rattle.proc_macro2.specs.Token.{Token}
use Rattle.syn_part.specs.Kept.{IsKept}
use Rattle.syn_grammar.specs.Derives.{Derives}
use Rattle.syn_grammar.specs.Gram.{called, ref, seq}
use Rattle.syn_grammar.specs.Kind as k
use Rattle.syn_grammar.specs.Kind.{Kind}
use Rattle.syn_grammar.specs.Lists.{only}
use Rattle.syn_grammar.specs.Name as n
use Rattle.syn_grammar.specs.Table.{table}
use Rattle.syn_grammar.specs.Tree.{Tree, Called, First, Node, Pair}
use Rattle.syn_item.proofs.ItemKept.{kept_by_itself}

-- it is kept as it was read
pub only_kept : (i j : Kind) → table i ≡ only j → (x : Tree) (rest : List Token) → Derives x (ref i) rest → IsKept x
only_kept i j q x rest d =
    kept_by_itself i k.InFile (seq (ref k.OuterAttributes) (seq (called n.the_visibility (ref k.Visibility))
    (called n.the_item (ref j)))) q x rest d

-- it is of that kind, and what stands behind its attributes and its visibility is a form of the other kind
pub form_read : (i j l : Kind) (a v y x : Tree) (rest : List Token) → table i ≡ only j
    → x ≡ Node l (First (Pair a (Pair (Called n.the_visibility v) (Called n.the_item y))))
    → Derives x (ref i) rest → (l ≡ i) × Derives y (ref j) rest
form_read i j l a v y x rest q e d =
    let inside : Tree = First (Pair a (Pair (Called n.the_visibility v) (Called n.the_item y))) in
    let whole : Derives (Node l inside) (ref i) rest = subst (λ (z : Tree). Derives z (ref i) rest) e d in
    let parts : Derives inside (only j) rest = subst (λ z. Derives inside z rest) (ap table whole.0 ∙ q) whole.1 in
    (whole.0, parts.1.1.1.1)
