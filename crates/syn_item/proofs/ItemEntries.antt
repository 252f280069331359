-- Which kinds have attributes, a visibility and an item.
use Rattle.std.specs.Prelude.{◌≡◌}
use Rattle.std.proofs.Common.{◌∙◌, ap, subst}
use Rattle.syn_grammar.specs.Kind as k
use Rattle.syn_grammar.specs.Gram as g
use Rattle.syn_grammar.specs.Gram.{Gram, Verdict}
use Rattle.syn_grammar.specs.Tree.{Tree, Node}
use Rattle.syn_grammar.specs.Table.{table}
use Rattle.syn_part.specs.Kept.{IsFirst, IsKept}
use Rattle.syn_part.specs.Shape.{IsShaped}
use Rattle.syn_item.specs.ItemEntries.{entry_of}

pub no_entry : (x y : Tree) (i : k.Kind) → x ≡ Node i y
    → ((v : Tree → Verdict) (a : Gram) → IsFirst y → IsShaped y (entry_of v a) → ⊥)
    → (j : k.Kind) (v : Tree → Verdict) (a : Gram) → table j ≡ entry_of v a → IsKept x → IsShaped x (g.ref j) → ⊥
no_entry x y i e f j v a q m h =
    let s : IsShaped (Node i y) (g.ref j) = subst (λ z. IsShaped z (g.ref j)) e h in
    f v a (subst IsKept e m) (subst (λ z. IsShaped y z) (ap table s.0 ∙ q) s.1)
