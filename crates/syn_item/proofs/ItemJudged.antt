-- What a tree that was judged can't be.
use Rattle.std.specs.Prelude.{◌≢◌, ℕ, zero, suc, refl}
use Rattle.reader_tree.specs.Forms.{seconds}
use Rattle.syn_grammar.specs.Gram.{Gram, Verdict, judged}
use Rattle.syn_grammar.specs.Tree as t
use Rattle.syn_grammar.specs.Tree.{Tree}
use Rattle.syn_part.specs.Shape.{IsShaped}
use Rattle.syn_part.proofs.Takes.{shaped_mark, shaped_turns, shaped_elements}

-- no choice of the second is judged
pub seconds_judged : (n : ℕ) (x : Tree) (v : Tree → Verdict) (g : Gram) → n ≢ 0
    → IsShaped (seconds n (t.First x)) (judged v g) → ⊥
seconds_judged zero x v g d h = absurd (d refl)
seconds_judged (suc n) x v g d h = absurd h

pub ruleset judges = (seconds_judged, shaped_mark, shaped_turns, shaped_elements)
