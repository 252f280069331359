use Rattle.std.specs.Prelude.{◌≡◌, ◌≤◌, ℕ, Bool, List, drop}
use Rattle.proc_macro2.specs.Token.{Token}
use Rattle.syn_grammar.specs.Gram.{star}
use Rattle.syn_grammar.specs.Kept.{kept}
use Rattle.reader_tree.specs.Forms.{turns}
use Rattle.reader_tree.specs.Size.{node_count}
use Rattle.node_shapes.specs.Shape.{IsShaped}
use Rattle.node_take.proofs.Lists.{turned}
use Rattle.node_take.proofs.list.each.Given as goal

-- what was put, before what is left, is the turns; and what is left has the shape of some
abbrev pub invariant-loop-turn : goal.invariant-loop-turn
invariant-loop-turn g l =
    let left = turns (drop l.turn-index l.each) in record {
      whole : turned g.M.Make.view l.values.items (kept left) ≡ kept l.tree;
      shaped : (e : List Token → Bool) × IsShaped left (star e g.M.Make.shape);
      fewer : node_count left ≤ g.M.Make.bound l.maker;
    }
