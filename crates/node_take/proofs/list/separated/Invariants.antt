use Rattle.std.specs.Prelude.{◌≡◌, ◌≤◌, ℕ, Bool, List, drop, length}
use Rattle.proc_macro2.specs.Token.{Token}
use Rattle.syn_grammar.specs.Gram.{many}
use Rattle.syn_grammar.specs.Kept.{kept}
use Rattle.reader_tree.specs.Forms.{elements, ending}
use Rattle.reader_tree.specs.Size.{node_count}
use Rattle.node_shapes.specs.Shape.{IsShaped}
use Rattle.node_words.specs.Words.{all_listed}
use Rattle.node_take.proofs.list.separated.Given as goal

-- what was put, before what is left, is the list; and what is left has the shape of one
abbrev pub invariant-loop-element : goal.invariant-loop-element
invariant-loop-element g l =
    let left = elements l.fn.mark (drop l.element-index l.before) (ending (λ x. x.now) l.last) in record {
      whole : all_listed l.fn.mark g.M.Make.view l.list.values.items (kept left) ≡ kept l.tree;
      shaped : (e : List Token → Bool) × IsShaped left (many e l.fn.mark g.M.Make.shape);
      even : length l.list.values.items ≡ length l.list.separators.items;
      fewer : node_count left ≤ g.M.Make.bound l.maker;
    }
