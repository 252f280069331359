use Rattle.std.proofs.Common.{◌≡◌, ◌<◌, ◌≤◌, ◌+◌, ◌∷◌, drop, arith, length, subst, sym}
use Rattle.syn_grammar.specs.Kept.{kept}
use Rattle.reader_tree.specs.Forms.{turns}
use Rattle.node_take.proofs.Lists.{turn_put, turn_shaped, turn_fewer, turned, turns_end}
use Rattle.node_take.proofs.list.each.Goals as goal

pub loop-turn-preserved : goal.loop-turn-preserved
loop-turn-preserved g c =
    let f = g.M.Make.view in
    let xs = c.all_turns.result.each.now in
    let i = c.loop-turn.turn-index in
    let x = c.turn-item.result in
    let vs = c.loop-turn.values.items in
    let below : i < length xs = omega arith in
    let inv = c.loop-turn.invariant in
    record {
      whole =
          subst (λ zs. turned f zs (kept (turns (drop (i + 1) xs))) ≡ kept c.args.tree.now)
          (sym c.in_ok-push.ensures.items)
          (turn_put f vs c.in_ok-make.field-0 xs i x (kept c.args.tree.now) below c.turn-item.is c.in_ok-make.ensures
          inv.whole);
      shaped = (inv.shaped.0, (turn_shaped xs i x inv.shaped.0 g.M.Make.shape below c.turn-item.is inv.shaped.1).1);
      fewer = (turn_fewer xs i x _ below c.turn-item.is inv.fewer).1;
    }

pub returns : goal.returns
returns g c =
    let xs = c.all_turns.result.each.now in
    let i = c.loop-turn.turn-index in
    let ended : length xs ≤ i = omega arith in
    turns_end g.M.Make.view c.loop-turn.values.items xs i (kept c.args.tree.now) ended c.loop-turn.invariant.whole
