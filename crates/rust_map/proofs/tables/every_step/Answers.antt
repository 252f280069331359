use Rattle.std.proofs.Common.{arith, ◌≡◌, ◌∙◌, sym, ap, append-nil, ◌++◌, []}
use Rattle.rust_map.specs.Bytes.{rest_at}
use Rattle.rust_map.specs.Tables.{byte_steps_from}
use Rattle.text_chars.proofs.Steps.{rest_end}
use Rattle.rust_map.proofs.ByteLemmas.{append_one, block_step, steps_nil, steps_one, steps_none}
use Rattle.rust_map.proofs.tables.every_step.Goals as goal

pub loop-at-preserved-then-all_pass : goal.loop-at-preserved-then-all_pass
loop-at-preserved-then-all_pass c =
    let on = block_step c.as_bytes-bytes.result.now c.args.text.now c.loop-at.at c.loop-at.count
    c.as_bytes-bytes.ensures.value c.loop-at.invariant.place (omega arith) (omega arith)
    (sym c.all_pass.ensures ∙ c.if-all_pass.true) in
    record {
      place = on.0;
      few = omega arith;
      whole = rw c.in_ok-push-2.ensures.items (append_one _ _ _ _ _ c.loop-at.invariant.whole on.1);
    }

pub loop-at-preserved-in-Continue-branch-3 : goal.loop-at-preserved-in-Continue-branch-3
loop-at-preserved-in-Continue-branch-3 c =
    let e = c.char_at-next.ensures in
    record {
      place = e.behind.place;
      few = omega arith;
      whole = rw c.in_ok-push-3.ensures.items
          (append_one _ _ _ _ _ c.loop-at.invariant.whole (steps_one _ _ _ _ _ _ e.rest e.next c.if-count-eq0-2.true));
    }

pub loop-at-preserved : goal.loop-at-preserved
loop-at-preserved c =
    let e = c.char_at-next.ensures in
    record {
      place = e.behind.place;
      few = omega arith;
      whole = rw (← steps_none _ _ _ _ _ _ e.rest e.next c.if-count-eq0-2.false) c.loop-at.invariant.whole;
    }

pub returns : goal.returns
returns c =
    let none : byte_steps_from c.loop-at.at c.loop-at.count (rest_at c.args.text.now c.loop-at.at) ≡ [] =
    rw (rest_end c.args.text.now c.loop-at.at (omega arith)) (steps_nil c.loop-at.at c.loop-at.count) in
    sym (append-nil _) ∙ (ap (λ t. c.loop-at.steps.items ++ t) (sym none) ∙ c.loop-at.invariant.whole)
