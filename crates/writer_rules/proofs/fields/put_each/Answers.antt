use Rattle.std.proofs.Common.{refl}
use Rattle.rust_leaf.specs.Leaf.{literal_text}
use Rattle.reader_tree.specs.Forms.{turns}
use Rattle.writer_rules.specs.Said.{front_fields}
use Rattle.writer_rules.proofs.Fronts.{keeps_both}
use Rattle.writer_rules.proofs.Indices.{fronts_more, fronts_stop}
use Rattle.writer_rules.proofs.Putting.{loop_end, loop_next, loop_stop}
use Rattle.writer_rules.proofs.fields.put_each.Goals as goal

pub loop-number-preserved : goal.loop-number-preserved
loop-number-preserved c = record {
  kept = keeps_both _ _ _ c.loop-number.invariant.kept c.put_fields.ensures.keeps;
  put = loop_next (λ xs. front_fields (turns xs)) c.args.numbers.now c.loop-number.number-index c.number-item.result
      _ _ _ _ c.loop-number-test.true c.number-item.is
      (fronts_more c.number-item.result _ (literal_text c.in-Some.literal.now) c.in-Some.ensures)
      c.loop-number.invariant.put c.in_ok-put_fields.ensures.put;
}

pub returns-in_default-clause-put : goal.returns-in_default-clause-put
returns-in_default-clause-put c =
    loop_stop (λ xs. front_fields (turns xs)) c.args.numbers.now c.loop-number.number-index c.number-item.result
    _ _ c.loop-number-test.true c.number-item.is (fronts_stop c.number-item.result _ c.in_default.ensures)
    c.loop-number.invariant.put

pub returns-in_err-put_fields-clause-keeps : goal.returns-in_err-put_fields-clause-keeps
returns-in_err-put_fields-clause-keeps c =
    keeps_both _ _ _ c.loop-number.invariant.kept c.put_fields.ensures.keeps

pub returns-clause-put : goal.returns-clause-put
returns-clause-put c =
    loop_end (λ xs. front_fields (turns xs)) c.args.numbers.now c.loop-number.number-index _ _
    c.loop-number-test.false refl c.loop-number.invariant.put
