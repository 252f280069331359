use Rattle.std.proofs.Common.{ap, map, refl, ◌++◌, ◌∙◌, ◌∷◌, []}
use Rattle.writer_print.specs.Pieces.{piece_token}
use Rattle.syn_buffer.specs.Entries.{entry_token}
use Rattle.writer_rules.proofs.Fronts.{keeps_both}
use Rattle.writer_rules.proofs.Putting.{loop_end, loop_next}
use Rattle.writer_rules.proofs.put.entries.Goals as goal

pub loop-entry-preserved : goal.loop-entry-preserved
loop-entry-preserved c = record {
  kept = keeps_both _ _ _ c.loop-entry.invariant.kept c.one.ensures.keeps;
  put = loop_next (map entry_token) c.args.entries.now c.loop-entry.entry-index c.entry-item.result _ _ _ _
      c.loop-entry-test.true c.entry-item.is refl c.loop-entry.invariant.put
      (c.in_ok-one.ensures.put ∙ ap (λ u. map piece_token c.loop-entry.out.items ++ u ∷ []) c.of.ensures.token);
}

pub returns-in_err-one-clause-keeps : goal.returns-in_err-one-clause-keeps
returns-in_err-one-clause-keeps c = keeps_both _ _ _ c.loop-entry.invariant.kept c.one.ensures.keeps

pub returns-clause-put : goal.returns-clause-put
returns-clause-put c =
    loop_end (map entry_token) c.args.entries.now c.loop-entry.entry-index _ _ c.loop-entry-test.false refl
    c.loop-entry.invariant.put
