use Rattle.std.proofs.Common.{◌∙◌, sym, arith}
use Rattle.text_chars.proofs.Bytes.{block_on, byte_on, none_passed, past_end, past_stop}
use Rattle.text_chars.proofs.walk.past_bytes.Goals as goal

pub loop-at-init : goal.loop-at-init
loop-at-init g c = none_passed _ _ _ c.requires

pub loop-at-preserved : goal.loop-at-preserved
loop-at-preserved g c =
    block_on _ c.as_bytes-bytes.result.now c.args.text.now c.args.start c.loop-at.at c.as_bytes-bytes.ensures.value
    c.loop-at.invariant (omega (arith, c.loop-at-test.true))
    (sym c.all_pass_or_wide.ensures ∙ c.if-all_pass_or_wide.true)

pub loop-at-2-preserved : goal.loop-at-2-preserved
loop-at-2-preserved g c =
    byte_on _ c.as_bytes-bytes.result.now c.args.text.now c.args.start c.loop-at-2.at c.as_bytes-bytes.ensures.value
    c.loop-at-2.invariant c.loop-at-2-test.true (sym c.passes_or_wide.ensures ∙ c.if-passes_or_wide.true)

pub returns-else-passes_or_wide-clause-rest : goal.returns-else-passes_or_wide-clause-rest
returns-else-passes_or_wide-clause-rest g c =
    (past_stop _ _ _ _ _ c.as_bytes-bytes.ensures.value c.requires c.loop-at-2.invariant
    (sym c.passes_or_wide.ensures ∙ c.if-passes_or_wide.false)).0

pub returns-else-passes_or_wide-clause-from : goal.returns-else-passes_or_wide-clause-from
returns-else-passes_or_wide-clause-from g c =
    (past_stop _ _ _ _ _ c.as_bytes-bytes.ensures.value c.requires c.loop-at-2.invariant
    (sym c.passes_or_wide.ensures ∙ c.if-passes_or_wide.false)).1

pub returns-after-loop-at-2-clause-rest : goal.returns-after-loop-at-2-clause-rest
returns-after-loop-at-2-clause-rest g c =
    (past_end _ _ _ _ _ c.as_bytes-bytes.ensures.value c.requires c.loop-at-2.invariant
    (omega (arith, c.loop-at-2-test.false))).0

pub returns-after-loop-at-2-clause-from : goal.returns-after-loop-at-2-clause-from
returns-after-loop-at-2-clause-from g c =
    (past_end _ _ _ _ _ c.as_bytes-bytes.ensures.value c.requires c.loop-at-2.invariant
    (omega (arith, c.loop-at-2-test.false))).1
