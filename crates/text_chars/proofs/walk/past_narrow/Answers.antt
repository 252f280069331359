use Rattle.std.proofs.Common.{◌∙◌, sym}
use Rattle.text_chars.proofs.Blocks.{narrow_on}
use Rattle.text_chars.proofs.walk.past_narrow.Goals as goal

pub loop-at-preserved : goal.loop-at-preserved
loop-at-preserved g c =
    narrow_on _ c.as_bytes-bytes.result.now c.args.text.now c.args.start c.loop-at.at c.as_bytes-bytes.ensures.value
    c.loop-at.invariant c.loop-at-test.true (sym c.passes_narrow.ensures ∙ c.if-passes_narrow.true)
