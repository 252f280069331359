use Rattle.std.proofs.Common.{◌∙◌, sym, arith}
use Rattle.text_chars.proofs.Blocks.{block_on, none_passed}
use Rattle.text_chars.proofs.walk.past_blocks.Goals as goal

pub loop-at-init : goal.loop-at-init
loop-at-init g c = none_passed _ _ _ c.requires

pub loop-at-preserved : goal.loop-at-preserved
loop-at-preserved g c =
    let test = c.loop-at-test.true in
    block_on _ c.as_bytes-bytes.result.now c.args.text.now c.args.start c.loop-at.at c.as_bytes-bytes.ensures.value
    c.loop-at.invariant (omega arith) (sym c.all_pass.ensures ∙ c.if-all_pass.true)
