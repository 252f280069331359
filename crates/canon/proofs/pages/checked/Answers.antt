use Rattle.std.proofs.Common.{inr, refl}
use Rattle.canon.proofs.Joined.{text_next}
use Rattle.canon.proofs.JoinedPaged.{pushed_next, text_at}
use Rattle.canon.proofs.pages.checked.Goals as goal

pub returns-in_default-clause-fault : goal.returns-in_default-clause-fault
returns-in_default-clause-fault c =
    inr (
      refl,
      λ all. c.in_default.ensures.cases.0
          (text_at c.args.all.now c.loop-bytes.bytes-index _ c.loop-bytes-test.true all),
    )

pub loop-bytes-preserved : goal.loop-bytes-preserved
loop-bytes-preserved c = (
  pushed_next c.args.all.now c.loop-bytes.bytes-index _ c.in-Ok.text c.loop-bytes.texts.items c.push.new.self.items
      c.push.result c.loop-bytes-test.true c.loop-bytes.invariant.0 c.push.ensures.items c.if-is_err.ensures.value
      c.in-Ok.ensures.cases.0,
  text_next c.args.all.now c.loop-bytes.bytes-index _ c.loop-bytes-test.true c.loop-bytes.invariant.1
      c.in-Ok.ensures.cases.1,
)
