use Rattle.std.proofs.Common.{subst, sym}
use Rattle.canon.specs.Joined.{IsDecidedBy, IsFaultAmong, put_in, texts_of}
use Rattle.canon.specs.declared.fault.Fault.{Fault}
use Rattle.canon.proofs.Joined.{decided_next, fault_next, full_there, had_room, put_next, text_next}
use Rattle.canon.proofs.Paged.{error_as}
use Rattle.canon.proofs.joins.put_texts.Goals as goal

pub returns-in_err-put_text-clause-decided : goal.returns-in_err-put_text-clause-decided
returns-in_err-put_text-clause-decided c =
    let fault : Fault = c.in_err-put_text.field-0.0 in
    let Is : Fault → Type 0 = IsDecidedBy (put_in (texts_of c.args.texts.now)) c.args.map.now c.put_text.new.map in
    error_as c.from_residual.result _ Is c.from_residual.ensures.1
    (λ e is. subst Is (sym is)
    (decided_next c.args.texts.now c.loop-index.index _ c.loop-index-test.true c.args.map.now c.loop-index.map
    c.put_text.new.map fault c.loop-index.invariant.0 c.in_err-put_text.ensures.fault
    (full_there c.put_text.result fault _ c.in_err-put_text.was c.put_text.ensures.full) c.in_err-put_text.ensures.place
    c.in_err-put_text.ensures.map_err))

pub returns-in_err-put_text-clause-fault : goal.returns-in_err-put_text-clause-fault
returns-in_err-put_text-clause-fault c =
    let fault : Fault = c.in_err-put_text.field-0.0 in
    let Is : Fault → Type 0 = IsFaultAmong (texts_of c.args.texts.now) in
    error_as c.from_residual.result _ Is c.from_residual.ensures.1
    (λ e is. subst Is (sym is)
    (fault_next c.args.texts.now c.loop-index.index _ c.loop-index-test.true c.args.map.now c.loop-index.map fault
    c.loop-index.invariant.0 c.in_err-put_text.ensures.fault))

pub loop-index-preserved : goal.loop-index-preserved
loop-index-preserved c =
    let p = c.in_ok-put_text.ensures.program in (
      put_next c.args.texts.now c.loop-index.index _ c.loop-index-test.true c.args.map.now c.loop-index.map
          c.put_text.new.map p.0 c.loop-index.invariant.0 p.1 p.2
          (had_room c.put_text.result c.in_ok-put_text.field-0 _ c.in_ok-put_text.was c.put_text.ensures.full)
          c.in_ok-put_text.ensures.map_ok,
      text_next c.args.texts.now c.loop-index.index _ c.loop-index-test.true c.loop-index.invariant.1
          c.in_ok-put_text.ensures.text,
    )
