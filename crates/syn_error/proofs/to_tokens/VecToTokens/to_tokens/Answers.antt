use Rattle.std.proofs.Common.{◌≤◌, List, arith, length, subst}
use Rattle.syn_error.specs.Tokens.{PutsAll}
use Rattle.syn_error.proofs.Fronts.{keeps_both}
use Rattle.syn_error.proofs.Puts.{put_done, put_more}
use Rattle.syn_error.proofs.to_tokens.VecToTokens.to_tokens.Goals as goal

pub loop-value-preserved : goal.loop-value-preserved
loop-value-preserved g c = record {
  kept = keeps_both _ _ _ c.loop-value.invariant.kept c.to_tokens.ensures.keeps;
  put = put_more g.T.ToTokens.puts c.deref-value-items.result.now c.args.tokens.now c.loop-value.value-index
      c.value-item.result c.loop-value.tokens c.to_tokens.new.tokens c.value-item.is (omega arith)
      c.in_ok-to_tokens.ensures.put c.loop-value.invariant.put;
}

pub returns-clause-put : goal.returns-clause-put
returns-clause-put g c =
    let items = c.deref-value-items.result.now in
    let past : length items ≤ c.loop-value.value-index = omega arith in
    subst (λ (values : List g.row.T.Denot). PutsAll g.T.ToTokens.puts values c.args.tokens.now c.loop-value.tokens)
    c.deref-value-items.ensures.value
    (put_done g.T.ToTokens.puts items c.args.tokens.now c.loop-value.value-index c.loop-value.tokens past
    c.loop-value.invariant.put)
