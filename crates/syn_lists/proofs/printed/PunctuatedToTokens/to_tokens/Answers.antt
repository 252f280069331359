use Rattle.std.proofs.Common.{◌≡◌, ◌<◌, ◌≤◌, length, get_or, arith, rules}
use Rattle.syn_error.proofs.Fronts.{keeps_both}
use Rattle.syn_lists.specs.Lists.{separators, values}
use Rattle.syn_lists.proofs.Puts.{put_both, put_done, put_last}
use Rattle.syn_lists.proofs.printed.PunctuatedToTokens.to_tokens.Goals as goal

pub loop-index-preserved : goal.loop-index-preserved
loop-index-preserved g c =
    let vs = values c.args.self.now in
    let ps = separators c.args.self.now in
    let index = c.loop-index.index in
    let below : index < length vs = omega arith in
    let reached = c.loop-index.invariant.reached in
    let within : index < length ps = omega arith in
    let is_value : c.index.result.now ≡ get_or vs index c.index.result.now = search rules in
    let is_separator : c.index-in-loop-index.result.now ≡ get_or ps index c.index-in-loop-index.result.now =
    search rules in
    record {
      kept = keeps_both _ _ _ (keeps_both _ _ _ c.loop-index.invariant.kept c.to_tokens.ensures.keeps)
          c.to_tokens-in-loop-index.ensures.keeps;
      reached = omega arith;
      left =
          put_both g.T.ToTokens.puts g.P.ToTokens.puts vs ps c.args.tokens.now index c.index.result.now
          c.index-in-loop-index.result.now c.loop-index.tokens c.to_tokens.new.tokens
          c.to_tokens-in-loop-index.new.tokens below within is_value is_separator c.in_ok-to_tokens.ensures.put
          c.in_ok-to_tokens-2.ensures.put c.loop-index.invariant.left;
    }

pub returns-then-index-len-clause-put : goal.returns-then-index-len-clause-put
returns-then-index-len-clause-put g c =
    let vs = values c.args.self.now in
    let ps = separators c.args.self.now in
    let index = c.loop-index.index in
    let below : index < length vs = omega arith in
    let past : length ps ≤ index = omega arith in
    let is_value : c.index.result.now ≡ get_or vs index c.index.result.now = search rules in
    put_last g.T.ToTokens.puts g.P.ToTokens.puts vs ps c.args.tokens.now index c.index.result.now c.loop-index.tokens
    c.to_tokens.new.tokens below past is_value c.in_ok-to_tokens.ensures.put c.loop-index.invariant.left

pub returns-clause-put : goal.returns-clause-put
returns-clause-put g c =
    let vs = values c.args.self.now in
    let ps = separators c.args.self.now in
    let index = c.loop-index.index in
    let past : length vs ≤ index = omega arith in
    put_done g.T.ToTokens.puts g.P.ToTokens.puts vs ps c.args.tokens.now index c.loop-index.tokens past
    c.loop-index.invariant.left
