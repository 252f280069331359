use Rattle.std.proofs.Common.{ap}
use Rattle.syn_lists.specs.Pairs.{parts}
use Rattle.syn_lists.proofs.Puts.{put_pair}
use Rattle.syn_lists.proofs.pair.PairToTokens.to_tokens.Goals as goal

pub returns-in_ok-to_tokens-in-Punctuated-clause-put : goal.returns-in_ok-to_tokens-in-Punctuated-clause-put
returns-in_ok-to_tokens-in-Punctuated-clause-put g c =
    put_pair g.T.ToTokens.puts g.P.ToTokens.puts _ c.in-Punctuated.value c.in-Punctuated.separator c.args.tokens.now
    c.to_tokens.new.tokens c.to_tokens-in-Punctuated.new.tokens c.to_tokens-in-Punctuated.result
    (ap parts c.in-Punctuated.is) c.in_ok-to_tokens-in-Punctuated.ensures.put c.to_tokens-in-Punctuated.ensures.put
