use Rattle.std.proofs.Common.{List, subst}
use Rattle.proc_macro2.specs.Token.{Spanned}
use Rattle.syn_error.proofs.to_tokens.ToTokens.to_token_stream.Goals as goal

pub returns : goal.returns
returns g c =
    subst (λ (old : List Spanned). g.Self.ToTokens.puts c.args.self.now old c.to_tokens.new.tokens)
    c.new-tokens.ensures c.in_ok-to_tokens.ensures.put
