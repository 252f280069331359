use Rattle.std.proofs.Common.{List, []}
use Rattle.std.proofs.lemmas.Result.{IfErr-weaker, IfOk-weaker}
use Rattle.proc_macro2.specs.Token.{Spanned}
use Rattle.syn_error.specs.Faults.{IsSyntax}
use Rattle.syn_buffer.specs.Seen.{seen}
use Rattle.syn_lists.specs.Lists.{separators, values}
use Rattle.syn_lists.specs.Put.{PutsList}
use Rattle.syn_lists.specs.ReadLists.{ReadsList, StopsList}
use Rattle.laws_lists.proofs.read_back.reread.Goals as goal

pub returns-clause-read : goal.returns-clause-read
returns-clause-read g c =
    let vs = values c.args.list.now in
    let ps = separators c.args.list.now in
    IfOk-weaker c.read_tokens.result _
    (λ back. (printed : List Spanned) × PutsList g.T.ToTokens.puts g.P.ToTokens.puts vs ps [] printed
    × ReadsList g.T.Parse.reads g.P.Parse.reads (seen printed) (values back) (separators back) [])
    (λ back h. (c.in_ok-tokens.tokens, c.in_ok-tokens.ensures, h)) c.read_tokens.ensures.read

pub returns-clause-none : goal.returns-clause-none
returns-clause-none g c =
    let vs = values c.args.list.now in
    let ps = separators c.args.list.now in
    IfErr-weaker c.read_tokens.result _
    (λ e. IsSyntax e → ((printed : List Spanned) × PutsList g.T.ToTokens.puts g.P.ToTokens.puts vs ps [] printed
    × StopsList g.T.Parse.reads g.P.Parse.reads g.T.Parse.refuses g.P.Parse.refuses (seen printed)))
    (λ e h s. (c.in_ok-tokens.tokens, c.in_ok-tokens.ensures, h s)) c.read_tokens.ensures.none
