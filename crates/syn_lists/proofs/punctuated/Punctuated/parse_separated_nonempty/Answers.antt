use Rattle.std.proofs.Common.{subst, rules}
use Rattle.std.specs.Prelude.{false}
use Rattle.syn_input.specs.Input.{rest}
use Rattle.syn_lists.proofs.Turns.{read_weaker, stop_weaker}
use Rattle.syn_lists.proofs.punctuated.Punctuated.parse_separated_nonempty.Goals as goal

pub returns-clause-found : goal.returns-clause-found
returns-clause-found g c =
    let reads = g.T.Parse.reads in
    read_weaker reads g.P.Parse.reads (λ x. false) g.P.Token.stands (rest c.args.input.now)
    c.parse_separated_nonempty_with.result (rest c.parse_separated_nonempty_with.new.input)
    c.parse_separated_nonempty_with.ensures.found
    (λ us v xs (i, e, p, q, k). subst (λ ts. reads ts v xs) p
    (subst (λ ts. reads (rest i.now) v ts) q (let r : reads (rest i.now) v (rest e.now) = search rules in r)))

pub returns-clause-none : goal.returns-clause-none
returns-clause-none g c =
    let reads = g.T.Parse.reads in
    let refuses = g.T.Parse.refuses in
    stop_weaker reads g.P.Parse.reads (λ x. false) g.P.Token.stands (rest c.args.input.now)
    c.parse_separated_nonempty_with.result refuses g.P.Parse.refuses
    c.parse_separated_nonempty_with.ensures.none
    (λ us v xs (i, e, p, q, k). subst (λ ts. reads ts v xs) p
    (subst (λ ts. reads (rest i.now) v ts) q (let r : reads (rest i.now) v (rest e.now) = search rules in r)))
    (λ us (i, e, f, p, s, k). subst refuses p (let r : refuses (rest i.now) = search rules in r))
