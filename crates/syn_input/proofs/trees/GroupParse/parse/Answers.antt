use Rattle.std.proofs.Common.{ap, ◌∙◌}
use Rattle.proc_macro2.specs.declared.tree.Group.{Group}
use Rattle.syn_buffer.specs.Seen.{seen}
use Rattle.syn_input.proofs.GroupTokens.{group_read}
use Rattle.syn_input.proofs.trees.GroupParse.parse.Goals as goal

pub returns-in_ok-token_stream-in-Some-clause-found : goal.returns-in_ok-token_stream-in-Some-clause-found
returns-in_ok-token_stream-in-Some-clause-found c =
    let g : Group = c.set_span.new.self in
    group_read c.args.input.now.cursor c.in-Some.inside c.in-Some.behind c.in-Some.delimiter
    c.in-Some.span.join g c.in-Some.ensures.some
    (ap (λ (x : Group). x.delimiter) c.set_span.ensures ∙ c.new-group.ensures.delimiter)
    (ap (λ (x : Group). x.span) c.set_span.ensures ∙ c.join.ensures)
    (ap (λ (x : Group). seen x.stream) c.set_span.ensures ∙ ap seen c.new-group.ensures.stream
    ∙ c.in_ok-token_stream-in-Some.ensures.seen)
