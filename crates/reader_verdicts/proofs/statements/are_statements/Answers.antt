use Rattle.std.proofs.Common.{◌∙◌, ap, not}
use Rattle.syn_grammar.specs.Part.{choice}
use Rattle.syn_grammar.specs.Statements.{needs_semicolon}
use Rattle.reader_verdicts.proofs.Elements.{turns_list}
use Rattle.reader_verdicts.proofs.statements.are_statements.Goals as goal

pub returns-in-Some-split_last : goal.returns-in-Some-split_last
returns-in-Some-split_last c =
    ap not c.any_open.ensures
    ∙ turns_list (λ x. needs_semicolon (choice x)) c.in-Some-split_last.field-0-0.now c.args.tree.now
    c.in-Some-split_last.before.now c.in-Some.turns.now c.in-Some.ensures c.in-Some-split_last.ensures.cases.0
