use Rattle.std.proofs.Common.{◌∙◌, ap, not, Some, None}
use Rattle.reader_verdicts.specs.Asked.{asked_of}
use Rattle.reader_tree.specs.Shapes.{IsListOf}
use Rattle.reader_verdicts.proofs.Elements.{but_last_some, but_last_list}
use Rattle.reader_verdicts.proofs.lists.none_but_last.Goals as goal

pub returns-in-Some-default-Some : goal.returns-in-Some-default-Some
returns-in-Some-default-Some c =
    let w : IsListOf c.in-Some-default-Some.before.now (Some c.in-Some-default-Some.field-0-1-0.now)
    c.args.tree.now = rw c.in-Some-default-Some.field-0-1-is at c.in-Some-default-Some.ensures in
    ap not c.any.ensures ∙ but_last_some (asked_of c.args.asked) c.in-Some-default-Some.before.now
    c.in-Some-default-Some.field-0-1-0.now c.args.tree.now w

pub returns-in-Some : goal.returns-in-Some
returns-in-Some c =
    let w : IsListOf c.in-Some-default-None.before.now None c.args.tree.now = rw c.in-Some-default-None.field-0-1-is at
    c.in-Some-default-None.ensures in
    ap not c.any-in-Some.ensures
    ∙ but_last_list (asked_of c.args.asked) c.in-Some.field-0-0.now c.in-Some.others.now
    c.in-Some-default-None.before.now c.args.tree.now w c.in-Some.ensures.cases.0
