use Rattle.std.proofs.Common.{◌∙◌, ap, not, option_map}
use Rattle.reader_verdicts.specs.Asked.{asked_of}
use Rattle.reader_tree.specs.Shapes.{IsListOf}
use Rattle.reader_verdicts.proofs.Elements.{but_first_list}
use Rattle.reader_verdicts.proofs.lists.none_but_first.Goals as goal

pub returns-in-Some-split_first : goal.returns-in-Some-split_first
returns-in-Some-split_first c =
    let w : IsListOf c.in-Some.before.now (option_map (λ x. x.now) c.in-Some.last) c.args.tree.now = c.in-Some.ensures
    in
    ap not c.some_among.ensures
    ∙ but_first_list (asked_of c.args.asked) c.in-Some-split_first.field-0-0.now c.in-Some-split_first.others.now
    c.in-Some.before.now (option_map (λ x. x.now) c.in-Some.last) c.args.tree.now w
    c.in-Some-split_first.ensures.cases.0
