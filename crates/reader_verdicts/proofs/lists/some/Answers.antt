use Rattle.std.proofs.Common.{◌∙◌, option_map}
use Rattle.reader_verdicts.specs.Asked.{asked_of}
use Rattle.reader_tree.specs.Shapes.{IsListOf}
use Rattle.reader_verdicts.proofs.Elements.{some_list}
use Rattle.reader_verdicts.proofs.lists.some.Goals as goal

pub returns-in-Some : goal.returns-in-Some
returns-in-Some c =
    let w : IsListOf c.in-Some.before.now (option_map (λ x. x.now) c.in-Some.last) c.args.tree.now = c.in-Some.ensures
    in
    c.some_among.ensures ∙ some_list (asked_of c.args.asked) c.in-Some.before.now
    (option_map (λ x. x.now) c.in-Some.last) c.args.tree.now w
