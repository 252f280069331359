use Rattle.std.proofs.Common.{◌∙◌, ap, not, option_map}
use Rattle.reader_verdicts.specs.Asked.{asked_of}
use Rattle.reader_tree.specs.Shapes.{IsListOf}
use Rattle.reader_verdicts.proofs.Elements.{separated_list}
use Rattle.reader_verdicts.proofs.lists.none_separated.Goals as goal

pub returns-in-Some : goal.returns-in-Some
returns-in-Some c =
    let w : IsListOf c.in-Some.before.now (option_map (λ x. x.now) c.in-Some.field-0-1)
    c.args.tree.now = c.in-Some.ensures in
    ap not c.any.ensures ∙ separated_list (asked_of c.args.asked) c.in-Some.before.now
    (option_map (λ x. x.now) c.in-Some.field-0-1) c.args.tree.now w
