use Rattle.std.proofs.Common.{◌≡◌, Some, rules, ◌∙◌}
use Rattle.reader_tree.specs.Shapes.{pair_of}
use Rattle.reader_verdicts.proofs.FormCases.{macro_behind}
use Rattle.reader_verdicts.proofs.left.ends_with_braces.Goals as goal

pub returns-in-Some : goal.returns-in-Some
returns-in-Some c =
    let e : Some (c.in-Some.field-0-0.now, c.in-Some.group.now) ≡ pair_of c.args.behind_path.now = search rules in
    c.is_in_braces.ensures ∙ macro_behind c.args.behind_path.now c.in-Some.field-0-0.now c.in-Some.group.now e
