use Rattle.std.proofs.Common.{rules, ◌≡◌}
use Rattle.syn_wrapped.specs.Patterns.{one_pattern_tree}
use Rattle.syn_wrapped.proofs.PatternForms.{one_at, one_shaped_at}
use Rattle.syn_wrapped.proofs.patterns.one_pattern.Goals as goal

pub returns-clause-shaped : goal.returns-clause-shaped
returns-clause-shaped c =
    let form = c.args.form.now in
    let made : c.in_ok-node.field-0 ≡ one_pattern_tree form = search (rules, one_at) in
    one_shaped_at form c.in_ok-node.field-0 made
