use Rattle.std.proofs.Common.{rules, ◌≡◌}
use Rattle.syn_wrapped.specs.Patterns.{one_pattern_tree, pattern_tree}
use Rattle.syn_made.specs.MadeAst.{IsWholePat}
use Rattle.syn_wrapped.proofs.PatternForms.{pattern_at, pattern_form_at, pattern_shaped_at}
use Rattle.syn_wrapped.proofs.patterns.pattern.Goals as goal

pub returns : goal.returns
returns c =
    let form = c.args.form.now in
    let made = c.in_ok-node.field-0 in
    let one : IsWholePat form × (c.in-Some.one ≡ one_pattern_tree form) = search rules in
    let is : made ≡ pattern_tree form =
    pattern_at form made c.in-Some.one c.in_default.not-Or c.in_ok-node.ensures one.1 in
    record {
      tree = (one.0, is);
      form = pattern_form_at form made is;
      shaped = pattern_shaped_at form made is;
    }
