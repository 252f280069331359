use Rattle.std.proofs.Common.{rules, ◌≡◌}
use Rattle.syn_wrapped.specs.Patterns.{one_pattern_tree, several_tree}
use Rattle.syn_made.specs.MadeAst.{IsWholePat}
use Rattle.syn_wrapped.proofs.PatternForms.{several_at, several_form_at, several_shaped_at}
use Rattle.syn_wrapped.proofs.patterns.several_patterns.Goals as goal

pub returns-in-Or-clause-shaped : goal.returns-in-Or-clause-shaped
returns-in-Or-clause-shaped c =
    let form = c.args.form.now in
    let made = c.in_ok-node.field-0 in
    let is : made ≡ several_tree form = search rules in
    several_shaped_at form made is

pub returns : goal.returns
returns c =
    let form = c.args.form.now in
    let made = c.in_ok-node-2.field-0 in
    let one : IsWholePat form × (c.in-Some.one ≡ one_pattern_tree form) = search rules in
    let is : made ≡ several_tree form =
    several_at form made c.in-Some.one c.in_default.not-Or c.in_ok-node-2.ensures one.1 in
    record {
      tree = (one.0, is);
      form = several_form_at form made is;
      shaped = several_shaped_at form made is;
    }
