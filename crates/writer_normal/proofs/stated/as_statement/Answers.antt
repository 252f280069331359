use Rattle.std.specs.Prelude.{Some, None}
use Rattle.std.proofs.Common.{◌≡◌, ◌∙◌, rules}
use Rattle.reader_tree.specs.Shapes.{pair_of}
use Rattle.writer_rules.specs.Operands.{before_of, expression_of, pair_behind}
use Rattle.writer_normal.proofs.Giving.{stated_none, stated_one, stated_three, stated_two}
use Rattle.writer_normal.proofs.stated.as_statement.Goals as goal

pub returns-in_default : goal.returns-in_default
returns-in_default c =
    let none : None ≡ pair_behind c.args.tree.now 4 = search rules in
    c.copy.ensures ∙ stated_none c.args.tree.now none

pub returns-in_default-before : goal.returns-in_default-before
returns-in_default-before c =
    let both : Some (c.in-Some.attributes.now, c.in-Some.rest.now) ≡ pair_behind c.args.tree.now 4 = search rules in
    let none : None ≡ before_of c.in-Some.attributes.now = search rules in
    c.copy-in_default-before.ensures ∙ stated_one c.args.tree.now c.in-Some.attributes.now c.in-Some.rest.now both none

pub returns-in_default-pair : goal.returns-in_default-pair
returns-in_default-pair c =
    let both : Some (c.in-Some.attributes.now, c.in-Some.rest.now) ≡ pair_behind c.args.tree.now 4 = search rules in
    let front : Some c.in-Some-before.front.now ≡ before_of c.in-Some.attributes.now = search rules in
    let none : None ≡ pair_of c.in-Some.rest.now = search rules in
    c.copy-in_default-pair.ensures
    ∙ stated_two c.args.tree.now c.in-Some.attributes.now c.in-Some.rest.now c.in-Some-before.front.now both front none

pub returns-in-None : goal.returns-in-None
returns-in-None c =
    let both : Some (c.in-Some.attributes.now, c.in-Some.rest.now) ≡ pair_behind c.args.tree.now 4 = search rules in
    let front : Some c.in-Some-before.front.now ≡ before_of c.in-Some.attributes.now = search rules in
    let parts : Some (c.in-Some-pair.named.now, c.in-Some-pair.behind.now) ≡ pair_of c.in-Some.rest.now =
    search rules in
    let none : None ≡ expression_of c.in-Some-pair.named.now = search rules in
    c.copy-in-None.ensures
    ∙ stated_three c.args.tree.now c.in-Some.attributes.now c.in-Some.rest.now c.in-Some-pair.named.now
    c.in-Some-pair.behind.now c.in-Some-before.front.now both front parts none
