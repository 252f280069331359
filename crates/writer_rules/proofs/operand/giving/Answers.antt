use Rattle.std.specs.Prelude.{Some}
use Rattle.std.proofs.Common.{◌≡◌, ◌≢◌, rules, sym, ◌∙◌}
use Rattle.syn_grammar.specs.Forms.{level}
use Rattle.reader_table.specs.Kinds.{kind_of}
use Rattle.writer_rules.specs.Operands.{back_of}
use Rattle.writer_rules.proofs.Operands.{giving_back, giving_cast}
use Rattle.writer_rules.proofs.Operands.{givings}
use Rattle.writer_rules.proofs.operand.giving.Goals as goal

pub returns-then-level-eq14 : goal.returns-then-level-eq14
returns-then-level-eq14 c =
    let back : Some (kind_of c.in-Some-back.kind, c.in-Some-back.two.now.front, c.in-Some-back.two.now.back)
    ≡ back_of c.args.tree.now = search rules in
    let cast : level (kind_of c.in-Some-back.kind) ≡ 14 = sym c.level-in-Some-back.ensures ∙ c.if-level-eq14.true in
    giving_cast c.args.tree.now (kind_of c.in-Some-back.kind) c.in-Some-back.two.now.front c.in-Some-back.two.now.back
    back cast

pub returns-else-level-eq14 : goal.returns-else-level-eq14
returns-else-level-eq14 c =
    let back : Some (kind_of c.in-Some-back.kind, c.in-Some-back.two.now.front, c.in-Some-back.two.now.back)
    ≡ back_of c.args.tree.now = search rules in
    let other : level (kind_of c.in-Some-back.kind) ≢ 14 =
    λ e. c.if-level-eq14.false (c.level-in-Some-back.ensures ∙ e) in
    giving_back c.args.tree.now (kind_of c.in-Some-back.kind) c.in-Some-back.two.now.front c.in-Some-back.two.now.back
    back other

pub returns-then-level-eq3 : goal.returns-then-level-eq3
returns-then-level-eq3 c = search (rules, givings)

pub returns-else-level-eq3 : goal.returns-else-level-eq3
returns-else-level-eq3 c = search (rules, givings)

pub returns-in-None-back : goal.returns-in-None-back
returns-in-None-back c = search (rules, givings)
