use Rattle.std.specs.Prelude.{Some, ◌||◌}
use Rattle.std.proofs.Common.{◌≡◌, arith, rules, ap, ◌∙◌, sym}
use Rattle.reader_table.specs.Kinds.{kind_of}
use Rattle.laws_ranges.specs.Opens.{opens_given}
use Rattle.writer_rules.specs.Operands.{giving_of}
use Rattle.writer_rules.proofs.Operands.{giving_below}
use Rattle.writer_read.proofs.Opening.{given_some}
use Rattle.writer_read.proofs.opened.+opens_given.Goals as goal

pub opens_given-requires : goal.opens_given-requires
opens_given-requires t c =
    let given : Some (kind_of c.in-Some.kind, c.in-Some.left.now) ≡ giving_of c.args.tree.now = search rules in
    let below = giving_below c.args.tree.now (kind_of c.in-Some.kind) c.in-Some.left.now given in
    omega (arith, c.decreases, below)

pub returns-then-goes_in : goal.returns-then-goes_in
returns-then-goes_in t c =
    let given : Some (kind_of c.in-Some.kind, c.in-Some.left.now) ≡ giving_of c.args.tree.now = search rules in
    c.if-goes_in.true
    ∙ sym (ap (λ b. b || opens_given c.in-Some.left.now) (sym c.goes_in.ensures ∙ c.if-goes_in.true))
    ∙ given_some c.args.tree.now (kind_of c.in-Some.kind) c.in-Some.left.now given

pub returns-else-goes_in : goal.returns-else-goes_in
returns-else-goes_in t c =
    let given : Some (kind_of c.in-Some.kind, c.in-Some.left.now) ≡ giving_of c.args.tree.now = search rules in
    c.opens_given.ensures
    ∙ sym (ap (λ b. b || opens_given c.in-Some.left.now) (sym c.goes_in.ensures ∙ c.if-goes_in.false))
    ∙ given_some c.args.tree.now (kind_of c.in-Some.kind) c.in-Some.left.now given
