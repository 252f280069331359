use Rattle.std.proofs.Common.{◌≤◌, ◌∙◌, ap, arith, length}
use Rattle.std.specs.Prelude.{Ok}
use Rattle.rust_escape.specs.Unit.{Lexical}
use Rattle.rust_leaf.proofs.Spellings.{spelled_value, spelled_skip, spelled_all, spelled_never}
use Rattle.syn_leaf.proofs.spelled.spelled.Goals as goal

pub unreachable-requires : goal.unreachable-requires
unreachable-requires g c =
    spelled_never g.S.Spelling.holds Lexical c.args.mode c.args.inside.now c.loop-at.at c.loop-at.out
    c.lexical_unit-reading.result c.in_default.field-0 c.loop-at.invariant c.loop-at-test.true
    c.lexical_unit-reading.ensures c.in_default.is c.requires.there.0 c.requires.there.1

pub loop-at-preserved-in_ok-put : goal.loop-at-preserved-in_ok-put
loop-at-preserved-in_ok-put g c =
    spelled_value g.S.Spelling.holds Lexical c.args.mode c.args.inside.now c.loop-at.at c.loop-at.out c.put.new.self
    c.lexical_unit-reading.result c.in-Some.value c.loop-at.invariant c.lexical_unit-reading.ensures
    (c.in-Ok.is ∙ ap (λ v. Ok v) c.in-Some.is) c.in_ok-put.ensures

pub loop-at-preserved : goal.loop-at-preserved
loop-at-preserved g c =
    spelled_skip g.S.Spelling.holds Lexical c.args.mode c.args.inside.now c.loop-at.at c.loop-at.out
    c.lexical_unit-reading.result c.loop-at.invariant c.lexical_unit-reading.ensures
    (c.in-Ok.is ∙ ap (λ v. Ok v) c.in_default-spelled.is)

pub returns : goal.returns
returns g c =
    let l : length c.args.inside.now ≤ c.loop-at.at = omega arith in
    spelled_all g.S.Spelling.holds Lexical c.args.mode c.args.inside.now c.loop-at.at c.loop-at.out
    c.loop-at.invariant l
