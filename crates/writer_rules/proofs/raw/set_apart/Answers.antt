use Rattle.std.proofs.Common.{arith, ◌-◌}
use Rattle.writer_rules.proofs.Apartness.{apart_at}
use Rattle.writer_rules.proofs.raw.set_apart.Goals as goal

pub returns-clause-apart : goal.returns-clause-apart
returns-clause-apart c = λ ts us k l.
    apart_at c.args.out.now.items c.args.before (c.len-last.result - 1) c.index-piece.result.now c.lone.result ts us
    (omega (arith, c.len.ensures, c.len-last.ensures, c.args.out.now.ok.0))
    (omega (arith, c.len.ensures, c.len-last.ensures)) c.index-piece.ensures c.lone.ensures k l
