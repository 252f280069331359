use Rattle.std.proofs.Common.{◌≤◌, [], ◌∷◌, drop, length, sym, ap, ◌∙◌, arith}
use Rattle.std.proofs.lemmas.List.{length-append}
use Rattle.reader_steps.proofs.Pendings.{gives_all, got, kept_less, makes_all}
use Rattle.reader_steps.proofs.finish.finished.Goals as goal

pub pending-preserved : goal.pending-preserved
pending-preserved g c =
    let i = c.pending.invariant in
    let left = c.take_last-last.new.self.items in
    let is = c.take_last-last.ensures.items in
    let le : c.args.base ≤ length left = omega (
      arith,
      c.pending-test.true,
      c.len.ensures,
      c.pending.work.pending.ok.0,
      ap length is,
      length-append left (c.take_last-last.result ∷ []),
    ) in
    record {
      enough = le;
      kept = sym (kept_less c.args.base _ left _ is le) ∙ i.kept;
      made = λ o h. c.finished_by-read.ensures.answer (drop c.args.base left) o
          (makes_all c.args.base _ left _ is le got _ o (i.made o h));
      whole = c.finished_by-read.ensures.whole;
    }

pub returns-clause-answer : goal.returns-clause-answer
returns-clause-answer g c =
    let items = c.pending.work.pending.items in
    let le : length items ≤ c.args.base = omega (
      arith,
      c.pending-test.false,
      c.len.ensures,
      c.pending.work.pending.ok.0,
    ) in
    λ o h. gives_all c.args.base items le c.pending.read o (c.pending.invariant.made o h)
