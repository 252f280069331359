use Rattle.std.proofs.Common.{rules, length}
use Rattle.std.specs.Prelude.{◌≢◌}
use Rattle.reader_verdicts.proofs.Ends.{some_marks}
use Rattle.reader_verdicts.proofs.closing.behind_marks.Goals as goal

pub returns-else-is_empty : goal.returns-else-is_empty
returns-else-is_empty c n =
    let h : length c.args.before.now ≢ 0 = search rules in
    some_marks n c.args.before.now h
