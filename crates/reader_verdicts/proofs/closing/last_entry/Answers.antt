use Rattle.std.proofs.Common.{◌∙◌, ap, Some}
use Rattle.reader_verdicts.proofs.Ends.{entries_last}
use Rattle.reader_verdicts.proofs.closing.last_entry.Goals as goal

pub returns-in-Some : goal.returns-in-Some
returns-in-Some c =
    ap Some c.closes_braces.ensures
    ∙ entries_last c.args.entries.now c.in-Some.field-0-1.now c.in-Some.last.now c.in-Some.ensures.cases.0
