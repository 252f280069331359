use Rattle.std.specs.Prelude.{Some, None}
use Rattle.std.proofs.Common.{◌≡◌, rules}
use Rattle.reader_table.specs.Parts.{part_of}
use Rattle.writer_rules.specs.Seen.{called_of}
use Rattle.writer_rules.specs.Seen.{unnamed_of}
use Rattle.writer_rules.proofs.OffKinds.{in_part, unnamed_off}
use Rattle.writer_rules.proofs.seen.unnamed.Goals as goal

pub returns-in_default : goal.returns-in_default
returns-in_default c =
    let e : Some (part_of c.in-Some.part, c.in-Some.inner.now) ≡ called_of c.args.tree.now = search rules in
    in_part unnamed_of None c.args.tree.now (part_of c.in-Some.part) c.in-Some.inner.now e
    (unnamed_off c.in-Some.part c.in-Some.inner.now c.in_default.not-Unnamed)
