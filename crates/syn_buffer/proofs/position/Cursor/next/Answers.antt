use Rattle.std.proofs.Common.{◌≡◌, ◌∷◌}
use Rattle.syn_buffer.specs.declared.entry.Entry.TheVariants as entry
use Rattle.syn_buffer.proofs.Laid.{laid_literal}
use Rattle.syn_buffer.proofs.position.Cursor.next.Goals as goal

pub past-requires-in-Literal-clause-laid : goal.past-requires-in-Literal-clause-laid
past-requires-in-Literal-clause-laid c =
    let stands : c.settled-entries.result.now ≡ entry.Literal c.in-Literal.literal ∷ c.in-Some.behind.now =
    cc (c.in-Some.ensures.cases.0, c.in-Literal.is) in
    laid_literal c.settled-entries.result.now c.in-Some.behind.now c.in-Literal.literal stands
    c.settled-entries.ensures.laid
