use Rattle.std.proofs.lemmas.Str.{IsCharBoundary-from_drop}
use Rattle.proc_macro2.proofs.parse.found_at.Goals as goal

pub range-requires-clause-start_boundary : goal.range-requires-clause-start_boundary
range-requires-clause-start_boundary c = λ _. IsCharBoundary-from_drop _ _ c.requires.within c.requires.cut

pub range-requires-clause-end_boundary : goal.range-requires-clause-end_boundary
range-requires-clause-end_boundary c =
    let p = c.in_ok-kind.ensures.1.place in IsCharBoundary-from_drop _ _ p.within p.cut
