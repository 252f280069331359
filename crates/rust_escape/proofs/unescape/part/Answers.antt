use Rattle.std.proofs.lemmas.Str.{IsCharBoundary-from_drop}
use Rattle.rust_escape.proofs.unescape.part.Goals as goal

pub range-requires-clause-start_boundary : goal.range-requires-clause-start_boundary
range-requires-clause-start_boundary c = λ _. IsCharBoundary-from_drop _ _ c.requires.start.within c.requires.start.cut

pub range-requires-clause-end_boundary : goal.range-requires-clause-end_boundary
range-requires-clause-end_boundary c = IsCharBoundary-from_drop _ _ c.requires.end.within c.requires.end.cut
