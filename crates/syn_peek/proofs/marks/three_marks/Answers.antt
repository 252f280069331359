use Rattle.std.proofs.Common.{[], ◌∷◌}
use Rattle.syn_peek.proofs.marks.three_marks.Goals as goal

pub returns-in-None-clause-none : goal.returns-in-None-clause-none
returns-in-None-clause-none c = c.in-None.ensures.none c.args.d (c.args.e ∷ [])
