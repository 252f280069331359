use Rattle.laws_programs.proofs.JoinedFaults as laws
use Rattle.laws_programs.proofs.laws.joinable_or_misplaced.Goals as goal
use Rattle.std.specs.Prelude.{false}

pub returns-clause-either : goal.returns-clause-either
returns-clause-either c = laws.decided false

pub returns-clause-never_both : goal.returns-clause-never_both
returns-clause-never_both c = laws.never_both false

pub returns-clause-one : goal.returns-clause-one
returns-clause-one c = laws.one_first false

pub returns-clause-alike : goal.returns-clause-alike
returns-clause-alike c = laws.alike_first false
