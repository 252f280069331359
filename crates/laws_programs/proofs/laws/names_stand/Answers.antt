use Rattle.laws_programs.proofs.Standing as Standing
use Rattle.laws_programs.proofs.laws.names_stand.Goals as goal

pub returns : goal.returns
returns c = Standing.names_stand
