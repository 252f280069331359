use Rattle.rust_lex.proofs.OneCover.{one_cover}
use Rattle.rust_lex.proofs.laws.one_cover.Goals as goal

pub returns : goal.returns
returns c = one_cover
