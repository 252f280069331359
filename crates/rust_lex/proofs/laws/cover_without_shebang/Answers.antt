use Rattle.rust_lex.proofs.FileCovers.{without_shebang}
use Rattle.rust_lex.proofs.laws.cover_without_shebang.Goals as goal

pub returns : goal.returns
returns c = without_shebang
