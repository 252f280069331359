use Rattle.rust_lex.proofs.FileCovers.{one_file_cover}
use Rattle.rust_lex.proofs.laws.one_file_cover.Goals as goal

pub returns : goal.returns
returns c = one_file_cover
