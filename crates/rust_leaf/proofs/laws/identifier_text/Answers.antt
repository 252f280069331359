use Rattle.rust_leaf.proofs.IdentTexts.{ident_text_is}
use Rattle.rust_leaf.proofs.laws.identifier_text.Goals as goal

pub returns : goal.returns
returns c = ident_text_is
