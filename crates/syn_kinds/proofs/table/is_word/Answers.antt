use Rattle.syn_kinds.proofs.Words.{text_same}
use Rattle.syn_kinds.proofs.table.is_word.Goals as goal

pub returns : goal.returns
returns c = text_same _ _ _ c.is_text.ensures.0 c.is_text.ensures.1
