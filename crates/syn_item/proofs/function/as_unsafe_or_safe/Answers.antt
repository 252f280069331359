use Rattle.std.proofs.Common.{◌∙◌, sym}
use Rattle.syn_part.proofs.Takes.{not_both}
use Rattle.syn_item.proofs.ItemPlaces.{unsafe_chars}
use Rattle.syn_item.proofs.function.as_unsafe_or_safe.Goals as goal

pub returns-then-is_text-clause-which : goal.returns-then-is_text-clause-which
returns-then-is_text-clause-which c = c.is_text.ensures.0 c.if-is_text.true ∙ unsafe_chars

pub returns-else-is_text-clause-which : goal.returns-else-is_text-clause-which
returns-else-is_text-clause-which c = λ e.
    not_both _ (c.is_text.ensures.1 (e ∙ sym unsafe_chars)) c.if-is_text.false
