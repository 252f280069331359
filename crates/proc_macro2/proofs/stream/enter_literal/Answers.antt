use Rattle.std.proofs.Common.{sym, ap, ◌∙◌, inl}
use Rattle.rust_leaf.specs.Minus.{starts_with_minus}
use Rattle.rust_leaf.proofs.Texts.{literal_characters}
use Rattle.proc_macro2.proofs.StreamLemmas.{behind_leaf, entered_parts, entered_whole}
use Rattle.proc_macro2.proofs.stream.enter_literal.Goals as goal

pub returns-in_default-clause-known : goal.returns-in_default-clause-known
returns-in_default-clause-known c =
    entered_whole _ _ c.args.literal.is_literal
    (ap starts_with_minus (sym c.as_str.ensures) ∙ c.in_default.ensures.none) (literal_characters c.args.literal)

pub from_text-requires : goal.from_text-requires
from_text-requires c = inl (behind_leaf _ _ c.args.literal.is_literal (sym c.as_str.ensures ∙ c.in-Some.ensures.some))

pub returns-clause-known : goal.returns-clause-known
returns-clause-known c = entered_parts _ _ _ c.args.literal.is_literal (sym c.as_str.ensures ∙ c.in-Some.ensures.some)
    (literal_characters c.args.literal)
