use Rattle.std.specs.Prelude.{◌&&◌}
use Rattle.std.proofs.Common.{ap, ◌∙◌}
use Rattle.writer_rules.specs.Seen.{is_fourth}
use Rattle.writer_rules.proofs.SeenForms.{name_none, name_paired, name_single}
use Rattle.writer_rules.proofs.seen.is_lone_name.Goals as goal

pub returns-in_default : goal.returns-in_default
returns-in_default c = name_none c.args.inner.now c.in_default.ensures

pub returns-then-is_free_word : goal.returns-then-is_free_word
returns-then-is_free_word c =
    c.is_fourth.ensures ∙ ap (λ b. b && is_fourth c.in-Some-pair.behind.now) c.if-is_free_word.ensures
    ∙ name_paired c.args.inner.now c.in-Some.segment.now c.in-Some-pair.name.now c.in-Some-pair.behind.now
    c.in-Some.ensures c.in-Some-pair.ensures

pub returns-else-is_free_word : goal.returns-else-is_free_word
returns-else-is_free_word c =
    c.if-is_free_word.false ∙ ap (λ b. b && is_fourth c.in-Some-pair.behind.now) c.if-is_free_word.ensures
    ∙ name_paired c.args.inner.now c.in-Some.segment.now c.in-Some-pair.name.now c.in-Some-pair.behind.now
    c.in-Some.ensures c.in-Some-pair.ensures

pub returns-in-None : goal.returns-in-None
returns-in-None c = name_single c.args.inner.now c.in-Some.segment.now c.in-Some.ensures c.in-None.ensures
