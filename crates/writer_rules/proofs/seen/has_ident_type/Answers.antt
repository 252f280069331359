use Rattle.std.specs.Prelude.{◌&&◌}
use Rattle.std.proofs.Common.{ap, ◌∙◌}
use Rattle.syn_grammar.specs.Tidy.{is_ident_type}
use Rattle.writer_rules.proofs.SeenForms.{angled_none, angled_one, angled_two, angled_three}
use Rattle.writer_rules.proofs.seen.has_ident_type.Goals as goal

pub returns-in_default : goal.returns-in_default
returns-in_default c = angled_none c.args.parts.now c.in_default.ensures

pub returns-in_default-pair : goal.returns-in_default-pair
returns-in_default-pair c =
    angled_one c.args.parts.now c.in-Some.field-0-0.now c.in-Some.behind.now c.in-Some.ensures
    c.in_default-pair.ensures

pub returns-then-is_second : goal.returns-then-is_second
returns-then-is_second c =
    c.is_ident_type.ensures ∙ ap (λ b. b && is_ident_type c.in-Some-pair.given.now) c.if-is_second.ensures
    ∙ angled_three c.args.parts.now c.in-Some.field-0-0.now c.in-Some.behind.now c.in-Some-pair.given.now
    c.in-Some-pair.rest.now c.in-Some-pair-2.alias.now c.in-Some-pair-2.field-0-1.now c.in-Some.ensures
    c.in-Some-pair.ensures c.in-Some-pair-2.ensures

pub returns-else-is_second : goal.returns-else-is_second
returns-else-is_second c =
    c.if-is_second.false ∙ ap (λ b. b && is_ident_type c.in-Some-pair.given.now) c.if-is_second.ensures
    ∙ angled_three c.args.parts.now c.in-Some.field-0-0.now c.in-Some.behind.now c.in-Some-pair.given.now
    c.in-Some-pair.rest.now c.in-Some-pair-2.alias.now c.in-Some-pair-2.field-0-1.now c.in-Some.ensures
    c.in-Some-pair.ensures c.in-Some-pair-2.ensures

pub returns-in-None : goal.returns-in-None
returns-in-None c =
    angled_two c.args.parts.now c.in-Some.field-0-0.now c.in-Some.behind.now c.in-Some-pair.given.now
    c.in-Some-pair.rest.now c.in-Some.ensures c.in-Some-pair.ensures c.in-None.ensures
