use Rattle.std.proofs.Common.{sym, subst, ap, ◌∙◌}
use Rattle.std.specs.Prelude.{IsTrue}
use Rattle.rust_map.specs.Answers.{start_place}
use Rattle.rust_map.specs.Sources.{is_held}
use Rattle.canon.proofs.Outlined.{got, held_there, line_is}
use Rattle.canon.proofs.outlines.row_of.Goals as goal

pub start-place-requires : goal.start-place-requires
start-place-requires c =
    subst (λ span. IsTrue (is_held c.args.map.now span)) (sym c.span.ensures)
    (held_there c.args.map.now c.args.entries.now c.args.name.index c.in-Some.entry.now c.requires.held
    (got c.args.entries.now c.args.name.index c.in-Some.entry c.in-Some.ensures.lookup))

pub returns : goal.returns
returns c =
    line_is c.args.map.now c.args.entries.now c.args.name c.word.result c.in_ok-text.field-0 c.start-place.result
    c.in-Some.entry c.in-Some.ensures.lookup c.word.ensures c.in_ok-text.ensures
    (c.start-place.ensures ∙ ap (λ span. start_place c.args.map.now span) c.span.ensures)
