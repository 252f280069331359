use Rattle.std.proofs.lemmas.Str.{IsCharBoundary-from_drop}
use Rattle.proc_macro2.proofs.Shebangs.{script_found}
use Rattle.proc_macro2.proofs.file.script_of.Goals as goal

pub range-requires-clause-start_boundary : goal.range-requires-clause-start_boundary
range-requires-clause-start_boundary c = λ _.
    (let p = c.mark_end-start.ensures.place in IsCharBoundary-from_drop _ _ p.within p.cut)

pub range-requires-clause-end_boundary : goal.range-requires-clause-end_boundary
range-requires-clause-end_boundary c = let p =
    c.in_ok-end.ensures.2.place in IsCharBoundary-from_drop _ _ p.within p.cut

pub range_from-requires : goal.range_from-requires
range_from-requires c = λ _. (let p = c.in_ok-end.ensures.2.place in IsCharBoundary-from_drop _ _ p.within p.cut)

pub range-requires-2-clause-end_boundary : goal.range-requires-2-clause-end_boundary
range-requires-2-clause-end_boundary c = let p =
    c.in_ok-end.ensures.2.place in IsCharBoundary-from_drop _ _ p.within p.cut

pub returns : goal.returns
returns c =
    script_found c.args.text.now _ _ _ c.mark_end-start.result c.in_ok-end.end _ c.utf8.text
    c.mark_end-start.ensures.place c.mark_end-start.ensures.behind c.in_ok-end.ensures.0 c.in_ok-end.ensures.1
    c.in_ok-end.ensures.2 c.range.ensures.value c.range_from.ensures.value c.range-2.ensures.value c.characters.ensures
