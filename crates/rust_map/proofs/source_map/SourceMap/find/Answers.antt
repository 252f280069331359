use Rattle.std.proofs.Common.{◌∙◌, ap, sym}
use Rattle.rust_map.specs.Sources.{Sources, spot}
use Rattle.rust_map.proofs.SpotLemmas.{bases_ascend, located_none, located_some, spot_here_none, spot_here_some}
use Rattle.rust_map.proofs.source_map.SourceMap.find.Goals as goal

pub files_begun-begun-requires : goal.files_begun-begun-requires
files_begun-begun-requires c =
    rw c.deref.ensures.value (λ i j d h l. bases_ascend c.self.inside.files.items _ i j d c.self.invariant.laid h l)

pub returns-then-begun-eq0-clause-found : goal.returns-then-begun-eq0-clause-found
returns-then-begun-eq0-clause-found c =
    let split = rw c.deref.ensures.value at c.files_begun-begun.ensures.split in
    sym (ap (λ (m : Sources). spot m c.args.span.now) (sym c.self.view_is) ∙ located_none _ _ _ c.args.span.now _
    c.self.invariant split c.if-begun-eq0.true)

pub returns-in-Some-clause-found : goal.returns-in-Some-clause-found
returns-in-Some-clause-found c =
    let split = rw c.deref.ensures.value at c.files_begun-begun.ensures.split in
    let bound = rw c.deref.ensures.value at c.files_begun-begun.ensures.bound in
    let found = located_some _ _ _ c.args.span.now _ c.index-file.result.now c.self.invariant split bound
    c.if-begun-eq0.false c.index-file.ensures in
    sym (ap (λ (m : Sources). spot m c.args.span.now) (sym c.self.view_is) ∙
    (found ∙ spot_here_some _ _ _ _ _ (sym c.counts.ensures ∙ c.in-Some.is)))

pub returns-in-None-clause-found : goal.returns-in-None-clause-found
returns-in-None-clause-found c =
    let split = rw c.deref.ensures.value at c.files_begun-begun.ensures.split in
    let bound = rw c.deref.ensures.value at c.files_begun-begun.ensures.bound in
    let found = located_some _ _ _ c.args.span.now _ c.index-file.result.now c.self.invariant split bound
    c.if-begun-eq0.false c.index-file.ensures in
    sym (ap (λ (m : Sources). spot m c.args.span.now) (sym c.self.view_is) ∙
    (found ∙ spot_here_none _ _ _ (sym c.counts.ensures ∙ c.in-None.is)))
