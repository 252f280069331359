use Rattle.std.proofs.Common.{arith, ◌≡◌, ◌∙◌, ap, length}
use Rattle.std.specs.Str.{chars}
use Rattle.rust_map.specs.Files.{text_of}
use Rattle.rust_map.specs.Sources.{Sources, next_position}
use Rattle.rust_map.proofs.SpotLemmas.{inserted_kept, inserted_spot, laid_more, same_span, view_more}
use Rattle.rust_map.proofs.source_map.SourceMap.insert.Goals as goal

pub invariant_of-self-2 : goal.invariant_of-self-2
invariant_of-self-2 c =
    let file = c.in_ok-file.file in
    let counted : file.characters ≡ length (text_of file) = file.counted in
    let text : length (text_of file) ≡ length (chars c.args.text.now) = ap length c.in_ok-file.ensures.text in
    let next : c.self.inside.next ≡ next_position c.args.self.now =
    c.self.invariant.next_is ∙ ap (λ (m : Sources). next_position m) c.self.view_is in
    rw c.in_ok-push.ensures.items
    (laid_more _ c.self.inside.next _ _ file c.self.invariant c.in_ok-file.ensures.base (omega arith) (omega arith))

pub returns-clause-spot : goal.returns-clause-spot
returns-clause-spot c =
    let file = c.in_ok-file.file in
    let counted : file.characters ≡ length (text_of file) = file.counted in
    let text : length (text_of file) ≡ length (chars c.args.text.now) = ap length c.in_ok-file.ensures.text in
    let next : c.self.inside.next ≡ next_position c.args.self.now =
    c.self.invariant.next_is ∙ ap (λ (m : Sources). next_position m) c.self.view_is in
    let start : c.self.inside.first ≡ c.args.self.now.start = ap (λ (m : Sources). m.start) c.self.view_is in
    let positive = c.self.invariant.positive in
    let grown = view_more _ _ _ file (chars c.args.text.now) c.args.self.now c.in_ok-push.ensures.items c.self.view_is
    c.in_ok-file.ensures.text in
    inserted_spot c.args.self.now _ (chars c.args.text.now) _ (omega arith) grown (same_span _ _ _ _ next (omega arith))

pub returns-clause-kept : goal.returns-clause-kept
returns-clause-kept c =
    let grown = view_more _ _ _ c.in_ok-file.file (chars c.args.text.now) c.args.self.now c.in_ok-push.ensures.items
    c.self.view_is c.in_ok-file.ensures.text in
    inserted_kept c.args.self.now _ (chars c.args.text.now) grown
