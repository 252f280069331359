use Rattle.std.proofs.Common.{◌≡◌, ◌∙◌, ◌++◌, ◌∷◌, [], Bool, ap, map, not, subst, sym}
use Rattle.std.proofs.lemmas.List.{map-append}
use Rattle.std.proofs.lemmas.Result.{err_from_is_err_and}
use Rattle.std.specs.Prelude.{IfSome, if◌then◌else◌, string_bytes, vec_items}
use Rattle.canon.specs.declared.fault.Fault.TheVariants.{Memory}
use Rattle.canon_program.specs.Files.{AreHeld, IsFileUnread}
use Rattle.canon_program.proofs.Held.{first_unread, held_next}
use Rattle.canon_program.proofs.files.read_all.Goals as goal

pub returns-in_err-text-clause-fault : goal.returns-in_err-text-clause-fault
returns-in_err-text-clause-fault g c =
    let held = g.F.Files.held c.args.files.now in
    let p = err_from_is_err_and c.from_residual.result c.from_residual.ensures.1 in
    rw (p.1, p.2)
    (first_unread held string_bytes c.args.names.now c.loop-name.name-index
    c.name-item.result _ (map vec_items c.loop-name.texts.items) c.loop-name-test.true c.name-item.is
    c.loop-name.invariant c.in_err-text.field-0.0
    (subst (λ name. IsFileUnread (held name) c.in_err-text.field-0.0) c.as_str.ensures.value
    c.in_err-text.ensures.fault))

pub returns-then-is_err-clause-fault : goal.returns-then-is_err-clause-fault
returns-then-is_err-clause-fault g c =
    first_unread (g.F.Files.held c.args.files.now) string_bytes c.args.names.now c.loop-name.name-index
    c.name-item.result _ (map vec_items c.loop-name.texts.items) c.loop-name-test.true c.name-item.is
    c.loop-name.invariant Memory tt

pub loop-name-preserved : goal.loop-name-preserved
loop-name-preserved g c =
    let held = g.F.Files.held c.args.files.now in
    let before = c.loop-name.texts.items in
    let pushed = c.push.ensures.items
    ∙ ap (λ (b : Bool). if b then before ++ c.in_ok-text.text ∷ [] else before)
    (c.is_err.ensures.negation ∙ ap not c.if-is_err.false) in
    let texts = ap (map vec_items) pushed ∙ map-append vec_items before (c.in_ok-text.text ∷ []) in
    subst (AreHeld held _) (sym texts)
    (held_next held string_bytes c.args.names.now c.loop-name.name-index c.name-item.result _ (map vec_items before)
    c.loop-name-test.true c.name-item.is c.loop-name.invariant c.in_ok-text.text.items c.in_ok-text.ensures.fits
    (subst (λ name. IfSome (held name) (λ bytes. c.in_ok-text.text.items ≡ bytes)) c.as_str.ensures.value
    c.in_ok-text.ensures.read))
