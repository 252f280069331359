use Rattle.std.proofs.Common.{◌≡◌, ◌+◌, ◌^◌, ◌≤◌, ◌∙◌, length, sym, ap, subst, arith}
use Rattle.std.specs.Prelude.{Err}
use Rattle.std.specs.Str.{chars}
use Rattle.std.proofs.lemmas.Str.{IsUtf8-string_bytes}
use Rattle.rust_map.specs.Sources.{Sources, next_position}
use Rattle.canon.specs.Run.{IsRunFault, run_limit}
use Rattle.canon.specs.declared.fault.Fault.{Fault}
use Rattle.canon.specs.declared.fault.Fault.TheVariants.{MapFull}
use Rattle.canon.proofs.Paged.{error_as, page_is, run_fault}
use Rattle.canon.proofs.pages.canonical_page.Goals as goal

pub returns-in_err-page-clause-fault : goal.returns-in_err-page-clause-fault
returns-in_err-page-clause-fault c =
    let fault : Fault = c.in_err-page.field-0.0 in
    let full : fault ≡ MapFull → 2 ^ 32 ≤ 1 + length (chars c.args.text.now) = λ e.
    let h = c.canonical.ensures.full.0 (c.in_err-page.was ∙ ap Err e) in
    omega (arith, h, ap (λ (m : Sources). next_position m) c.new.ensures) in
    error_as c.from_residual.result _ (IsRunFault run_limit c.args.text.now) c.from_residual.ensures.1
    (λ e is. subst (IsRunFault run_limit c.args.text.now) (sym is)
    (run_fault c.args.text.now fault c.requires c.utf8.text c.in_err-page.ensures.fault full))

pub returns-clause-page : goal.returns-clause-page
returns-clause-page c =
    page_is c.args.text.now _ _ c.requires c.utf8.text (IsUtf8-string_bytes c.in_ok-page.page)
    c.in_ok-page.ensures.output c.in_ok-push.ensures.bytes
