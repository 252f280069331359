use Rattle.std.proofs.Common.{◌≡◌, ◌+◌, ◌^◌, ◌≤◌, ◌∙◌, length, sym, ap, subst, arith}
use Rattle.std.specs.Prelude.{Err}
use Rattle.std.specs.Str.{chars}
use Rattle.std.proofs.lemmas.Str.{IsUtf8-string_bytes}
use Rattle.rust_map.specs.Sources.{Sources, next_position}
use Rattle.canon.specs.Run.{IsRunFault, rows_text, run_limit}
use Rattle.canon.specs.declared.fault.Fault.{Fault}
use Rattle.canon.specs.declared.fault.Fault.TheVariants.{MapFull}
use Rattle.canon.proofs.Paged.{error_as, outline_page_is, run_fault}
use Rattle.canon.proofs.pages.outline_page.Goals as goal

pub returns-in_err-rows-clause-fault : goal.returns-in_err-rows-clause-fault
returns-in_err-rows-clause-fault c =
    let fault : Fault = c.in_err-rows.field-0.0 in
    let full : fault ≡ MapFull → 2 ^ 32 ≤ 1 + length (chars c.args.text.now) = λ e.
    let h = c.outline.ensures.full.0 (c.in_err-rows.was ∙ ap Err e) in
    omega (arith, h, ap (λ (m : Sources). next_position m) c.new.ensures) in
    error_as c.from_residual.result _ (IsRunFault run_limit c.args.text.now) c.from_residual.ensures.1
    (λ e is. subst (IsRunFault run_limit c.args.text.now) (sym is)
    (run_fault c.args.text.now fault c.requires c.utf8.text c.in_err-rows.ensures.fault full))

pub returns-clause-page : goal.returns-clause-page
returns-clause-page c =
    outline_page_is c.args.text.now _ c.in_ok-rows.rows.items c.requires c.utf8.text
    (IsUtf8-string_bytes c.in_ok-lines_of.field-0) c.in_ok-rows.ensures.rows
    (c.in_ok-lines_of.ensures ∙ ap rows_text c.as_slice.ensures.value)
