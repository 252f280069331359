use Rattle.std.proofs.Common.{List, ℕ, subst}
use Rattle.std.specs.Prelude.{IfErr}
use Rattle.canon.specs.Run.{IsRunFault, run_limit}
use Rattle.canon.proofs.pages.page_of_bytes.Goals as goal

pub returns-in-Canonical-clause-fault : goal.returns-in-Canonical-clause-fault
returns-in-Canonical-clause-fault c =
    subst (λ (bytes : List ℕ). IfErr c.canonical_page.result (IsRunFault run_limit bytes)) c.in-Ok.ensures.cases.0
    c.canonical_page.ensures.fault

pub returns-in-Outline-clause-fault : goal.returns-in-Outline-clause-fault
returns-in-Outline-clause-fault c =
    subst (λ (bytes : List ℕ). IfErr c.outline_page.result (IsRunFault run_limit bytes)) c.in-Ok.ensures.cases.0
    c.outline_page.ensures.fault
