use Rattle.std.proofs.Common.{List, ℕ, ◌≤◌, length, rules, subst}
use Rattle.std.specs.Prelude.{IfErr}
use Rattle.canon_io.specs.Watched.{inner_of}
use Rattle.canon.specs.Run.{IsRunFault, run_limit}
use Rattle.canon.proofs.Paged.{fault_of_rest}
use Rattle.canon.proofs.runs.page_of.Goals as goal

pub returns-clause-fault : goal.returns-clause-fault
returns-clause-fault g c =
    let short : length c.in_ok-bytes.bytes.items ≤ c.args.limit = search rules in
    fault_of_rest c.page_of_bytes.result (g.R.Read.remaining (inner_of c.args.reader.now)) c.in_ok-bytes.bytes.items
    c.args.limit c.in_ok-bytes.ensures.whole short c.requires.limit
    (subst (λ (bytes : List ℕ). IfErr c.page_of_bytes.result (IsRunFault run_limit bytes)) c.as_slice.ensures.value
    c.page_of_bytes.ensures.fault)
