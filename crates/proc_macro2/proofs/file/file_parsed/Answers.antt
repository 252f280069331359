use Rattle.proc_macro2.proofs.Reading.{plain_fault}
use Rattle.proc_macro2.proofs.file.file_parsed.Goals as goal

pub returns-in-Err-clause-fault : goal.returns-in-Err-clause-fault
returns-in-Err-clause-fault c =
    plain_fault c.args.whole.start _ c.in-Err.fault c.in_default.ensures c.in-Err.ensures.fault
