use Rattle.std.proofs.Common.{inr}
use Rattle.syn_input.specs.Input.{rest}
use Rattle.syn_input.proofs.Wholes.{read_all, read_short}
use Rattle.syn_input.proofs.parser.read_to_end.Goals as goal

pub returns-in-Ok-require_end-clause-read : goal.returns-in-Ok-require_end-clause-read
returns-in-Ok-require_end-clause-read g c =
    read_all g.T.Parse.reads (rest c.args.input.now)
    (rest c.parse.new.input) c.in-Ok.value c.in-Ok.ensures.found c.in-Ok-require_end.ensures.ok

pub returns-in-Err-require_end-clause-refused : goal.returns-in-Err-require_end-clause-refused
returns-in-Err-require_end-clause-refused g c =
    λ _. inr
    (read_short g.T.Parse.reads (rest c.args.input.now)
    (rest c.parse.new.input) c.in-Ok.value c.in-Ok.ensures.found c.in-Err-require_end.ensures.err)
