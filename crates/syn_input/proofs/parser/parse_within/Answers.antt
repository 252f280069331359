use Rattle.syn_input.proofs.Wholes.{begun, whole_left, whole_read, whole_refused}
use Rattle.syn_input.proofs.parser.parse_within.Goals as goal

pub returns-in-Err-clause-refused : goal.returns-in-Err-clause-refused
returns-in-Err-clause-refused g c = λ _.
    let begins =
    begun _ _ _ _ _ _ _ _ c.new-input.ensures.cursor c.begin_within.ensures.tokens c.in_ok-buffer.ensures.tokens
    c.in_ok-buffer.ensures.visible c.begin_within.ensures.list c.new-input.ensures.noted in
    whole_refused
    (g.P.Parser.runs c.args.parser) c.args.closing c.args.tokens.now c.new-input.result c.run.new.input c.run.result
    c.in-Err.fault begins c.run.ensures c.in-Err.is

pub returns-in-Ok-require_all-clause-read : goal.returns-in-Ok-require_all-clause-read
returns-in-Ok-require_all-clause-read g c =
    let begins =
    begun _ _ _ _ _ _ _ _ c.new-input.ensures.cursor c.begin_within.ensures.tokens c.in_ok-buffer.ensures.tokens
    c.in_ok-buffer.ensures.visible c.begin_within.ensures.list c.new-input.ensures.noted in
    whole_read
    (g.P.Parser.runs c.args.parser) c.args.closing c.args.tokens.now c.new-input.result c.run.new.input c.run.result
    c.in-Ok.value begins c.run.ensures c.in-Ok.is c.in-Ok-require_all.ensures.ok

pub returns-clause-refused : goal.returns-clause-refused
returns-clause-refused g c = λ _.
    let begins =
    begun _ _ _ _ _ _ _ _ c.new-input.ensures.cursor c.begin_within.ensures.tokens c.in_ok-buffer.ensures.tokens
    c.in_ok-buffer.ensures.visible c.begin_within.ensures.list c.new-input.ensures.noted in
    whole_left
    (g.P.Parser.runs c.args.parser) c.args.closing c.args.tokens.now c.new-input.result c.run.new.input c.run.result
    c.in-Ok.value begins c.run.ensures c.in-Ok.is c.in-Err-require_all.ensures.err
