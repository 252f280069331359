use Rattle.syn_read.proofs.text.read_stream.Goals as goal

pub returns-in-Ok-clause-read : goal.returns-in-Ok-clause-read
returns-in-Ok-clause-read g c = (_, _, c.in_ok-buffer.ensures.tokens, c.in-Ok.ensures)

pub returns-clause-refused : goal.returns-clause-refused
returns-clause-refused g c = λ _. (_, _, c.in_ok-buffer.ensures.tokens, c.in-Err.ensures)
