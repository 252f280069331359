-- None stands there.
use Rattle.std.proofs.Common.{sym}
use Rattle.reader_tokens.specs.Tokens.{tokens}
use Rattle.reader_fast.proofs.NoneStand.{no_where}
use Rattle.reader_fast.specs.Absent.{nothing}
use Rattle.syn_grammar.specs.Kind.{Where}
use Rattle.reader_fast.proofs.absent.no_where.Goals as goal

pub returns-in-None-clause-read : goal.returns-in-None-clause-read
returns-in-None-clause-read c =
    let ts = tokens c.args.at.now in
    c.found.ensures.read 1 Where ts (nothing Where) (no_where ts (sym c.in-None.ensures.after)) c.nothing.ensures
