-- Each arm is a group of that kind.
use Rattle.reader_tokens.specs.Tokens.{tokens}
use Rattle.reader_table.specs.Kinds.{position_of}
use Rattle.reader_lookahead.proofs.Backs.{call_back, index_back, bare_back}
use Rattle.reader_lookahead.proofs.form.group_back.Goals as goal

pub returns-in-Parenthesis : goal.returns-in-Parenthesis
returns-in-Parenthesis c =
    call_back (position_of c.args.position) c.args.delimiter (tokens c.args.at.now) (tokens c.args.rest.now)
    c.requires.first c.in-Parenthesis.is

pub returns-in-Bracket : goal.returns-in-Bracket
returns-in-Bracket c =
    index_back (position_of c.args.position) c.args.delimiter (tokens c.args.at.now) (tokens c.args.rest.now)
    c.requires.first c.in-Bracket.is

pub returns-in-None : goal.returns-in-None
returns-in-None c =
    bare_back (position_of c.args.position) c.args.delimiter (tokens c.args.at.now) (tokens c.args.rest.now)
    c.requires.first c.in-None.is
