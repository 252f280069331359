-- Each arm is a group of that kind.
use Rattle.std.proofs.Common.{rules}
use Rattle.reader_tokens.specs.Tokens.{tokens}
use Rattle.reader_table.specs.Kinds.{position_of}
use Rattle.reader_lookahead.proofs.Fronts.{parenthesis_front, brace_front, bare_front, repeat_front, array_front}
use Rattle.reader_lookahead.proofs.form.group_front.Goals as goal

pub returns-in-Parenthesis : goal.returns-in-Parenthesis
returns-in-Parenthesis c =
    parenthesis_front (position_of c.args.position) c.args.delimiter (tokens c.args.at.now) (tokens c.args.rest.now)
    c.requires.first c.in-Parenthesis.is

pub returns-in-Brace : goal.returns-in-Brace
returns-in-Brace c =
    brace_front (position_of c.args.position) c.args.delimiter (tokens c.args.at.now) (tokens c.args.rest.now)
    c.requires.first c.in-Brace.is

pub returns-in-None : goal.returns-in-None
returns-in-None c =
    bare_front (position_of c.args.position) c.args.delimiter (tokens c.args.at.now) (tokens c.args.rest.now)
    c.requires.first c.in-None.is

pub returns-then-is_repeated : goal.returns-then-is_repeated
returns-then-is_repeated c =
    repeat_front (position_of c.args.position) c.args.delimiter (tokens c.args.at.now) (tokens c.args.rest.now)
    c.requires.first c.in-Bracket.is (search rules)

pub returns-else-is_repeated : goal.returns-else-is_repeated
returns-else-is_repeated c =
    array_front (position_of c.args.position) c.args.delimiter (tokens c.args.at.now) (tokens c.args.rest.now)
    c.requires.first c.in-Bracket.is (search rules)
