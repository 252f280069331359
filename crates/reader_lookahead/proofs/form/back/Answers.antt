-- No token, and a literal.
use Rattle.std.proofs.Common.{rules}
use Rattle.reader_table.specs.Kinds.{position_of}
use Rattle.reader_lookahead.proofs.Backs.{none_back, literal_back}
use Rattle.reader_lookahead.proofs.form.back.Goals as goal

pub returns-in_default : goal.returns-in_default
returns-in_default c = none_back (position_of c.args.position) c.args.at.now (search rules)

pub returns-in-Literal : goal.returns-in-Literal
returns-in-Literal c =
    literal_back (position_of c.args.position) c.in-Some.first.now c.in-Literal.field-0 c.args.at.now
    c.in-Some.rest.now (search rules) (search rules)
