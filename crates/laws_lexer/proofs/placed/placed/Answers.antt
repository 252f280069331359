use Rattle.std.specs.Str.{chars}
use Rattle.laws_lexer.proofs.PlacedStreams as lemma
use Rattle.laws_lexer.proofs.placed.placed.Goals as goal

pub returns-clause-printed : goal.returns-clause-printed
returns-clause-printed c = lemma.printed _ _
    (chars c.args.src.now) c.starting_position-first.result c.from_str.result c.starting_position-first.ensures.position
    c.starting_position-first.ensures.positive c.from_str.ensures.parsed c.from_str.ensures.map_ok

pub returns-clause-ordered : goal.returns-clause-ordered
returns-clause-ordered c = lemma.ordered _ _
    (chars c.args.src.now) c.starting_position-first.result c.from_str.result c.starting_position-first.ensures.position
    c.starting_position-first.ensures.positive c.from_str.ensures.parsed c.from_str.ensures.map_ok

pub returns-clause-kept : goal.returns-clause-kept
returns-clause-kept c = lemma.kept _ _
    (chars c.args.src.now) c.from_str.result c.from_str.ensures.map_ok c.from_str.ensures.map_err
