use Rattle.syn_leaf.proofs.Spellings.{unit_some, unit_there}
use Rattle.syn_leaf.proofs.spelled.only_value.Goals as goal

pub lexical_unit-requires-clause-more : goal.lexical_unit-requires-clause-more
lexical_unit-requires-clause-more c = unit_there c.args.mode c.args.inside.now c.requires

pub unreachable-requires-in_default-spelled : goal.unreachable-requires-in_default-spelled
unreachable-requires-in_default-spelled c =
    unit_some c.args.mode c.args.inside.now c.lexical_unit.result c.in-Ok.spelled c.requires c.lexical_unit.ensures
    c.in-Ok.is c.in_default-spelled.is
