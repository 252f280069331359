-- A look sees nothing where no token stands that it may begin with.
use Rattle.std.proofs.Common.{rules}
use Rattle.reader_tokens.specs.Tokens.{tokens}
use Rattle.reader_table.specs.declared.composite.Composite.TheVariants as composites
use Rattle.reader_lookahead.proofs.Glances.{so, pattern_none, range_to_none, dots_none, restriction_none, not_none}
use Rattle.reader_lookahead.proofs.glance.may_stand.Goals as goal

pub returns-in-IdentPatternStands : goal.returns-in-IdentPatternStands
returns-in-IdentPatternStands c h =
    so c.args.composite composites.IdentPatternStands (tokens c.args.at.now) c.in-IdentPatternStands.is
    (pattern_none (tokens c.args.at.now) (search rules))

pub returns-in-RangeToPatternStands : goal.returns-in-RangeToPatternStands
returns-in-RangeToPatternStands c h =
    so c.args.composite composites.RangeToPatternStands (tokens c.args.at.now) c.in-RangeToPatternStands.is
    (range_to_none (tokens c.args.at.now) (search rules))

pub returns-in-Dots : goal.returns-in-Dots
returns-in-Dots c h =
    so c.args.composite composites.Dots (tokens c.args.at.now) c.in-Dots.is
    (dots_none (tokens c.args.at.now) (search rules))

pub returns-in-AnyRestriction : goal.returns-in-AnyRestriction
returns-in-AnyRestriction c h =
    so c.args.composite composites.AnyRestriction (tokens c.args.at.now) c.in-AnyRestriction.is
    (restriction_none (tokens c.args.at.now) (search rules))

pub returns-in-NotBeforeBrace : goal.returns-in-NotBeforeBrace
returns-in-NotBeforeBrace c h =
    so c.args.composite composites.NotBeforeBrace (tokens c.args.at.now) c.in-NotBeforeBrace.is
    (not_none (tokens c.args.at.now) (search rules))
