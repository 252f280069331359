-- A look sees nothing where no token stands that it may begin with.
use Rattle.std.proofs.Common.{rules}
use Rattle.reader_tokens.specs.Tokens.{tokens}
use Rattle.reader_table.specs.declared.composite.Composite.TheVariants as composites
use Rattle.reader_lookahead.proofs.Glances.{so, labelled_block_none, typed_none, closure_none, repeat_none, raw_none}
use Rattle.reader_lookahead.proofs.Glances.{call_stands_none}
use Rattle.reader_lookahead.proofs.glance.may_begin.Goals as goal

pub returns-else-opened : goal.returns-else-opened
returns-else-opened c h =
    so c.args.composite composites.LabelledBlock (tokens c.args.at.now) c.in-LabelledBlock.is
    (labelled_block_none (tokens c.args.at.now) (search rules) (search rules))

pub returns-else-begins_closure : goal.returns-else-begins_closure
returns-else-begins_closure c h =
    so c.args.composite composites.TypedClosureStands (tokens c.args.at.now) c.in-TypedClosureStands.is
    (typed_none (tokens c.args.at.now) (search rules) (search rules))

pub returns-else-begins_closure-2 : goal.returns-else-begins_closure-2
returns-else-begins_closure-2 c h =
    so c.args.composite composites.ClosureStands (tokens c.args.at.now) c.in-ClosureStands.is
    (closure_none (tokens c.args.at.now) (search rules) (search rules))

pub returns-in-RepeatStands : goal.returns-in-RepeatStands
returns-in-RepeatStands c h =
    so c.args.composite composites.RepeatStands (tokens c.args.at.now) c.in-RepeatStands.is
    (repeat_none (tokens c.args.at.now) (search rules))

pub returns-in-RawAddrStands : goal.returns-in-RawAddrStands
returns-in-RawAddrStands c h =
    so c.args.composite composites.RawAddrStands (tokens c.args.at.now) c.in-RawAddrStands.is
    (raw_none (tokens c.args.at.now) (search rules))

pub returns-in-MacroCallStands : goal.returns-in-MacroCallStands
returns-in-MacroCallStands c h =
    so c.args.composite composites.MacroCallStands (tokens c.args.at.now) c.in-MacroCallStands.is
    (call_stands_none (tokens c.args.at.now) (search rules))
