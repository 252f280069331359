-- By what is seen behind the parameters.
use Rattle.std.proofs.Common.{rules}
use Rattle.reader_tokens.specs.Tokens.{tokens}
use Rattle.reader_table.specs.Kinds.{position_of}
use Rattle.rust_leaf.specs.Leaf.{punct_char, punct_spacing}
use Rattle.std.specs.Prelude.{true, false}
use Rattle.reader_lookahead.proofs.Fronts.{bar_front, typed_so}
use Rattle.reader_lookahead.proofs.form.bar_front.Goals as goal

pub returns-then-is_typed : goal.returns-then-is_typed
returns-then-is_typed c =
    bar_front (position_of c.args.position) (punct_char c.args.mark.now) (punct_spacing c.args.mark.now)
    (tokens c.args.at.now) (tokens c.args.rest.now) true c.requires.first c.requires.lone c.requires.bar
    (typed_so (punct_char c.args.mark.now) (punct_spacing c.args.mark.now) (tokens c.args.at.now)
    (tokens c.args.rest.now) true c.requires.first c.requires.lone c.requires.bar (search rules))

pub returns-else-is_typed : goal.returns-else-is_typed
returns-else-is_typed c =
    bar_front (position_of c.args.position) (punct_char c.args.mark.now) (punct_spacing c.args.mark.now)
    (tokens c.args.at.now) (tokens c.args.rest.now) false c.requires.first c.requires.lone c.requires.bar
    (typed_so (punct_char c.args.mark.now) (punct_spacing c.args.mark.now) (tokens c.args.at.now)
    (tokens c.args.rest.now) false c.requires.first c.requires.lone c.requires.bar (search rules))
