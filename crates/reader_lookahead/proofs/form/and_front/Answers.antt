-- By what is seen behind the mark.
use Rattle.std.proofs.Common.{rules}
use Rattle.reader_tokens.specs.Tokens.{tokens}
use Rattle.reader_table.specs.Kinds.{position_of}
use Rattle.rust_leaf.specs.Leaf.{punct_char, punct_spacing}
use Rattle.std.specs.Prelude.{true, false}
use Rattle.reader_lookahead.proofs.Fronts.{and_front, reference_front}
use Rattle.reader_lookahead.proofs.form.and_front.Goals as goal

pub returns-then-look : goal.returns-then-look
returns-then-look c =
    and_front (position_of c.args.position) (punct_char c.args.mark.now) (punct_spacing c.args.mark.now)
    (tokens c.args.at.now) (tokens c.args.rest.now) true c.requires.first c.requires.lone c.requires.and
    (search rules)

pub returns-else-look : goal.returns-else-look
returns-else-look c =
    and_front (position_of c.args.position) (punct_char c.args.mark.now) (punct_spacing c.args.mark.now)
    (tokens c.args.at.now) (tokens c.args.rest.now) false c.requires.first c.requires.lone c.requires.and
    (search rules)

pub returns-then-not-is_word : goal.returns-then-not-is_word
returns-then-not-is_word c =
    reference_front (position_of c.args.position) (punct_char c.args.mark.now) (punct_spacing c.args.mark.now)
    (tokens c.args.at.now) (tokens c.args.rest.now) c.requires.first c.requires.lone c.requires.and
    (search rules)
