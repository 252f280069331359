-- By whether it is that word.
use Rattle.std.proofs.Common.{rules}
use Rattle.reader_tokens.specs.Tokens.{tokens}
use Rattle.reader_table.specs.Kinds.{position_of}
use Rattle.rust_leaf.specs.Leaf.{ident_text}
use Rattle.reader_lookahead.proofs.Backs.{cast_back, word_back}
use Rattle.reader_lookahead.proofs.form.word_back.Goals as goal

pub returns-then-is : goal.returns-then-is
returns-then-is c =
    cast_back (position_of c.args.position) (ident_text c.args.ident.now) (tokens c.args.at.now)
    (tokens c.args.rest.now)
    c.requires.first (search rules)

pub returns-else-is : goal.returns-else-is
returns-else-is c =
    word_back (position_of c.args.position) (ident_text c.args.ident.now) (tokens c.args.at.now)
    (tokens c.args.rest.now)
    c.requires.first (search rules)
