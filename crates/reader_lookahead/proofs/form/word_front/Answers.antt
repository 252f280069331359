-- A word that is none of those that begin a form is a name, or begins none.
use Rattle.std.proofs.Common.{rules}
use Rattle.reader_tokens.specs.Tokens.{tokens}
use Rattle.reader_table.specs.Kinds.{position_of}
use Rattle.rust_leaf.specs.Leaf.{ident_text}
use Rattle.reader_lookahead.proofs.Reserved.{ident_name, ident_no_form}
use Rattle.reader_lookahead.proofs.WordFronts.{bool_front, if_front, match_front, no_name}
use Rattle.reader_lookahead.proofs.form.word_front.Goals as goal

pub name_front-requires-clause-name : goal.name_front-requires-clause-name
name_front-requires-clause-name c = ident_name (ident_text c.args.ident.now) (search rules)

pub name_front-requires-clause-no_form : goal.name_front-requires-clause-no_form
name_front-requires-clause-no_form c = ident_no_form (ident_text c.args.ident.now) (search rules)

pub returns-then-word-2 : goal.returns-then-word-2
returns-then-word-2 c =
    bool_front (position_of c.args.position) (ident_text c.args.ident.now) (tokens c.args.at.now)
    (tokens c.args.rest.now) c.requires.first (search rules)

pub returns-then-is : goal.returns-then-is
returns-then-is c =
    if_front (position_of c.args.position) (ident_text c.args.ident.now) (tokens c.args.at.now)
    (tokens c.args.rest.now) c.requires.first (search rules)

pub returns-then-is-2 : goal.returns-then-is-2
returns-then-is-2 c =
    match_front (position_of c.args.position) (ident_text c.args.ident.now) (tokens c.args.at.now)
    (tokens c.args.rest.now) c.requires.first (search rules)

pub returns-else-word-3 : goal.returns-else-word-3
returns-else-word-3 c =
    no_name (position_of c.args.position) (ident_text c.args.ident.now) (tokens c.args.at.now) (tokens c.args.rest.now)
    c.requires.first (search rules) (search rules) (search rules) (search rules)
