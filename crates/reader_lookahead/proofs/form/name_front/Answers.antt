-- By whether a mark stands behind the name, and a macro's call begins with it.
use Rattle.std.proofs.Common.{rules}
use Rattle.reader_tokens.specs.Tokens.{tokens}
use Rattle.reader_table.specs.Kinds.{position_of}
use Rattle.rust_leaf.specs.Leaf.{ident_text}
use Rattle.reader_lookahead.proofs.WordFronts.{path_alone, is_call, is_path}
use Rattle.reader_lookahead.proofs.form.name_front.Goals as goal

pub returns-then-not-is_mark_first : goal.returns-then-not-is_mark_first
returns-then-not-is_mark_first c =
    path_alone (position_of c.args.position) (ident_text c.args.ident.now) (tokens c.args.at.now)
    (tokens c.args.rest.now) c.requires.first c.requires.no_form c.requires.name (search rules)

pub returns-then-look : goal.returns-then-look
returns-then-look c =
    is_call (position_of c.args.position) (ident_text c.args.ident.now) (tokens c.args.at.now) (tokens c.args.rest.now)
    c.requires.first c.requires.no_form c.requires.name (search rules)

pub returns-else-look : goal.returns-else-look
returns-else-look c =
    is_path (position_of c.args.position) (ident_text c.args.ident.now) (tokens c.args.at.now) (tokens c.args.rest.now)
    c.requires.first c.requires.no_form c.requires.name (search rules)
