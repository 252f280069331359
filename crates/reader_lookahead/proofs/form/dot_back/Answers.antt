-- By what stands behind the dot.
use Rattle.std.proofs.Common.{rules}
use Rattle.reader_tokens.specs.Tokens.{tokens}
use Rattle.reader_table.specs.Kinds.{position_of}
use Rattle.rust_leaf.specs.Leaf.{ident_text, punct_char, punct_spacing}
use Rattle.reader_lookahead.proofs.Backs.{nothing_back, field_back, await_back, method_back, uncalled_back}
use Rattle.reader_lookahead.proofs.Backs.{reserved_back}
use Rattle.reader_lookahead.proofs.form.dot_back.Goals as goal

pub returns-in_default : goal.returns-in_default
returns-in_default c =
    nothing_back (position_of c.args.position) (punct_char c.args.mark.now) (punct_spacing c.args.mark.now)
    (tokens c.args.at.now) (tokens c.args.rest.now)
    c.requires.first c.requires.lone c.requires.dot c.in_default.ensures.after

pub returns-in_default-first_ident : goal.returns-in_default-first_ident
returns-in_default-first_ident c =
    field_back (position_of c.args.position) (punct_char c.args.mark.now) (punct_spacing c.args.mark.now)
    (tokens c.args.at.now) (tokens c.args.rest.now) (tokens c.in-Some.behind.now)
    c.requires.first c.requires.lone c.requires.dot c.in-Some.ensures.after
    c.in_default-first_ident.ensures.none

pub returns-then-is : goal.returns-then-is
returns-then-is c =
    await_back (position_of c.args.position) (punct_char c.args.mark.now) (punct_spacing c.args.mark.now)
    (tokens c.args.at.now) (tokens c.args.rest.now) (tokens c.in-Some.behind.now)
    (tokens c.in-Some-first_ident.after.now) (ident_text c.in-Some-first_ident.ident.now)
    c.requires.first c.requires.lone c.requires.dot c.in-Some.ensures.after c.in-Some-first_ident.ensures.some
    (search rules)

pub returns-then-not-word : goal.returns-then-not-word
returns-then-not-word c =
    reserved_back (position_of c.args.position) (punct_char c.args.mark.now) (punct_spacing c.args.mark.now)
    (tokens c.args.at.now) (tokens c.args.rest.now) (tokens c.in-Some.behind.now)
    (tokens c.in-Some-first_ident.after.now) (ident_text c.in-Some-first_ident.ident.now)
    c.requires.first c.requires.lone c.requires.dot c.in-Some.ensures.after c.in-Some-first_ident.ensures.some
    (search rules) (search rules)

pub returns-then-is_called : goal.returns-then-is_called
returns-then-is_called c =
    method_back (position_of c.args.position) (punct_char c.args.mark.now) (punct_spacing c.args.mark.now)
    (tokens c.args.at.now) (tokens c.args.rest.now) (tokens c.in-Some.behind.now)
    (tokens c.in-Some-first_ident.after.now) (ident_text c.in-Some-first_ident.ident.now)
    c.requires.first c.requires.lone c.requires.dot c.in-Some.ensures.after c.in-Some-first_ident.ensures.some
    (search rules) (search rules) (search rules)

pub returns-else-is_called : goal.returns-else-is_called
returns-else-is_called c =
    uncalled_back (position_of c.args.position) (punct_char c.args.mark.now) (punct_spacing c.args.mark.now)
    (tokens c.args.at.now) (tokens c.args.rest.now) (tokens c.in-Some.behind.now)
    (tokens c.in-Some-first_ident.after.now) (ident_text c.in-Some-first_ident.ident.now)
    c.requires.first c.requires.lone c.requires.dot c.in-Some.ensures.after c.in-Some-first_ident.ensures.some
    (search rules) (search rules) (search rules)
