-- The literal that stands there.
use Rattle.std.proofs.Common.{refl}
use Rattle.reader_tokens.specs.Tokens.{tokens}
use Rattle.reader_table.specs.Kinds.{position_of}
use Rattle.rust_leaf.specs.Leaf.{literal_text}
use Rattle.reader_fast.proofs.LoneForms.{alone_at}
use Rattle.reader_fast.specs.Lone.{lone_literal}
use Rattle.syn_grammar.specs.Kind.{Expression}
use Rattle.reader_fast.proofs.lone.expression.Goals as goal

pub returns-in-Some-clause-read : goal.returns-in-Some-clause-read
returns-in-Some-clause-read c =
    let p = position_of c.args.position in
    let ts = tokens c.args.at.now in
    let cs = literal_text c.in-Some.literal.now in
    c.found.ensures.read 8 (Expression p) ts (lone_literal p cs)
    (alone_at p cs ts (tokens c.in-Some.rest.now) (lone_literal p cs) c.in-Some.ensures.first c.in-Some.ensures.over
    refl)
    c.lone_literal.ensures
