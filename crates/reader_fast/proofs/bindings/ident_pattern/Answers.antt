-- The name that stands there.
use Rattle.std.proofs.Common.{refl}
use Rattle.reader_tokens.specs.Tokens.{tokens}
use Rattle.rust_leaf.specs.Leaf.{ident_text}
use Rattle.reader_fast.proofs.Bound.{ident_at}
use Rattle.reader_fast.specs.Bindings.{bound}
use Rattle.syn_grammar.specs.Kind.{IdentPattern}
use Rattle.reader_fast.proofs.bindings.ident_pattern.Goals as goal

pub returns-in-Some-clause-read : goal.returns-in-Some-clause-read
returns-in-Some-clause-read c =
    let ts = tokens c.args.at.now in
    let cs = ident_text c.in-Some.name.now in
    c.found.ensures.read 1 IdentPattern ts (bound cs)
    (ident_at cs ts (tokens c.in-Some.rest.now) (bound cs) c.in-Some.ensures.first c.in-Some.ensures.ident
    c.in-Some.ensures.end refl) c.bound.ensures
