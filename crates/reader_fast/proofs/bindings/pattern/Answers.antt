-- The name that stands there.
use Rattle.std.proofs.Common.{refl}
use Rattle.reader_tokens.specs.Tokens.{tokens}
use Rattle.rust_leaf.specs.Leaf.{ident_text}
use Rattle.reader_fast.proofs.Bound.{whole_at}
use Rattle.reader_fast.specs.Bindings.{only_pattern}
use Rattle.syn_grammar.specs.Kind.{Pattern}
use Rattle.reader_fast.proofs.bindings.pattern.Goals as goal

pub returns-in-Some-clause-read : goal.returns-in-Some-clause-read
returns-in-Some-clause-read c =
    let ts = tokens c.args.at.now in
    let cs = ident_text c.in-Some.name.now in
    c.found.ensures.read 3 Pattern ts (only_pattern cs)
    (whole_at cs ts (tokens c.in-Some.rest.now) (only_pattern cs) c.in-Some.ensures.first c.in-Some.ensures.ident
    c.in-Some.ensures.end c.in-Some.ensures.only refl) c.only_pattern.ensures
