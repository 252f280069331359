-- The name that stands there.
use Rattle.std.proofs.Common.{refl}
use Rattle.reader_tokens.specs.Tokens.{tokens}
use Rattle.rust_leaf.specs.Leaf.{ident_text}
use Rattle.reader_fast.proofs.Bound.{one_at}
use Rattle.reader_fast.specs.Bindings.{alternative}
use Rattle.syn_grammar.specs.Kind.{OnePattern}
use Rattle.reader_fast.proofs.bindings.one_pattern.Goals as goal

pub returns-in-Some-clause-read : goal.returns-in-Some-clause-read
returns-in-Some-clause-read c =
    let ts = tokens c.args.at.now in
    let cs = ident_text c.in-Some.name.now in
    c.found.ensures.read 2 OnePattern ts (alternative cs)
    (one_at cs ts (tokens c.in-Some.rest.now) (alternative cs) c.in-Some.ensures.first c.in-Some.ensures.ident
    c.in-Some.ensures.end refl) c.alternative.ensures
