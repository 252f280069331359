-- The name that stands there.
use Rattle.std.proofs.Common.{refl}
use Rattle.reader_tokens.specs.Tokens.{tokens}
use Rattle.rust_leaf.specs.Leaf.{ident_text}
use Rattle.reader_fast.proofs.Bound.{several_at}
use Rattle.reader_fast.specs.Bindings.{only_alternative}
use Rattle.syn_grammar.specs.Kind.{SeveralPatterns}
use Rattle.reader_fast.proofs.bindings.several_patterns.Goals as goal

pub returns-in-Some-clause-read : goal.returns-in-Some-clause-read
returns-in-Some-clause-read c =
    let ts = tokens c.args.at.now in
    let cs = ident_text c.in-Some.name.now in
    c.found.ensures.read 3 SeveralPatterns ts (only_alternative cs)
    (several_at cs ts (tokens c.in-Some.rest.now) (only_alternative cs) c.in-Some.ensures.first c.in-Some.ensures.ident
    c.in-Some.ensures.end c.in-Some.ensures.only refl) c.only_alternative.ensures
