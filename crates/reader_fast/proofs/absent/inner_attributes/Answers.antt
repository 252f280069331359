-- None stands there.
use Rattle.std.proofs.Common.{sym}
use Rattle.reader_tokens.specs.Tokens.{tokens}
use Rattle.reader_fast.proofs.NoneStand.{no_inner}
use Rattle.syn_grammar.specs.Kind.{InnerAttributes}
use Rattle.syn_grammar.specs.Tree.{End, Node}
use Rattle.reader_fast.proofs.absent.inner_attributes.Goals as goal

pub returns-in-None-clause-read : goal.returns-in-None-clause-read
returns-in-None-clause-read c =
    let ts = tokens c.args.at.now in
    c.found.ensures.read 2 InnerAttributes ts (Node InnerAttributes End) (no_inner ts (sym c.in-None.ensures.after))
    c.without_turns.ensures
