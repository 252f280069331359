-- The path, as a type.
use Rattle.reader_tokens.specs.Tokens.{tokens}
use Rattle.reader_fast.proofs.Steps.{a_type}
use Rattle.reader_fast.specs.Names.{type_of}
use Rattle.reader_table.specs.Kinds.{plus_of}
use Rattle.syn_grammar.specs.Kind.{AType}
use Rattle.reader_fast.proofs.names.path_type.Goals as goal

pub returns-clause-read : goal.returns-clause-read
returns-clause-read c =
    let p = plus_of c.args.plus in
    let ts = tokens c.args.at.now in
    let named = rw c.in-Some.is at c.in_ok-path.ensures.named in
    let read = rw c.in-Some.is at c.in_ok-path.ensures.read in
    c.found.ensures.read 7 (AType p) ts (type_of p c.in-Some.path)
    (a_type p ts (tokens c.in-Some.rest.now) c.in-Some.path 6 named read) c.type_of.ensures
