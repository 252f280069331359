-- The segments, as a path.
use Rattle.reader_tokens.specs.Tokens.{tokens}
use Rattle.reader_fast.proofs.Steps.{a_path}
use Rattle.reader_fast.specs.Names.{path_of}
use Rattle.reader_table.specs.Kinds.{style_of}
use Rattle.syn_grammar.specs.Kind.{Path}
use Rattle.reader_fast.proofs.names.path.Goals as goal

pub returns-clause-read : goal.returns-clause-read
returns-clause-read c =
    let s = style_of c.args.style in
    let ts = tokens c.args.at.now in
    let named = rw c.in-Some.is at c.in_ok-segments.ensures.named in
    let read = rw c.in-Some.is at c.in_ok-segments.ensures.read in
    c.found.ensures.read 5 (Path s) ts (path_of s c.in-Some.segments)
    (a_path s ts (tokens c.in-Some.rest.now) c.in-Some.segments 4 named read) c.path_of.ensures

pub returns-clause-named : goal.returns-clause-named
returns-clause-named c =
    let named = rw c.in-Some.is at c.in_ok-segments.ensures.named in
    c.found.ensures.named (tokens c.args.at.now) named

pub returns-clause-passed : goal.returns-clause-passed
returns-clause-passed c =
    let passed = rw c.in-Some.is at c.in_ok-segments.ensures.passed in
    c.found.ensures.passed (tokens c.args.at.now) passed
