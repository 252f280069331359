-- The path, as one that isn't qualified.
use Rattle.reader_tokens.specs.Tokens.{tokens}
use Rattle.reader_fast.proofs.Steps.{any_path}
use Rattle.reader_fast.specs.Names.{unqualified}
use Rattle.reader_table.specs.Kinds.{style_of}
use Rattle.syn_grammar.specs.Kind.{AnyPath}
use Rattle.reader_fast.proofs.names.any_path.Goals as goal

pub returns-clause-read : goal.returns-clause-read
returns-clause-read c =
    let s = style_of c.args.style in
    let ts = tokens c.args.at.now in
    let named = rw c.in-Some.is at c.in_ok-path.ensures.named in
    let read = rw c.in-Some.is at c.in_ok-path.ensures.read in
    c.found.ensures.read 6 (AnyPath s) ts (unqualified s c.in-Some.path)
    (any_path s ts (tokens c.in-Some.rest.now) c.in-Some.path 5 named read) c.unqualified.ensures

pub returns-clause-named : goal.returns-clause-named
returns-clause-named c =
    let named = rw c.in-Some.is at c.in_ok-path.ensures.named in
    c.found.ensures.named (tokens c.args.at.now) named

pub returns-clause-passed : goal.returns-clause-passed
returns-clause-passed c =
    let passed = rw c.in-Some.is at c.in_ok-path.ensures.passed in
    c.found.ensures.passed (tokens c.args.at.now) passed
