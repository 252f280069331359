-- The path that stands there.
use Rattle.std.proofs.Common.{refl}
use Rattle.reader_tokens.specs.Tokens.{tokens}
use Rattle.reader_table.specs.Kinds.{position_of}
use Rattle.reader_fast.proofs.LoneForms.{path_at}
use Rattle.reader_fast.specs.Lone.{lone_path}
use Rattle.syn_grammar.specs.Kind.{Expression}
use Rattle.reader_fast.proofs.lone.path.Goals as goal

pub returns-clause-read : goal.returns-clause-read
returns-clause-read c =
    let p = position_of c.args.position in
    let ts = tokens c.args.at.now in
    let named = rw c.in-Some.is at c.in_ok-path.ensures.named in
    let passed = rw c.in-Some.is at c.in_ok-path.ensures.passed in
    let read = rw c.in-Some.is at c.in_ok-path.ensures.read in
    c.found.ensures.read 8 (Expression p) ts (lone_path p c.in-Some.path)
    (path_at p ts (tokens c.in-Some.rest.now) c.in-Some.path (lone_path p c.in-Some.path) named passed read
    (c.is_over.ensures c.if-not-is_over.false) refl) c.lone_path.ensures
