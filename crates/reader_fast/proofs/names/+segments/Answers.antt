-- The last name, and a name with others behind it.
use Rattle.std.proofs.Common.{arith}
use Rattle.reader_tokens.specs.Tokens.{tokens}
use Rattle.reader_fast.proofs.Steps.{further_at, further_passed_at, last_at, last_passed_at, named_at}
use Rattle.reader_fast.specs.Names.{further_segments, last_segment}
use Rattle.reader_table.specs.Kinds.{style_of}
use Rattle.rust_leaf.specs.Leaf.{ident_text}
use Rattle.syn_grammar.specs.Kind.{Segments}
use Rattle.reader_fast.proofs.names.+segments.Goals as goal

pub returns-in-Last-clause-read : goal.returns-in-Last-clause-read
returns-in-Last-clause-read t c =
    let s = style_of c.args.style in
    let n = c.in-Last.name in
    let cs = ident_text c.in-Last.word.now in
    let ts = tokens c.args.at.now in
    c.found.ensures.read c.args.most (Segments s) ts (last_segment s n cs)
    (last_at s n cs ts (tokens c.in-Last.rest.now) c.args.most (omega arith) c.in-Last.ensures.begin)
    c.last_segment.ensures

pub returns-in-Last-clause-named : goal.returns-in-Last-clause-named
returns-in-Last-clause-named t c =
    let b = c.in-Last.ensures.begin in
    let ts = tokens c.args.at.now in
    c.found.ensures.named ts
    (named_at c.in-Last.name (ident_text c.in-Last.word.now) ts (tokens c.in-Last.rest.now) b.first b.name)

pub returns-in-Last-clause-passed : goal.returns-in-Last-clause-passed
returns-in-Last-clause-passed t c =
    let ts = tokens c.args.at.now in
    c.found.ensures.passed ts
    (last_passed_at (style_of c.args.style) c.in-Last.name (ident_text c.in-Last.word.now) ts
    (tokens c.in-Last.rest.now) c.in-Last.ensures.begin)

pub returns-in-Some-clause-read : goal.returns-in-Some-clause-read
returns-in-Some-clause-read t c =
    let s = style_of c.args.style in
    let n = c.in-Further.name in
    let cs = ident_text c.in-Further.word.now in
    let ts = tokens c.args.at.now in
    let x = c.in-Some.tree in
    let named = rw c.in-Some.is at c.in_ok-tree-in-Further.ensures.named in
    let read = rw c.in-Some.is at c.in_ok-tree-in-Further.ensures.read in
    c.found-in-Further.ensures.read c.args.most (Segments s) ts (further_segments s n cs c.in-Further.spacing x)
    (further_at s n cs ts (tokens c.in-Further.others.now) (tokens c.in-Some.left.now) c.in-Further.spacing x
    c.args.most
    (omega arith) c.in-Further.ensures.begin named read) c.further_segments-tree.ensures

pub returns-in-Some-clause-named : goal.returns-in-Some-clause-named
returns-in-Some-clause-named t c =
    let b = c.in-Further.ensures.begin in
    let ts = tokens c.args.at.now in
    c.found-in-Further.ensures.named ts
    (named_at c.in-Further.name (ident_text c.in-Further.word.now) ts _ b.first b.name)

pub returns-in-Some-clause-passed : goal.returns-in-Some-clause-passed
returns-in-Some-clause-passed t c =
    let ts = tokens c.args.at.now in
    let named = rw c.in-Some.is at c.in_ok-tree-in-Further.ensures.named in
    let passed = rw c.in-Some.is at c.in_ok-tree-in-Further.ensures.passed in
    c.found-in-Further.ensures.passed ts
    (further_passed_at c.in-Further.name (ident_text c.in-Further.word.now) ts (tokens c.in-Further.others.now)
    (tokens c.in-Some.left.now) c.in-Further.spacing c.in-Further.ensures.begin named passed)
