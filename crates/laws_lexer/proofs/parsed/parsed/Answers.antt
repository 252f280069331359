use Rattle.std.specs.Str.{chars}
use Rattle.std.proofs.lemmas.Str.{scalars-chars}
use Rattle.laws_lexer.proofs.Streams as lemma
use Rattle.laws_lexer.proofs.parsed.parsed.Goals as goal

pub returns-clause-spaced : goal.returns-clause-spaced
returns-clause-spaced c = lemma.spaced _ (chars c.args.src.now) c.from_str.result
    (scalars-chars c.args.src.now c.utf8.src) c.from_str.ensures.parsed

pub returns-clause-same : goal.returns-clause-same
returns-clause-same c = λ stream e a. lemma.same _
    (chars c.args.src.now) c.from_str.result stream c.from_str.ensures.parsed e a

pub returns-clause-without_fault : goal.returns-clause-without_fault
returns-clause-without_fault c = λ stream error e a m w r. lemma.without_fault _
    (chars c.args.src.now) c.from_str.result stream error c.from_str.ensures.fault e a m w r
