use Rattle.std.proofs.Common.{subst}
use Rattle.reader_steps.specs.Answers.{tokens}
use Rattle.reader_table.specs.Kinds.{kind_of}
use Rattle.syn_buffer.specs.Entries.{entry_token}
use Rattle.syn_grammar.specs.Read.{IsDerived}
use Rattle.syn_read.proofs.Wholes.{none_read, more_read}
use Rattle.syn_read.proofs.parse.parse_as.Goals as goal

pub returns-in-Err-clause-refused : goal.returns-in-Err-clause-refused
returns-in-Err-clause-refused c =
    λ s. none_read (kind_of c.args.kind) (tokens c.args.buffer.now.entries.items) (c.in-Err.ensures.refused s)

pub returns-in-Some-clause-refused : goal.returns-in-Some-clause-refused
returns-in-Some-clause-refused c =
    λ s. more_read (kind_of c.args.kind) (tokens c.args.buffer.now.entries.items) c.in-Ok.tree
    (entry_token c.in-Some.entry.now) (tokens c.in-Some.field-0-1.now)
    (subst (λ es. IsDerived (kind_of c.args.kind) (tokens c.args.buffer.now.entries.items) c.in-Ok.tree (tokens es))
    c.in-Some.ensures.cases.0 c.in-Ok.ensures.read)
