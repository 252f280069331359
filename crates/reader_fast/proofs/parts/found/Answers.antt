-- The tree that was made.
use Rattle.std.proofs.Common.{refl}
use Rattle.reader_tokens.specs.Tokens.{tokens}
use Rattle.reader_fast.proofs.Same.{as_read}
use Rattle.reader_fast.proofs.parts.found.Goals as goal

pub returns-clause-read : goal.returns-clause-read
returns-clause-read c = λ calls k ts x read made.
    let made = rw c.in_ok-made.was at made in
    as_read calls k ts ts (tokens c.args.rest.now) x c.in_ok-made.field-0 refl made read
