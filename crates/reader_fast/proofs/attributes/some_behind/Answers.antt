-- The tree that was made.
use Rattle.std.proofs.Common.{sym, subst}
use Rattle.reader_fast.specs.Attributes.{IsBehindPath}
use Rattle.reader_fast.proofs.attributes.some_behind.Goals as goal

pub returns : goal.returns
returns c = λ ts x behind made.
    let made = rw c.in_ok-made.was at made in
    subst (IsBehindPath ts) (sym made) behind
