use Rattle.std.specs.Str.{chars}
use Rattle.rust_leaf.proofs.Values.{found_none}
use Rattle.rust_leaf.proofs.value.value_of.Goals as goal

pub returns-in-Some-clause-malformed : goal.returns-in-Some-clause-malformed
returns-in-Some-clause-malformed g c =
    λ error e. found_none c.args.content c.in-Some.inside.mode (chars c.args.text.now) (chars c.in-Some.inside.text.now)
    c.in-Some.ensures (c.spelled.ensures.malformed error e)
