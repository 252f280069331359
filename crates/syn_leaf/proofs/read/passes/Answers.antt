use Rattle.std.specs.Str.{chars}
use Rattle.syn_leaf.proofs.OfClass.{same_test}
use Rattle.syn_leaf.proofs.read.passes.Goals as goal

pub returns : goal.returns
returns g c =
    same_test g.C.LitClass.kind (chars c.args.text.now) c.is_of_class.result c.is_of_class.ensures
