use Rattle.std.specs.Str.{chars}
use Rattle.rust_leaf.specs.Leaf.{literal_text}
use Rattle.syn_leaf.proofs.OfClass.{kind_had}
use Rattle.syn_leaf.proofs.Values.{class_there}
use Rattle.syn_leaf.proofs.value.apart.Goals as goal

pub taken_apart-requires-clause-there : goal.taken_apart-requires-clause-there
taken_apart-requires-clause-there g c =
    class_there g.C.LitClass.kind c.kind.result (chars c.as_str.result.now) (literal_text c.token.result.now)
    (literal_text c.args.literal.now.token) c.kind.ensures c.as_str.ensures c.token.ensures.text_is
    c.args.literal.now.is_of_class

pub returns-clause-kind : goal.returns-clause-kind
returns-clause-kind g c = kind_had g.C.LitClass.kind (literal_text c.args.literal.now.token)
    c.args.literal.now.is_of_class
