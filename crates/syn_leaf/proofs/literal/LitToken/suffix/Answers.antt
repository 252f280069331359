use Rattle.std.specs.Str.{chars}
use Rattle.rust_leaf.specs.Leaf.{literal_text}
use Rattle.syn_leaf.proofs.Suffixes.{had_of, suffix_of}
use Rattle.syn_leaf.proofs.literal.LitToken.suffix.Goals as goal

pub suffix_of-requires : goal.suffix_of-requires
suffix_of-requires g c =
    had_of g.C.LitClass.kind (chars c.as_str.result.now) (literal_text c.token.result.now)
    (literal_text c.args.self.now.token) c.as_str.ensures c.token.ensures.text_is c.args.self.now.is_of_class

pub returns : goal.returns
returns g c =
    suffix_of g.C.LitClass.kind (chars c.as_str.result.now) (literal_text c.token.result.now)
    (literal_text c.args.self.now.token) (chars c.suffix_of.result.now) c.as_str.ensures c.token.ensures.text_is
    c.suffix_of.ensures
