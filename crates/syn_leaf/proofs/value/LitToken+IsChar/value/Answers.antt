use Rattle.rust_leaf.specs.Leaf.{literal_text}
use Rattle.std.specs.Str.{chars}
use Rattle.syn_leaf.proofs.Values.{char_only, char_spelled, char_there}
use Rattle.syn_leaf.proofs.value.LitToken+IsChar.value.Goals as goal

pub only_value-requires : goal.only_value-requires
only_value-requires c =
    char_there (literal_text c.args.self.now.token) (chars c.apart-quoted.result.inside.now)
    (chars c.apart-quoted.result.closing.now) c.apart-quoted.result.mode
    c.apart-quoted.ensures.kind c.apart-quoted.ensures.apart

pub unreachable-requires : goal.unreachable-requires
unreachable-requires c =
    char_only (literal_text c.args.self.now.token) (chars c.apart-quoted.result.inside.now)
    (chars c.apart-quoted.result.closing.now) c.apart-quoted.result.mode
    c.in-HighByte.field-0 c.only_value.result c.apart-quoted.ensures.apart c.only_value.ensures c.in-HighByte.is

pub returns : goal.returns
returns c =
    char_spelled (literal_text c.args.self.now.token) (chars c.apart-quoted.result.inside.now)
    (chars c.apart-quoted.result.closing.now) c.apart-quoted.result.mode
    c.in-Character.c c.only_value.result c.apart-quoted.ensures.kind c.apart-quoted.ensures.apart
    c.only_value.ensures c.in-Character.is
