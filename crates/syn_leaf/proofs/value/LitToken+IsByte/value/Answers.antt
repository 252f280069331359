use Rattle.rust_leaf.specs.Leaf.{literal_text}
use Rattle.std.specs.Str.{chars}
use Rattle.std.proofs.Common.{refl, arith}
use Rattle.syn_leaf.proofs.Values.{byte_there, high_spelled, narrow, narrow_spelled}
use Rattle.syn_leaf.proofs.value.LitToken+IsByte.value.Goals as goal

pub only_value-requires : goal.only_value-requires
only_value-requires c =
    byte_there (literal_text c.args.self.now.token) (chars c.apart-quoted.result.inside.now)
    (chars c.apart-quoted.result.closing.now) c.apart-quoted.result.mode
    c.apart-quoted.ensures.kind c.apart-quoted.ensures.apart

pub overflow_cast-result : goal.overflow_cast-result
overflow_cast-result c =
    let low = narrow (literal_text c.args.self.now.token) (chars c.apart-quoted.result.inside.now)
    (chars c.apart-quoted.result.closing.now) c.apart-quoted.result.mode
    c.in-Character.c c.only_value.result c.apart-quoted.ensures.apart c.only_value.ensures c.in-Character.is in
    omega (arith, low)

pub returns-in-Character : goal.returns-in-Character
returns-in-Character c =
    narrow_spelled (literal_text c.args.self.now.token) (chars c.apart-quoted.result.inside.now)
    (chars c.apart-quoted.result.closing.now) c.apart-quoted.result.mode
    c.in-Character.c c.in-Character.c c.only_value.result c.apart-quoted.ensures.kind c.apart-quoted.ensures.apart
    c.only_value.ensures c.in-Character.is refl

pub returns-in-HighByte : goal.returns-in-HighByte
returns-in-HighByte c =
    high_spelled (literal_text c.args.self.now.token) (chars c.apart-quoted.result.inside.now)
    (chars c.apart-quoted.result.closing.now) c.apart-quoted.result.mode
    c.in-HighByte.byte c.only_value.result c.apart-quoted.ensures.kind c.apart-quoted.ensures.apart
    c.only_value.ensures c.in-HighByte.is
