use Rattle.rust_leaf.specs.Leaf.{literal_text}
use Rattle.std.specs.Str.{chars}
use Rattle.rust_lex.specs.declared.piece.LiteralKind.TheVariants as kinds
use Rattle.syn_leaf.proofs.Apart.{units_there}
use Rattle.std.proofs.Common.{refl}
use Rattle.rust_leaf.specs.Leaf.{text_of}
use Rattle.syn_leaf.proofs.Values.{if_ok, text_spelled, text_takes}
use Rattle.syn_leaf.proofs.value.LitToken+IsStr.value.Goals as goal

pub spelled-requires-clause-there : goal.spelled-requires-clause-there
spelled-requires-clause-there c =
    units_there kinds.Str (literal_text c.args.self.now.token) (chars c.apart-quoted.result.inside.now)
    (chars c.apart-quoted.result.closing.now) c.apart-quoted.result.mode refl c.apart-quoted.ensures.kind
    c.apart-quoted.ensures.apart

pub spelled-requires-clause-takes : goal.spelled-requires-clause-takes
spelled-requires-clause-takes c =
    text_takes (literal_text c.args.self.now.token) (chars c.apart-quoted.result.inside.now)
    (chars c.apart-quoted.result.closing.now) c.apart-quoted.result.mode c.apart-quoted.ensures.apart

pub returns : goal.returns
returns c =
    if_ok c.spelled.result (λ out (values, units, held). text_spelled (literal_text c.args.self.now.token)
    (chars c.apart-quoted.result.inside.now) (chars c.apart-quoted.result.closing.now) (text_of out)
    c.apart-quoted.result.mode values c.apart-quoted.ensures.kind c.apart-quoted.ensures.apart units held)
    c.spelled.ensures
