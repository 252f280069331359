use Rattle.rust_leaf.specs.Leaf.{literal_text}
use Rattle.std.specs.Str.{chars}
use Rattle.rust_lex.specs.declared.piece.LiteralKind.TheVariants as kinds
use Rattle.syn_leaf.proofs.Apart.{units_there}
use Rattle.std.proofs.Common.{refl}
use Rattle.syn_leaf.proofs.Values.{bytes_spelled, if_ok}
use Rattle.syn_leaf.proofs.value.LitToken+IsByteStr.value.Goals as goal

pub spelled-requires-clause-there : goal.spelled-requires-clause-there
spelled-requires-clause-there c =
    units_there kinds.ByteStr (literal_text c.args.self.now.token) (chars c.apart-quoted.result.inside.now)
    (chars c.apart-quoted.result.closing.now) c.apart-quoted.result.mode refl c.apart-quoted.ensures.kind
    c.apart-quoted.ensures.apart

pub returns : goal.returns
returns c =
    if_ok c.spelled.result (λ out (values, units, held). bytes_spelled kinds.ByteStr
    (literal_text c.args.self.now.token) (chars c.apart-quoted.result.inside.now)
    (chars c.apart-quoted.result.closing.now) out.items c.apart-quoted.result.mode values refl
    c.apart-quoted.ensures.kind c.apart-quoted.ensures.apart units held)
    c.spelled.ensures
