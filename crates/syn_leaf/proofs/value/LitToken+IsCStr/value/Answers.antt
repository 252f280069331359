use Rattle.rust_leaf.specs.Leaf.{literal_text}
use Rattle.std.specs.Str.{chars}
use Rattle.rust_lex.specs.declared.piece.LiteralKind.TheVariants as kinds
use Rattle.syn_leaf.proofs.Apart.{units_there}
use Rattle.std.proofs.Common.{refl}
use Rattle.syn_leaf.proofs.Values.{bytes_spelled}
use Rattle.syn_leaf.proofs.value.LitToken+IsCStr.value.Goals as goal

pub spelled-requires-clause-there : goal.spelled-requires-clause-there
spelled-requires-clause-there c =
    units_there kinds.CStr (literal_text c.args.self.now.token) (chars c.apart-quoted.result.inside.now)
    (chars c.apart-quoted.result.closing.now) c.apart-quoted.result.mode refl c.apart-quoted.ensures.kind
    c.apart-quoted.ensures.apart

pub returns : goal.returns
returns c = record {
  front = c.in_ok-bytes.bytes.items;
  spelled = bytes_spelled kinds.CStr (literal_text c.args.self.now.token) (chars c.apart-quoted.result.inside.now)
      (chars c.apart-quoted.result.closing.now) c.in_ok-bytes.bytes.items c.apart-quoted.result.mode
      c.in_ok-bytes.ensures.0 refl c.apart-quoted.ensures.kind c.apart-quoted.ensures.apart c.in_ok-bytes.ensures.1
      c.in_ok-bytes.ensures.2;
  bytes_are = c.in_ok-push.ensures.items;
}
