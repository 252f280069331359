use Rattle.std.proofs.Common.{◌≡◌, sym, subst, inl}
use Rattle.std.specs.Str.{chars}
use Rattle.rust_leaf.specs.Parse.{IsLiteralText}
use Rattle.rust_leaf.proofs.Integers.{integer_literal}
use Rattle.rust_leaf.proofs.Numbers.{number_literal}
use Rattle.std.specs.Result.{IfOk}
use Rattle.rust_leaf.specs.Leaf.{literal_text}
use Rattle.rust_leaf.proofs.integer.unsigned.Goals as goal

pub of-requires : goal.of-requires
of-requires c =
    subst IsLiteralText
    (sym (number_literal c.new-out.result c.push_decimal.new.out c.push_word.new.out _ _ c.new-out.ensures.bytes
    c.in_ok-push_decimal.ensures c.in_ok-push_word.ensures))
    (inl (integer_literal c.args.n (chars c.args.suffix.now) c.requires))

pub returns-clause-text_is : goal.returns-clause-text_is
returns-clause-text_is c =
    subst (λ text. IfOk c.of.result (λ literal. literal_text literal ≡ text))
    (number_literal c.new-out.result c.push_decimal.new.out c.push_word.new.out _ _ c.new-out.ensures.bytes
    c.in_ok-push_decimal.ensures c.in_ok-push_word.ensures) c.of.ensures.text_is
