use Rattle.std.proofs.Common.{◌≡◌, ◌++◌, ℤ, sym, ap, ◌∙◌, subst}
use Rattle.std.specs.Fmt.{signed_decimal}
use Rattle.std.specs.Str.{chars}
use Rattle.std.proofs.lemmas.Int.{to_z-of_z}
use mir.Syntax.{w128}
use Rattle.std.specs.Result.{IfOk}
use Rattle.rust_leaf.specs.Leaf.{literal_text}
use Rattle.rust_leaf.specs.Parse.{IsLiteralText}
use Rattle.rust_leaf.proofs.Integers.{signed_literal}
use Rattle.rust_leaf.proofs.Numbers.{number_literal}
use Rattle.rust_leaf.proofs.integer.signed.Goals as goal

pub of-requires : goal.of-requires
of-requires c =
    let written =
    number_literal c.new-out.result c.push_signed.new.out c.push_word.new.out _ _ c.new-out.ensures.bytes
    c.in_ok-push_signed.ensures c.in_ok-push_word.ensures
    ∙ ap (λ (z : ℤ). signed_decimal z ++ chars c.args.suffix.now) (to_z-of_z w128 c.args.n c.ranges.n) in
    subst IsLiteralText (sym written)
    (signed_literal c.args.n (chars c.args.suffix.now) c.requires)

pub returns-clause-text_is : goal.returns-clause-text_is
returns-clause-text_is c =
    let written =
    number_literal c.new-out.result c.push_signed.new.out c.push_word.new.out _ _ c.new-out.ensures.bytes
    c.in_ok-push_signed.ensures c.in_ok-push_word.ensures
    ∙ ap (λ (z : ℤ). signed_decimal z ++ chars c.args.suffix.now) (to_z-of_z w128 c.args.n c.ranges.n) in
    subst (λ text. IfOk c.of.result (λ literal. literal_text literal ≡ text)) written c.of.ensures.text_is
