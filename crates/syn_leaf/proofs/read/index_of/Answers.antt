use Rattle.std.proofs.Common.{◌≡◌, arith, rules, sym}
use Rattle.std.specs.Prelude.{true, false}
use Rattle.syn_leaf.proofs.Reading.{no_suffix, some_suffix}
use Rattle.syn_leaf.proofs.read.index_of.Goals as goal

pub returns-then-not-is_empty-clause-none : goal.returns-then-not-is_empty-clause-none
returns-then-not-is_empty-clause-none c =
    let full : c.is_empty.result ≡ false = search rules in
    λ number plain. some_suffix _ c.behind_digits.result.now _ c.behind_digits.utf8 c.is_empty.ensures full
    c.behind_digits.ensures plain.0

pub returns-then-value-le-MAX-clause-some : goal.returns-then-value-le-MAX-clause-some
returns-then-value-le-MAX-clause-some c =
    let empty : c.is_empty.result ≡ true = search rules in (
      no_suffix _ c.behind_digits.result.now _ c.is_empty.ensures empty c.behind_digits.ensures,
      sym c.in_ok-value.ensures,
      omega (arith, c.if-value-le-MAX.true),
    )
