use Rattle.std.proofs.Common.{List, ℕ, sym, subst}
use Rattle.std.specs.Str.{chars}
use Rattle.rust_leaf.specs.Parse.{IsLiteralText}
use Rattle.rust_leaf.proofs.literal.LiteralTryClone.try_clone.Goals as goal

pub invariant_of-result : goal.invariant_of-result
invariant_of-result c = record {
  is_literal = subst (λ (bytes : List ℕ). ∥ IsLiteralText (chars bytes) ∥₁) (sym c.in_ok-copy.ensures)
      c.args.self.now.is_literal;
}
