use Rattle.std.proofs.Common.{ℕ, List, ap}
use Rattle.rust_map.specs.declared.span.Span.{Span}
use Rattle.syn_leaf.proofs.OfClass.{class_stays}
use Rattle.syn_leaf.proofs.literal.LitTokenTryClone.try_clone.Goals as goal

pub invariant_of-result : goal.invariant_of-result
invariant_of-result g c =
    record {
      is_of_class = class_stays g.C.LitClass.kind _ _
          (ap (λ (p : List ℕ × Span). p.0) c.in_ok-try_clone.ensures.copy) c.args.self.now.is_of_class;
    }
