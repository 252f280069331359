-- Leaves in matched groups are well spaced exactly if their printed text has a forest of the same tokens.
use Rattle.std.proofs.Common.{◌≡◌, ℕ, List, ⊎_elim}
use Rattle.std.specs.Prelude.{◌↔◌}
use Rattle.proc_macro2.specs.Forest.{IsForest}
use Rattle.proc_macro2.specs.Groups.{IsMatched}
use Rattle.proc_macro2.specs.Printed.{text}
use Rattle.proc_macro2.specs.Spacing.{IsWellSpaced}
use Rattle.proc_macro2.specs.Token.{Spanned, plain}
use Rattle.proc_macro2.proofs.Total.{forest_or_fault}
use Rattle.proc_macro2.specs.Leaf.{AreLeaves}
use Rattle.laws_lexer.proofs.Forests.{same_forest, spaced_no_fault}

pub forest_back : (base : ℕ) (stream : List Spanned) → AreLeaves (plain stream) → IsMatched stream
    → IsWellSpaced (plain stream) ↔ ((read : List Spanned) × IsForest base (text (plain stream)) read ×
    (plain read ≡ plain stream))
forest_back base stream a m = (
  λ w. ⊎_elim
      (λ (read, f). (read, f, (same_forest base stream read a f).0 w))
      (λ (place, (n, f, _)). absurd (spaced_no_fault stream n a m w f))
      (forest_or_fault base (text (plain stream))),
  λ (read, f, e). (same_forest base stream read a f).1 e,
)
