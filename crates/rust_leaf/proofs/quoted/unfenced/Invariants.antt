use Rattle.std.proofs.Common.{length}
use Rattle.std.specs.Str.{chars}
use denote.Text.{Utf8}
use denote.Shadow.{shadow}
use Rattle.rust_leaf.proofs.Quotes.{IsPeeled}
use Rattle.rust_leaf.proofs.quoted.unfenced.Given as goal

abbrev pub invariant-loop-rest : goal.invariant-loop-rest
invariant-loop-rest l = shadow (Utf8 l.inner) × IsPeeled (chars l.text) (chars l.inner)

abbrev pub decreases-loop-rest : goal.decreases-loop-rest
decreases-loop-rest l = length (chars l.inner)
