use Rattle.std.proofs.Common.{arith}
use Rattle.std.proofs.lemmas.Str.Pattern.{strip_prefix_char}
use Rattle.rust_leaf.specs.Minus.{minus}
use Rattle.rust_leaf.proofs.MinusLemmas.{minus_cases}
use Rattle.rust_leaf.proofs.minus.behind_minus.Goals as goal

pub returns-clause-none : goal.returns-clause-none
returns-clause-none c = (minus_cases _ _ c.utf8.text
    (strip_prefix_char minus _ _ c.strip_prefix.ensures.cases (omega arith))).0

pub returns-clause-some : goal.returns-clause-some
returns-clause-some c = (minus_cases _ _ c.utf8.text
    (strip_prefix_char minus _ _ c.strip_prefix.ensures.cases (omega arith))).1
