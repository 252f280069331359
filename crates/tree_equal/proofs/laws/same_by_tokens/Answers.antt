use Rattle.std.proofs.Common.{ap, ◌++◌}
use Rattle.syn_grammar.specs.Gram.{ref}
use Rattle.syn_grammar.specs.Tree.{flat}
use Rattle.syn_grammar.proofs.Theorems.{one}
use Rattle.tree_equal.proofs.laws.same_by_tokens.Goals as goal

pub returns-clause-same : goal.returns-clause-same
returns-clause-same c = λ a b k rest h i. (
  λ e. ap flat e,
  λ e. (one (ref k) a b rest rest h i (ap (λ ts. ts ++ rest) e)).0,
)

pub returns-clause-begun : goal.returns-clause-begun
returns-clause-begun c = λ a b k r s h i e. (one (ref k) a b r s h i e).0
