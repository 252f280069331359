use Rattle.std.specs.Cmp.{on_total}
use Rattle.std.specs.Cmp.Lexicographic.{nat_list_cmp_total}
use Rattle.rust_leaf.specs.Leaf.{ident_bytes}
use Rattle.syn_kinds.proofs.laws.ordered_lifetimes.Goals as goal

pub returns-clause-total : goal.returns-clause-total
returns-clause-total c = on_total (λ lifetime. ident_bytes lifetime.ident) nat_list_cmp_total
