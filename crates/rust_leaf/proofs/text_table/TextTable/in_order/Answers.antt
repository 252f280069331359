use Rattle.std.proofs.Common.{sym}
use Rattle.std.proofs.lemmas.Map.Lookups.{exact_bytes}
use Rattle.std.proofs.lemmas.Option.{IfSome_then}
use Rattle.rust_leaf.proofs.text_table.TextTable.in_order.Goals as goal

pub returns : goal.returns
returns c = IfSome_then c.get.result c.get.ensures.same_key (λ kept e. sym (exact_bytes _ _ e))
