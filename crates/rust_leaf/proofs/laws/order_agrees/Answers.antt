use Rattle.std.proofs.Common.{sym}
use Rattle.rust_leaf.specs.contracts.ident.IdentOrd.TheImpl.Laws.{matches_eq-law}
use Rattle.rust_leaf.proofs.Identifiers.{told_equal}
use Rattle.rust_leaf.proofs.laws.order_agrees.Goals as goal

pub returns : goal.returns
returns c = told_equal _ _ (sym (matches_eq-law c.args.a.now c.args.b.now))
