use Rattle.std.proofs.Common.{refl}
use Rattle.proc_macro2.proofs.Views.{empty_view}
use Rattle.proc_macro2.proofs.tree.TokenStream.is_empty.Goals as goal

pub returns : goal.returns
returns c = empty_view c.trees.result.now _ _ _ c.trees.ensures.trees refl c.is_empty.ensures
