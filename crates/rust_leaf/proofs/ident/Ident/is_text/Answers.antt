use Rattle.std.proofs.Common.{ap}
use Rattle.std.specs.Str.{chars}
use Rattle.rust_leaf.proofs.Texts.{leaf_utf8, same_bytes}
use Rattle.rust_leaf.proofs.ident.Ident.is_text.Goals as goal

pub returns : goal.returns
returns c = (
  (λ e. ap chars (c.is.ensures.0 e)),
  (λ e. c.is.ensures.1 (same_bytes _ _ (leaf_utf8 c.args.self.now.text)
      c.utf8.text e)),
)
