use Rattle.std.proofs.Common.{[], ◌++◌, ◌∷◌}
use Rattle.proc_macro2.specs.Token.{Closes, Opens}
use Rattle.writer_built.specs.Heads.{head_tokens}
use Rattle.writer_built.proofs.Heads.{one_closed}
use Rattle.writer_normal.proofs.first.enclosed.Goals as goal

-- one token, and the first of those behind it
pub returns : goal.returns
returns c =
    one_closed (Opens c.args.delimiter) (head_tokens c.joined.result) (head_tokens c.joined-closed.result)
    (head_tokens c.args.inside ++ Closes c.args.delimiter ∷ []) c.joined.ensures c.joined-closed.ensures
