use Rattle.std.proofs.Common.{[], ◌++◌, ◌∷◌}
use Rattle.writer_built.specs.Heads.{head_tokens}
use Rattle.proc_macro2.specs.Token.{Closes, Opens}
use Rattle.proc_macro2.specs.declared.delimiter.Delimiter.TheVariants.{Parenthesis}
use Rattle.writer_built.proofs.Heads.{one_closed}
use Rattle.writer_built.proofs.head.enclosed.Goals as goal

-- one token, and the first of those behind it
pub returns : goal.returns
returns c =
    one_closed (Opens Parenthesis) (head_tokens c.behind_one.result) (head_tokens c.joined-closed.result)
    (head_tokens c.args.inside ++ Closes Parenthesis ∷ []) c.behind_one.ensures c.joined-closed.ensures
