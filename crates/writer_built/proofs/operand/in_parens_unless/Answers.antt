use Rattle.std.proofs.Common.{◌∙◌, ◌∷◌, [], ap, sym}
use Rattle.proc_macro2.specs.Token.{Closes, Opens}
use Rattle.proc_macro2.specs.declared.delimiter.Delimiter.TheVariants.{Parenthesis}
use Rattle.writer_built.specs.Begins.{front3}
use Rattle.writer_built.specs.Heads.{head_tokens}
use Rattle.writer_built.specs.Ropes.{rope_tokens}
use Rattle.writer_built.proofs.Heads.{fronts_enclosed}
use Rattle.writer_built.proofs.operand.in_parens_unless.Goals as goal

pub returns-clause-head : goal.returns-clause-head
returns-clause-head c inside =
    fronts_enclosed (Opens Parenthesis) (head_tokens c.enclosed-head.result) (head_tokens c.args.operand.head)
    (rope_tokens c.args.operand.rope) (Closes Parenthesis ∷ []) c.enclosed-head.ensures inside
    ∙ ap front3 (sym c.in_ok-rope.ensures)
