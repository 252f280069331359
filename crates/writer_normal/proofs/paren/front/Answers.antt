use Rattle.std.proofs.Common.{◌∙◌, ap, refl}
use Rattle.syn_grammar.specs.Parens.{begins_in, parens_unless}
use Rattle.reader_table.specs.Kinds.{kind_of, position_of}
use Rattle.writer_normal.proofs.Stepping.{made_so}
use Rattle.writer_normal.proofs.paren.front.Goals as goal

pub returns : goal.returns
returns c =
    let form = c.in_ok-form.ensures _ _ refl c.right_of-right.ensures in
    made_so c.in_parens_unless.result _ _ c.in_parens_unless.ensures
    (ap (λ b. parens_unless b c.in_ok-form.form) c.begins_in.ensures
    ∙ ap (parens_unless (begins_in (position_of c.args.position) (kind_of c.args.kind))) form)
