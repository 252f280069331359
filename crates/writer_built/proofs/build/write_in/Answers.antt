use Rattle.std.proofs.Common.{◌∙◌, ◌++◌, ap, map}
use Rattle.std.proofs.lemmas.Result.{on_ok_weaker}
use Rattle.writer_print.specs.Pieces.{piece_token}
use Rattle.reader_table.specs.Kinds.{position_of}
use Rattle.syn_grammar.specs.Kind.{Position}
use Rattle.syn_grammar.specs.Normal.{stands_behind}
use Rattle.writer_built.specs.Kept.{kept_of}
use Rattle.writer_built.proofs.Builds.{whole_said}
use Rattle.writer_built.proofs.build.write_in.Goals as goal

-- what is put is what is written of the whole expression
pub returns-clause-put : goal.returns-clause-put
returns-clause-put c =
    let p : Position = position_of c.args.position in
    on_ok_weaker c.put_rope.result
    (λ e formed. e ∙ ap (λ ts. map piece_token c.args.out.now.items ++ ts)
    (whole_said p c.args.tree.now (kept_of c.in_ok-operand.operand)
    (c.in_ok-operand.ensures.same (stands_behind p) c.behind_whole-behind.ensures formed)))
    c.put_rope.ensures.put
