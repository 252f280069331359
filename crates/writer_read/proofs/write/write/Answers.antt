use Rattle.std.proofs.Common.{◌++◌, ◌∙◌, ap, sym, map}
use Rattle.std.proofs.lemmas.Result.{on_ok_weaker}
use Rattle.writer_print.specs.Pieces.{piece_token}
use Rattle.writer_read.proofs.LaidTrees.{laid_same}
use Rattle.writer_read.proofs.write.write.Goals as goal

pub returns-clause-put : goal.returns-clause-put
returns-clause-put c = on_ok_weaker c.put_laid.result
    (λ e p h. e ∙ ap (λ ts. map piece_token c.args.out.now.items ++ ts) (sym (laid_same p c.args.tree.now h)))
    c.put_laid.ensures.put
