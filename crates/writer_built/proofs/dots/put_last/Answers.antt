use Rattle.std.proofs.Common.{◌∙◌, ◌++◌, ap, append_assoc, map}
use Rattle.std.proofs.lemmas.Result.{on_ok_weaker}
use Rattle.syn_grammar.specs.Kind.{Plain}
use Rattle.writer_print.specs.Pieces.{piece_token}
use Rattle.writer_rules.specs.Said.{said}
use Rattle.writer_built.proofs.dots.put_last.Goals as goal

-- the one, and then the other
pub returns : goal.returns
returns c =
    on_ok_weaker c.write-2.result
    (λ e dot behind. e Plain behind ∙ ap (λ ts. ts ++ said Plain c.args.behind.now)
    (c.in_ok-write.ensures.put Plain dot)
    ∙ append_assoc (map piece_token c.args.out.now.items) (said Plain c.args.dot.now) (said Plain c.args.behind.now))
    c.write-2.ensures.put
