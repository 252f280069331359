use Rattle.std.proofs.Common.{◌≡◌, arith, map}
use Rattle.std.proofs.lemmas.Result.{IfErr-weaker, IfOk-weaker}
use Rattle.syn_kinds.specs.declared.punctuation.Punctuation.{Punctuation}
use Rattle.syn_lists.specs.Lists.{separators, values}
use Rattle.syn_buffer.specs.Leaves.{ident_token}
use Rattle.laws_lists.proofs.Rereading.{not_refused, reread}
use Rattle.laws_lists.proofs.read_back.reread_two.Goals as goal

pub returns-clause-names : goal.returns-clause-names
returns-clause-names g c =
    IfOk-weaker c.reread.result _ (λ back. map ident_token (values back) ≡ map ident_token (values c.args.list.now))
    (λ back h. (reread (λ (p : Punctuation g.row.K 2). p.spans) g.row.K 2 (values c.args.list.now) (values back)
    (separators c.args.list.now) (separators back) (omega arith) c.requires.places c.requires.separated h).0)
    c.reread.ensures.read

pub returns-clause-marks : goal.returns-clause-marks
returns-clause-marks g c =
    IfOk-weaker c.reread.result _
    (λ back. map (λ (p : Punctuation g.row.K 2). p.spans) (separators back)
    ≡ map (λ (p : Punctuation g.row.K 2). p.spans) (separators c.args.list.now))
    (λ back h. (reread (λ (p : Punctuation g.row.K 2). p.spans) g.row.K 2 (values c.args.list.now) (values back)
    (separators c.args.list.now) (separators back) (omega arith) c.requires.places c.requires.separated h).1)
    c.reread.ensures.read

pub returns-clause-taken : goal.returns-clause-taken
returns-clause-taken g c =
    λ names. IfErr-weaker c.reread.result _ _
    (λ e h s. not_refused (λ (p : Punctuation g.row.K 2). p.spans) g.row.K 2 (values c.args.list.now)
    (separators c.args.list.now) names c.requires.places c.requires.separated (h s)) c.reread.ensures.none
