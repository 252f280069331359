use Rattle.std.proofs.Common.{◌∙◌, sym, inl}
use Rattle.std.proofs.lemmas.Result.{IfOk-weaker}
use Rattle.syn_grammar.specs.Kind.{Plain}
use Rattle.reader_table.specs.Kinds.{kind_of}
use Rattle.writer_read.specs.Formed.{IsFormed}
use Rattle.writer_built.specs.Found.{HasNoDot, IsBehind}
use Rattle.writer_built.proofs.dots.behind_of.Goals as goal

-- it has no dot by its kind
pub returns-then-not-is_dotted-clause-same : goal.returns-then-not-is_dotted-clause-same
returns-then-not-is_dotted-clause-same c =
    IfOk-weaker c.plain.result
    (λ b. HasNoDot (kind_of c.args.kind) c.args.own.now → IsFormed Plain c.args.own.now
    → IsBehind (kind_of c.args.kind) c.args.own.now b)
    (λ b. IsFormed Plain c.args.own.now → IsBehind (kind_of c.args.kind) c.args.own.now b)
    (λ b h formed. h (inl (sym c.is_dotted.ensures ∙ c.if-not-is_dotted.true)) formed)
    c.plain.ensures.same
