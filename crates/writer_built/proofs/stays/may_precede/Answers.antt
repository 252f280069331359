use Rattle.std.proofs.Common.{◌∙◌, ap, sym}
use Rattle.std.specs.Prelude.{◌&&◌}
use Rattle.laws_binding.specs.Written.{is_over}
use Rattle.reader_table.specs.Kinds.{kind_of}
use Rattle.writer_built.specs.Facts.{facts_of}
use Rattle.writer_built.proofs.stays.may_precede.Goals as goal

pub returns-then-may_chain : goal.returns-then-may_chain
returns-then-may_chain c ts us head =
    c.is_over.ensures ts us head
    ∙ ap (λ b. b && is_over (kind_of c.args.kind) us (facts_of ts c.args.facts))
    (sym c.if-may_chain.true ∙ c.may_chain.ensures)
