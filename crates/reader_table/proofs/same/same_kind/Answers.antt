use Rattle.std.proofs.Common.{ap, eq-eqb, eqb-true, sym, ◌∙◌}
use Rattle.reader_table.specs.Kinds.{kind_of}
use Rattle.reader_table.specs.Numbers.{kind_number as number}
use Rattle.reader_table.proofs.Numbers.{one_kind}
use Rattle.reader_table.proofs.same.same_kind.Goals as goal

pub returns : goal.returns
returns c = (
  λ e. one_kind (kind_of c.args.a) (kind_of c.args.b)
      (sym c.kind_number.ensures ∙ eqb-true c.kind_number.result c.kind_number-2.result e ∙ c.kind_number-2.ensures),
  λ e. eq-eqb c.kind_number.result c.kind_number-2.result
      (c.kind_number.ensures ∙ ap number e ∙ sym c.kind_number-2.ensures),
)
