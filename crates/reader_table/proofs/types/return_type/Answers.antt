-- Each arm gives a row, and the row is evaluated. Written by tools/rows.py.
use Rattle.std.proofs.Common.{sym, ap}
use Rattle.syn_grammar.specs.Table.{table}
use Rattle.reader_table.specs.Kinds.{kind_of}
use Rattle.reader_table.specs.declared.kind.Plus.{Plus}
use Rattle.reader_table.specs.declared.kind.Kind.TheVariants as kinds
use Rattle.reader_table.proofs.types.return_type.Goals as goal

pub returns-in-WithPlus : goal.returns-in-WithPlus
unfolding table
returns-in-WithPlus c = sym (ap (λ (p : Plus). table (kind_of (kinds.ReturnType p))) c.in-WithPlus.is)

pub returns-in-WithoutPlus : goal.returns-in-WithoutPlus
unfolding table
returns-in-WithoutPlus c = sym (ap (λ (p : Plus). table (kind_of (kinds.ReturnType p))) c.in-WithoutPlus.is)
