-- Each arm gives a row, and the row is evaluated. Written by tools/rows.py.
use Rattle.std.proofs.Common.{sym, ap}
use Rattle.syn_grammar.specs.Table.{table}
use Rattle.reader_table.specs.Kinds.{kind_of}
use Rattle.reader_table.specs.declared.kind.Style.{Style}
use Rattle.reader_table.specs.declared.kind.Kind.TheVariants as kinds
use Rattle.reader_table.proofs.paths.segment.Goals as goal

pub returns-in-InModule : goal.returns-in-InModule
unfolding table
returns-in-InModule c = sym (ap (λ (p : Style). table (kind_of (kinds.Segment p))) c.in-InModule.is)

pub returns-in-InExpression : goal.returns-in-InExpression
unfolding table
returns-in-InExpression c = sym (ap (λ (p : Style). table (kind_of (kinds.Segment p))) c.in-InExpression.is)

pub returns-in-InType : goal.returns-in-InType
unfolding table
returns-in-InType c = sym (ap (λ (p : Style). table (kind_of (kinds.Segment p))) c.in-InType.is)

pub returns-in-AtType : goal.returns-in-AtType
unfolding table
returns-in-AtType c = sym (ap (λ (p : Style). table (kind_of (kinds.Segment p))) c.in-AtType.is)
