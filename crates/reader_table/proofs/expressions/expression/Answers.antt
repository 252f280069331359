-- Each arm gives a row, and the row is evaluated. Written by tools/rows.py.
use Rattle.std.proofs.Common.{sym, ap}
use Rattle.syn_grammar.specs.Table.{table}
use Rattle.reader_table.specs.Kinds.{kind_of}
use Rattle.reader_table.specs.declared.kind.Position.{Position}
use Rattle.reader_table.specs.declared.kind.Kind.TheVariants as kinds
use Rattle.reader_table.proofs.expressions.expression.Goals as goal

pub returns-in-Plain : goal.returns-in-Plain
unfolding table
returns-in-Plain c = sym (ap (λ (p : Position). table (kind_of (kinds.Expression p))) c.in-Plain.is)

pub returns-in-InCondition : goal.returns-in-InCondition
unfolding table
returns-in-InCondition c = sym (ap (λ (p : Position). table (kind_of (kinds.Expression p))) c.in-InCondition.is)

pub returns-in-InArm : goal.returns-in-InArm
unfolding table
returns-in-InArm c = sym (ap (λ (p : Position). table (kind_of (kinds.Expression p))) c.in-InArm.is)

pub returns-in-InStatement : goal.returns-in-InStatement
unfolding table
returns-in-InStatement c = sym (ap (λ (p : Position). table (kind_of (kinds.Expression p))) c.in-InStatement.is)
