-- Each arm gives a row, and the row is evaluated. Written by tools/rows.py.
use Rattle.std.proofs.Common.{sym, ap}
use Rattle.syn_grammar.specs.Forms as f
use Rattle.reader_table.specs.Kinds.{position_of}
use Rattle.reader_table.specs.declared.kind.Position.{Position}
use Rattle.reader_table.proofs.form.backs.Goals as goal

pub returns-in-Plain : goal.returns-in-Plain
returns-in-Plain c = sym (ap (λ (p : Position). f.backs (position_of p)) c.in-Plain.is)

pub returns-in-InCondition : goal.returns-in-InCondition
returns-in-InCondition c = sym (ap (λ (p : Position). f.backs (position_of p)) c.in-InCondition.is)

pub returns-in-InArm : goal.returns-in-InArm
returns-in-InArm c = sym (ap (λ (p : Position). f.backs (position_of p)) c.in-InArm.is)

pub returns-in-InStatement : goal.returns-in-InStatement
returns-in-InStatement c = sym (ap (λ (p : Position). f.backs (position_of p)) c.in-InStatement.is)
