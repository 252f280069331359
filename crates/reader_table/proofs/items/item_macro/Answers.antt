-- Each arm gives a row, and the row is evaluated. Written by tools/rows.py.
use Rattle.std.proofs.Common.{sym, ap}
use Rattle.syn_grammar.specs.Table.{table}
use Rattle.reader_table.specs.Kinds.{kind_of}
use Rattle.reader_table.specs.declared.kind.Place.{Place}
use Rattle.reader_table.specs.declared.kind.Kind.TheVariants as kinds
use Rattle.reader_table.proofs.items.item_macro.Goals as goal

pub returns-in-InFile : goal.returns-in-InFile
unfolding table
returns-in-InFile c = sym (ap (λ (p : Place). table (kind_of (kinds.ItemMacro p))) c.in-InFile.is)

pub returns-in-InForeign : goal.returns-in-InForeign
unfolding table
returns-in-InForeign c = sym (ap (λ (p : Place). table (kind_of (kinds.ItemMacro p))) c.in-InForeign.is)

pub returns-in-InTrait : goal.returns-in-InTrait
unfolding table
returns-in-InTrait c = sym (ap (λ (p : Place). table (kind_of (kinds.ItemMacro p))) c.in-InTrait.is)

pub returns-in-InImpl : goal.returns-in-InImpl
unfolding table
returns-in-InImpl c = sym (ap (λ (p : Place). table (kind_of (kinds.ItemMacro p))) c.in-InImpl.is)
