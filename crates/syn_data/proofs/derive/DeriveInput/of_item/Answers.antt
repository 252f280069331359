use Rattle.reader_table.specs.Kinds.{kind_of}
use Rattle.syn_data.proofs.DataItems.{no_parts}
use Rattle.syn_data.proofs.derive.DeriveInput.of_item.Goals as goal

pub returns-in_default-item_parts : goal.returns-in_default-item_parts
returns-in_default-item_parts c =
    no_parts c.args.tree.now c.in-Some.inner.now (kind_of c.in-Some.field-0-0) c.in-Some.ensures
    c.in_default-item_parts.ensures
