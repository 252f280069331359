use Rattle.std.proofs.Common.{◌∙◌, ap, arith}
use Rattle.rust_map.specs.Bytes.{begun}
use Rattle.rust_map.proofs.ByteCounts.{begun_chars}
use Rattle.rust_map.proofs.ByteLemmas.{one_byte}
use Rattle.rust_map.proofs.tables.characters.Goals as goal

pub returns-then-text-eq1 : goal.returns-then-text-eq1
returns-then-text-eq1 c = one_byte c.args.text.now c.utf8.text (omega arith)

pub returns : goal.returns
returns c = c.begun.ensures ∙ ap begun c.as_bytes.ensures.value ∙ begun_chars c.args.text.now c.utf8.text
