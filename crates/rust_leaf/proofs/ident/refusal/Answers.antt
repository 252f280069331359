use Rattle.std.proofs.Common.{rules}
use Rattle.rust_leaf.proofs.Texts.{chars_is_empty}
use Rattle.rust_leaf.proofs.ident.refusal.Goals as goal

pub returns-then-is_empty : goal.returns-then-is_empty
returns-then-is_empty c = let e = chars_is_empty c.args.text.now c.utf8.text in search rules

pub returns-then-is_number : goal.returns-then-is_number
returns-then-is_number c = let e = chars_is_empty c.args.text.now c.utf8.text in search rules

pub returns-then-is_identifier : goal.returns-then-is_identifier
returns-then-is_identifier c = let e = chars_is_empty c.args.text.now c.utf8.text in search rules

pub returns-else-is_identifier : goal.returns-else-is_identifier
returns-else-is_identifier c = let e = chars_is_empty c.args.text.now c.utf8.text in search rules
