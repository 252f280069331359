-- A word that is the text begins as it does, and has as many bytes.
use Rattle.std.proofs.Common.{length, ◌∙◌}
use Rattle.std.proofs.lemmas.Bool.{eq-eqb}
use Rattle.std.specs.Prelude.{slice_index_or}
use Rattle.rust_leaf.specs.Leaf.{ident_text}
use Rattle.reader_tokens.proofs.Lengths.{same_first, same_length}
use Rattle.reader_tokens.proofs.leaf.may_be.Goals as goal

pub returns-then-first_byte-first : goal.returns-then-first_byte-first
returns-then-first_byte-first c h =
    eq-eqb c.len.result (length c.args.text.now)
    (c.len.ensures ∙ same_length (ident_text c.args.ident.now) c.args.text.now c.utf8.text h)

pub returns-else-first_byte-first : goal.returns-else-first_byte-first
returns-else-first_byte-first c h =
    eq-eqb c.first_byte.result (slice_index_or c.as_bytes.result.now 0 0)
    (same_first (ident_text c.args.ident.now) c.args.text.now c.as_bytes.result.now c.first_byte.result c.utf8.text h
    c.as_bytes.ensures.value c.in-len1-up.len_at_least c.first_byte.ensures)
