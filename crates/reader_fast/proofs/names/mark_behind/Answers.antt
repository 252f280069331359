-- Colons.
use Rattle.reader_table.specs.Kinds.{style_of}
use Rattle.reader_fast.proofs.names.mark_behind.Goals as goal

pub returns-then-character-eq58-clause-behind : goal.returns-then-character-eq58-clause-behind
returns-then-character-eq58-clause-behind c =
    c.colon_behind.ensures.behind (style_of c.args.style)
