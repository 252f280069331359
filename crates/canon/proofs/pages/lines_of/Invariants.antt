use Rattle.std.proofs.Common.{◌≡◌, ◌++◌, drop}
use Rattle.rust_leaf.specs.Leaf.{text_of}
use Rattle.canon.specs.Run.{rows_text}
use Rattle.canon.proofs.pages.lines_of.Given as goal

-- what is said, and what is left to say, is all
abbrev pub invariant-loop-row : goal.invariant-loop-row
invariant-loop-row l = text_of l.page ++ rows_text (drop l.row-index l.rows) ≡ rows_text l.rows
