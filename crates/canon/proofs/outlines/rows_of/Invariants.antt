use Rattle.std.proofs.Common.{◌≡◌, ◌++◌, drop}
use Rattle.proc_macro2.specs.Token.{plain}
use Rattle.syn_buffer.specs.Entries.{spanned_entries}
use Rattle.canon.specs.Outline.{AreThere, lines_for, lines_of, names_of, span_begins}
use Rattle.canon.proofs.outlines.rows_of.Given as goal

-- what is said, and what is left to say, is all; and what is left to say is there
abbrev pub invariant-loop-name : goal.invariant-loop-name
invariant-loop-name l =
    (lines_of l.rows.items
    ++ lines_for (span_begins l.map (spanned_entries l.entries)) (names_of (drop l.name-index l.names))
    ≡ lines_for (span_begins l.map (spanned_entries l.entries)) (names_of l.names))
    × AreThere (plain (spanned_entries l.entries)) (names_of (drop l.name-index l.names))
