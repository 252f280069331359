use Rattle.std.proofs.Common.{◌≡◌, ◌≤◌, length}
use Rattle.std.specs.Str.{chars, IsUtf8}
use Rattle.syn_grammar.specs.Words.{behind_dots}
use Rattle.writer_rules.proofs.fields.from_dot.Given as goal

-- behind the dots of what is left stands what stands behind all dots
abbrev pub invariant-loop-character : goal.invariant-loop-character
invariant-loop-character l =
    IsUtf8 l.rest × (behind_dots (chars l.rest) ≡ behind_dots (chars l.text)) × (length l.rest ≤ length l.text)

abbrev pub decreases-loop-character : goal.decreases-loop-character
decreases-loop-character l = length l.rest
