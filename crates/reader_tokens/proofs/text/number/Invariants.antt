use Rattle.std.proofs.Common.{◌≡◌, ◌≤◌, length}
use Rattle.std.specs.Str.{chars, IsUtf8}
use Rattle.syn_grammar.specs.Words.{before_dot, behind_dots, number_behind}
use Rattle.reader_tokens.proofs.text.number.Given as goal

-- what the characters that are left make of the number so far is what all of them make
abbrev pub invariant-loop-character : goal.invariant-loop-character
invariant-loop-character l =
    IsUtf8 l.rest
    × (number_behind l.base l.number (before_dot (chars l.rest)) ≡ number_behind l.base 0 (before_dot (chars l.digits)))
    × (behind_dots (chars l.rest) ≡ behind_dots (chars l.digits))
    × (length l.rest ≤ length l.digits)

abbrev pub decreases-loop-character : goal.decreases-loop-character
decreases-loop-character l = length l.rest
