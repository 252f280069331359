use Rattle.std.proofs.Common.{◌≡◌, length}
use Rattle.std.specs.Str.{chars, IsUtf8}
use Rattle.reader_tokens.proofs.Dots.{last_behind}
use Rattle.syn_grammar.specs.Words.{last_is_dot}
use Rattle.reader_tokens.proofs.text.ends_in_dot.Given as goal

-- of the characters that are left, behind one that is a dot or not, the last is one as it is of all
abbrev pub invariant-loop-character : goal.invariant-loop-character
invariant-loop-character l = IsUtf8 l.rest × (last_behind l.is_dot (chars l.rest) ≡ last_is_dot (chars l.text))

abbrev pub decreases-loop-character : goal.decreases-loop-character
decreases-loop-character l = length l.rest
