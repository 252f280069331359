use Rattle.std.proofs.Common.{◌≡◌, length}
use Rattle.std.specs.Str.{chars, IsUtf8}
use Rattle.std.specs.Str.Iter.{chars_rest}
use Rattle.syn_leaf.specs.Integers.{number_from}
use Rattle.syn_leaf.proofs.integer.number.Given as goal

-- what the characters that are left make of the number so far is what all of them make
abbrev pub invariant-loop-c : goal.invariant-loop-c
invariant-loop-c l =
    IsUtf8 (chars_rest l.rest)
    × (number_from l.base l.number (chars (chars_rest l.rest)) ≡ number_from l.base 0 (chars l.digits))

abbrev pub decreases-loop-c : goal.decreases-loop-c
decreases-loop-c l = length (chars_rest l.rest)
