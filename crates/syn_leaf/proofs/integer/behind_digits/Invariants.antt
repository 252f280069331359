use Rattle.std.proofs.Common.{◌≡◌, length}
use Rattle.std.specs.Str.{chars, IsUtf8}
use Rattle.std.specs.Str.Iter.{chars_rest}
use Rattle.rust_lex.specs.Chars.{past}
use Rattle.rust_lex.specs.Number.{is_digit_of_or_line}
use Rattle.syn_leaf.proofs.integer.behind_digits.Given as goal

-- what is left is what the walk has not passed
abbrev pub invariant-loop-c : goal.invariant-loop-c
invariant-loop-c l =
    IsUtf8 (chars_rest l.rest)
    × (l.left ≡ chars_rest l.rest)
    × (past (is_digit_of_or_line l.base) (chars (chars_rest l.rest))
    ≡ past (is_digit_of_or_line l.base) (chars l.digits))

abbrev pub decreases-loop-c : goal.decreases-loop-c
decreases-loop-c l = length (chars_rest l.rest)
