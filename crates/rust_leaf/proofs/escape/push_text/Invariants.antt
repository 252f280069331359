use Rattle.std.proofs.Common.{◌≡◌, ◌++◌, ◌-◌, length}
use Rattle.std.specs.Str.{chars}
use Rattle.rust_leaf.specs.Escaped.{escaped_all}
use Rattle.rust_leaf.specs.Leaf.{text_of}
use Rattle.text_chars.specs.Places.{rest_at, IsPlace}
use Rattle.rust_leaf.proofs.escape.push_text.Given as goal

abbrev pub invariant-loop-at : goal.invariant-loop-at
invariant-loop-at l =
    IsPlace l.text l.at
    × (text_of l.out ++ escaped_all 34 (rest_at l.text l.at)
    ≡ text_of l.initial.out ++ escaped_all 34 (chars l.text))

abbrev pub decreases-loop-at : goal.decreases-loop-at
decreases-loop-at l = length l.text - l.at
