-- An expression whose operands stand as they are, and where a range has attributes.
use Rattle.std.specs.Prelude.{◌≡◌, false}
use Rattle.syn_grammar.specs.Tree.{Tree, Alone, Front, Back, Infix}
use Rattle.syn_grammar.specs.Parens.{is_attributed_range}
use Rattle.syn_grammar.specs.Normal.{normal}

-- Normal form of the own parts alone: no operand is put in parentheses.
abbrev pub bare : Tree → Tree
bare (Alone k y) = Alone k (normal y)
bare (Front k y x) = Front k (normal y) (bare x)
bare (Back l k y) = Back (bare l) k (normal y)
bare (Infix l k y r) = Infix (bare l) k (normal y) (bare r)
bare x = x

-- No range among the operands has attributes.
abbrev pub HasPlainRanges : Tree → Type 0
HasPlainRanges (Front k y x) = (is_attributed_range k x ≡ false) × HasPlainRanges x
HasPlainRanges (Back l k y) = HasPlainRanges l
HasPlainRanges (Infix l k y r) = HasPlainRanges l × HasPlainRanges r
HasPlainRanges x = Unit {0}
