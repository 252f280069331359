-- The conditions of levels on the operands of an expression: those that no own part and no tokens around it decide.
use Rattle.std.specs.Prelude.{◌≡◌, true, false, List, Some}
use Rattle.proc_macro2.specs.Token.{Token}
use Rattle.syn_grammar.specs.Kind.{Kind, Position}
use Rattle.syn_grammar.specs.Tree.{Tree, Front, Back, Infix}
use Rattle.syn_grammar.specs.Forms.{back, level, inside, within, goes_on}
use Rattle.syn_grammar.specs.Parens.{is_struct}
use Rattle.syn_grammar.specs.Derives.{IsLeft}

-- No operand on the right edge goes on with what follows.
abbrev pub NoneGoesOn : Position → Tree → List Token → Type 0
NoneGoesOn p (Front k y x) ts = (goes_on (inside p k) (level k) x ts ≡ false) × NoneGoesOn (inside p k) x ts
NoneGoesOn p (Infix l k y r) ts = (goes_on (inside p k) (level k) r ts ≡ false) × NoneGoesOn (inside p k) r ts
NoneGoesOn p x ts = Unit {0}

-- What stands left of a form may stand there, and none of its operands goes on with the form. (Before the braces of a
-- struct a path stands; in trees that were built by hand it may be another form, which no parentheses mend.)
abbrev pub LeftMeets : Position → Tree → Kind → Type 0
LeftMeets p l k =
    is_struct k ≡ false → IsLeft p l k × ((ts : List Token) → back p ts ≡ Some k → NoneGoesOn p l ts)

-- What stands right of a form is of the levels that the form takes, on its left edge too.
abbrev pub Meets : Position → Tree → Type 0
Meets p (Front k y x) = (within (level k) x ≡ true) × Meets (inside p k) x
Meets p (Back l k y) = LeftMeets p l k × Meets p l
Meets p (Infix l k y r) = LeftMeets p l k × Meets p l × (within (level k) r ≡ true) × Meets (inside p k) r
Meets p x = Unit {0}
