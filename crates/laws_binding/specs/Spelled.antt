-- The conditions on the own parts of an expression: those that tokens decide.
use Rattle.std.specs.Prelude.{◌≡◌, true, false, List, ◌++◌, Some}
use Rattle.proc_macro2.specs.Token.{Token}
use Rattle.syn_grammar.specs.Kind.{Position}
use Rattle.syn_grammar.specs.Tree.{Tree, Alone, Front, Back, Infix, flat}
use Rattle.syn_grammar.specs.Table.{table}
use Rattle.syn_grammar.specs.Forms.{front, back, has_right, inside, is_path_form}
use Rattle.syn_grammar.specs.Parens.{is_struct}
use Rattle.syn_grammar.specs.Derives.{Derives}

-- Each form is the one that its tokens call for, its own part is read by its kind's entry, and it has the operands that
-- it takes there; before the braces of a struct stands a path.
abbrev pub Spelled : Position → Tree → List Token → Type 0
Spelled p (Alone k y) rest =
    (front p (flat y ++ rest) ≡ Some k) × Derives y (table k) rest × (has_right p k rest ≡ false)
Spelled p (Front k y x) rest =
    (front p (flat y ++ (flat x ++ rest)) ≡ Some k) × Derives y (table k) (flat x ++ rest)
    × (has_right p k (flat x ++ rest) ≡ true) × Spelled (inside p k) x rest
Spelled p (Back l k y) rest =
    (back p (flat y ++ rest) ≡ Some k) × Derives y (table k) rest × (has_right p k rest ≡ false)
    × (is_struct k ≡ true → is_path_form l ≡ true) × Spelled p l (flat y ++ rest)
Spelled p (Infix l k y r) rest =
    (back p (flat y ++ (flat r ++ rest)) ≡ Some k) × Derives y (table k) (flat r ++ rest)
    × (has_right p k (flat r ++ rest) ≡ true) × (is_struct k ≡ true → is_path_form l ≡ true)
    × Spelled p l (flat y ++ (flat r ++ rest)) × Spelled (inside p k) r rest
Spelled p _ rest = ⊥
