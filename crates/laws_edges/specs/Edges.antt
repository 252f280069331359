-- The edges of an expression: what begins where it begins, and what ends where it ends.
use Rattle.std.specs.Prelude.{List, [], ◌∷◌}
use Rattle.syn_grammar.specs.Kind.{Kind, Position}
use Rattle.syn_grammar.specs.Tree.{Tree, Front, Back, Infix}
use Rattle.syn_grammar.specs.Forms.{inside}

-- Its left edge: the forms that begin with an operand, and begin where it begins, the outermost first. On the left edge
-- of a.b + c are the sum and the field.
abbrev pub left_edge : Tree → List Kind
left_edge (Back l k y) = k ∷ left_edge l
left_edge (Infix l k y r) = k ∷ left_edge l
left_edge x = []

-- an operand behind a form of a kind, in a position
pub data Ending : Type 0 where
  ending : (form : Kind) (position : Position) (operand : Tree) → Ending

-- Its right edge: the operands that stand behind a form, and end where it ends, the outermost first. On the right edge
-- of a + -b are -b behind the sum, and b behind the minus.
abbrev pub right_edge : Position → Tree → List Ending
right_edge p (Front k y x) = ending k (inside p k) x ∷ right_edge (inside p k) x
right_edge p (Infix l k y r) = ending k (inside p k) r ∷ right_edge (inside p k) r
right_edge p x = []
