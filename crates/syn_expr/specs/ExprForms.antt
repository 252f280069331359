-- Forms of expressions by the operands that they have, and alternatives of a choice.
use Rattle.std.specs.Prelude.{◌≡◌, ℕ, Option, Some, None}
use Rattle.reader_tree.specs.Forms.{seconds}
use Rattle.syn_grammar.specs.Kind.{Kind}
use Rattle.syn_grammar.specs.Table.{table}
use Rattle.syn_grammar.specs.Tree.{Tree, First, Alone, Front, Back, Infix}
use Rattle.syn_part.specs.Shape.{IsShaped}
use denote.Bor.{Bor}

-- a form of the kind that stands by itself: its own part has the shape of the kind's entry
abbrev pub IsAlone : Tree → Kind → Type 0
IsAlone (Alone j y) k = (j ≡ k) × IsShaped y (table k)
IsAlone _ k = ⊥

-- one that has an operand behind it, of which nothing is asked
abbrev pub IsFront : Tree → Kind → Type 0
IsFront (Front j y r) k = (j ≡ k) × IsShaped y (table k)
IsFront _ k = ⊥

-- one that has an operand before it, of which nothing is asked
abbrev pub IsBack : Tree → Kind → Type 0
IsBack (Back l j y) k = (j ≡ k) × IsShaped y (table k)
IsBack _ k = ⊥

-- one that has an operand on either side, of which nothing is asked
abbrev pub IsInfix : Tree → Kind → Type 0
IsInfix (Infix l j y r) k = (j ≡ k) × IsShaped y (table k)
IsInfix _ k = ⊥

-- one that may have an operand behind it, and has none before it: a jump, of which the operand may be missing
abbrev pub IsJump : Tree → Kind → Type 0
IsJump (Alone j y) k = (j ≡ k) × IsShaped y (table k)
IsJump (Front j y r) k = (j ≡ k) × IsShaped y (table k)
IsJump _ k = ⊥

-- one that may have an operand on either side: a range, of which both may be missing
abbrev pub IsForm : Tree → Kind → Type 0
IsForm (Alone j y) k = (j ≡ k) × IsShaped y (table k)
IsForm (Front j y r) k = (j ≡ k) × IsShaped y (table k)
IsForm (Back l j y) k = (j ≡ k) × IsShaped y (table k)
IsForm (Infix l j y r) k = (j ≡ k) × IsShaped y (table k)
IsForm _ k = ⊥

-- a form of the kind, with its own part and the operand that it may have behind it
abbrev pub jump_tree : Kind → Tree → Option (Bor Tree) → Tree
jump_tree k y None = Alone k y
jump_tree k y (Some r) = Front k y r.now

-- the same where it may have one before it too
abbrev pub form_tree : Option (Bor Tree) → Kind → Tree → Option (Bor Tree) → Tree
form_tree None k y r = jump_tree k y r
form_tree (Some l) k y None = Back l.now k y
form_tree (Some l) k y (Some r) = Infix l.now k y r.now

-- of several alternatives that one, counted from 0
abbrev pub nth_tree : ℕ → Tree → Tree
nth_tree n x = seconds n (First x)
