-- Formed expressions: those whose forms have the operands that they can have, and whose own parts, in normal form, are
-- read wherever their forms may stand.
use Rattle.std.specs.Prelude.{◌≡◌, Bool, true, false, not, ◌&&◌, ◌||◌, nat_eq, List, ◌++◌, Some}
use Rattle.proc_macro2.specs.Token.{Token}
use Rattle.syn_grammar.specs.Kind.{Kind, Position, ExprAttributed}
use Rattle.syn_grammar.specs.Tree.{Tree, Alone, Front, Back, Infix, flat}
use Rattle.syn_grammar.specs.Look.{sees}
use Rattle.syn_grammar.specs.Table.{table}
use Rattle.syn_grammar.specs.Derives.{Derives}
use Rattle.syn_grammar.specs.Kept.{kept}
use Rattle.syn_grammar.specs.Normal.{normal}
use Rattle.syn_grammar.specs.Forms.{front, back, level, is_path_form}
use Rattle.syn_grammar.specs.Parens.{may_lack, is_struct, begins_in, stands_in}
use Rattle.laws_reread_expressions.specs.Behind.{no_operand, is_attributed, BeforeOperand, AtEnd, BehindOperand}

-- An own part in front, behind which M may stand: its form is the one that begins there, and it is read there; its
-- tokens are those of what is held of it; and an operand can begin with it.
pub record IsFront (M : List Token → Type 0) (k : Kind) (y : Tree) : Type 0 where
  pub begins : (p : Position) (ts : List Token) → begins_in p k ≡ true → M ts → front p (flat y ++ ts) ≡ Some k
  pub read : (ts : List Token) → M ts → Derives y (table k) ts
  pub held : flat (normal (kept y)) ≡ flat y
  pub single : (ts : List Token) → M ts → sees no_operand (flat y ++ ts) ≡ false

-- one behind an operand
pub record IsBehind (M : List Token → Type 0) (k : Kind) (y : Tree) : Type 0 where
  pub goes_on : (p : Position) (ts : List Token) → stands_in p k ≡ true → M ts → back p (flat y ++ ts) ≡ Some k
  pub read : (ts : List Token) → M ts → Derives y (table k) ts
  pub held : flat (normal (kept y)) ≡ flat y

-- Forms that need no operand behind them, and forms that can have one.
abbrev pub ends_by_itself : Kind → Bool
ends_by_itself k = nat_eq (level k) 14 || nat_eq (level k) 16

abbrev pub may_lack_operand : Kind → Bool
may_lack_operand k = may_lack k || ends_by_itself k

abbrev pub may_have_operand : Kind → Bool
may_have_operand k = may_lack k || not (ends_by_itself k)

abbrev pub is_attributed_form : Tree → Bool
is_attributed_form (Front ExprAttributed y x) = true
is_attributed_form x = false

-- Before the braces of a struct stands a path, and attributes stand together.
abbrev pub Formed : Tree → Type 0
Formed (Alone k y) = IsFront AtEnd k (normal y) × (may_lack_operand k ≡ true)
Formed (Front k y x) =
    IsFront (BeforeOperand k (normal y)) k (normal y) × (may_have_operand k ≡ true)
    × (is_attributed k && is_attributed_form x ≡ false) × Formed x
Formed (Back l k y) =
    IsBehind (BehindOperand k (normal y)) k (normal y) × (may_lack_operand k ≡ true)
    × (is_struct k ≡ true → is_path_form l ≡ true) × Formed l
Formed (Infix l k y r) =
    IsBehind (BeforeOperand k (normal y)) k (normal y) × (may_have_operand k ≡ true) × (is_struct k ≡ false)
    × Formed l × Formed r
Formed x = ⊥
