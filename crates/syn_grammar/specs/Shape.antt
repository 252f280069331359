-- What decides the parentheses of an operand, as one who writes it in one pass can keep it: each of these is had in a
-- few steps from what it is for the form's own operands.
use Rattle.std.specs.Prelude.{ℕ, suc, Bool, true, false, not, cond, if◌then◌else◌, ◌&&◌, ◌||◌, nat_lt, nat_eq, min}
use Rattle.std.specs.Prelude.{List}
use Rattle.proc_macro2.specs.Token.{Token}
use Rattle.syn_grammar.specs.Kind.{Kind}
use Rattle.syn_grammar.specs.Tree.{Tree, Front, Back, Infix}
use Rattle.syn_grammar.specs.Forms.{level, is_range, takes_postfix}
use Rattle.syn_grammar.specs.Parens.{ends_before}

-- the lowest level that a right operand of an operator of level n takes
abbrev pub lowest : ℕ → ℕ
lowest n = if nat_eq n 2 then 2 else suc n

-- the loosest level on the left edge; 17 for none
abbrev pub least : Tree → ℕ
least (Back l k y) = min (level k) (least l)
least (Infix l k y r) = min (level k) (least l)
least x = 17

-- the level from which on an infix form that follows would be taken by an operand on the right edge; 17 for none
abbrev pub cap : Tree → ℕ
cap (Front k y x) = min (cond (is_range x) 17 (lowest (level k))) (cap x)
cap (Infix l k y r) = min (cond (is_range r) 17 (lowest (level k))) (cap r)
cap x = 17

-- an operand on the right edge would take a postfix form that follows
abbrev pub is_open : Tree → Bool
is_open (Front k y x) = (nat_lt (level k) 16 && takes_postfix x) || is_open x
is_open (Infix l k y r) = (nat_lt (level k) 16 && takes_postfix r) || is_open r
is_open x = false

-- the last form, if its left operand stands before it, may be followed by the form
abbrev pub last_ends : Kind → List Token → Tree → Bool
last_ends k ts (Front j y x) = last_ends k ts x
last_ends k ts (Infix l j y r) = last_ends k ts r
last_ends k ts (Back l j y) = ends_before k ts j y
last_ends k ts x = true

-- it is ended before a form of a kind, which begins with these tokens
abbrev pub ended_by_shape : Kind → List Token → Tree → Bool
ended_by_shape k ts x = cond (nat_eq (level k) 16) (not (is_open x)) (nat_lt (level k) (cap x)) && last_ends k ts x
