-- What may stand behind an own part of an expression, and behind a whole expression.
use Rattle.std.specs.Prelude.{◌≡◌, Bool, true, false, not, ◌&&◌, ◌||◌, List, None}
use Rattle.proc_macro2.specs.Token.{Token}
use Rattle.syn_grammar.specs.Kind.{Kind, Position, Plain, InCondition, ExprAttributed, ExprCast, ExprField}
use Rattle.syn_grammar.specs.Name.{the_name}
use Rattle.syn_grammar.specs.Tree.{Tree, flat}
use Rattle.syn_grammar.specs.Part.{has}
use Rattle.syn_grammar.specs.Look.{Look, sees, ◌then◌, ◌or◌, no, a_lifetime}
use Rattle.syn_grammar.specs.Say.{at, marks, brace, parenthesis}
use Rattle.syn_grammar.specs.Expressions.{postfix_stands}
use Rattle.syn_grammar.specs.Forms.{back, operand_stands, range_ends}
use Rattle.syn_grammar.specs.Parens.{is_label, ends_in_name}

-- No operand begins so: an arrow would make another closure, and `mut` or `raw const` another reference.
abbrev pub no_operand : Look
no_operand = marks "->" or at "mut" or (at "raw" then (at "const" or at "mut"))

-- Nothing of this stands behind an operand: its last own part would take it, or be another one.
abbrev pub no_end : Look
no_end =
    marks ":" or (no (marks "!=") then marks "!") or marks "->" or a_lifetime or at "else" or at "const" or at "mut"

abbrev pub is_attributed : Kind → Bool
is_attributed ExprAttributed = true
is_attributed k = false

-- Behind an own part that has an operand behind it: an operand, which isn't taken for a label or for more attributes.
abbrev pub BeforeOperand : Kind → Tree → List Token → Type 0
BeforeOperand k y ts =
    (sees no_operand ts ≡ false) × (is_label k y ts ≡ false) × (is_attributed k && sees (marks "#") ts ≡ false)

-- Behind one that has none, at the end of an operand.
abbrev pub AtEnd : List Token → Type 0
AtEnd ts = sees no_end ts ≡ false

-- A cast is followed by no postfix form, and its type takes the arguments that it can; a field with a name is
-- followed by no call.
abbrev pub ends_own : Kind → Tree → List Token → Bool
ends_own ExprCast y ts =
    not (sees postfix_stands ts || (ends_in_name (flat y) && sees (no (marks "<=") then marks "<") ts))
ends_own ExprField y ts = not (has the_name y && sees parenthesis ts)
ends_own k y ts = true

abbrev pub BehindOperand : Kind → Tree → List Token → Type 0
BehindOperand k y ts = AtEnd ts × (ends_own k y ts ≡ true)

-- Behind a whole expression: behind a condition a brace, and else nothing that begins an operand or goes on with one.
abbrev pub MayFollow : Position → List Token → Type 0
MayFollow InCondition ts = sees brace ts ≡ true
MayFollow p ts = (sees operand_stands ts ≡ false) × (sees range_ends ts ≡ true) × (back Plain ts ≡ None) × AtEnd ts
