-- What the own parts of forms decide of the edges of operands: it is usually listed with the levels.
use Rattle.std.specs.Prelude.{◌≡◌, Bool, true, not}
use Rattle.syn_grammar.specs.Kind.{Kind, Position, ExprCall, ExprField, ExprCast}
use Rattle.syn_grammar.specs.Name.{the_name}
use Rattle.syn_grammar.specs.Part.{has}
use Rattle.syn_grammar.specs.Tree.{Tree, Front, Back, Infix}
use Rattle.syn_grammar.specs.Look.{Look, ◌then◌, no}
use Rattle.syn_grammar.specs.Say.{marks}
use Rattle.syn_grammar.specs.Forms.{inside}
use Rattle.syn_grammar.specs.Parens.{begins_in, stands_in}
use Rattle.laws_edges.specs.Classes.{is_postfix}

-- the form that ends where an expression ends, if no operand stands behind it
abbrev pub last_form : Tree → Tree
last_form (Front k y x) = last_form x
last_form (Infix l k y r) = last_form r
last_form x = x

-- Behind a cast no postfix form stands; and behind a field with a name no call, as that would be a method's.
abbrev pub may_be_last : Kind → Tree → Bool
may_be_last k (Back l ExprCast y) = not (is_postfix k)
may_be_last ExprCall (Back l ExprField y) = not (has the_name y)
may_be_last k x = true

-- So it is of all operands of an expression. Besides, a let begins no statement's expression, and no struct stands in a
-- condition, where its braces would be the body's.
abbrev pub PartsStand : Position → Tree → Type 0
PartsStand p (Front k y x) = (begins_in p k ≡ true) × PartsStand (inside p k) x
PartsStand p (Back l k y) = (stands_in p k ≡ true) × (may_be_last k (last_form l) ≡ true) × PartsStand p l
PartsStand p (Infix l k y r) = (may_be_last k (last_form l) ≡ true) × PartsStand p l × PartsStand (inside p k) r
PartsStand p x = Unit {0}

-- A < that begins no <=. A cast's type that ends in a name takes it, as what begins its arguments.
abbrev pub lesser : Look
lesser = no (marks "<=") then marks "<"
