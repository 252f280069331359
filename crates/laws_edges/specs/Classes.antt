-- What the forms of expressions are called, where one says how they bind.
use Rattle.std.specs.Prelude.{Bool, true, false, not, ◌&&◌, ◌||◌, cond}
use Rattle.syn_grammar.specs.Kind.{Kind, ExprStruct, ExprCall, ExprMethodCall, ExprField, ExprAwait, ExprIndex, ExprTry}
use Rattle.syn_grammar.specs.Kind.{ExprBreak, ExprReturn, ExprYield, ExprClosure, ExprRange, ExprRangeClosed}
use Rattle.syn_grammar.specs.Kind.{ExprCompare, ExprPath, ExprAttributed}
use Rattle.syn_grammar.specs.Tree.{Tree, Alone, Front, Back, Infix}
use Rattle.syn_grammar.specs.Forms.{kind_of}
use Rattle.syn_grammar.specs.Parens.{is_struct}

-- Postfix forms: calls, fields, .await, indices and ?.
abbrev pub is_postfix : Kind → Bool
is_postfix ExprCall = true
is_postfix ExprMethodCall = true
is_postfix ExprField = true
is_postfix ExprAwait = true
is_postfix ExprIndex = true
is_postfix ExprTry = true
is_postfix k = false

-- Jumps and closures take all behind them that they can.
abbrev pub is_jump : Kind → Bool
is_jump ExprBreak = true
is_jump ExprReturn = true
is_jump ExprYield = true
is_jump ExprClosure = true
is_jump k = false

-- Ranges: .. and ..=.
abbrev pub is_dots : Kind → Bool
is_dots ExprRange = true
is_dots ExprRangeClosed = true
is_dots k = false

-- Comparisons: ==, <, and the others of their level.
abbrev pub is_comparison : Kind → Bool
is_comparison ExprCompare = true
is_comparison k = false

-- Comparisons aren't chained: none stands left of another.
abbrev pub is_chained : Tree → Kind → Bool
is_chained l k = is_comparison k && is_comparison (kind_of l)

-- A range, with or without its start and its end; attributes in front of it change nothing.
abbrev pub is_range : Tree → Bool
is_range (Front ExprAttributed y x) = is_range x
is_range (Alone k y) = is_dots k
is_range (Front k y x) = is_dots k
is_range (Back l k y) = is_dots k
is_range (Infix l k y r) = is_dots k
is_range x = false

-- A path.
abbrev pub is_path : Tree → Bool
is_path (Alone ExprPath y) = true
is_path x = false

-- What a postfix form stands behind: an atom, a postfix form, a jump or a closure. So it is no operator, no cast and no
-- range.
abbrev pub takes_postfixes : Tree → Bool
takes_postfixes (Alone k y) = not (is_dots k)
takes_postfixes (Front k y x) = is_jump k
takes_postfixes (Back l k y) = is_postfix k || is_struct k
takes_postfixes x = false

-- What stands before a form: a path before the braces of a struct; before a postfix form one of those; before an infix
-- form and before a cast anything but a range.
abbrev pub fits_before : Kind → Tree → Bool
fits_before ExprStruct l = is_path l
fits_before k l = cond (is_postfix k) (takes_postfixes l) (not (is_range l))
