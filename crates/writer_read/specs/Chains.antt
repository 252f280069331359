-- Operands that stand one left of the other: what is written behind the innermost of them, and in front of it.
use Rattle.std.specs.Prelude.{cond, List, [], ◌∷◌, ◌++◌, Option, Some, None}
use Rattle.proc_macro2.specs.Token.{Token, Closes}
use Rattle.proc_macro2.specs.declared.delimiter.Delimiter.TheVariants.{Parenthesis}
use Rattle.syn_grammar.specs.Kind.{Kind}
use Rattle.syn_grammar.specs.Tree.{Tree, Back, Infix, flat}
use Rattle.reader_tree.specs.Shapes.{single}
use Rattle.laws_ranges.specs.Shelled.{goes_in}
use Rattle.writer_rules.specs.Laid.{behind_laid, given_laid, laid}
use Rattle.writer_rules.specs.Operands.{giving_of}
use Rattle.writer_read.specs.declared.chain.Lefts.{Lefts}
use Rattle.writer_read.specs.declared.chain.Lefts.TheVariants as lefts

-- of a form with an operand before it its kind and that operand
abbrev pub single_left : Tree → Option (Kind × Tree)
single_left (Infix l k y r) = Some (k, l)
single_left (Back l k y) = Some (k, l)
single_left _ = None

abbrev pub left_of : Tree → Option (Kind × Tree)
left_of x = single_left (single x)

-- the same, if that operand is passed: each is, or only those that attributes in front are given to
abbrev pub next_of : Lefts → Tree → Option (Kind × Tree)
next_of lefts.All x = left_of x
next_of (lefts.Given a) x = giving_of x

-- the tokens of an operand, with those of the attributes, if there are any, before its leftmost one
abbrev pub passed_laid : Lefts → Tree → List Token
passed_laid lefts.All x = laid x
passed_laid (lefts.Given a) x = given_laid (laid a.now) (laid x) x

-- the tokens behind a left operand: the parenthesis that closes, and the rest of the form
abbrev pub behind_left : Tree → List Token
behind_left (Infix l k y r) = cond (goes_in k l) (Closes Parenthesis ∷ []) [] ++ (laid y ++ laid r)
behind_left (Back l k y) = cond (goes_in k l) (Closes Parenthesis ∷ []) [] ++ behind_laid k y
behind_left _ = []

-- those behind the innermost of forms, each of which is the left operand of the one before it
abbrev pub behind_lefts : List Tree → List Token
behind_lefts [] = []
behind_lefts (x ∷ xs) = behind_lefts xs ++ behind_left x

-- the same as they were read
abbrev pub behind_read : Tree → List Token
behind_read (Infix l k y r) = flat y ++ flat r
behind_read (Back l k y) = flat y
behind_read _ = []

abbrev pub behind_lefts_read : List Tree → List Token
behind_lefts_read [] = []
behind_lefts_read (x ∷ xs) = behind_lefts_read xs ++ behind_read x
