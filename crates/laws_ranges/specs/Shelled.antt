-- Which operands of an expression that was read are put in parentheses: a range behind attributes, and what stands left
-- of a form that would go on with such a range by that.
use Rattle.std.specs.Prelude.{Bool, false, ◌&&◌, ◌||◌, cond, nat_eq, List, [], ◌∷◌, ◌++◌}
use Rattle.proc_macro2.specs.Token.{Token, Opens, Closes}
use Rattle.proc_macro2.specs.declared.delimiter.Delimiter.TheVariants.{Parenthesis}
use Rattle.syn_grammar.specs.Kind.{Kind, ExprAttributed}
use Rattle.syn_grammar.specs.Tree.{Tree, Alone, Front, Back, Infix}
use Rattle.syn_grammar.specs.Forms.{kind_of, level, takes}
use Rattle.syn_grammar.specs.Parens.{in_parens, is_attributed_range}
use Rattle.syn_grammar.specs.Normal.{normal}

-- a range, in front of which no attributes stand
abbrev pub is_lone_range : Tree → Bool
is_lone_range x = nat_eq (level (kind_of x)) 3

-- The operand behind a form of the kind is put in parentheses: a range behind attributes.
abbrev pub is_shelled : Kind → Tree → Bool
is_shelled ExprAttributed x = is_lone_range x
is_shelled k x = false

-- attributes with a range behind them
abbrev pub has_shell : Tree → Bool
has_shell (Front k y x) = is_attributed_range k x
has_shell x = false

-- A form of a kind, that stands behind, would go on with what is put in parentheses on the right edge: a postfix form
-- with the parentheses, any other form with the attributes and the parentheses, where the form in front takes it.
abbrev pub goes_in : Kind → Tree → Bool
goes_in k (Front j y x) =
    cond (is_shelled j x) (takes (level j) (level k)) ((takes (level j) (level k) && has_shell x) || goes_in k x)
goes_in k (Infix l j y r) = (takes (level j) (level k) && has_shell r) || goes_in k r
goes_in k x = false

abbrev pub parens_if : Bool → Tree → Tree
parens_if b x = cond b (in_parens x) x

-- the tokens of a tree, in parentheses or not
abbrev pub enclosed_if : Bool → List Token → List Token
enclosed_if b ts = cond b (Opens Parenthesis ∷ ts ++ Closes Parenthesis ∷ []) ts

-- Normal form of the own parts, a range behind attributes in parentheses, and a left operand where the form behind it
-- would go in.
abbrev pub shelled : Tree → Tree
shelled (Alone k y) = Alone k (normal y)
shelled (Front k y x) = Front k (normal y) (parens_if (is_shelled k x) (shelled x))
shelled (Back l k y) = Back (parens_if (goes_in k l) (shelled l)) k (normal y)
shelled (Infix l k y r) = Infix (parens_if (goes_in k l) (shelled l)) k (normal y) (shelled r)
shelled x = x
