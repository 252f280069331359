-- What is written of a tree that was read.
use Rattle.std.specs.Prelude.{ℕ, Bool, true, false, cond, List, [], ◌∷◌, ◌++◌}
use Rattle.proc_macro2.specs.Token.{Token, Opens, Closes, Literal, Punct}
use Rattle.rust_leaf.specs.declared.punct.Spacing.TheVariants.{Alone as Apart}
use Rattle.syn_grammar.specs.Kind.{Kind, Position, Plain, Parameter, AStatement, Member, Index, Where, Generics}
use Rattle.syn_grammar.specs.Kind.{BoundsColon, LifetimeColon, GenericParams, Arguments, ATypeAlias, AnImpl}
use Rattle.syn_grammar.specs.Kind.{ImplGenerics, ExprField, ExprMethodCall, ExprAwait}
use Rattle.syn_grammar.specs.Name.{the_indices, the_value, the_unnamed, the_generics}
use Rattle.syn_grammar.specs.Words.{indices, plain_decimal}
use Rattle.syn_grammar.specs.Tree.{Tree, ALiteral, Pair, First, Second, Again, Group, Called, Node, flat}
use Rattle.syn_grammar.specs.Kept.{kept}
use Rattle.syn_grammar.specs.Tidy.{is_bare_generics}
use Rattle.syn_grammar.specs.Normal.{normal_in}
use Rattle.laws_ranges.specs.Shelled.{shelled}

-- The tokens of the normal form of what is kept, in a position.
unfoldable pub said : Position → Tree → List Token
said p x = flat (normal_in p (kept x))

-- The same of an expression that gains the parentheses of its ranges behind attributes, and what those force.
unfoldable pub said_form : Tree → List Token
said_form x = flat (shelled (kept x))

-- Kinds of which the tokens of their part are written as they are in normal form: no token is added, removed or moved.
abbrev pub is_quiet : Kind → Bool
is_quiet Parameter = false
is_quiet AStatement = false
is_quiet Member = false
is_quiet Index = false
is_quiet Where = false
is_quiet Generics = false
is_quiet BoundsColon = false
is_quiet LifetimeColon = false
is_quiet GenericParams = false
is_quiet Arguments = false
is_quiet (ATypeAlias p) = false
is_quiet AnImpl = false
is_quiet k = true

-- A parameter that is a type alone.
abbrev pub is_unnamed : Tree → Bool
is_unnamed (Pair a (Second (Second (First (Called the_unnamed t))))) = true
is_unnamed _ = false

-- Of an impl whose generics are removed where they are bare.
abbrev pub bare_impl_said : Tree → List Token
bare_impl_said (Called the_generics (Node ImplGenerics g)) = cond (is_bare_generics g) [] (said Plain g)
bare_impl_said (Pair x y) = bare_impl_said x ++ bare_impl_said y
bare_impl_said (First x) = bare_impl_said x
bare_impl_said (Second x) = bare_impl_said x
bare_impl_said (Group d x) = Opens d ∷ bare_impl_said x ++ Closes d ∷ []
bare_impl_said x = said Plain x

-- Numbers behind a dot are fields, each behind a dot of its own.
abbrev pub fields : List (List ℕ) → List Token
fields [] = []
fields (cs ∷ texts) = Punct 46 Apart ∷ Literal (plain_decimal cs) ∷ fields texts

-- those that end in a dot, which stand in front
abbrev pub front_fields : Tree → List Token
front_fields (Again (ALiteral cs) x) = fields (indices cs) ++ front_fields x
front_fields x = []

-- the last one, or what stands behind the last dot
abbrev pub last_said : Kind → Tree → Tree → List Token
last_said ExprField d (Second (Called the_value (ALiteral cs))) = fields (indices cs)
last_said k d x = said Plain d ++ said Plain x

abbrev pub dotted_said : Kind → Tree → List Token
dotted_said k (Pair (Pair d (Called the_indices x)) y) = front_fields x ++ last_said k d y
dotted_said k y = said Plain y

-- Of the own part of a form behind its left operand.
abbrev pub own_said : Kind → Tree → List Token
own_said ExprField y = dotted_said ExprField y
own_said ExprMethodCall y = dotted_said ExprMethodCall y
own_said ExprAwait y = dotted_said ExprAwait y
own_said k y = said Plain y
