-- The tokens of the normal form of a tree that was read, in terms of what was read.
use Rattle.std.specs.Prelude.{Bool, true, false, cond, codes, nat_eq, List, [], ◌∷◌, ◌++◌}
use Rattle.proc_macro2.specs.Token.{Token, Opens, Closes, Ident, Literal, Punct}
use Rattle.rust_leaf.specs.declared.punct.Spacing.TheVariants.{Alone as Apart, Joint}
use Rattle.syn_grammar.specs.Kind.{Kind, Parameter, Member, Index, Where, Generics, BoundsColon, LifetimeColon}
use Rattle.syn_grammar.specs.Kind.{GenericParams, Arguments, AnArgument, AnImpl, ImplGenerics}
use Rattle.syn_grammar.specs.Kind.{AStatement, Expression, OuterAttributes, ExprField, ExprMethodCall, ExprAwait}
use Rattle.syn_grammar.specs.Kind.{ExprCast}
use Rattle.syn_grammar.specs.Name.{the_unnamed, the_arguments, the_generics, the_lifetime, the_indices, the_value}
use Rattle.syn_grammar.specs.Name.{the_attributes, the_expression}
use Rattle.syn_grammar.specs.Words.{indices, plain_decimal}
use Rattle.syn_grammar.specs.Tree.{Tree, AWord, ALiteral, AMark, ALifetime, Raw, Nil, Pair, First, Second, End, Again}
use Rattle.syn_grammar.specs.Tree.{Final, More, Group, Dropped, Called, Verbatim, Hidden, Node, Whole, Alone, Front}
use Rattle.syn_grammar.specs.Tree.{Back, Infix, flat, marks}
use Rattle.syn_grammar.specs.Part.{has}
use Rattle.syn_grammar.specs.Forms.{level}
use Rattle.syn_grammar.specs.Tidy.{is_bare_where, is_bare_generics, is_bare_colon, is_lifetime_param, keeps_generics}
use Rattle.writer_rules.specs.declared.within.Within.{Within}
use Rattle.writer_rules.specs.declared.within.Within.TheVariants.{Anywhere, InArguments, InImpl}
use Rattle.laws_ranges.specs.Shelled.{is_lone_range, is_shelled, goes_in, enclosed_if}
use Rattle.writer_rules.specs.Firsts.{has_other}
use Rattle.writer_rules.specs.Said.{fields, front_fields}
use Rattle.writer_rules.specs.Turns.{apart_where, is_set_apart}

-- An argument that is a lifetime: no constant is one, whatever stands in it.
abbrev pub is_lifetime_read : Tree → Bool
is_lifetime_read (Node AnArgument (Second (First (First x)))) = false
is_lifetime_read (Node AnArgument (Second (First (Second x)))) = false
is_lifetime_read (Node AnArgument x) = has the_lifetime x
is_lifetime_read x = false

-- The parts of an impl go without their generics where they are bare, unless its type would then begin with parameters.
abbrev pub within_impl : Bool → Within
within_impl keeps = cond keeps Anywhere InImpl

-- attributes in front of a statement's expression, and not none
abbrev pub has_attributes : Tree → Bool
has_attributes (Node OuterAttributes (Again t b)) = true
has_attributes x = false

abbrev mutual
  -- within the parts of a kind
  pub laid_in : Within → Tree → List Token
  laid_in w (AWord cs) = Ident cs ∷ []
  laid_in w (ALiteral cs) = Literal cs ∷ []
  laid_in w (AMark c cs spacing) = marks c cs Apart
  laid_in w (ALifetime cs) = Punct 39 Joint ∷ Ident cs ∷ []
  laid_in w (Raw ts) = ts
  laid_in w Nil = []
  laid_in w (Pair x y) = laid_in w x ++ laid_in w y
  laid_in w (First x) = laid_in w x
  laid_in w (Second x) = laid_in w x
  laid_in w End = []
  -- a raw item's last mark is set apart before a parenthesis that is added
  laid_in w (Again x y) = apart_where (is_set_apart x y) (laid_in Anywhere x) ++ laid_in Anywhere y
  laid_in w (Final x) = laid_in Anywhere x
  laid_in w (More x c spacing y) = laid_in Anywhere x ++ Punct c Apart ∷ laid_in Anywhere y
  laid_in w (Group d x) = Opens d ∷ laid_in w x ++ Closes d ∷ []
  laid_in w (Dropped x) = []
  laid_in InArguments (Called the_arguments x) =
      those_laid is_lifetime_read (has_other is_lifetime_read x) x
      ++ others_laid is_lifetime_read (laid_in Anywhere x) x
  laid_in InImpl (Called the_generics (Node ImplGenerics x)) = cond (is_bare_generics x) [] (laid_in Anywhere x)
  laid_in w (Called n x) = laid_in Anywhere x
  laid_in w (Verbatim x) = flat x
  laid_in w (Hidden x) = []
  -- a parameter that is a type alone gets the pattern _ and a colon
  laid_in w (Node Parameter (Pair a (Second (Second (First (Called the_unnamed t)))))) =
      laid_in Anywhere a ++ (Ident (codes "_") ∷ Punct 58 Apart ∷ laid_in Anywhere t)
  -- numbers of fields are written in plain decimal
  laid_in w (Node Member (Second (ALiteral cs))) = Literal (plain_decimal cs) ∷ []
  laid_in w (Node Index (ALiteral cs)) = Literal (plain_decimal cs) ∷ []
  -- nothing empty is written
  laid_in w (Node Where x) = cond (is_bare_where x) [] (laid_in Anywhere x)
  laid_in w (Node Generics x) = cond (is_bare_generics x) [] (laid_in Anywhere x)
  laid_in w (Node BoundsColon x) = cond (is_bare_colon x) [] (laid_in Anywhere x)
  laid_in w (Node LifetimeColon x) = cond (is_bare_colon x) [] (laid_in Anywhere x)
  -- lifetimes come first
  laid_in w (Node GenericParams x) =
      those_laid is_lifetime_param (has_other is_lifetime_param x) x
      ++ others_laid is_lifetime_param (laid_in Anywhere x) x
  laid_in w (Node Arguments x) = laid_in InArguments x
  laid_in w (Node AnImpl x) = laid_in (within_impl (keeps_generics x)) x
  -- attributes in front of a statement's expression are given to it
  laid_in w (Node AStatement (Second (Second (Second (Second x))))) = statement_laid (laid_in Anywhere x) x
  laid_in w (Node k x) = laid_in Anywhere x
  laid_in w (Whole x) = laid_in Anywhere x
  laid_in w (Alone k y) = laid_in Anywhere y
  -- a range behind attributes is put in parentheses, and a left operand where the form behind it would go in
  laid_in w (Front k y x) = laid_in Anywhere y ++ enclosed_if (is_shelled k x) (laid_in Anywhere x)
  laid_in w (Back l k y) = enclosed_if (goes_in k l) (laid_in Anywhere l) ++ own_laid k (laid_in Anywhere y) y
  laid_in w (Infix l k y r) =
      enclosed_if (goes_in k l) (laid_in Anywhere l) ++ (laid_in Anywhere y ++ laid_in Anywhere r)

  -- a statement's expression with what stands before and behind it; what is none stands as it is
  pub statement_laid : List Token → Tree → List Token
  statement_laid as_it_is
      (Pair (Called the_attributes a) (Pair (Called the_expression (Node (Expression q) (Whole z))) s)) =
      cond (has_attributes a) (given_laid (laid_in Anywhere a) (laid_in Anywhere z) z)
      (laid_in Anywhere a ++ laid_in Anywhere z) ++ laid_in Anywhere s
  statement_laid as_it_is x = as_it_is

  -- the tokens of attributes before the leftmost operand, inside its parentheses; a range, as it is by itself, is put
  -- in parentheses behind them
  pub given_laid : List Token → List Token → Tree → List Token
  given_laid ts as_it_is (Infix l k y r) =
      cond (nat_eq (level k) 3) (ts ++ enclosed_if true as_it_is)
      (enclosed_if (goes_in k l) (given_laid ts (laid_in Anywhere l) l) ++ (laid_in Anywhere y ++ laid_in Anywhere r))
  given_laid ts as_it_is (Back l ExprCast y) =
      enclosed_if (goes_in ExprCast l) (given_laid ts (laid_in Anywhere l) l) ++ laid_in Anywhere y
  given_laid ts as_it_is z = ts ++ enclosed_if (is_lone_range z) as_it_is

  -- the elements that pass, each with the comma that it held; the last one gets one where others follow
  pub those_laid : (Tree → Bool) → Bool → Tree → List Token
  those_laid q others (More x c spacing y) =
      cond (q x) (laid_in Anywhere x ++ Punct c Apart ∷ those_laid q others y) (those_laid q others y)
  those_laid q others (Final x) = cond (q x) (laid_in Anywhere x ++ cond others (Punct 44 Apart ∷ []) []) []
  those_laid q others x = []

  -- the elements that don't; what is no list stands as it is
  pub others_laid : (Tree → Bool) → List Token → Tree → List Token
  others_laid q as_it_is (More x c spacing y) =
      cond (q x) (others_laid q (laid_in Anywhere y) y)
      (laid_in Anywhere x ++ Punct c Apart ∷ others_laid q (laid_in Anywhere y) y)
  others_laid q as_it_is (Final x) = cond (q x) [] (laid_in Anywhere x)
  others_laid q as_it_is x = as_it_is

  -- what stands behind a dot: numbers are split at their dots; what has no dot stands as it is
  pub own_laid : Kind → List Token → Tree → List Token
  own_laid ExprField as_it_is (Pair (Pair d (Called the_indices x)) (Second (Called the_value (ALiteral cs)))) =
      front_fields x ++ fields (indices cs)
  own_laid ExprField as_it_is (Pair (Pair d (Called the_indices x)) y) =
      front_fields x ++ (laid_in Anywhere d ++ laid_in Anywhere y)
  own_laid ExprMethodCall as_it_is (Pair (Pair d (Called the_indices x)) y) =
      front_fields x ++ (laid_in Anywhere d ++ laid_in Anywhere y)
  own_laid ExprAwait as_it_is (Pair (Pair d (Called the_indices x)) y) =
      front_fields x ++ (laid_in Anywhere d ++ laid_in Anywhere y)
  own_laid k as_it_is y = as_it_is

abbrev pub laid : Tree → List Token
laid x = laid_in Anywhere x

-- a list whose lifetimes come first
abbrev pub firsts_laid : (Tree → Bool) → Tree → List Token
firsts_laid q x = those_laid q (has_other q x) x ++ others_laid q (laid x) x

-- the own part of a form behind its left operand
abbrev pub behind_laid : Kind → Tree → List Token
behind_laid k y = own_laid k (laid y) y
