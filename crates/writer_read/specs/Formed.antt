-- A tree that was read, in its position: its expressions gain, in normal form, the parentheses of their ranges behind
-- attributes and what those force, and no others; and among statements a raw item's last mark is set apart before a
-- parenthesis that was added.
use Rattle.std.specs.Prelude.{◌≡◌, false, []}
use Rattle.syn_grammar.specs.Kind.{Kind, Position, Plain, InStatement, Expression, AStatement, Where, OuterAttributes}
use Rattle.syn_grammar.specs.Kind.{ExprCast}
use Rattle.syn_grammar.specs.Name.{the_attributes, the_expression}
use Rattle.syn_grammar.specs.Tree.{Tree, Nil, Pair, First, Second, Again, Final, More, Group, Called, Hidden, Node}
use Rattle.syn_grammar.specs.Tree.{Whole, Alone, Front, Back, Infix, flat}
use Rattle.syn_grammar.specs.Forms.{is_range}
use Rattle.syn_grammar.specs.Kept.{attributed, kept}
use Rattle.syn_grammar.specs.Normal.{place_of, passed, stands_behind, apart_if, is_enclosed, normal_in, formed}
use Rattle.laws_ranges.specs.Shelled.{shelled}
use Rattle.writer_rules.specs.Turns.{apart_where, is_raw_turn, is_set_apart}

-- What is given attributes is no range: on the way to the leftmost operand, what stands left of an infix form and of a
-- cast.
abbrev pub GivesOn : Tree → Type 0
GivesOn (Infix l k y r) = (is_range l ≡ false) × GivesOn l
GivesOn (Back l ExprCast y) = (is_range l ≡ false) × GivesOn l
GivesOn x = Unit {0}

-- The attributes in front of a statement's expression, which are given to it, add no other parentheses.
abbrev pub GainsGiven : Tree → Tree → Type 0
GainsGiven (Node OuterAttributes (Again t b)) z =
    let a : Tree = Pair (kept t) (Node OuterAttributes (kept b)) in
    (formed InStatement [] (attributed a (kept z)) ≡ shelled (attributed a (kept z))) × GivesOn z
    × (is_raw_turn t ≡ false)
GainsGiven a z = Unit {0}

abbrev pub HasGiven : Tree → Type 0
HasGiven (Pair (Called the_attributes a) (Pair (Called the_expression (Node (Expression q) (Whole z))) s)) =
    GainsGiven a z
HasGiven x = ⊥

abbrev pub IsFormedStatement : Tree → Type 0
IsFormedStatement (Second (Second (Second (Second x)))) = HasGiven x
IsFormedStatement x = Unit {0}

-- Each expression stands in the position that the name of its part says; forms stand in expressions alone; and what is
-- read where no where clause stands is nothing.
abbrev mutual
  pub IsFormed : Position → Tree → Type 0
  IsFormed p (Pair x y) = IsFormed p x × IsFormed p y
  IsFormed p (First x) = IsFormed p x
  IsFormed p (Second x) = IsFormed p x
  IsFormed p (Again x y) = IsFormed p x × IsFormed p y
      × (flat (apart_if (is_enclosed (kept y) (normal_in p (kept y))) (normal_in p (kept x)))
      ≡ apart_where (is_set_apart x y) (flat (normal_in p (kept x))))
  IsFormed p (Final x) = IsFormed p x
  IsFormed p (More x c spacing y) = IsFormed p x × IsFormed p y
  IsFormed p (Group d x) = IsFormed p x
  IsFormed p (Called n x) = IsFormed (place_of n) x
  IsFormed p (Hidden x) = ⊥
  IsFormed p (Node (Expression q) x) = (q ≡ p) × IsFormedWhole q x
  IsFormed p (Node AStatement x) = IsFormed Plain x × IsFormedStatement x
  IsFormed p (Node Where (Second x)) = x ≡ Nil
  IsFormed p (Node k x) = IsFormed (passed k p) x
  IsFormed p (Whole x) = ⊥
  IsFormed p (Alone k y) = ⊥
  IsFormed p (Front k y x) = ⊥
  IsFormed p (Back l k y) = ⊥
  IsFormed p (Infix l k y r) = ⊥
  IsFormed p x = Unit {0}

  pub IsFormedWhole : Position → Tree → Type 0
  IsFormedWhole p (Whole x) = (formed p (stands_behind p) (kept x) ≡ shelled (kept x)) × HasFormed x
  IsFormedWhole p x = ⊥

  -- the own parts of an expression's forms
  pub HasFormed : Tree → Type 0
  HasFormed (Alone k y) = IsFormed Plain y
  HasFormed (Front k y x) = IsFormed Plain y × HasFormed x
  HasFormed (Back l k y) = HasFormed l × IsFormed Plain y
  HasFormed (Infix l k y r) = HasFormed l × IsFormed Plain y × HasFormed r
  HasFormed x = ⊥

-- the position that a kind has by itself
abbrev pub own_position : Kind → Position
own_position (Expression p) = p
own_position k = Plain
