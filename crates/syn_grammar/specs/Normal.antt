-- Normal form of a syntax tree. In it, at every depth outside raw tokens:
--
-- 1. a where clause without predicates is removed, and its placement is then that behind the definition;
-- 2. generics without parameters are removed, but those of an impl whose type would begin with parameters without them;
-- 3. a colon before no bounds is removed in parameters, traits and associated types;
-- 4. lifetimes come first among parameters and arguments;
-- 5. an attributed range is put in parentheses behind its attributes;
-- 6. from the inside out, an operand that would not be read back as it stands is put in parentheses; where it would
--    go on with the form behind it, that is the form's whole left operand;
-- 7. among statements the last mark of a raw item stands alone where the next statement now begins with a
--    parenthesis that was added.
--
-- `Tidy` has the first four, of a kind's parts, and `Parens` the next two.
use Rattle.std.specs.Prelude.{Bool, not, ◌&&◌, cond, List, [], ◌∷◌}
use Rattle.proc_macro2.specs.Token.{Token, Opens, Punct}
use Rattle.proc_macro2.specs.declared.delimiter.Delimiter.TheVariants.{Brace}
use Rattle.rust_leaf.specs.declared.punct.Spacing.TheVariants.{Alone as Apart}
use Rattle.syn_grammar.specs.Kind.{Kind, Position, Plain, InCondition, InArm, InStatement, Expression, AStatement}
use Rattle.syn_grammar.specs.Kind.{AnItem, Visibility}
use Rattle.syn_grammar.specs.Name.{Part, the_condition, the_body, the_expression}
use Rattle.syn_grammar.specs.Alternatives.{a_statement}
use Rattle.syn_grammar.specs.Tree.{Tree, AWord, ALiteral, AMark, ALifetime, Raw, Nil, Pair, First, Second, End, Again}
use Rattle.syn_grammar.specs.Tree.{Final, More, Group, Dropped, Called, Verbatim, Hidden, Node, Whole, Alone, Front}
use Rattle.syn_grammar.specs.Tree.{Back, Infix, flat}
use Rattle.syn_grammar.specs.Look.{sees}
use Rattle.syn_grammar.specs.Say.{parenthesis}
use Rattle.syn_grammar.specs.Forms.{inside}
use Rattle.syn_grammar.specs.Tidy.{tidy}
use Rattle.syn_grammar.specs.Parens.{follow, alone, front_form, back_form, infix_form}

-- Where the expression of a part stands: the condition of if, while, match and for, the body of an arm, the
-- expression of a statement.
unfoldable pub place_of : Part → Position
place_of the_condition = InCondition
place_of the_body = InArm
place_of the_expression = InStatement
place_of n = Plain

unfoldable pub passed : Kind → Position → Position
passed (Expression q) p = p
passed k p = Plain

-- what stands behind a whole expression: of a condition a brace
unfoldable pub stands_behind : Position → List Token
stands_behind InCondition = Opens Brace ∷ []
stands_behind p = []

-- what was dropped is a visibility; there is none
abbrev pub private : Tree
private = Node Visibility (Second Nil)

-- the last mark stands alone
abbrev pub apart : List Token → List Token
apart [] = []
apart (Punct c spacing ∷ []) = Punct c Apart ∷ []
apart (t ∷ ts) = t ∷ apart ts

-- the last mark of a raw item stands alone; any other tree stays as it is
abbrev pub apart_raw : Tree → Tree
apart_raw (Node AnItem (Raw ts)) = Node AnItem (Raw (apart ts))
apart_raw x = x

-- likewise of a raw item that a statement is, in whichever alternative it stands
abbrev pub apart_alternative : Tree → Tree
apart_alternative (First x) = First (apart_raw x)
apart_alternative (Second x) = Second (apart_alternative x)
apart_alternative x = x

-- likewise of a statement that is a raw item
abbrev pub apart_item : Tree → Tree
apart_item (Second (Node AStatement x)) = a_statement (apart_alternative x)
apart_item x = x

-- a parenthesis stands in front where none stood before
abbrev pub is_enclosed : Tree → Tree → Bool
is_enclosed before after = sees parenthesis (flat after) && not (sees parenthesis (flat before))

-- a statement that is a raw item is set apart so if a parenthesis was added behind it, and else stays as it is
abbrev pub apart_if : Bool → Tree → Tree
apart_if b x = cond b (apart_item x) x

-- a statement, and those behind it, as they were and as they are
abbrev pub again : Tree → Tree → Tree → Tree
again x before after = Again (apart_if (is_enclosed before after) x) after

abbrev mutual
  -- in a position
  pub normal_in : Position → Tree → Tree
  normal_in p (AWord cs) = AWord cs
  normal_in p (ALiteral cs) = ALiteral cs
  normal_in p (AMark c cs spacing) = AMark c cs Apart
  normal_in p (ALifetime cs) = ALifetime cs
  normal_in p (Raw ts) = Raw ts
  normal_in p Nil = Nil
  normal_in p (Pair x y) = Pair (normal_in p x) (normal_in p y)
  normal_in p (First x) = First (normal_in p x)
  normal_in p (Second x) = Second (normal_in p x)
  normal_in p End = End
  normal_in p (Again x y) = again (normal_in p x) y (normal_in p y)
  normal_in p (Final x) = Final (normal_in p x)
  normal_in p (More x c spacing y) = More (normal_in p x) c Apart (normal_in p y)
  normal_in p (Group d x) = Group d (normal_in p x)
  normal_in p (Dropped x) = Dropped private
  normal_in p (Called n x) = Called n (normal_in (place_of n) x)
  normal_in p (Verbatim x) = Verbatim x
  normal_in p (Hidden x) = Hidden x
  normal_in p (Node k x) = Node k (tidy k (normal_in (passed k p) x))
  normal_in p (Whole x) = Whole (formed p (stands_behind p) x)
  normal_in p x = x

  -- a form in a position, before what follows
  pub formed : Position → List Token → Tree → Tree
  formed p ts (Alone k y) = alone p ts k (normal_in Plain y)
  formed p ts (Front k y x) = front_form p k (normal_in Plain y) (formed (inside p k) ts x)
  formed p ts (Back l k y) =
      let own : Tree = normal_in Plain y in
      back_form p ts (formed p (follow (flat own)) l) k own
  formed p ts (Infix l k y r) =
      let own : Tree = normal_in Plain y in
      infix_form p (formed p (follow (flat own)) l) k own (formed (inside p k) ts r)
  formed p ts x = x

-- Normal form of a tree by itself: in plain position.
abbrev pub normal : Tree → Tree
normal x = normal_in Plain x
