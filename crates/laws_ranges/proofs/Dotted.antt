-- What is kept of a form behind its left operand.
use Rattle.std.proofs.Common.{ℕ, List, [], ◌∷◌}
use Rattle.syn_grammar.specs.Kind.{Kind, ExprField, ExprMethodCall, ExprAwait}
use Rattle.syn_grammar.specs.Name.{the_indices, the_value}
use Rattle.syn_grammar.specs.Words.{behind_dots, texts_of}
use Rattle.syn_grammar.specs.Tree.{Tree, ALiteral, Pair, Second, Called, Back}
use Rattle.syn_grammar.specs.Kept.{index_fields, fields_in_front, last_fields, dotted_own, dotted}

-- it has its left operand before it still, and is of its kind, or a field
module _ (P : Tree → Type 0) (f : (l y : Tree) → P (Back l ExprField y)) where
  fields_are : (texts : List (List ℕ)) (l y : Tree) → P (index_fields (Back l ExprField y) texts)
  fields_are [] l y = f l y
  fields_are (cs ∷ texts) l y = fields_are texts _ _

  last_is : (l : Tree) (k : Kind) (d x : Tree) → ((l y : Tree) → P (Back l k y)) → P (last_fields l k d x)
  last_is l ExprField d (Second (Called the_value (ALiteral cs))) h = fields_are (texts_of (behind_dots cs)) _ _
  last_is l _ d x h = h _ _

  own_is : (l : Tree) (k : Kind) (y : Tree) → ((l y : Tree) → P (Back l k y)) → P (dotted_own l k y)
  own_is l k (Pair (Pair d (Called the_indices x)) y) h = last_is (fields_in_front l x) k d y h
  own_is l k _ h = h _ _

  pub dotted_by : (l : Tree) (k : Kind) (y : Tree) → ((l y : Tree) → P (Back l k y)) → P (dotted l k y)
  dotted_by l ExprField y h = own_is l ExprField y h
  dotted_by l ExprMethodCall y h = own_is l ExprMethodCall y h
  dotted_by l ExprAwait y h = own_is l ExprAwait y h
  dotted_by l _ y h = h _ _

pub dotted_is : (P : Tree → Type 0) → ((l : Tree) (k : Kind) (y : Tree) → P (Back l k y)) → (l : Tree) (k : Kind)
    (y : Tree) → P (dotted l k y)
dotted_is P h l k y = dotted_by P (λ l y. h l ExprField y) l k y (λ l y. h l k y)
