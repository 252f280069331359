-- The shape of an entry: a tree that is of the entry, but for the tests that look at the tokens that follow, and for
-- how tightly operands bind.
use Rattle.std.specs.Prelude.{◌≡◌, true, false}
use Rattle.rust_leaf.specs.Minus.{starts_with_minus}
use Rattle.syn_grammar.specs.Tree.{Tree, AWord, ALiteral, AMark, ALifetime, Raw, Nil, Pair, First, Second, End, Again}
use Rattle.syn_grammar.specs.Tree.{Final, More, Group, Dropped, Called, Verbatim, Node, Whole, Alone, Front, Back}
use Rattle.syn_grammar.specs.Tree.{Infix, flat}
use Rattle.syn_grammar.specs.Gram.{Gram, word, literal, mark, lifetime, raw, nothing, seq, alt, star, many, group}
use Rattle.syn_grammar.specs.Gram.{judged, dropped, called, ref, operand, Keep, AsRaw}
use Rattle.syn_grammar.specs.Forms.{may_be_left}
use Rattle.syn_grammar.specs.Table.{table}
use Rattle.node_shapes.specs.Forms.{stands_alone, stands_before, stands_behind, stands_between, begin_again}
use Rattle.node_shapes.specs.Forms.{begin_again_in, has_type, stands_named}
use Rattle.node_shapes.specs.Streams.{are_trees}

abbrev mutual
  -- The tree has the shape of the entry:
  -- a word or a literal passes, and the literal has no minus of its own; a punctuation is that one, however its last
  -- mark is spaced; a lifetime is any, and raw tokens are those of trees;
  -- the parts of a sequence stand one behind the other, and a statement's attributes are all that stand there;
  -- of a choice it is either, as the tree says; turns and elements are any number of those of the entry, and the
  -- separator is its own;
  -- a group has the entry's delimiter, and a part the entry's name;
  -- what is judged is kept, or its tokens, which are those of trees, are, as it is judged, and what is to be
  -- forgotten is marked so;
  -- a node of a kind has the shape of the kind's entry, an item among statements stands as it is named, and an
  -- expression is made of forms.
  pub IsShaped : Tree → Gram → Type 0
  IsShaped (AWord cs) (word p) = p cs ≡ true
  IsShaped (ALiteral cs) (literal p) = (p cs ≡ true) × (starts_with_minus cs ≡ false)
  IsShaped (AMark c cs spacing) (mark d ds) = (c ≡ d) × (cs ≡ ds)
  IsShaped (ALifetime cs) lifetime = Unit {0}
  IsShaped (Raw ts) raw = are_trees ts ≡ true
  IsShaped Nil nothing = Unit {0}
  IsShaped (Pair x y) (seq a b) = IsShaped x a × IsShaped y b × (begin_again_in x y ≡ false)
  IsShaped (First x) (alt t a b) = IsShaped x a
  IsShaped (Second x) (alt t a b) = IsShaped x b
  IsShaped End (star t g) = Unit {0}
  IsShaped (Again x y) (star t g) = IsShaped x g × IsShaped y (star t g)
  IsShaped End (many e c g) = Unit {0}
  IsShaped (Final x) (many e c g) = IsShaped x g
  IsShaped (More x d spacing y) (many e c g) = (d ≡ c) × IsShaped x g × IsShaped y (many e c g)
  IsShaped (Group d x) (group e g) = (d ≡ e) × IsShaped x g
  IsShaped (First x) (judged v g) = (v x ≡ Keep) × IsShaped x g
  IsShaped (Verbatim x) (judged v g) = (v x ≡ AsRaw) × IsShaped x g × (are_trees (flat x) ≡ true)
  IsShaped (Dropped x) (dropped g) = IsShaped x g
  IsShaped (Called n x) (called m g) = (n ≡ m) × IsShaped x g
  IsShaped (Node k x) (ref l) = (k ≡ l) × IsShaped x (table k) × (stands_named k x ≡ true)
  IsShaped (Whole x) (operand p n) = AreForms x
  IsShaped _ _ = ⊥

  -- Each form is of a kind that has the operands that stand there, and its own part has the shape of the kind's
  -- entry; a closure with a type has one; what has attributes has all of them at once; and what stands left of a form
  -- is one that may be left of it.
  pub AreForms : Tree → Type 0
  AreForms (Alone k y) = (stands_alone k ≡ true) × IsShaped y (table k) × (has_type k y ≡ true)
  AreForms (Front k y x) =
      (stands_before k ≡ true) × IsShaped y (table k) × (begin_again k x ≡ false) × AreForms x
  AreForms (Back l k y) =
      (stands_behind k ≡ true) × (may_be_left k l ≡ true) × AreForms l × IsShaped y (table k)
  AreForms (Infix l k y r) =
      (stands_between k ≡ true) × (may_be_left k l ≡ true) × AreForms l × IsShaped y (table k) × AreForms r
  AreForms _ = ⊥
