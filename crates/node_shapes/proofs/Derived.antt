-- What was read has the shape of its entry, by the clauses of both.
use Rattle.std.specs.Prelude.{◌≡◌, ◌&&◌, Bool, List, [], ◌++◌, ◌∷◌, not, true, false, refl}
use Rattle.std.proofs.Common.{subst, sym, append_assoc}
use Rattle.rust_leaf.specs.Minus.{starts_with_minus}
use Rattle.proc_macro2.specs.Token.{Token, Punct, Closes}
use Rattle.syn_grammar.specs.Kind.{Kind, Position, Expression, ExprAttributed, OuterAttributes, OuterAttribute}
use Rattle.syn_grammar.specs.Name.{the_attributes, the_expression}
use Rattle.syn_grammar.specs.Look.{sees}
use Rattle.syn_grammar.specs.Say.{marks}
use Rattle.syn_grammar.specs.Tree.{Tree, AWord, ALiteral, AMark, ALifetime, Raw, Nil, Pair, First, Second, End, Again}
use Rattle.syn_grammar.specs.Tree.{Final, More, Group, Dropped, Called, Verbatim, Node, Whole, Alone, Front, Back}
use Rattle.syn_grammar.specs.Tree.{Infix, flat}
use Rattle.syn_grammar.specs.Gram.{Gram, word, literal, mark, lifetime, raw, nothing, seq, alt, star, many, group}
use Rattle.syn_grammar.specs.Gram.{judged, dropped, called, ref, operand}
use Rattle.syn_grammar.specs.Read.{IsDerived}
use Rattle.syn_grammar.specs.Table.{table}
use Rattle.syn_grammar.specs.Derives.{Derives, Bound}
use Rattle.node_shapes.specs.Forms.{begin_again, begin_again_in}
use Rattle.node_shapes.specs.Shape.{IsShaped, AreForms}
use Rattle.node_shapes.specs.Streams.{are_trees}
use Rattle.node_shapes.proofs.Named.{named_stands}
use Rattle.node_shapes.proofs.Streams.{split, split_form, behind_mark}
use Rattle.node_shapes.proofs.Typed.{typed_stands}
use Rattle.node_shapes.proofs.Sights.{is_alone, is_before, is_behind, is_between, left_stands, begins_none}
use Rattle.node_shapes.proofs.Sights.{star_ended}

-- behind outer attributes none begins
attributes_end : (a : Tree) (g : Gram) (rest : List Token) → Derives (Node OuterAttributes a) g rest
    → sees (marks "#") rest ≡ false
unfolding table
attributes_end a (ref l) rest d =
    star_ended a (sees (marks "#")) (ref OuterAttribute) rest d.1
attributes_end a _ rest d = absurd d

-- behind those of a form, and of a statement

node_end : (b : Tree) (rest : List Token) → Derives b (ref OuterAttributes) rest → sees (marks "#") rest ≡ false
unfolding table
node_end (Node k x) rest d =
    star_ended x (sees (marks "#")) (ref OuterAttribute) rest (subst (λ j. Derives x (table j) rest) d.0 d.1)
node_end _ rest d = absurd d

own_end : (y : Tree) (rest : List Token) → Derives y (table ExprAttributed) rest → sees (marks "#") rest ≡ false
unfolding table
own_end (Pair a b) rest d = node_end b rest d.1
own_end _ rest d = absurd d

behind_form : (p : Position) (k : Kind) (y x : Tree) (rest : List Token) → Derives y (table k) (flat x ++ rest)
    → Bound p x rest → begin_again k x ≡ false
behind_form p ExprAttributed y x rest d b = begins_none p x rest b (own_end y (flat x ++ rest) d)
behind_form p _ y x rest d b = refl

called_end : (c : Tree) (g : Gram) (rest : List Token)
    → Derives (Called the_attributes (Node OuterAttributes c)) g rest
    → sees (marks "#") rest ≡ false
called_end c (called m g) rest d = attributes_end c g rest d.1
called_end c _ rest d = absurd d

node_bound : (p : Position) (x : Tree) (g : Gram) (rest : List Token)
    → Derives (Node (Expression p) (Whole x)) g rest
    → Bound p x rest
unfolding table
node_bound p x (ref l) rest d = d.1.1
node_bound p x _ rest d = absurd d

called_bound : (p : Position) (x : Tree) (g : Gram) (rest : List Token)
    → Derives (Called the_expression (Node (Expression p) (Whole x))) g rest → Bound p x rest
called_bound p x (called m g) rest d = node_bound p x g rest d.1
called_bound p x _ rest d = absurd d

pair_bound : (p : Position) (x s : Tree) (g : Gram) (rest : List Token)
    → Derives (Pair (Called the_expression (Node (Expression p) (Whole x))) s) g rest → Bound p x (flat s ++ rest)
pair_bound p x s (seq a b) rest d = called_bound p x a (flat s ++ rest) d.0
pair_bound p x s _ rest d = absurd d

in_statement : (x y : Tree) (a b : Gram) (rest : List Token) → Derives x a (flat y ++ rest) → Derives y b rest
    → begin_again_in x y ≡ false
in_statement (Called the_attributes (Node OuterAttributes c)) (Pair (Called the_expression (Node (Expression
    p) (Whole x))) s) a b rest d e =
    begins_none p x (flat s ++ rest) (pair_bound p x s b rest e)
    (subst (λ ts. sees (marks "#") ts ≡ false) (append_assoc (flat x) (flat s) rest) (called_end c a _ d))
in_statement _ _ a b rest d e = refl

-- a literal among the tokens of trees
has_no_minus : (b : Bool) → (not b && true) ≡ true → b ≡ false
has_no_minus true e = cc
has_no_minus false e = refl

mutual
  pub shaped : (x : Tree) (g : Gram) (rest : List Token) → Derives x g rest
      → are_trees (flat x) ≡ true → IsShaped x g
  shaped (AWord cs) (word p) rest d s = d
  shaped (ALiteral cs) (literal p) rest d s = (d, has_no_minus (starts_with_minus cs) s)
  shaped (AMark c cs spacing) (mark e es) rest d s = d
  shaped (ALifetime cs) lifetime rest d s = tt
  shaped (Raw ts) raw rest d s = s
  shaped Nil nothing rest d s = tt
  shaped (Pair x y) (seq a b) rest d s =
      let q = split x a (flat y ++ rest) d.0 [] (flat y) s in
      (shaped x a (flat y ++ rest) d.0 q.0, shaped y b rest d.1 q.1, in_statement x y a b rest d.0 d.1)
  shaped (First x) (alt t a b) rest d s = shaped x a rest d.1 s
  shaped (Second x) (alt t a b) rest d s = shaped x b rest d.1 s
  shaped End (star t g) rest d s = tt
  shaped (Again x y) (star t g) rest d s =
      let q = split x g (flat y ++ rest) d.1 [] (flat y) s in
      (shaped x g (flat y ++ rest) d.1 q.0, shaped y (star t g) rest d.2 q.1)
  shaped End (many e c g) rest d s = tt
  shaped (Final x) (many e c g) rest d s = shaped x g rest d.1 s
  shaped (More x m spacing y) (many e c g) rest d s =
      let q = split x g (Punct m spacing ∷ flat y ++ rest) d.2 [] (Punct m spacing ∷ flat y) s in (
        d.1,
        shaped x g (Punct m spacing ∷ flat y ++ rest) d.2 q.0,
        shaped y (many e c g) rest d.3 (behind_mark m spacing (flat y) q.1),
      )
  shaped (Group d x) (group e g) rest h s =
      let q = split x g [] h.1 (d ∷ []) (Closes d ∷ []) s in (h.0, shaped x g [] h.1 q.0)
  shaped (First x) (judged v g) rest d s = (d.0, shaped x g rest d.1 s)
  shaped (Verbatim x) (judged v g) rest d s = (d.0, shaped x g rest d.1 s, s)
  shaped (Dropped x) (dropped g) rest d s = shaped x g rest d s
  shaped (Called n x) (called m g) rest d s = (d.0, shaped x g rest d.1 s)
  shaped (Node k x) (ref l) rest d s = (d.0, shaped x (table k) rest d.1 s, named_stands k x rest d.1)
  shaped (Whole x) (operand p n) rest d s = formed p x rest d.1 s
  shaped _ _ rest d s = absurd d

  pub formed : (p : Position) (x : Tree) (rest : List Token) → Bound p x rest
      → are_trees (flat x) ≡ true → AreForms x
  formed p (Alone k y) rest b s =
      (is_alone p k _ _ b.0 b.2, shaped y (table k) rest b.1 s, typed_stands p k y rest b.0 b.1)
  formed p (Front k y x) rest b s =
      let q = split y (table k) (flat x ++ rest) b.1 [] (flat x) s in (
        is_before p k _ _ b.0 b.2,
        shaped y (table k) (flat x ++ rest) b.1 q.0,
        behind_form _ k y x rest b.1 b.4,
        formed _ x rest b.4 q.1,
      )
  formed p (Back l k y) rest b s =
      let q = split_form l p (flat y ++ rest) b.4 [] (flat y) s in (
        is_behind p k _ _ b.0 b.2,
        left_stands p l k b.3.0,
        formed p l (flat y ++ rest) b.4 q.0,
        shaped y (table k) rest b.1 q.1,
      )
  formed p (Infix l k y r) rest b s =
      let q = split_form l p (flat y ++ (flat r ++ rest)) b.4 [] (flat y ++ flat r) s in
      let o = split y (table k) (flat r ++ rest) b.1 [] (flat r) q.1 in (
        is_between p k _ _ b.0 b.2,
        left_stands p l k b.3.0,
        formed p l (flat y ++ (flat r ++ rest)) b.4 q.0,
        shaped y (table k) (flat r ++ rest) b.1 o.0,
        formed _ r rest b.6 o.1,
      )
  formed p _ rest b s = absurd b

-- what a reader answers of a kind, of tokens of trees
pub read : (k : Kind) (ts : List Token) (x : Tree) (rest : List Token) → IsDerived k ts x rest
    → are_trees ts ≡ true
    → IsShaped x (ref k)
read k ts x rest d s =
    shaped x (ref k) rest d.0 (split x (ref k) rest d.0 [] rest (subst (λ us. are_trees us ≡ true) (sym d.1) s)).0
