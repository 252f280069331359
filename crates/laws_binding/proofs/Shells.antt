-- What is kept of an expression has its forms, but for numbers behind dots, which are split.
use Rattle.std.proofs.Common.{◌≡◌, ℕ, List, [], ◌∷◌, refl, sym, ap, ◌∙◌, subst}
use Rattle.std.specs.Prelude.{Bool, true, false}
use Rattle.std.proofs.lemmas.Bool.{false≢true}
use Rattle.proc_macro2.specs.Token.{Token}
use Rattle.rust_leaf.specs.declared.punct.Spacing.TheVariants.{Alone as Apart}
use Rattle.syn_grammar.specs.Kind.{Kind, ExprField, ExprMethodCall, ExprAwait}
use Rattle.syn_grammar.specs.Name.{the_indices, the_value}
use Rattle.syn_grammar.specs.Words.{indices, before_dot, behind_dots, texts_of}
use Rattle.syn_grammar.specs.Tree.{Tree, ALiteral, AMark, Pair, Second, End, Again, Called, Back}
use Rattle.syn_grammar.specs.Gram.{Gram, mark, seq, called}
use Rattle.syn_grammar.specs.Table.{table}
use Rattle.syn_grammar.specs.Derives.{Derives}
use Rattle.syn_grammar.specs.Kept.{lone_dot, index_field, index_fields, fields_in_front, last_fields, dotted, kept}

-- the forms behind a dot
abbrev pub is_dot : Kind → Bool
is_dot ExprField = true
is_dot ExprMethodCall = true
is_dot ExprAwait = true
is_dot _ = false

-- what holds of each of them holds of a kind that is one
pub each_dot : (P : Kind → Type 0) → P ExprField → P ExprMethodCall → P ExprAwait → (k : Kind) → is_dot k ≡ true → P k
each_dot P f m a ExprField e = f
each_dot P f m a ExprMethodCall e = m
each_dot P f m a ExprAwait e = a
each_dot P f m a _ e = absurd (false≢true e)

pub undotted : (l : Tree) (k : Kind) (y : Tree) → is_dot k ≡ false → dotted l k y ≡ Back l k y
undotted l ExprField y e = absurd (false≢true (sym e))
undotted l ExprMethodCall y e = absurd (false≢true (sym e))
undotted l ExprAwait y e = absurd (false≢true (sym e))
undotted l _ y e = refl

-- what stands behind the dots of a field, a method call or an await
abbrev pub behind_dot : Tree → Tree → Tree
behind_dot w z = Pair (Pair lone_dot (Called the_indices w)) z

-- P of a whole form, Q of what stands before its last dot
module _ (P : Kind → Tree → Type 0) (Q : Tree → Type 0) (z : Tree)
    (field : (m : Tree) (cs : List ℕ) → Q m → Q (index_field m cs))
    (ended : (m : Tree) (cs : List ℕ) → Q m → P ExprField (index_field m cs))
    (last : (k : Kind) (m : Tree) → is_dot k ≡ true → Q m → P k (Back m k (behind_dot End z))) where
  fields_have : (texts : List (List ℕ)) (m : Tree) → Q m → P ExprField m → P ExprField (index_fields m texts)
  fields_have [] m q p = p
  fields_have (cs ∷ texts) m q p = fields_have texts (index_field m cs) (field m cs q) (ended m cs q)

  texts_have : (texts : List (List ℕ)) (m : Tree) → Q m → Q (index_fields m texts)
  texts_have [] m q = q
  texts_have (cs ∷ texts) m q = texts_have texts (index_field m cs) (field m cs q)

  front_has : (w m : Tree) → Q m → Q (fields_in_front m w)
  front_has (Again (ALiteral cs) x) m q = front_has x (index_fields m (indices cs)) (texts_have (indices cs) m q)
  front_has (Again _ x) m q = q
  front_has _ m q = q

  some_field : (x m : Tree) → x ≡ z → Q m → P ExprField (last_fields m ExprField lone_dot x)
  some_field (Second (Called the_value (ALiteral cs))) m e q =
      fields_have (texts_of (behind_dots cs)) (index_field m (before_dot cs)) (field m (before_dot cs) q)
      (ended m (before_dot cs) q)
  some_field x m e q = subst (λ v. P ExprField (Back m ExprField (behind_dot End v))) (sym e) (last ExprField m refl q)

  pub dotted_has : (k : Kind) (l w : Tree) → is_dot k ≡ true → Q l → P k (dotted l k (behind_dot w z))
  dotted_has k l w e q =
      each_dot (λ j. P j (dotted l j (behind_dot w z))) (some_field z (fields_in_front l w) refl (front_has w l q))
      (last ExprMethodCall (fields_in_front l w) refl (front_has w l q))
      (last ExprAwait (fields_in_front l w) refl (front_has w l q)) k e

-- the own part of such a form
pub record Dotted (y : Tree) : Type 0 where
  pub front : Tree
  pub back : Tree
  pub is : kept y ≡ behind_dot front back

dot_own : (g h : Gram) (y : Tree) (r : List Token) → Derives y (seq (seq (mark 46 []) (called the_indices g)) h) r
    → Dotted y
dot_own g h (Pair (Pair (AMark c cs i) (Called n w)) z) r d =
    record {
      front = kept w;
      back = kept z;
      is = ap (λ b. Pair (Pair (AMark b cs Apart) (Called n (kept w))) (kept z)) d.0.0.0
          ∙ ap (λ bs. Pair (Pair (AMark 46 bs Apart) (Called n (kept w))) (kept z)) d.0.0.1
          ∙ ap (λ m. Pair (Pair lone_dot (Called m (kept w))) (kept z)) d.0.1.0;
    }
dot_own g h (Pair (Pair (AMark c cs i) _) z) r d = elim d.0.1 [ ]
dot_own g h (Pair (Pair _ x) z) r d = elim d.0.0 [ ]
dot_own g h (Pair _ z) r d = elim d.0 [ ]
dot_own g h _ r d = elim d [ ]

pub dotted_own : (k : Kind) (y : Tree) (r : List Token) → is_dot k ≡ true → Derives y (table k) r → Dotted y
unfolding table
dotted_own k y r e d =
    each_dot (λ j. Derives y (table j) r → Dotted y) (dot_own _ _ y r) (dot_own _ _ y r) (dot_own _ _ y r) k e d
