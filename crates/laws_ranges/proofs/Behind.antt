-- What stands behind a left operand is the same, whether that is put in parentheses or not.
use Rattle.std.proofs.Common.{◌≡◌, ℕ, List, [], ◌∷◌, ◌++◌, refl, sym, ap, ◌∙◌, append_assoc}
use Rattle.std.specs.Prelude.{Bool, true, false, cond, nat_eq}
use Rattle.std.proofs.lemmas.List.{append-nil}
use Rattle.proc_macro2.specs.Token.{Token}
use Rattle.syn_grammar.specs.Kind.{Kind, ExprField, ExprMethodCall, ExprAwait, ExprCast, ExprAttributed}
use Rattle.syn_grammar.specs.Name.{the_indices, the_value}
use Rattle.syn_grammar.specs.Words.{indices, behind_dots, texts_of}
use Rattle.syn_grammar.specs.Tree.{Tree, ALiteral, Pair, Second, End, Again, Called, Front, Back, Infix, flat}
use Rattle.syn_grammar.specs.Kept.{index_field, index_fields, fields_in_front, last_fields, dotted_own, dotted}
use Rattle.syn_grammar.specs.Kept.{attributed, kept}
use Rattle.syn_grammar.specs.Normal.{normal}
use Rattle.syn_grammar.specs.Forms.{level, is_range}
use Rattle.laws_binding.specs.Bare.{bare}
use Rattle.laws_ranges.specs.Shelled.{is_lone_range, is_shelled, goes_in, parens_if, shelled, enclosed_if}
use Rattle.laws_ranges.proofs.InKept.{lone_kept, range_kept, shelled_kept, goes_level, goes_kept, goes_given}

-- a left operand before a form of the kind
abbrev before : Kind → Tree → List Token
before k m = flat (parens_if (goes_in k m) (shelled m))

tail_same : (t u : Token) (ts us : List Token) → t ∷ ts ≡ u ∷ us → ts ≡ us
tail_same t u ts us e = cc

cancel : (ts us vs : List Token) → ts ++ us ≡ ts ++ vs → us ≡ vs
cancel [] us vs e = e
cancel (t ∷ ts) us vs e = cancel ts us vs (tail_same t t (ts ++ us) (ts ++ vs) e)

module _ (k : Kind) (l : Tree) (e : level k ≡ level ExprField) where
  -- the tokens of a tree behind the left operand `l`
  record Tail (m : Tree) : Type 0 where
    tokens : List Token
    plain : flat (bare m) ≡ flat (bare l) ++ tokens
    parens : before ExprField m ≡ before k l ++ tokens

  here : Tail l
  here = record {
    tokens = [];
    plain = sym (append-nil (flat (bare l)));
    parens = ap (λ b. flat (parens_if b (shelled l))) (goes_level ExprField k l (sym e))
        ∙ sym (append-nil (before k l));
  }

  step : (m : Tree) (j : Kind) (y : Tree) → level j ≡ level ExprField → Tail m → Tail (Back m j y)
  step m j y f t = record {
    tokens = t.tokens ++ flat (normal y);
    plain = ap (λ ts. ts ++ flat (normal y)) t.plain ∙ append_assoc (flat (bare l)) t.tokens (flat (normal y));
    parens =
        ap (λ b. flat (parens_if b (shelled m)) ++ flat (normal y)) (goes_level j ExprField m f)
        ∙ ap (λ ts. ts ++ flat (normal y)) t.parens ∙ append_assoc (before k l) t.tokens (flat (normal y));
  }

  -- of a form whose left operand stands before it, tokens behind that
  abbrev Ends : Tree → Type 0
  Ends v = (ts : List Token) → flat (bare v) ≡ flat (bare l) ++ ts → flat (shelled v) ≡ before k l ++ ts

  some_fields : (texts : List (List ℕ)) (m : Tree) → Tail m → Tail (index_fields m texts)
  some_fields [] m t = t
  some_fields (cs ∷ texts) m t = some_fields texts (index_field m cs) (step m ExprField _ refl t)

  front_fields : (x m : Tree) → Tail m → Tail (fields_in_front m x)
  front_fields (Again (ALiteral cs) x) m t = front_fields x (index_fields m (indices cs)) (some_fields (indices cs) m t)
  front_fields (Again _ x) m t = t
  front_fields _ m t = t

  ends : (m : Tree) (j : Kind) (y : Tree) → Tail (Back m j y) → Ends (Back m j y)
  ends m j y t =
      λ ts e. t.parens ∙ ap (λ us. before k l ++ us) (cancel (flat (bare l)) t.tokens ts (sym t.plain ∙ e))

  fields_end : (texts : List (List ℕ)) (m : Tree) (j : Kind) (y : Tree) → Tail (Back m j y)
      → Ends (index_fields (Back m j y) texts)
  fields_end [] m j y t = ends m j y t
  fields_end (cs ∷ texts) m j y t = fields_end texts (Back m j y) ExprField _ (step (Back m j y) ExprField _ refl t)

  last_end : (j : Kind) (d x m : Tree) → level j ≡ level ExprField → Tail m → Ends (last_fields m j d x)
  last_end ExprField d (Second (Called the_value (ALiteral cs))) m f t =
      fields_end (texts_of (behind_dots cs)) m ExprField _ (step m ExprField _ refl t)
  last_end j d x m f t =
      let y : Tree = Pair (Pair d (Called the_indices End)) x in
      ends m j y (step m j y f t)

  pub own_end : (j : Kind) (y : Tree) → level j ≡ level ExprField → Ends (dotted_own l j y)
  own_end j (Pair (Pair d (Called the_indices x)) y) f = last_end j d y (fields_in_front l x) f (front_fields x l here)
  own_end j y f = ends l j y (step l j y f here)

behind_dotted : (l : Tree) (k : Kind) (y : Tree) (ts : List Token) → flat (bare (dotted l k y)) ≡ flat (bare l) ++ ts
    → flat (shelled (dotted l k y)) ≡ before k l ++ ts
unfolding level
behind_dotted l ExprField y ts e = own_end ExprField l refl ExprField y refl ts e
behind_dotted l ExprMethodCall y ts e = own_end ExprMethodCall l refl ExprMethodCall y refl ts e
behind_dotted l ExprAwait y ts e = own_end ExprAwait l refl ExprAwait y refl ts e
behind_dotted l k y ts e = ap (λ us. before k l ++ us) (cancel (flat (bare l)) (flat (normal y)) ts e)

walled : (b : Bool) (x : Tree) → flat (parens_if b x) ≡ enclosed_if b (flat x)
walled true x = refl
walled false x = refl

before_read : (k : Kind) (l : Tree) → before k (kept l) ≡ enclosed_if (goes_in k l) (flat (shelled (kept l)))
before_read k l =
    walled (goes_in k (kept l)) (shelled (kept l))
    ∙ ap (λ b. enclosed_if b (flat (shelled (kept l)))) (goes_kept k l)

pub back_written : (l : Tree) (k : Kind) (y : Tree) (ts : List Token)
    → flat (bare (kept (Back l k y))) ≡ flat (bare (kept l)) ++ ts
    → flat (shelled (kept (Back l k y))) ≡ enclosed_if (goes_in k l) (flat (shelled (kept l))) ++ ts
back_written l k y ts e = behind_dotted (kept l) k (kept y) ts e ∙ ap (λ us. us ++ ts) (before_read k l)

pub front_written : (k : Kind) (y x : Tree) → flat (shelled (kept (Front k y x)))
    ≡ flat (normal (kept y)) ++ enclosed_if (is_shelled k x) (flat (shelled (kept x)))
front_written k y x =
    ap (λ ts. flat (normal (kept y)) ++ ts)
    (walled (is_shelled k (kept x)) (shelled (kept x))
    ∙ ap (λ b. enclosed_if b (flat (shelled (kept x)))) (shelled_kept k x))

pub infix_written : (l : Tree) (k : Kind) (y r : Tree) → flat (shelled (kept (Infix l k y r)))
    ≡ enclosed_if (goes_in k l) (flat (shelled (kept l))) ++ (flat (normal (kept y)) ++ flat (shelled (kept r)))
infix_written l k y r = ap (λ ts. ts ++ (flat (normal (kept y)) ++ flat (shelled (kept r)))) (before_read k l)

-- with attributes that are given to the leftmost operand
given_before : (k : Kind) (a l : Tree) → is_range l ≡ false
    → before k (attributed a (kept l)) ≡ enclosed_if (goes_in k l) (flat (shelled (attributed a (kept l))))
given_before k a l e =
    walled (goes_in k (attributed a (kept l))) (shelled (attributed a (kept l)))
    ∙ ap (λ b. enclosed_if b (flat (shelled (attributed a (kept l)))))
    (goes_given k a (kept l) (range_kept l ∙ e) ∙ goes_kept k l)

pub range_given : (a x : Tree) → is_lone_range x ≡ true → flat (shelled (Front ExprAttributed a (kept x)))
    ≡ flat (normal a) ++ enclosed_if true (flat (shelled (kept x)))
range_given a x e =
    ap (λ ts. flat (normal a) ++ ts)
    (walled (is_lone_range (kept x)) (shelled (kept x))
    ∙ ap (λ b. enclosed_if b (flat (shelled (kept x)))) (lone_kept x ∙ e))

pub infix_given : (a l : Tree) (k : Kind) (y r : Tree) → nat_eq (level k) 3 ≡ false → is_range l ≡ false
    → flat (shelled (attributed a (kept (Infix l k y r))))
    ≡ enclosed_if (goes_in k l) (flat (shelled (attributed a (kept l))))
    ++ (flat (normal (kept y)) ++ flat (shelled (kept r)))
infix_given a l k y r n e =
    ap (λ b. flat (shelled (cond b (Front ExprAttributed a (Infix (kept l) k (kept y) (kept r)))
    (Infix (attributed a (kept l)) k (kept y) (kept r))))) n
    ∙ ap (λ ts. ts ++ (flat (normal (kept y)) ++ flat (shelled (kept r)))) (given_before k a l e)

pub cast_given : (a l y : Tree) → is_range l ≡ false → flat (shelled (attributed a (kept (Back l ExprCast y))))
    ≡ enclosed_if (goes_in ExprCast l) (flat (shelled (attributed a (kept l)))) ++ flat (normal (kept y))
cast_given a l y e = ap (λ ts. ts ++ flat (normal (kept y))) (given_before ExprCast a l e)
