-- Where no range has attributes, no operand is put in parentheses.
use Rattle.std.proofs.Common.{◌≡◌, ℕ, List, ◌++◌, refl, sym, ap, ◌∙◌, subst}
use Rattle.std.specs.Prelude.{Bool, true, false, ◌&&◌, ◌||◌, cond}
use Rattle.proc_macro2.specs.Token.{Token}
use Rattle.syn_grammar.specs.Kind.{Kind, Position, ExprAttributed, ExprField}
use Rattle.syn_grammar.specs.Name.{the_indices, the_value}
use Rattle.syn_grammar.specs.Words.{plain_decimal}
use Rattle.syn_grammar.specs.Tree.{Tree, ALiteral, Pair, Second, End, Called, Alone, Front, Back, Infix, flat}
use Rattle.syn_grammar.specs.Table.{table}
use Rattle.syn_grammar.specs.Derives.{Derives, Bound}
use Rattle.syn_grammar.specs.Kept.{lone_dot, index_field, dotted, kept}
use Rattle.syn_grammar.specs.Normal.{normal}
use Rattle.syn_grammar.specs.Forms.{level, takes}
use Rattle.syn_grammar.specs.Parens.{is_attributed_range}
use Rattle.laws_binding.specs.Bare.{bare, HasPlainRanges}
use Rattle.laws_binding.proofs.Shells.{is_dot, undotted, behind_dot, dotted_has, dotted_own}
use Rattle.laws_ranges.specs.Shelled.{is_lone_range, is_shelled, has_shell, goes_in, parens_if, shelled}
use Rattle.laws_ranges.proofs.Parens.{range_split}
use Rattle.laws_ranges.proofs.InKept.{shelled_kept, goes_kept, goes_level, dots_level}

or_left : (a b : Bool) → (a || b) ≡ false → a ≡ false
or_left true b e = cc
or_left false b e = refl

no_range : (k : Kind) (x : Tree) → is_attributed_range k x ≡ false → is_shelled k x ≡ false
no_range ExprAttributed x e = or_left (is_lone_range x) (has_shell x) (sym (range_split x) ∙ e)
no_range _ x e = refl

no_shell : (x : Tree) → HasPlainRanges x → has_shell x ≡ false
no_shell (Front k y x) h = h.0
no_shell _ h = refl

and_no : (b : Bool) → (b && false) ≡ false
and_no true = refl
and_no false = refl

goes_edge : (t : Bool) (k : Kind) (x : Tree) → has_shell x ≡ false → goes_in k x ≡ false
    → ((t && has_shell x) || goes_in k x) ≡ false
goes_edge t k x e f =
    ap (λ b. (t && b) || goes_in k x) e ∙ ap (λ b. b || goes_in k x) (and_no t) ∙ f

goes_nowhere : (k : Kind) (x : Tree) → HasPlainRanges x → goes_in k x ≡ false
goes_nowhere k (Front j y x) h =
    ap (λ b. cond b (takes (level j) (level k)) ((takes (level j) (level k) && has_shell x) || goes_in k x))
    (no_range j x h.0)
    ∙ goes_edge (takes (level j) (level k)) k x (no_shell x h.1) (goes_nowhere k x h.1)
goes_nowhere k (Infix l j y r) h =
    goes_edge (takes (level j) (level k)) k r (no_shell r h.1) (goes_nowhere k r h.1)
goes_nowhere k _ h = refl

-- a left operand that stands as it is
record Stands (m : Tree) : Type 0 where
  is : shelled m ≡ bare m
  free : goes_in ExprField m ≡ false

before : (k : Kind) (l : Tree) → goes_in k l ≡ false → shelled l ≡ bare l
    → parens_if (goes_in k l) (shelled l) ≡ bare l
before k l e f = ap (λ b. parens_if b (shelled l)) e ∙ f

stands_back : (j : Kind) (m y : Tree) → level j ≡ level ExprField → Stands m → shelled (Back m j y) ≡ bare (Back m j y)
stands_back j m y e s =
    ap (λ z. Back z j (normal y)) (before j m (goes_level j ExprField m e ∙ s.free) s.is)

stands_index : (m : Tree) (cs : List ℕ) → Stands m → shelled (index_field m cs) ≡ bare (index_field m cs)
stands_index m cs s =
    stands_back ExprField m
    (Pair (Pair lone_dot (Called the_indices End)) (Second (Called the_value (ALiteral (plain_decimal cs))))) refl s

dotted_stands : (l : Tree) (k : Kind) (y : Tree) (r : List Token) → Derives y (table k) r → goes_in k (kept l) ≡ false
    → shelled (kept l) ≡ bare (kept l)
    → shelled (dotted (kept l) k (kept y)) ≡ bare (dotted (kept l) k (kept y))
dotted_stands l k y r d e f = go (is_dot k) refl
  where
    go : (b : Bool) → is_dot k ≡ b → shelled (dotted (kept l) k (kept y)) ≡ bare (dotted (kept l) k (kept y))
    go false i =
        subst (λ v. shelled v ≡ bare v) (sym (undotted (kept l) k (kept y) i))
        (ap (λ z. Back z k (normal (kept y))) (before k (kept l) e f))
    go true i =
        let o = dotted_own k y r i d in
        let s : Stands (kept l) = record {
          is = f;
          free = goes_level ExprField k (kept l) (dots_level ExprField k refl i) ∙ e;
        } in
        subst (λ v. shelled (dotted (kept l) k v) ≡ bare (dotted (kept l) k v)) (sym o.is)
        (dotted_has (λ j v. shelled v ≡ bare v) Stands o.back
        (λ m cs q. record { is = stands_index m cs q; free = refl }) stands_index
        (λ j m g q. stands_back j m (behind_dot End o.back) (dots_level j ExprField g refl) q) k (kept l) o.front i s)

pub unshelled : (x : Tree) (p : Position) (rest : List Token) → Bound p x rest → HasPlainRanges x
    → shelled (kept x) ≡ bare (kept x)
unshelled (Alone k y) p rest d h = refl
unshelled (Front k y x) p rest d h =
    ap (λ b. Front k (normal (kept y)) (parens_if b (shelled (kept x)))) (shelled_kept k x ∙ no_range k x h.0)
    ∙ ap (Front k (normal (kept y))) (unshelled x _ rest d.4 h.1)
unshelled (Back l k y) p rest d h =
    dotted_stands l k y rest d.1 (goes_kept k l ∙ goes_nowhere k l h) (unshelled l p (flat y ++ rest) d.4 h)
unshelled (Infix l k y r) p rest d h =
    ap (λ z. Infix z k (normal (kept y)) (shelled (kept r)))
    (before k (kept l) (goes_kept k l ∙ goes_nowhere k l h.0) (unshelled l p (flat y ++ (flat r ++ rest)) d.4 h.0))
    ∙ ap (Infix (bare (kept l)) k (normal (kept y))) (unshelled r _ rest d.6 h.1)
unshelled _ p rest d h = elim d [ ]
