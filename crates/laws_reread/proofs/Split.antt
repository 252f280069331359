-- Numbers behind a dot are split at their dots: what is printed for such a form, and what is held of it, are split in
-- one way.
use Rattle.std.proofs.Common.{◌≡◌, ℕ, List, [], ◌∷◌, refl, sym, ap, ◌∙◌}
use Rattle.syn_grammar.specs.Kind.{Kind, Position, ExprAwait, ExprField, ExprMethodCall}
use Rattle.syn_grammar.specs.Name.{the_indices, the_value}
use Rattle.syn_grammar.specs.Words.{before_dot, behind_dots, indices, plain_decimal, texts_of}
use Rattle.syn_grammar.specs.Tree.{Tree, ALiteral, Pair, First, Second, End, Again, Called, Back}
use Rattle.syn_grammar.specs.Kept.{lone_dot, index_field, index_fields, fields_in_front, last_fields, dotted_own}
use Rattle.syn_grammar.specs.Kept.{dotted, kept}
use Rattle.syn_grammar.specs.Normal.{place_of, is_enclosed, normal_in, normal}
use Rattle.syn_grammar.proofs.Decimals.{decimal_twice, one_index}
use Rattle.syn_grammar.specs.Forms.{level}
use Rattle.laws_ranges.specs.Shelled.{goes_in, parens_if, shelled}
use Rattle.laws_ranges.proofs.InKept.{goes_level}
use Rattle.laws_reread_kinds.proofs.Printed.{unmoved_if}

-- the own part of a form behind a dot: numbers that end in one, and what stands behind them
abbrev pub IsNumbers : Tree → Type 0
IsNumbers End = Unit {0}
IsNumbers (Again (ALiteral cs) x) = IsNumbers x
IsNumbers _ = ⊥

abbrev pub IsLast : Kind → Tree → Type 0
IsLast ExprField (First x) = Unit {0}
IsLast ExprField (Second (Called the_value (ALiteral cs))) = Unit {0}
IsLast ExprMethodCall z = Unit {0}
IsLast ExprAwait z = Unit {0}
IsLast _ z = ⊥

abbrev pub IsBehind : Kind → Tree → Type 0
IsBehind k (Pair (Pair d (Called the_indices x)) z) = IsNumbers x × IsLast k z
IsBehind k _ = ⊥

abbrev pub IsDot : Kind → Tree → Type 0
IsDot ExprField y = IsBehind ExprField y
IsDot ExprMethodCall y = IsBehind ExprMethodCall y
IsDot ExprAwait y = IsBehind ExprAwait y
IsDot _ y = ⊥

-- what is kept is split as what it is kept of
pub own_number : List ℕ → Tree
own_number cs = Pair (Pair lone_dot (Called the_indices End)) (Second (Called the_value (ALiteral cs)))

pub lone_index : (l : Tree) (cs : List ℕ) → index_fields l (indices (plain_decimal cs)) ≡ index_field l cs
unfolding own_number
lone_index l cs = ap (index_fields l) (one_index cs) ∙ ap (λ ds. Back l ExprField (own_number ds)) (decimal_twice cs)

kept_fields : (l : Tree) (texts : List (List ℕ)) → kept (index_fields l texts) ≡ index_fields (kept l) texts
kept_fields l [] = refl
kept_fields l (cs ∷ texts) =
    kept_fields (index_field l cs) texts ∙ ap (λ m. index_fields m texts) (lone_index (kept l) cs)

kept_front : (l x : Tree) → IsNumbers x → kept (fields_in_front l x) ≡ fields_in_front (kept l) (kept x)
kept_front l End h = refl
kept_front l (Again (ALiteral cs) x) h =
    kept_front (index_fields l (indices cs)) x h
    ∙ ap (λ m. fields_in_front m (kept x)) (kept_fields l (indices cs))
kept_front l _ h = absurd h

kept_last : (k : Kind) (l d z : Tree) → IsLast k z
    → kept (last_fields l k d z) ≡ last_fields (kept l) k (kept d) (kept z)
kept_last ExprField l d (First x) h = refl
kept_last ExprField l d (Second (Called the_value (ALiteral cs))) h = kept_fields l (indices cs)
kept_last ExprMethodCall l d z h = refl
kept_last ExprAwait l d z h = refl
kept_last _ l d z h = absurd h

dot_kept : (k : Kind) (l d x z : Tree) → IsNumbers x → IsLast k z
    → kept (last_fields (fields_in_front l x) k d z)
    ≡ last_fields (fields_in_front (kept l) (kept x)) k (kept d) (kept z)
dot_kept k l d x z h i =
    kept_last k (fields_in_front l x) d z i
    ∙ ap (λ m. last_fields m k (kept d) (kept z)) (kept_front l x h)

own_kept : (k : Kind) (l y : Tree) → IsBehind k y → kept (dotted_own l k y) ≡ dotted_own (kept l) k (kept y)
own_kept k l (Pair (Pair d (Called the_indices x)) z) h = dot_kept k l d x z h.0 h.1
own_kept k l _ h = absurd h

pub dotted_kept : (k : Kind) (l y : Tree) → IsDot k y → kept (dotted l k y) ≡ dotted (kept l) k (kept y)
dotted_kept ExprField l y h = own_kept ExprField l y h
dotted_kept ExprMethodCall l y h = own_kept ExprMethodCall l y h
dotted_kept ExprAwait l y h = own_kept ExprAwait l y h
dotted_kept _ l y h = absurd h

-- And so is what is put in parentheses before a dot, with its own parts tidied: what stands behind one field stands
-- so as it is.
abbrev inner : Kind → Tree → Tree
inner k l = parens_if (goes_in k l) (shelled l)

inner_field : (k : Kind) (l : Tree) → level k ≡ level ExprField → inner k l ≡ inner ExprField l
inner_field k l e = ap (λ b. parens_if b (shelled l)) (goes_level k ExprField l e)

inner_fields : (l : Tree) (texts : List (List ℕ))
    → inner ExprField (index_fields l texts) ≡ index_fields (inner ExprField l) texts
inner_fields l [] = refl
inner_fields l (cs ∷ texts) = inner_fields (index_field l cs) texts

shelled_fields : (l : Tree) (cs : List ℕ) (texts : List (List ℕ))
    → shelled (index_fields l (cs ∷ texts)) ≡ index_fields (inner ExprField l) (cs ∷ texts)
shelled_fields l cs [] = refl
shelled_fields l cs (ds ∷ texts) = shelled_fields (index_field l cs) ds texts

inner_front : (q : Position) (l x : Tree) → IsNumbers x
    → inner ExprField (fields_in_front l x) ≡ fields_in_front (inner ExprField l) (normal_in q x)
inner_front q l End h = refl
inner_front q l (Again (ALiteral cs) x) h =
    inner_front q (index_fields l (indices cs)) x h
    ∙ ap (λ m. fields_in_front m (normal_in q x)) (inner_fields l (indices cs))
    ∙ ap (λ t. fields_in_front (inner ExprField l) (Again t (normal_in q x)))
    (sym (unmoved_if (is_enclosed x (normal_in q x)) (ALiteral cs) refl))
inner_front q l _ h = absurd h

shelled_last : (k : Kind) (l d z : Tree) → IsLast k z
    → shelled (last_fields l k d z) ≡ last_fields (inner k l) k (normal d) (normal z)
shelled_last ExprField l d (First x) h = refl
shelled_last ExprField l d (Second (Called the_value (ALiteral cs))) h =
    shelled_fields l (before_dot cs) (texts_of (behind_dots cs))
shelled_last ExprMethodCall l d z h = refl
shelled_last ExprAwait l d z h = refl
shelled_last _ l d z h = absurd h

own_shelled : (k : Kind) (l y : Tree) → level k ≡ level ExprField → IsBehind k y
    → shelled (dotted_own l k y) ≡ dotted_own (inner k l) k (normal y)
own_shelled k l (Pair (Pair d (Called the_indices x)) z) e h =
    shelled_last k (fields_in_front l x) d z h.1
    ∙ ap (λ m. last_fields m k (normal d) (normal z)) (inner_field k (fields_in_front l x) e
    ∙ inner_front (place_of the_indices) l x h.0
    ∙ ap (λ m. fields_in_front m (normal_in (place_of the_indices) x)) (sym (inner_field k l e)))
own_shelled k l _ e h = absurd h

pub dotted_shelled : (k : Kind) (l y : Tree) → IsDot k y
    → shelled (dotted l k y) ≡ dotted (parens_if (goes_in k l) (shelled l)) k (normal y)
unfolding level
dotted_shelled ExprField l y h = own_shelled ExprField l y refl h
dotted_shelled ExprMethodCall l y h = own_shelled ExprMethodCall l y refl h
dotted_shelled ExprAwait l y h = own_shelled ExprAwait l y refl h
dotted_shelled _ l y h = absurd h
