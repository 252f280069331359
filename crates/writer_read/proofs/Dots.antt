-- What is kept of a form behind its left operand, and what is written of it.
use Rattle.std.proofs.Common.{◌≡◌, ℕ, List, [], ◌∷◌, ◌++◌, refl, sym, ap, ◌∙◌, append_assoc}
use Rattle.std.proofs.lemmas.List.{append-nil}
use Rattle.proc_macro2.specs.Token.{Literal, Punct}
use Rattle.rust_leaf.specs.declared.punct.Spacing.TheVariants.{Alone as Apart}
use Rattle.syn_grammar.specs.Kind.{Kind, Plain, ExprField, ExprMethodCall, ExprAwait}
use Rattle.syn_grammar.specs.Name.{the_indices, the_value}
use Rattle.syn_grammar.specs.Words.{indices, plain_decimal}
use Rattle.syn_grammar.specs.Tree.{Tree, ALiteral, Pair, Second, End, Again, Called, Back}
use Rattle.syn_grammar.specs.Tree.{Alone, Front, Infix, flat}
use Rattle.syn_grammar.specs.Kept.{index_field, index_fields, fields_in_front, last_fields, dotted_own, kept}
use Rattle.syn_grammar.specs.Normal.{normal_in}
use Rattle.laws_binding.specs.Bare.{bare}
use Rattle.laws_ranges.specs.Shelled.{is_shelled, goes_in, enclosed_if}
use Rattle.laws_ranges.proofs.Behind.{back_written, front_written, infix_written}
use Rattle.laws_ranges.proofs.Dotted.{dotted_is}
use Rattle.writer_rules.specs.Said.{said, said_form, fields, front_fields, last_said, dotted_said, own_said}

-- numbers behind dots
fields_said : (texts : List (List ℕ)) (m : Tree) → flat (bare (index_fields m texts)) ≡ flat (bare m) ++ fields texts
fields_said [] m = sym (append-nil (flat (bare m)))
fields_said (cs ∷ texts) m = fields_said texts (index_field m cs)
    ∙ append_assoc (flat (bare m)) (Punct 46 Apart ∷ Literal (plain_decimal cs) ∷ []) (fields texts)

front_said : (x m : Tree) → flat (bare (fields_in_front m (kept x))) ≡ flat (bare m) ++ front_fields x
front_said (Again (ALiteral cs) x) m = front_said x (index_fields m (indices cs))
    ∙ ap (λ ts. ts ++ front_fields x) (fields_said (indices cs) m)
    ∙ append_assoc (flat (bare m)) (fields (indices cs)) (front_fields x)
front_said (Again (Back l k y) x) m =
    dotted_is (λ z. flat (bare (fields_in_front m (Again z (kept x)))) ≡ flat (bare m) ++ [])
    (λ l k y. sym (append-nil (flat (bare m)))) (kept l) k (kept y)
front_said (Again _ x) m = sym (append-nil (flat (bare m)))
front_said (Back l k y) m =
    dotted_is (λ z. flat (bare (fields_in_front m z)) ≡ flat (bare m) ++ [])
    (λ l k y. sym (append-nil (flat (bare m)))) (kept l) k (kept y)
front_said _ m = sym (append-nil (flat (bare m)))

-- what stands behind the last dot
behind_last : (l : Tree) (k : Kind) (d x : Tree)
    → flat (bare (Back l k (Pair (Pair d (Called the_indices End)) x)))
    ≡ flat (bare l) ++ (flat (normal_in Plain d) ++ flat (normal_in Plain x))
behind_last l k d x =
    ap (λ ts. flat (bare l) ++ (ts ++ flat (normal_in Plain x))) (append-nil (flat (normal_in Plain d)))

field_last : (l d x : Tree) → flat (bare (last_fields l ExprField (kept d) (kept x)))
    ≡ flat (bare l) ++ last_said ExprField d x
unfolding said
field_last l d (Second (Called the_value (ALiteral cs))) = fields_said (indices cs) l
field_last l d (Second (Called the_value (Back m k y))) =
    dotted_is (λ z. flat (bare (last_fields l ExprField (kept d) (Second (Called the_value z))))
    ≡ flat (bare l) ++ (flat (normal_in Plain (kept d)) ++ flat (normal_in Plain (Second (Called the_value z)))))
    (λ m k y. behind_last l ExprField (kept d) (Second (Called the_value (Back m k y)))) (kept m) k (kept y)
field_last l d (Second (Called the_value x)) = behind_last l ExprField (kept d) (kept (Second (Called the_value x)))
field_last l d (Second (Back m k y)) =
    dotted_is (λ z. flat (bare (last_fields l ExprField (kept d) (Second z)))
    ≡ flat (bare l) ++ (flat (normal_in Plain (kept d)) ++ flat (normal_in Plain (Second z))))
    (λ m k y. behind_last l ExprField (kept d) (Second (Back m k y))) (kept m) k (kept y)
field_last l d (Second x) = behind_last l ExprField (kept d) (kept (Second x))
field_last l d (Back m k y) =
    dotted_is (λ z. flat (bare (last_fields l ExprField (kept d) z))
    ≡ flat (bare l) ++ (flat (normal_in Plain (kept d)) ++ flat (normal_in Plain z)))
    (λ m k y. behind_last l ExprField (kept d) (Back m k y)) (kept m) k (kept y)
field_last l d x = behind_last l ExprField (kept d) (kept x)

last_one : (l : Tree) (k : Kind) (d x : Tree) → flat (bare (last_fields l k (kept d) (kept x)))
    ≡ flat (bare l) ++ last_said k d x
unfolding said
last_one l ExprField d x = field_last l d x
last_one l k d x = behind_last l k (kept d) (kept x)

own_dots : (l : Tree) (k : Kind) (y : Tree) → flat (bare (dotted_own l k (kept y))) ≡ flat (bare l) ++ dotted_said k y
unfolding said
own_dots l k (Pair (Pair d (Called the_indices x)) z) =
    last_one (fields_in_front l (kept x)) k d z
    ∙ ap (λ ts. ts ++ last_said k d z) (front_said x l)
    ∙ append_assoc (flat (bare l)) (front_fields x) (last_said k d z)
own_dots l k (Pair (Pair d (Back m j w)) z) =
    dotted_is (λ u. flat (bare (dotted_own l k (Pair (Pair (kept d) u) (kept z))))
    ≡ flat (bare l) ++ flat (normal_in Plain (Pair (Pair (kept d) u) (kept z)))) (λ m j w. refl) (kept m) j (kept w)
own_dots l k (Pair (Back m j w) z) =
    dotted_is (λ u. flat (bare (dotted_own l k (Pair u (kept z))))
    ≡ flat (bare l) ++ flat (normal_in Plain (Pair u (kept z)))) (λ m j w. refl) (kept m) j (kept w)
own_dots l k (Back m j w) =
    dotted_is (λ u. flat (bare (dotted_own l k u)) ≡ flat (bare l) ++ flat (normal_in Plain u)) (λ m j w. refl)
    (kept m) j (kept w)
own_dots l k _ = refl

back_bare : (l : Tree) (k : Kind) (y : Tree) → flat (bare (kept (Back l k y))) ≡ flat (bare (kept l)) ++ own_said k y
unfolding said
back_bare l ExprField y = own_dots (kept l) ExprField y
back_bare l ExprMethodCall y = own_dots (kept l) ExprMethodCall y
back_bare l ExprAwait y = own_dots (kept l) ExprAwait y
back_bare l k y = refl

-- forms, with the parentheses of their operands
pub alone_said : (k : Kind) (y : Tree) → said_form (Alone k y) ≡ said Plain y
unfolding said said_form
alone_said k y = refl

pub prefix_said : (k : Kind) (y x : Tree)
    → said_form (Front k y x) ≡ said Plain y ++ enclosed_if (is_shelled k x) (said_form x)
unfolding said said_form
prefix_said k y x = front_written k y x

pub infix_said : (l : Tree) (k : Kind) (y r : Tree)
    → said_form (Infix l k y r) ≡ enclosed_if (goes_in k l) (said_form l) ++ (said Plain y ++ said_form r)
unfolding said said_form
infix_said l k y r = infix_written l k y r

pub back_said : (l : Tree) (k : Kind) (y : Tree)
    → said_form (Back l k y) ≡ enclosed_if (goes_in k l) (said_form l) ++ own_said k y
unfolding said_form
back_said l k y = back_written l k y (own_said k y) (back_bare l k y)
