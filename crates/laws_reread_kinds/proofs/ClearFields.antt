-- An unnamed field that was read is clear: its type is no restriction of its pub, or the tests would have seen that;
-- and so it is in normal form.
use Rattle.std.proofs.Common.{◌≡◌, ℕ, List, [], ◌∷◌, ◌++◌, refl, sym, ap, ◌∙◌, subst, append_assoc}
use Rattle.std.specs.Prelude.{Bool, true, false, ◌&&◌, ◌||◌, not, cond, codes, Some, None}
use Rattle.std.proofs.lemmas.Bool.{false≢true}
use Rattle.proc_macro2.specs.Token.{Token, Closes, Ident, Opens}
use Rattle.proc_macro2.specs.declared.delimiter.Delimiter.TheVariants.{Parenthesis}
use Rattle.syn_grammar.specs.Kind.{AnyPath, AtType, AType, Path, Plain, Position, Segments, TupleType}
use Rattle.syn_grammar.specs.Kind.{UnnamedField, Visibility, WithPlus}
use Rattle.syn_grammar.specs.Tree.{Tree, AWord, End, Final, First, flat, Group, More, Nil, Node, Pair, Second}
use Rattle.syn_grammar.specs.Gram.{ref}
use Rattle.syn_grammar.specs.Words.{is_path_keyword}
use Rattle.rust_leaf.specs.Keywords.{same_text}
use Rattle.syn_grammar.specs.Look.{behind as past, closes, seen, sees, ◌or◌}
use Rattle.syn_grammar.specs.Say.{many_to_end}
use Rattle.syn_grammar.specs.Items.{restricted, restricted_in}
use Rattle.syn_grammar.specs.Table.{table}
use Rattle.syn_grammar.specs.Derives.{Derives}
use Rattle.syn_grammar.specs.Kept.{held, kept}
use Rattle.syn_grammar.specs.Normal.{normal_in, passed}
use Rattle.laws_reread_kinds.specs.Sees.{Lacks}
use Rattle.laws_reread_kinds.proofs.Choices.{first_of}
use Rattle.laws_reread_kinds.proofs.FieldTypes.{has_clear_type, is_bare_pub, is_restriction, is_word_any, is_word_group}
use Rattle.laws_reread_kinds.proofs.FieldTypes.{is_word_inside, is_word_path, is_word_segments, is_word_type}
use Rattle.laws_reread_kinds.proofs.Fits.{Fits}

both_not : (a b c d : Bool) → a ≡ c → b ≡ d → not (a && b) ≡ not (c && d)
both_not a b c d e f = ap (λ x. not (x && b)) e ∙ ap (λ x. not (c && x)) f

-- behind nine alternatives
abbrev ninth : Tree → Tree
ninth x = Second (Second (Second (Second (Second (Second (Second (Second (Second (x)))))))))

-- normal form keeps it
segments_normal : (q : Position) (x : Tree) (r : List Token) → Derives x (table (Segments AtType)) r
    → is_word_segments (normal_in q (kept x)) ≡ is_word_segments x
unfolding table held passed
segments_normal q (First (Pair c (First y))) r d = refl
segments_normal q (First (Pair c (Second y))) r d = refl
segments_normal q (First (Pair c _)) r d = absurd d.1.1
segments_normal q (First _) r d = absurd d.1
segments_normal q (Second y) r d = refl
segments_normal q _ r d = absurd d

path_normal : (q : Position) (x : Tree) (r : List Token) → Derives x (table (Path AtType)) r
    → is_word_path (normal_in q (kept x)) ≡ is_word_path x
unfolding table held passed
path_normal q (Pair (First c) y) r d = refl
path_normal q (Pair (Second c) (Node l w)) r d =
    subst (λ j. is_word_path (normal_in q (kept (Pair (Second c) (Node j w)))) ≡ is_word_segments w) (sym d.1.0)
    (segments_normal Plain w r (subst (λ j. Derives w (table j) r) d.1.0 d.1.1))
path_normal q (Pair (Second c) _) r d = absurd d.1
path_normal q (Pair _ y) r d = absurd d.0
path_normal q _ r d = absurd d

any_normal : (q : Position) (x : Tree) (r : List Token) → Derives x (table (AnyPath AtType)) r
    → is_word_any (normal_in q (kept x)) ≡ is_word_any x
unfolding table held passed
any_normal q (First y) r d = refl
any_normal q (Second (Node l w)) r d =
    subst (λ j. is_word_any (normal_in q (kept (Second (Node j w)))) ≡ is_word_path w) (sym d.1.0)
    (path_normal Plain w r (subst (λ j. Derives w (table j) r) d.1.0 d.1.1))
any_normal q (Second _) r d = absurd d.1
any_normal q _ r d = absurd d

type_normal : (q : Position) (x : Tree) (r : List Token) → Derives x (table (AType WithPlus)) r
    → is_word_type (normal_in q (kept x)) ≡ is_word_type x
unfolding table held passed
type_normal q (First y) r d = refl
type_normal q (Second (First y)) r d = refl
type_normal q (Second (Second (First y))) r d = refl
type_normal q (Second (Second (Second (First y)))) r d = refl
type_normal q (Second (Second (Second (Second (First y))))) r d = refl
type_normal q (Second (Second (Second (Second (Second (First y)))))) r d = refl
type_normal q (Second (Second (Second (Second (Second (Second (First y))))))) r d = refl
type_normal q (Second (Second (Second (Second (Second (Second (Second (First y)))))))) r d = refl
type_normal q (Second (Second (Second (Second (Second (Second (Second (Second (First y))))))))) r d = refl
type_normal q (Second (Second (Second (Second (Second (Second (Second (Second (Second (Node l w)))))))))) r d =
    subst (λ j. is_word_type (normal_in q (kept (ninth (Node j w)))) ≡ is_word_any w) (sym d.1.1.1.1.1.1.1.1.1.0)
    (any_normal Plain w r (subst (λ j. Derives w (table j) r) d.1.1.1.1.1.1.1.1.1.0 d.1.1.1.1.1.1.1.1.1.1))
type_normal q (Second (Second (Second (Second (Second (Second (Second (Second (Second _))))))))) r d =
    absurd d.1.1.1.1.1.1.1.1.1
type_normal q (Second (Second (Second (Second (Second (Second (Second (Second _)))))))) r d = absurd d.1.1.1.1.1.1.1.1
type_normal q (Second (Second (Second (Second (Second (Second (Second _))))))) r d = absurd d.1.1.1.1.1.1.1
type_normal q (Second (Second (Second (Second (Second (Second _)))))) r d = absurd d.1.1.1.1.1.1
type_normal q (Second (Second (Second (Second (Second _))))) r d = absurd d.1.1.1.1.1
type_normal q (Second (Second (Second (Second _)))) r d = absurd d.1.1.1.1
type_normal q (Second (Second (Second _))) r d = absurd d.1.1.1
type_normal q (Second (Second _)) r d = absurd d.1.1
type_normal q (Second _) r d = absurd d.1
type_normal q _ r d = absurd d

inside_normal : (q : Position) (x : Tree) (r : List Token) → Derives x (many_to_end (ref (AType WithPlus))) r
    → is_word_inside (normal_in q (kept x)) ≡ is_word_inside x
unfolding table held passed
inside_normal q (Final (Node l w)) r d =
    subst (λ j. is_word_inside (normal_in q (kept (Final (Node j w)))) ≡ is_word_type w) (sym d.1.0)
    (type_normal Plain w r (subst (λ j. Derives w (table j) r) d.1.0 d.1.1))
inside_normal q (Final _) r d = absurd d.1
inside_normal q (More x m spacing y) r d = refl
inside_normal q End r d = refl
inside_normal q _ r d = absurd d

group_normal : (q : Position) (x : Tree) (r : List Token) → Derives x (table TupleType) r
    → is_word_group (normal_in q (kept x)) ≡ is_word_group x
unfolding table held passed
group_normal q (Group e y) r d = inside_normal q y [] d.1
group_normal q _ r d = absurd d

restriction_normal : (q : Position) (x : Tree) (r : List Token) → Derives x (table (AType WithPlus)) r
    → is_restriction (normal_in q (kept x)) ≡ is_restriction x
unfolding table held passed
restriction_normal q (First (Node l w)) r d =
    subst (λ j. is_restriction (normal_in q (kept (First (Node j w)))) ≡ is_word_group w) (sym d.1.0)
    (group_normal Plain w r (subst (λ j. Derives w (table j) r) d.1.0 d.1.1))
restriction_normal q (First _) r d = absurd d.1
restriction_normal q (Second y) r d = refl
restriction_normal q _ r d = absurd d

bare_normal : (q : Position) (x : Tree) (r : List Token) → Derives x (table Visibility) r
    → is_bare_pub (normal_in q (kept x)) ≡ is_bare_pub x
unfolding table held passed
bare_normal q (First (Pair c (First y))) r d = refl
bare_normal q (First (Pair c (Second y))) r d = refl
bare_normal q (First (Pair c _)) r d = absurd d.1.1
bare_normal q (First _) r d = absurd d.1
bare_normal q (Second y) r d = refl
bare_normal q _ r d = absurd d

pub clear_normal : (q : Position) (x : Tree) (r : List Token) → Derives x (table UnnamedField) r
    → has_clear_type (normal_in q (kept x)) ≡ has_clear_type x
unfolding table held passed
clear_normal q (Pair o (Pair (Node j v) (Pair (Node k t) e))) r d =
    subst (λ a. has_clear_type (normal_in q (kept (Pair o (Pair (Node a v) (Pair (Node k t) e)))))
    ≡ not (is_bare_pub v && is_restriction t)) (sym d.1.0.0)
    (subst (λ b. has_clear_type (normal_in q (kept (Pair o (Pair (Node Visibility v) (Pair (Node b t) e)))))
    ≡ not (is_bare_pub v && is_restriction t)) (sym d.1.1.0.0)
    (both_not (is_bare_pub (normal_in Plain (kept v))) (is_restriction (normal_in Plain (kept t))) (is_bare_pub v)
    (is_restriction t) (bare_normal Plain v (flat (Pair (Node k t) e) ++ r)
    (subst (λ i. Derives v (table i) (flat (Pair (Node k t) e) ++ r)) d.1.0.0 d.1.0.1))
    (restriction_normal Plain t (flat e ++ r)
    (subst (λ i. Derives t (table i) (flat e ++ r)) d.1.1.0.0 d.1.1.0.1))))
clear_normal q (Pair o (Pair (Node j v) (Pair _ e))) r d = absurd d.1.1.0
clear_normal q (Pair o (Pair (Node j v) _)) r d = absurd d.1.1
clear_normal q (Pair o (Pair _ y)) r d = absurd d.1.0
clear_normal q (Pair o _) r d = absurd d.1
clear_normal q _ r d = absurd d

-- and so does what is kept of what fits
segments_fits : (x : Tree) → Fits x (table (Segments AtType)) → is_word_segments (kept x) ≡ is_word_segments x
unfolding table held
segments_fits (First (Pair c (First y))) f = refl
segments_fits (First (Pair c (Second y))) f = refl
segments_fits (First (Pair c _)) f = absurd f.1.1
segments_fits (First _) f = absurd f.1
segments_fits (Second y) f = refl
segments_fits _ f = absurd f

path_fits : (x : Tree) → Fits x (table (Path AtType)) → is_word_path (kept x) ≡ is_word_path x
unfolding table held
path_fits (Pair (First c) y) f = refl
path_fits (Pair (Second c) (Node l w)) f =
    subst (λ j. is_word_path (kept (Pair (Second c) (Node j w))) ≡ is_word_segments w) (sym f.1.0)
    (segments_fits w (subst (λ j. Fits w (table j)) f.1.0 f.1.3))
path_fits (Pair (Second c) _) f = absurd f.1
path_fits (Pair _ y) f = absurd f.0
path_fits _ f = absurd f

any_fits : (x : Tree) → Fits x (table (AnyPath AtType)) → is_word_any (kept x) ≡ is_word_any x
unfolding table held
any_fits (First y) f = refl
any_fits (Second (Node l w)) f =
    subst (λ j. is_word_any (kept (Second (Node j w))) ≡ is_word_path w) (sym f.1.0)
    (path_fits w (subst (λ j. Fits w (table j)) f.1.0 f.1.3))
any_fits (Second _) f = absurd f.1
any_fits _ f = absurd f

type_fits : (x : Tree) → Fits x (table (AType WithPlus)) → is_word_type (kept x) ≡ is_word_type x
unfolding table held
type_fits (First y) f = refl
type_fits (Second (First y)) f = refl
type_fits (Second (Second (First y))) f = refl
type_fits (Second (Second (Second (First y)))) f = refl
type_fits (Second (Second (Second (Second (First y))))) f = refl
type_fits (Second (Second (Second (Second (Second (First y)))))) f = refl
type_fits (Second (Second (Second (Second (Second (Second (First y))))))) f = refl
type_fits (Second (Second (Second (Second (Second (Second (Second (First y)))))))) f = refl
type_fits (Second (Second (Second (Second (Second (Second (Second (Second (First y))))))))) f = refl
type_fits (Second (Second (Second (Second (Second (Second (Second (Second (Second (Node l w)))))))))) f =
    subst (λ j. is_word_type (kept (ninth (Node j w))) ≡ is_word_any w) (sym f.1.1.1.1.1.1.1.1.1.0)
    (any_fits w (subst (λ j. Fits w (table j)) f.1.1.1.1.1.1.1.1.1.0 f.1.1.1.1.1.1.1.1.1.3))
type_fits (Second (Second (Second (Second (Second (Second (Second (Second (Second _))))))))) f =
    absurd f.1.1.1.1.1.1.1.1.1
type_fits (Second (Second (Second (Second (Second (Second (Second (Second _)))))))) f = absurd f.1.1.1.1.1.1.1.1
type_fits (Second (Second (Second (Second (Second (Second (Second _))))))) f = absurd f.1.1.1.1.1.1.1
type_fits (Second (Second (Second (Second (Second (Second _)))))) f = absurd f.1.1.1.1.1.1
type_fits (Second (Second (Second (Second (Second _))))) f = absurd f.1.1.1.1.1
type_fits (Second (Second (Second (Second _)))) f = absurd f.1.1.1.1
type_fits (Second (Second (Second _))) f = absurd f.1.1.1
type_fits (Second (Second _)) f = absurd f.1.1
type_fits (Second _) f = absurd f.1
type_fits _ f = absurd f

inside_fits : (x : Tree) → Fits x (many_to_end (ref (AType WithPlus))) → is_word_inside (kept x) ≡ is_word_inside x
unfolding table held
inside_fits (Final (Node l w)) f =
    subst (λ j. is_word_inside (kept (Final (Node j w))) ≡ is_word_type w) (sym f.0)
    (type_fits w (subst (λ j. Fits w (table j)) f.0 f.3))
inside_fits (Final _) f = absurd f
inside_fits (More x m spacing y) f = refl
inside_fits End f = refl
inside_fits _ f = absurd f

group_fits : (x : Tree) → Fits x (table TupleType) → is_word_group (kept x) ≡ is_word_group x
unfolding table held
group_fits (Group e y) f = inside_fits y f.1
group_fits _ f = absurd f

restriction_fits : (x : Tree) → Fits x (table (AType WithPlus)) → is_restriction (kept x) ≡ is_restriction x
unfolding table held
restriction_fits (First (Node l w)) f =
    subst (λ j. is_restriction (kept (First (Node j w))) ≡ is_word_group w) (sym f.1.0)
    (group_fits w (subst (λ j. Fits w (table j)) f.1.0 f.1.3))
restriction_fits (First _) f = absurd f.1
restriction_fits (Second y) f = refl
restriction_fits _ f = absurd f

bare_fits : (x : Tree) → Fits x (table Visibility) → is_bare_pub (kept x) ≡ is_bare_pub x
unfolding table held
bare_fits (First (Pair c (First y))) f = refl
bare_fits (First (Pair c (Second y))) f = refl
bare_fits (First (Pair c _)) f = absurd f.1.1
bare_fits (First _) f = absurd f.1
bare_fits (Second y) f = refl
bare_fits _ f = absurd f

pub clear_fits : (x : Tree) → Fits x (table UnnamedField) → has_clear_type (kept x) ≡ has_clear_type x
unfolding table held
clear_fits (Pair o (Pair (Node j v) (Pair (Node k t) e))) f =
    subst (λ a. has_clear_type (kept (Pair o (Pair (Node a v) (Pair (Node k t) e))))
    ≡ not (is_bare_pub v && is_restriction t)) (sym f.1.0.0)
    (subst (λ b. has_clear_type (kept (Pair o (Pair (Node Visibility v) (Pair (Node b t) e))))
    ≡ not (is_bare_pub v && is_restriction t)) (sym f.1.1.0.0)
    (both_not (is_bare_pub (kept v)) (is_restriction (kept t)) (is_bare_pub v)
    (is_restriction t) (bare_fits v (subst (λ i. Fits v (table i)) f.1.0.0 f.1.0.3))
    (restriction_fits t (subst (λ i. Fits t (table i)) f.1.1.0.0 f.1.1.0.3))))
clear_fits (Pair o (Pair (Node j v) (Pair _ e))) f = absurd f.1.1.0
clear_fits (Pair o (Pair (Node j v) _)) f = absurd f.1.1
clear_fits (Pair o (Pair _ y)) f = absurd f.1.0
clear_fits (Pair o _) f = absurd f.1
clear_fits _ f = absurd f

-- the tokens of such a word
abbrev pub IsWord : List Token → Type 0
IsWord ts = (cs : List ℕ) × (ts ≡ Ident cs ∷ []) × (is_path_keyword cs ≡ true)

segments_word : (x : Tree) (r : List Token) → Derives x (table (Segments AtType)) r → is_word_segments x ≡ true
    → IsWord (flat x)
unfolding table
segments_word (First (Pair (AWord cs) (Second Nil))) r d e = (cs, refl, d.1.0)
segments_word (First (Pair (AWord cs) (Second _))) r d e = absurd d.1.1.1
segments_word (First (Pair (AWord cs) (First y))) r d e = absurd (false≢true e)
segments_word (First (Pair (AWord cs) _)) r d e = absurd d.1.1
segments_word (First (Pair _ y)) r d e = absurd d.1.0
segments_word (First _) r d e = absurd d.1
segments_word (Second y) r d e = absurd (false≢true e)
segments_word _ r d e = absurd d

path_word : (x : Tree) (r : List Token) → Derives x (table (Path AtType)) r → is_word_path x ≡ true → IsWord (flat x)
unfolding table
path_word (Pair (Second Nil) (Node k y)) r d e = segments_word y r (subst (λ j. Derives y (table j) r) d.1.0 d.1.1) e
path_word (Pair (Second Nil) _) r d e = absurd d.1
path_word (Pair (Second _) y) r d e = absurd d.0.1
path_word (Pair (First c) y) r d e = absurd (false≢true e)
path_word (Pair _ y) r d e = absurd d.0
path_word _ r d e = absurd d

any_word : (x : Tree) (r : List Token) → Derives x (table (AnyPath AtType)) r → is_word_any x ≡ true → IsWord (flat x)
unfolding table
any_word (Second (Node k y)) r d e = path_word y r (subst (λ j. Derives y (table j) r) d.1.0 d.1.1) e
any_word (Second _) r d e = absurd d.1
any_word (First y) r d e = absurd (false≢true e)
any_word _ r d e = absurd d

pub type_word : (x : Tree) (r : List Token) → Derives x (table (AType WithPlus)) r → is_word_type x ≡ true
    → IsWord (flat x)
unfolding table
type_word (Second (Second (Second (Second (Second (Second (Second (Second (Second (Node k y)))))))))) r d e =
    any_word y r (subst (λ j. Derives y (table j) r) d.1.1.1.1.1.1.1.1.1.0 d.1.1.1.1.1.1.1.1.1.1) e
type_word (First y) r d e = absurd (false≢true e)
type_word (Second (First y)) r d e = absurd (false≢true e)
type_word (Second (Second (First y))) r d e = absurd (false≢true e)
type_word (Second (Second (Second (First y)))) r d e = absurd (false≢true e)
type_word (Second (Second (Second (Second (First y))))) r d e = absurd (false≢true e)
type_word (Second (Second (Second (Second (Second (First y)))))) r d e = absurd (false≢true e)
type_word (Second (Second (Second (Second (Second (Second (First y))))))) r d e = absurd (false≢true e)
type_word (Second (Second (Second (Second (Second (Second (Second (First y)))))))) r d e = absurd (false≢true e)
type_word (Second (Second (Second (Second (Second (Second (Second (Second (First y))))))))) r d e = absurd
    (false≢true e)
type_word (Second (Second (Second (Second (Second (Second (Second (Second (Second _))))))))) r d e =
    absurd d.1.1.1.1.1.1.1.1.1
type_word (Second (Second (Second (Second (Second (Second (Second (Second _)))))))) r d e = absurd d.1.1.1.1.1.1.1.1
type_word (Second (Second (Second (Second (Second (Second (Second _))))))) r d e = absurd d.1.1.1.1.1.1.1
type_word (Second (Second (Second (Second (Second (Second _)))))) r d e = absurd d.1.1.1.1.1.1
type_word (Second (Second (Second (Second (Second _))))) r d e = absurd d.1.1.1.1.1
type_word (Second (Second (Second (Second _)))) r d e = absurd d.1.1.1.1
type_word (Second (Second (Second _))) r d e = absurd d.1.1.1
type_word (Second (Second _)) r d e = absurd d.1.1
type_word (Second _) r d e = absurd d.1
type_word _ r d e = absurd d

inside_word : (x : Tree) (r : List Token) → Derives x (many_to_end (ref (AType WithPlus))) r → is_word_inside x ≡ true
    → IsWord (flat x)
unfolding table
inside_word (Final (Node k y)) r d e = type_word y r (subst (λ j. Derives y (table j) r) d.1.0 d.1.1) e
inside_word (Final _) r d e = absurd d.1
inside_word (More x m spacing y) r d e = absurd (false≢true e)
inside_word End r d e = absurd (false≢true e)
inside_word _ r d e = absurd d

-- that is seen as a restriction
abbrev IsSeen : List Token → Type 0
IsSeen ts = (us : List Token) → sees (restricted or restricted_in) (ts ++ us) ≡ true

keyword_seen : (cs : List ℕ) (us : List Token) → is_path_keyword cs ≡ true
    → sees (restricted or restricted_in) (Opens Parenthesis ∷ Ident cs ∷ Closes Parenthesis ∷ us) ≡ true
unfolding is_path_keyword
keyword_seen cs us e =
    first_of (restricted ts) (restricted_in ts)
    (go (same_text (codes "self") cs) (same_text (codes "super") cs) (same_text (codes "crate") cs) e)
  where
    ts : List Token
    ts = Opens Parenthesis ∷ Ident cs ∷ Closes Parenthesis ∷ us

    go : (a b c : Bool) → (a || (b || (c || false))) ≡ true
        → seen (past (cond (c || (a || (b || false))) (Some (Closes Parenthesis ∷ us)) None) closes) ≡ true
    go true b true f = refl
    go true b false f = refl
    go false true true f = refl
    go false true false f = refl
    go false false true f = refl
    go false false false f = cc f

group_seen : (x : Tree) (r : List Token) → Derives x (table TupleType) r → is_word_group x ≡ true → IsSeen (flat x)
unfolding table
group_seen (Group d y) r g e us =
    let w = inside_word y [] g.1 e in
    subst (λ b. sees (restricted or restricted_in) ((Opens b ∷ flat y ++ Closes b ∷ []) ++ us) ≡ true) (sym g.0)
    (subst (λ ts. sees (restricted or restricted_in) ((Opens Parenthesis ∷ ts ++ Closes Parenthesis ∷ []) ++ us) ≡ true)
    (sym w.1) (keyword_seen w.0 us w.2))
group_seen _ r g e us = absurd g

type_seen : (x : Tree) (r : List Token) → Derives x (table (AType WithPlus)) r → is_restriction x ≡ true
    → IsSeen (flat x)
unfolding table
type_seen (First (Node k y)) r d e us =
    group_seen y r (subst (λ j. Derives y (table j) r) d.1.0 d.1.1) e us
type_seen (First _) r d e us = absurd d.1
type_seen (Second y) r d e us = absurd (false≢true e)
type_seen _ r d e us = absurd d

-- so what was read is none
unrestricted : (x : Tree) (r us : List Token) → Derives x (table (AType WithPlus)) r
    → Lacks (restricted or restricted_in) (flat x ++ us) → is_restriction x ≡ false
unrestricted x r us d n = go (is_restriction x) refl
  where
    go : (b : Bool) → is_restriction x ≡ b → b ≡ false
    go false e = refl
    go true e = absurd (false≢true (sym n ∙ type_seen x r d e us))

pub clear_read : (x : Tree) (r : List Token) → Derives x (table UnnamedField) r → has_clear_type x ≡ true
unfolding table
clear_read (Pair o (Pair (Node j v) (Pair (Node k t) e))) r d =
    go v (subst (λ i. Derives v (table i) (flat (Pair (Node k t) e) ++ r)) d.1.0.0 d.1.0.1)
  where
    go : (v : Tree) → Derives v (table Visibility) (flat (Pair (Node k t) e) ++ r)
        → not (is_bare_pub v && is_restriction t) ≡ true
    go (First (Pair c (Second Nil))) h =
        ap not (unrestricted t (flat e ++ r) (flat e ++ r)
        (subst (λ i. Derives t (table i) (flat e ++ r)) d.1.1.0.0 d.1.1.0.1)
        (ap (sees (restricted or restricted_in)) (sym (append_assoc (flat t) (flat e) r)) ∙ h.1.1.0))
    go (First (Pair c (Second _))) h = absurd h.1.1.1
    go (First (Pair c (First y))) h = refl
    go (First (Pair c _)) h = absurd h.1.1
    go (First _) h = absurd h.1
    go (Second y) h = refl
    go _ h = absurd h
clear_read (Pair o (Pair (Node j v) (Pair _ e))) r d = absurd d.1.1.0
clear_read (Pair o (Pair (Node j v) _)) r d = absurd d.1.1
clear_read (Pair o (Pair _ y)) r d = absurd d.1.0
clear_read (Pair o _) r d = absurd d.1
clear_read _ r d = absurd d
