-- The step of an unnamed field: what stands in parentheses behind its pub is no restriction.
use Rattle.std.proofs.Common.{◌≡◌, ◌<◌, ℕ, List, [], ◌∷◌, ◌++◌, refl, sym, ap, ◌∙◌, subst, append_assoc, ⊎_elim, inl}
use Rattle.std.proofs.Common.{inr, arith}
use Rattle.std.specs.Prelude.{Bool, true, false, ◌⊎◌, ◌&&◌, ◌||◌, cond, length, not, codes, Option, Some, None}
use Rattle.std.proofs.lemmas.Slice.Eq.{bytes_eq-Decides}
use Rattle.std.proofs.lemmas.Bool.{false≢true}
use Rattle.proc_macro2.specs.Token.{Token, Ident, Opens, Closes, Punct}
use Rattle.proc_macro2.specs.declared.delimiter.Delimiter.TheVariants.{Bracket, Parenthesis}
use Rattle.rust_leaf.specs.declared.punct.Spacing.{Spacing}
use Rattle.syn_grammar.specs.Kind.{AnyPath, AtType, AType, Kind, OuterAttributes, Path, Segments, TupleType}
use Rattle.syn_grammar.specs.Kind.{UnnamedField, Visibility, WithPlus}
use Rattle.syn_grammar.specs.Tree.{Tree, AMark, AWord, Called, End, Final, More, Nil, Pair, First, Second, Group, Node}
use Rattle.syn_grammar.specs.Tree.{flat, marks as signs}
use Rattle.syn_grammar.specs.Gram.{Gram, nothing, ref}
use Rattle.syn_grammar.specs.Look.{Look, a_word, closes, one_of, seen, sees, behind as past, first_seen, the_word, ◌or◌}
use Rattle.syn_grammar.specs.Look.{◌then◌}
use Rattle.syn_grammar.specs.Words.{is_plain_name, is_path_keyword}
use Rattle.rust_leaf.specs.Keywords.{is_among, is_reserved, same_text}
use Rattle.syn_grammar.specs.Say.{◌▸◌, at, in_parentheses, many_to_end, marks, parenthesis, refused, when◌read◌else◌}
use Rattle.syn_grammar.specs.Items.{restricted, restricted_in, restriction}
use Rattle.syn_grammar.specs.Types.{bound_stands}
use Rattle.syn_grammar.specs.Paths.{arguments_stand, parentheses_stand}
use Rattle.syn_grammar.specs.Ranks.{skips}
use Rattle.syn_grammar.specs.Table.{table}
use Rattle.syn_grammar.specs.Derives.{Derives}
use Rattle.syn_grammar.proofs.Founded.{all_founded}
use Rattle.syn_grammar.proofs.Firm.{firm}
use Rattle.syn_grammar.proofs.Whole.{takes}
use Rattle.laws_reread_kinds.specs.After.{behind}
use Rattle.laws_reread_kinds.specs.Sees.{Lacks, LacksAll}
use Rattle.laws_reread_kinds.proofs.ClearFields.{type_word}
use Rattle.laws_reread_kinds.proofs.FieldTypes.{is_bare_pub, is_clear, is_restriction, is_word_any, is_word_group}
use Rattle.laws_reread_kinds.proofs.FieldTypes.{is_word_inside, is_word_path, is_word_segments, is_word_type}
use Rattle.laws_reread_kinds.proofs.Classes.{Class, ◌&◌, IsAmong, among_left, among_right, of_all, the_words}
use Rattle.laws_reread_kinds.proofs.HandSteps.{in_seen, restriction_seen, whose, whose_seen}
use Rattle.laws_reread_kinds.proofs.Starts.{starts}
use Rattle.laws_reread_kinds.proofs.Seconds.{either_seen, group_is_none, keywords, mark_is_none}
use Rattle.laws_reread_kinds.proofs.Sights.{ident_not}
use Rattle.laws_reread_kinds.proofs.Keywords.{reserved_pub}
use Rattle.laws_reread_kinds.proofs.Fits.{Fits, IsMeant}
use Rattle.laws_reread_kinds.proofs.Readies.{Ready, Step}
use Rattle.laws_reread_kinds.proofs.Fine.{Fine, Edge, At, AtOrNone, Without, fine_seq, words_are}
use Rattle.laws_reread_kinds.proofs.Parts.{Found, at_back, at_front, found_before, found_never, found_optional}
use Rattle.laws_reread_kinds.proofs.Parts.{found_ref, maybe_ref, meant_step, unseen_all, weaken_maybe}

abbrev pub a_restriction : Look
a_restriction = restricted or restricted_in

-- where no parenthesis stands there is none
none_restricted : (o : Option (List Token)) (l m : Look) → seen o ≡ false → seen (first_seen (past o l) (past o m)) ≡
    false
none_restricted None l m e = refl
none_restricted (Some us) l m e = cc

no_restriction : (ts : List Token) → Lacks parenthesis ts → Lacks a_restriction ts
no_restriction ts e = none_restricted (parenthesis ts) _ _ e

-- a mark stands first
abbrev is_marked : List Token → Bool
is_marked (Punct c spacing ∷ ts) = true
is_marked _ = false

abbrev next : List Token → List Token
next (t ∷ ts) = ts
next [] = []

-- behind the parenthesis
abbrev pub within : Look
within = (one_of whose then closes) or at "in"

abbrev keys : List (List ℕ)
keys = codes "crate" ∷ codes "self" ∷ codes "super" ∷ codes "in" ∷ []

abbrev is_key : List ℕ → Bool
is_key cs = is_among keys cs

-- no word of it stands there
none_first : (a b c d : Bool) (us : List Token)
    → seen (cond (a || (b || (c || (d || false)))) (Some us) None) ≡ false
    → seen (first_seen (past (cond (a || (b || (c || false))) (Some us) None) closes) (cond d (Some us) None)) ≡ false
none_first false false false false us e = refl
none_first false false false true us e = cc e
none_first false false true d us e = cc e
none_first false true c d us e = cc e
none_first true b c d us e = cc e

no_key : (ts : List Token) → Lacks (a_word is_key) ts → Lacks within ts
no_key (Ident cs ∷ us) e =
    none_first (same_text (codes "crate") cs) (same_text (codes "self") cs) (same_text (codes "super") cs)
    (same_text (codes "in") cs) us e
no_key _ e = refl

-- a word's test looks at no more than the first token
other_rest : (p : List ℕ → Bool) (ts us vs : List Token) → 0 < length ts → Lacks (a_word p) (ts ++ us)
    → Lacks (a_word p) (ts ++ vs)
other_rest p [] us vs l e = absurd (omega (arith, l))
other_rest p (Ident cs ∷ ts) us vs l e = go (p cs) e
  where
    go : (b : Bool) → seen (cond b (Some (ts ++ us)) None) ≡ false → seen (cond b (Some (ts ++ vs)) None) ≡ false
    go false f = refl
    go true f = cc f
other_rest p (t ∷ ts) us vs l e = refl

-- where another word stands
word_none : (w : List ℕ) (ts : List Token) → is_key w ≡ false → sees (the_word w) ts ≡ true → Lacks (a_word is_key) ts
word_none w (Ident cs ∷ us) n e = go (same_text w cs) refl
  where
    go : (b : Bool) → same_text w cs ≡ b → seen (cond (is_key cs) (Some us) None) ≡ false
    go true f =
        ap (λ b. seen (cond b (Some us) None)) (ap is_key (sym ((bytes_eq-Decides w cs).0 f)) ∙ n)
    go false f = absurd (false≢true (sym (ap (λ b. seen (cond b (Some us) None)) f) ∙ e))
word_none w _ n e = refl

pointer_none : (ts : List Token) → sees (at "for" or at "unsafe" or at "extern" or at "fn") ts ≡ true
    → Lacks (a_word is_key) ts
pointer_none ts e =
    ⊎_elim (word_none (codes "for") ts refl)
    (λ f. ⊎_elim (word_none (codes "unsafe") ts refl)
    (λ g. ⊎_elim (word_none (codes "extern") ts refl) (word_none (codes "fn") ts refl)
    (either_seen ((at "extern") ts) ((at "fn") ts) g))
    (either_seen ((at "unsafe") ts) ((at "extern" or at "fn") ts) f))
    (either_seen ((at "for") ts) ((at "unsafe" or at "extern" or at "fn") ts) e)

-- a name is none
abbrev is_name_front : List Token → Bool
is_name_front (Ident ds ∷ ts) = is_plain_name ds
is_name_front _ = false

name_none : (cs : List ℕ) (us : List Token) → is_plain_name cs ≡ true → Lacks (a_word is_key) (Ident cs ∷ us)
unfolding is_plain_name is_reserved
name_none cs us e = go (is_key cs) refl
  where
    go : (b : Bool) → is_key cs ≡ b → seen (cond b (Some us) None) ≡ false
    go false f = refl
    go true f =
        absurd (of_all (λ ts. is_name_front ts ≡ true → ⊥) (the_words keys) (Ident cs ∷ us)
        (λ vs g. false≢true g, (λ vs g. false≢true g, (λ vs g. false≢true g, (λ vs g. false≢true g, tt))))
        (words_are keys cs us f) e)

-- self, super and crate behind which a mark stands
marked_none : (cs : List ℕ) (us : List Token) → is_path_keyword cs ≡ true → is_marked us ≡ true
    → Lacks within (Ident cs ∷ us)
unfolding is_path_keyword
marked_none cs us e m =
    of_all (λ ts. is_marked (next ts) ≡ true → Lacks within ts) (the_words keywords) (Ident cs ∷ us)
    (none_closed, (none_closed, (none_closed, tt))) (words_are keywords cs us e) m
  where
    none_closed : (vs : List Token) → is_marked vs ≡ true → seen (first_seen (closes vs) None) ≡ false
    none_closed (Punct c spacing ∷ vs) m = refl
    none_closed _ m = absurd (false≢true m)

signs_marked : (c : ℕ) (cs : List ℕ) (spacing : Spacing) (us vs : List Token)
    → is_marked ((signs c cs spacing ++ us) ++ vs) ≡ true
signs_marked c [] spacing us vs = refl
signs_marked c (d ∷ ds) spacing us vs = refl

marks_none : (c : ℕ) (cs : List ℕ) (spacing : Spacing) (us vs : List Token)
    → Lacks within ((signs c cs spacing ++ us) ++ vs)
marks_none c [] spacing us vs = refl
marks_none c (d ∷ ds) spacing us vs = refl

-- A type that is no such word alone begins none, whatever follows it.
segments_none : (x : Tree) (r vs : List Token) → Derives x (table (Segments AtType)) r → is_word_segments x ≡ false
    → Lacks within (flat x ++ vs)
unfolding table
segments_none (First (Pair (AWord cs) (First (Pair (AMark c ds spacing) y)))) r vs d e =
    marked_none cs ((signs c ds spacing ++ flat y) ++ vs) d.1.0 (signs_marked c ds spacing (flat y) vs)
segments_none (First (Pair (AWord cs) (First (Pair _ y)))) r vs d e = absurd d.1.1.1.0
segments_none (First (Pair (AWord cs) (First _))) r vs d e = absurd d.1.1.1
segments_none (First (Pair (AWord cs) (Second y))) r vs d e = absurd (false≢true (sym e))
segments_none (First (Pair (AWord cs) _)) r vs d e = absurd d.1.1
segments_none (First (Pair _ y)) r vs d e = absurd d.1.0
segments_none (First _) r vs d e = absurd d.1
segments_none (Second (Pair (AWord cs) y)) r vs d e =
    no_key (Ident cs ∷ flat y ++ vs) (name_none cs (flat y ++ vs) d.1.0)
segments_none (Second (Pair _ y)) r vs d e = absurd d.1.0
segments_none (Second _) r vs d e = absurd d.1
segments_none _ r vs d e = absurd d

path_none : (x : Tree) (r vs : List Token) → Derives x (table (Path AtType)) r → is_word_path x ≡ false
    → Lacks within (flat x ++ vs)
unfolding table
path_none (Pair (First (AMark c cs spacing)) y) r vs d e = marks_none c cs spacing (flat y) vs
path_none (Pair (First _) y) r vs d e = absurd d.0.1
path_none (Pair (Second Nil) (Node k y)) r vs d e =
    segments_none y r vs (subst (λ j. Derives y (table j) r) d.1.0 d.1.1) e
path_none (Pair (Second Nil) _) r vs d e = absurd d.1
path_none (Pair (Second _) y) r vs d e = absurd d.0.1
path_none (Pair _ y) r vs d e = absurd d.0
path_none _ r vs d e = absurd d

some_tokens : (k : Kind) (x : Tree) (r : List Token) → skips k ≡ false → Derives x (table k) r → 0 < length (flat x)
some_tokens k x r e d = takes all_founded firm (Node k x) (ref k) r (refl, d) e

any_none : (x : Tree) (r vs : List Token) → Derives x (table (AnyPath AtType)) r → is_word_any x ≡ false
    → Lacks within (flat x ++ vs)
unfolding table skips
any_none (First y) r vs d e =
    no_key (flat y ++ vs) (other_rest is_key (flat y) r vs (some_tokens (AnyPath AtType) (First y) r refl d)
    (mark_is_none is_key 60 [] (flat y ++ r) d.0))
any_none (Second (Node k y)) r vs d e = path_none y r vs (subst (λ j. Derives y (table j) r) d.1.0 d.1.1) e
any_none (Second _) r vs d e = absurd d.1
any_none _ r vs d e = absurd d

type_none : (x : Tree) (r vs : List Token) → Derives x (table (AType WithPlus)) r → is_word_type x ≡ false
    → Lacks within (flat x ++ vs)
unfolding table skips
type_none x r vs d e = go x d e
  where
    by_first : (x : Tree) → Derives x (table (AType WithPlus)) r → Lacks (a_word is_key) (flat x ++ r)
        → Lacks within (flat x ++ vs)
    by_first x d n =
        no_key (flat x ++ vs) (other_rest is_key (flat x) r vs (some_tokens (AType WithPlus) x r refl d) n)

    go : (x : Tree) → Derives x (table (AType WithPlus)) r → is_word_type x ≡ false → Lacks within (flat x ++ vs)
    go (First y) d e =
        by_first (First y) d (group_is_none is_key Parenthesis (flat y ++ r) d.0)
    go (Second (First y)) d e =
        by_first (Second (First y)) d (mark_is_none is_key 33 [] (flat y ++ r) d.1.0)
    go (Second (Second (First y))) d e =
        by_first (Second (Second (First y))) d (mark_is_none is_key 38 [] (flat y ++ r) d.1.1.0)
    go (Second (Second (Second (First y)))) d e =
        by_first (Second (Second (Second (First y)))) d (mark_is_none is_key 42 [] (flat y ++ r) d.1.1.1.0)
    go (Second (Second (Second (Second (First y))))) d e =
        by_first (Second (Second (Second (Second (First y))))) d
        (group_is_none is_key Bracket (flat y ++ r) d.1.1.1.1.0)
    go (Second (Second (Second (Second (Second (First y)))))) d e =
        by_first (Second (Second (Second (Second (Second (First y)))))) d
        (word_none (codes "_") (flat y ++ r) refl d.1.1.1.1.1.0)
    go (Second (Second (Second (Second (Second (Second (First y))))))) d e =
        by_first (Second (Second (Second (Second (Second (Second (First y))))))) d
        (word_none (codes "dyn") (flat y ++ r) refl d.1.1.1.1.1.1.0)
    go (Second (Second (Second (Second (Second (Second (Second (First y)))))))) d e =
        by_first (Second (Second (Second (Second (Second (Second (Second (First y)))))))) d
        (word_none (codes "impl") (flat y ++ r) refl d.1.1.1.1.1.1.1.0)
    go (Second (Second (Second (Second (Second (Second (Second (Second (First y))))))))) d e =
        by_first (Second (Second (Second (Second (Second (Second (Second (Second (First y))))))))) d
        (pointer_none (flat y ++ r) d.1.1.1.1.1.1.1.1.0)
    go (Second (Second (Second (Second (Second (Second (Second (Second (Second (Node k y)))))))))) d e =
        any_none y r vs (subst (λ j. Derives y (table j) r) d.1.1.1.1.1.1.1.1.1.0 d.1.1.1.1.1.1.1.1.1.1) e
    go (Second (Second (Second (Second (Second (Second (Second (Second (Second _))))))))) d e =
        absurd d.1.1.1.1.1.1.1.1.1
    go (Second (Second (Second (Second (Second (Second (Second (Second _)))))))) d e = absurd d.1.1.1.1.1.1.1.1
    go (Second (Second (Second (Second (Second (Second (Second _))))))) d e = absurd d.1.1.1.1.1.1.1
    go (Second (Second (Second (Second (Second (Second _)))))) d e = absurd d.1.1.1.1.1.1
    go (Second (Second (Second (Second (Second _))))) d e = absurd d.1.1.1.1.1
    go (Second (Second (Second (Second _)))) d e = absurd d.1.1.1.1
    go (Second (Second (Second _))) d e = absurd d.1.1.1
    go (Second (Second _)) d e = absurd d.1.1
    go (Second _) d e = absurd d.1
    go _ d e = absurd d

inside_none : (x : Tree) (us : List Token) → Derives x (many_to_end (ref (AType WithPlus))) []
    → is_word_inside x ≡ false → Lacks within (flat x ++ Closes Parenthesis ∷ us)
inside_none (Final (Node k y)) us d e =
    type_none y [] (Closes Parenthesis ∷ us) (subst (λ j. Derives y (table j) []) d.1.0 d.1.1) e
inside_none (Final _) us d e = absurd d.1
inside_none (More (Node k y) m spacing z) us d e =
    subst (Lacks within) (sym (append_assoc (flat y) (Punct m spacing ∷ flat z) (Closes Parenthesis ∷ us)))
    (go (is_word_type y) refl)
  where
    ts : List Token
    ts = Punct m spacing ∷ flat z ++ []

    vs : List Token
    vs = Punct m spacing ∷ flat z ++ Closes Parenthesis ∷ us

    g : Derives y (table (AType WithPlus)) ts
    g = subst (λ j. Derives y (table j) ts) d.2.0 d.2.1

    go : (b : Bool) → is_word_type y ≡ b → Lacks within (flat y ++ vs)
    go false f = type_none y ts vs g f
    go true f =
        let w = type_word y ts g f in
        subst (λ ws. Lacks within (ws ++ vs)) (sym w.1) (marked_none w.0 vs w.2 refl)
inside_none (More _ m spacing z) us d e = absurd d.2
inside_none End us d e = refl
inside_none _ us d e = absurd d

group_none : (x : Tree) (s : List Token) → Derives x (table TupleType) s → is_word_group x ≡ false
    → Lacks a_restriction (flat x ++ s)
unfolding table
group_none (Group d y) s g e =
    subst (λ b. Lacks a_restriction ((Opens b ∷ flat y ++ Closes b ∷ []) ++ s)) (sym g.0)
    (subst (Lacks within) (sym (append_assoc (flat y) (Closes Parenthesis ∷ []) s)) (inside_none y s g.1 e))
group_none _ s g e = absurd g

type_in : (x : Tree) (s : List Token) → Derives x (table (AType WithPlus)) s → is_restriction x ≡ false
    → Lacks a_restriction (flat x ++ s)
unfolding table
type_in (Second x) s d e = no_restriction (flat x ++ s) d.0
type_in (First (Node k x)) s d e = group_none x s (subst (λ j. Derives x (table j) s) d.1.0 d.1.1) e
type_in (First _) s d e = absurd d.1
type_in _ s d e = absurd d

abbrev is_restricting : Tree → Bool
is_restricting (Node k t) = is_restriction t
is_restricting _ = false

type_clear : (x : Tree) (s : List Token) → Derives x (ref (AType WithPlus)) s → is_restricting x ≡ false
    → Lacks a_restriction (flat x ++ s)
type_clear (Node k x) s d e = type_in x s (subst (λ j. Derives x (table j) s) d.0 d.1) e
type_clear _ s d e = absurd d

-- the type, and the end
abbrev pub type_end : Gram
type_end = ref (AType WithPlus) ▸ (when marks "=" read refused else nothing)

found_type_end : Found type_end (behind UnnamedField) (starts (AType WithPlus))
unfolding skips
found_type_end = (found_before (found_ref (AType WithPlus) refl)
    (weaken_maybe ((marks "=") ∷ (marks "::") ∷ (arguments_stand AtType) ∷ (parentheses_stand AtType) ∷ (marks "->")
    ∷ bound_stands ∷ (marks "+") ∷ []) (found_optional (marks "=") (found_never {ls = []}) tt) (λ s a. (a.0, tt)))
    (tt, (tt, (tt, (tt, (tt, (tt, tt))))))
    (λ s a. (a.1.0, (a.1.1.0, (a.1.1.1.0, (a.1.1.1.1.0, (a.1.1.1.1.1.0, (a.1.1.1.1.1.1.0, tt))))))))

abbrev begins_restricting : Tree → Bool
begins_restricting (Pair t e) = is_restricting t
begins_restricting _ = false

abbrev pub TypeEdge : Edge
TypeEdge y s =
    IsAmong (starts (AType WithPlus)) (flat y ++ s)
    × (begins_restricting y ≡ false → Lacks a_restriction (flat y ++ s))

fine_typed : Fine type_end (Without (behind UnnamedField)) TypeEdge
fine_typed = record { by = go }
  where
    go : (x : Tree) (s : List Token) → Fits x type_end → Ready x → LacksAll (behind UnnamedField) s
        → Derives x type_end s × TypeEdge x s
    go (Pair t e) s f w a =
        let (d, i) = found_type_end.fine.by (Pair t e) s f w a in (
          d,
          (
            i,
            λ h. subst (Lacks a_restriction) (sym (append_assoc (flat t) (flat e) s))
                (type_clear t (flat e ++ s) d.0 h),
          ),
        )
    go _ s f w a = absurd f

-- the visibility: no pub alone, or what follows is no restriction
abbrev is_bare : Tree → Bool
is_bare (Node k v) = is_bare_pub v
is_bare _ = false

abbrev pub VisibilityEdge : Edge
VisibilityEdge v us = Lacks (at "pub") us × ((is_bare v ≡ false) ⊎ Lacks a_restriction us)

-- with a restriction of its own it is read before all
group_again : (g : Gram) (x : Tree) (us : List Token) → Derives x (in_parentheses g) []
    → Derives x (in_parentheses g) us
group_again g (Group d x) us h = h
group_again g _ us h = absurd h

restriction_again : (x : Tree) (us : List Token) → Fits x restriction → Derives x restriction []
    → Derives x restriction us
restriction_again (First x) us f d = (in_seen x us f.1, group_again _ x us d.1)
restriction_again (Second x) us f d = ((whose_seen x us f.1).0, group_again _ x us d.1)
restriction_again _ us f d = absurd f

unbare_in : (z c : Tree) (us : List Token) → Fits (First (Pair c z)) (table Visibility)
    → is_bare_pub (First (Pair c z)) ≡ false → Lacks (at "pub") us → Derives (First (Pair c z)) (table Visibility) []
    → Derives (First (Pair c z)) (table Visibility) us × AtOrNone (starts Visibility) (First (Pair c z)) us
unfolding table
unbare_in (First z) (Called n (AWord cs)) us f h p d = (
  (
    ap (λ b. seen (cond b (Some (flat z ++ us)) None)) f.1.0.1,
    (f.1.0, (restriction_seen z us f.1.1.1, restriction_again z us f.1.1.1 d.1.1.1)),
  ),
  inr (words_are (codes "pub" ∷ []) cs (flat z ++ us) (ap (λ b. b || false) f.1.0.1)),
)
unbare_in (First z) (Called n _) us f h p d = absurd f.1.0.1
unbare_in (First z) _ us f h p d = absurd f.1.0
unbare_in (Second z) c us f h p d = absurd (false≢true (sym h))
unbare_in _ c us f h p d = absurd f.1.1

unbare : (v : Tree) (us : List Token) → Fits v (table Visibility) → is_bare_pub v ≡ false → Lacks (at "pub") us
    → Derives v (table Visibility) [] → Derives v (table Visibility) us × AtOrNone (starts Visibility) v us
unfolding table
unbare (First (Pair c z)) us f h p d = unbare_in z c us f h p d
unbare (First _) us f h p d = absurd f.1
unbare (Second Nil) us f h p d = ((p, tt), inl refl)
unbare (Second _) us f h p d = absurd f.1
unbare _ us f h p d = absurd f

fine_visibility : Fine (ref Visibility) VisibilityEdge (AtOrNone (starts Visibility))
unfolding skips
fine_visibility = record { by = go }
  where
    go : (x : Tree) (s : List Token) → Fits x (ref Visibility) → Ready x → VisibilityEdge x s
        → Derives x (ref Visibility) s × AtOrNone (starts Visibility) x s
    go (Node k v) s f w a =
        ⊎_elim
        (λ h. let d = ((maybe_ref Visibility refl).fine.by (Node k v) [] f w (refl, (refl, tt))).0 in
        let (e, i) = unbare v s (subst (λ j. Fits v (table j)) f.0 f.3) h a.0
        (subst (λ j. Derives v (table j) []) d.0 d.1) in
        ((f.0, subst (λ j. Derives v (table j) s) (sym f.0) e), i))
        (λ r. (maybe_ref Visibility refl).fine.by (Node k v) s f w (a.0, (r, tt))) a.1
    go _ s f w a = absurd f

clear_or : (a b : Bool) → not (a && b) ≡ true → (a ≡ false) ⊎ (b ≡ false)
clear_or false b e = inl refl
clear_or true false e = inr refl
clear_or true true e = cc

abbrev pub classes : List Class
classes = starts Visibility ++ starts (AType WithPlus)

abbrev pub FieldEdge : Edge
FieldEdge y s = LacksAll (behind UnnamedField) s × (is_clear y ≡ true)

-- of the visibility and what stands behind it
either_clear : (v y : Tree) → is_clear (Pair v y) ≡ true → (is_bare v ≡ false) ⊎ (begins_restricting y ≡ false)
either_clear (Node j v) (Pair (Node k t) e) h = clear_or (is_bare_pub v) (is_restriction t) h
either_clear (Node j v) (Pair _ e) h = inr refl
either_clear (Node j v) _ h = inr refl
either_clear v y h = inl refl

fine_field : Fine (ref Visibility ▸ type_end) FieldEdge (At classes)
fine_field =
    fine_seq FieldEdge (At classes) fine_visibility fine_typed (λ x y s c. c.0)
    (λ x y s i c. (
      (unseen_all (at "pub" ∷ []) (starts (AType WithPlus)) (flat y ++ s) (
        ((λ us. refl) & (λ us. refl) & (λ us. refl) & (λ us. refl) & (λ us. refl) & (λ us. refl) & (λ us. refl) &
            (λ us. refl) & (λ us. refl) & (λ us. refl) & (λ us. refl) & (λ us. refl) & (λ us. refl) & (λ us. refl) &
            (λ us. refl) & (λ us. refl) & (λ cs h us. refl) & (λ us. refl) & (λ us. refl) & (λ us. refl) &
            (λ us. refl) &
            (λ cs h us. simp (ident_not (codes "pub") cs reserved_pub h) refl) & (λ us. refl) & tt),
        tt,
      ) i.0).0,
      ⊎_elim (λ e. inl e) (λ e. inr (i.1 e)) (either_clear x y c.1),
    ))
    (λ x y s j i c. ⊎_elim
    (λ e. at_back classes x y s e (among_right (starts Visibility) (starts (AType WithPlus)) (flat y ++ s) i.0))
    (λ k. at_front classes x y s
    (among_left (starts Visibility) (starts (AType WithPlus)) (flat x ++ (flat y ++ s)) k)) j)

pub step_unnamed_field : Step UnnamedField
unfolding table skips
step_unnamed_field =
    meant_step UnnamedField refl refl
    (fine_seq (λ x s. LacksAll (behind UnnamedField) s × IsMeant UnnamedField x) (At (starts UnnamedField))
    (maybe_ref OuterAttributes refl).fine fine_field (λ x y s c. c)
    (λ x y s i c. unseen_all (marks "#" ∷ []) classes (flat y ++ s) ((search), tt) i)
    (λ x y s j i c. ⊎_elim
    (λ e. at_back (starts UnnamedField) x y s e (among_right (starts OuterAttributes) classes (flat y ++ s) i))
    (λ k. at_front (starts UnnamedField) x y s
    (among_left (starts OuterAttributes) classes (flat x ++ (flat y ++ s)) k)) j))
