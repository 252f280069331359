-- Where the form of an impl stands among the alternatives of an item.
use Rattle.std.proofs.Common.{◌≡◌, ℕ, List, [], ◌∷◌, ◌++◌, refl, sym, ap, ◌∙◌, subst, append_assoc}
use Rattle.std.specs.Prelude.{Bool, false, codes}
use Rattle.std.proofs.lemmas.Bool.{false≢true}
use Rattle.proc_macro2.specs.Token.{Token}
use Rattle.syn_grammar.specs.Kind.{AnImpl}
use Rattle.syn_grammar.specs.Table.{table}
use Rattle.syn_grammar.specs.Tree.{Tree, AWord, AMark, Nil, Pair, First, Second, Group, Called, Node, flat}
use Rattle.syn_grammar.specs.Derives.{Derives}
use Rattle.rust_leaf.specs.declared.punct.Spacing.{Spacing}
use Rattle.syn_grammar.specs.Kind.{TupleType}
use Rattle.syn_grammar.specs.Kind.{ImplGenerics, AType, WithPlus, Where, WhereClause}
use Rattle.syn_grammar.specs.Kind.{InnerAttributes, ImplItems}
use Rattle.syn_grammar.specs.Tree.{AMark, Verbatim, marks}
use Rattle.syn_grammar.specs.Look.{Look, seen, sees, behind, ◌then◌}
use Rattle.syn_grammar.specs.Look.{◌or◌, no, opens}
use Rattle.syn_grammar.specs.Look.{a_group, past_closing}
use Rattle.syn_grammar.specs.Items.{is_impl}
use Rattle.syn_grammar.specs.Say.{◌∶◌, ◌▸◌, optional, at, keyword, sign, marks as marks', in_braces, brace}
use Rattle.laws_items.proofs.Passed.{group_passed}
use Rattle.syn_grammar.specs.Part.{has}
use Rattle.proc_macro2.specs.declared.delimiter.Delimiter.TheVariants.{Brace, Parenthesis}
use Rattle.syn_grammar.specs.Gram.{Gram, seq, alt, called, group, nothing, ref}
use Rattle.syn_grammar.specs.Name.{Part, same_part, the_safety}
use Rattle.syn_grammar.specs.Name.{the_const, the_default, the_generics, the_polarity}
use Rattle.syn_grammar.specs.Name.{the_first, the_self, the_where}
use Rattle.proc_macro2.specs.declared.delimiter.Delimiter.{Delimiter}
use Rattle.laws_items.proofs.Places.{Place, Opt, there, missing, opt_of, word_is, none_then, kept_raw, two_more}
use Rattle.laws_items.proofs.Places.{eight}

-- an impl: behind it stand no words of a trait, where its type is in parentheses
abbrev trait_words : Look
trait_words = at "const" or at "unsafe" or at "auto" or at "trait"

brace_next : (d : Delimiter) (g : Gram) (x : Tree) (s r : List Token) → Derives x (group d g) s
    → sees trait_words (flat x ++ r) ≡ false
brace_next d g (Group e x) s r h = refl
brace_next d g _ s r h = absurd h

where_in : (x : Tree) (s r : List Token) → Derives x (table WhereClause) s → sees trait_words (flat x ++ r) ≡ false
unfolding table
where_in (Pair (AWord cs) z) s r h =
    subst (λ bs. sees trait_words (flat (Pair (AWord bs) z) ++ r) ≡ false) (word_is "where" cs h.0) refl
where_in (Pair _ z) s r h = absurd h.0
where_in _ s r h = absurd h

where_next : (x : Tree) (s r : List Token) → Derives x (table Where) s → sees trait_words r ≡ false
    → sees trait_words (flat x ++ r) ≡ false
unfolding table
where_next (First (Called n (Node k x))) s r h i = where_in x s r (subst (λ j. Derives x (table j) s) h.1.1.0 h.1.1.1)
where_next (First (Called n _)) s r h i = absurd h.1.1
where_next (First _) s r h i = absurd h.1
where_next (Second Nil) s r h i = i
where_next (Second _) s r h i = absurd h.1
where_next _ s r h i = absurd h

for_next : (t : List Token → Bool) (g : Gram) (x : Tree) (s r : List Token)
    → Derives x (alt t (seq (keyword "for") g) nothing) s → sees trait_words r ≡ false
    → sees trait_words (flat x ++ r) ≡ false
for_next t g (First (Pair (AWord cs) z)) s r h i =
    subst (λ bs. sees trait_words (flat (Pair (AWord bs) z) ++ r) ≡ false) (word_is "for" cs h.1.0) refl
for_next t g (First (Pair _ z)) s r h i = absurd h.1.0
for_next t g (First _) s r h i = absurd h.1
for_next t g (Second Nil) s r h i = i
for_next t g (Second _) s r h i = absurd h.1
for_next t g _ s r h i = absurd h

type_next : (x : Tree) (r : List Token) → Derives x (table (AType WithPlus)) r → sees trait_words r ≡ false
    → sees (a_group Parenthesis then trait_words) (flat x ++ r) ≡ false
unfolding table
type_next (First (Node k x)) r h i = not_group x (subst (λ j. Derives x (table j) r) h.1.0 h.1.1)
  where
    not_group : (x : Tree) → Derives x (table TupleType) r
        → sees (a_group Parenthesis then trait_words) (flat x ++ r) ≡ false
    not_group (Group e y) d =
        subst (λ b. sees (a_group Parenthesis then trait_words) (flat (Group b y) ++ r) ≡ false) (sym d.0)
        (ap (λ o. seen (behind o trait_words)) (group_passed Parenthesis y _ r d.1) ∙ i)
    not_group _ d = absurd d
type_next (First _) r h i = absurd h.1
type_next (Second x) r h i =
    none_then (a_group Parenthesis) trait_words (flat x ++ r)
    (none_then (opens Parenthesis) (past_closing 0) (flat x ++ r) h.0)
type_next _ r h i = absurd h

marks_next : (c : ℕ) (cs : List ℕ) (i : Spacing) (ts us : List Token)
    → sees (a_group Parenthesis then trait_words) ((marks c cs i ++ ts) ++ us) ≡ false
marks_next c [] i ts us = refl
marks_next c (d ∷ ds) i ts us = refl

generics_next : (g : Tree) (s ts : List Token) → Derives g (table ImplGenerics) s
    → sees (a_group Parenthesis then trait_words) ts ≡ false
    → sees (a_group Parenthesis then trait_words) (flat g ++ ts) ≡ false
unfolding table
generics_next (First (Pair (AMark c cs i) y)) s ts h e = marks_next c cs i (flat y) ts
generics_next (First (Pair _ y)) s ts h e = absurd h.1.0
generics_next (First _) s ts h e = absurd h.1
generics_next (Second Nil) s ts h e = e
generics_next (Second _) s ts h e = absurd h.1
generics_next _ s ts h e = absurd h

polarity_next : (t : List Token → Bool) (n : Part) (p : Tree) (s ts : List Token)
    → Derives p (alt t (called n (sign "!")) nothing) s → sees (a_group Parenthesis then trait_words) ts ≡ false
    → sees (a_group Parenthesis then trait_words) (flat p ++ ts) ≡ false
polarity_next t n (First (Called m (AMark c [] i))) s ts h e = refl
polarity_next t n (First (Called m (AMark c (d ∷ ds) i))) s ts h e = refl
polarity_next t n (First (Called m _)) s ts h e = absurd h.1.1
polarity_next t n (First _) s ts h e = absurd h.1
polarity_next t n (Second Nil) s ts h e = e
polarity_next t n (Second _) s ts h e = absurd h.1
polarity_next t n _ s ts h e = absurd h

-- what stands behind the word impl, part by part
abbrev members : Gram
members = ref InnerAttributes ▸ ref ImplItems

abbrev where_rest : Gram
where_rest = the_where ∶ ref Where ▸ in_braces members

abbrev self_type : Gram
self_type = the_self ∶ ref (AType WithPlus)

abbrev for_rest : Gram
for_rest = optional (at "for") (keyword "for" ▸ self_type) ▸ where_rest

abbrev type_rest : Gram
type_rest = the_first ∶ ref (AType WithPlus) ▸ for_rest

abbrev lone_bang : Look
lone_bang = marks' "!" then no brace

abbrev polarity_rest : Gram
polarity_rest = optional lone_bang (the_polarity ∶ sign "!") ▸ type_rest

abbrev impl_rest : Gram
impl_rest = the_generics ∶ ref ImplGenerics ▸ polarity_rest

where_first : (x : Tree) (r : List Token) → Derives x where_rest r → sees trait_words (flat x ++ r) ≡ false
where_first (Pair (Called n (Node k w)) b) r d =
    ap (sees trait_words) (append_assoc (flat w) (flat b) r)
    ∙ where_next w (flat b ++ r) (flat b ++ r) (subst (λ j. Derives w (table j) (flat b ++ r)) d.0.1.0 d.0.1.1)
    (brace_next Brace members b r r d.1)
where_first (Pair (Called n _) b) r d = absurd d.0.1
where_first (Pair _ b) r d = absurd d.0
where_first _ r d = absurd d

for_first : (x : Tree) (r : List Token) → Derives x for_rest r → sees trait_words (flat x ++ r) ≡ false
for_first (Pair f y) r d =
    ap (sees trait_words) (append_assoc (flat f) (flat y) r)
    ∙ for_next (sees (at "for")) self_type f (flat y ++ r) (flat y ++ r) d.0 (where_first y r d.1)
for_first _ r d = absurd d

type_first : (x : Tree) (r : List Token) → Derives x type_rest r
    → sees (a_group Parenthesis then trait_words) (flat x ++ r) ≡ false
type_first (Pair (Called n (Node k t)) y) r d =
    ap (sees (a_group Parenthesis then trait_words)) (append_assoc (flat t) (flat y) r)
    ∙ type_next t (flat y ++ r) (subst (λ j. Derives t (table j) (flat y ++ r)) d.0.1.0 d.0.1.1) (for_first y r d.1)
type_first (Pair (Called n _) y) r d = absurd d.0.1
type_first (Pair _ y) r d = absurd d.0
type_first _ r d = absurd d

polarity_first : (x : Tree) (r : List Token) → Derives x polarity_rest r
    → sees (a_group Parenthesis then trait_words) (flat x ++ r) ≡ false
polarity_first (Pair p y) r d =
    ap (sees (a_group Parenthesis then trait_words)) (append_assoc (flat p) (flat y) r)
    ∙ polarity_next (sees lone_bang) the_polarity p (flat y ++ r) (flat y ++ r) d.0 (type_first y r d.1)
polarity_first _ r d = absurd d

impl_next : (x : Tree) (r : List Token) → Derives x impl_rest r
    → sees (a_group Parenthesis then trait_words) (flat x ++ r) ≡ false
impl_next (Pair (Called n (Node k g)) y) r d =
    ap (sees (a_group Parenthesis then trait_words)) (append_assoc (flat g) (flat y) r)
    ∙ generics_next g (flat y ++ r) (flat y ++ r) (subst (λ j. Derives g (table j) (flat y ++ r)) d.0.1.0 d.0.1.1)
    (polarity_first y r d.1)
impl_next (Pair (Called n _) y) r d = absurd d.0.1
impl_next (Pair _ y) r d = absurd d.0
impl_next _ r d = absurd d

abbrev an_impl_of : Tree → Tree → Tree → Tree → Tree
an_impl_of o c s z = First (Pair o (Pair c (Pair s (Pair (AWord (codes "impl")) z))))

-- it has no const: else it is raw
impl_at : (o c s z : Tree) (r : List Token) → Opt the_default "default" o → Opt the_const "const" c
    → Opt the_safety "unsafe" s → has the_const (an_impl_of o c s z) ≡ false → Derives z impl_rest r
    → Derives (an_impl_of o c s z) (table AnImpl) r → Place AnImpl (an_impl_of o c s z) r
unfolding same_part
impl_at o c s z r there there u h e d = absurd (false≢true (sym h))
impl_at o c s z r missing there u h e d = absurd (false≢true (sym h))
impl_at o c s z r there missing there h e d = (
  eight (eight (two_more (Second (First (Node AnImpl (an_impl_of (First
      (Called the_default (AWord (codes "default")))) (Second Nil) (First (Called the_safety (AWord (codes "unsafe"))))
      z)))))),
  refl,
  (
    refl,
    (
      refl,
      (
        refl,
        (
          refl,
          (
            refl,
            (
              refl,
              (
                refl,
                (
                  refl,
                  (
                    refl,
                    (
                      refl,
                      (
                        refl,
                        (
                          refl,
                          (
                            refl,
                            (
                              refl,
                              (
                                refl,
                                (
                                  refl,
                                  (refl, (refl, (refl, (refl, (refl, d))))),
                                ),
                              ),
                            ),
                          ),
                        ),
                      ),
                    ),
                  ),
                ),
              ),
            ),
          ),
        ),
      ),
    ),
  ),
)
impl_at o c s z r there missing missing h e d = (
  eight (eight (two_more (Second (First (Node AnImpl (an_impl_of
      (First (Called the_default (AWord (codes "default")))) (Second Nil) (Second Nil) z)))))),
  refl,
  (
    refl,
    (
      refl,
      (
        refl,
        (
          refl,
          (
            refl,
            (
              refl,
              (
                refl,
                (
                  refl,
                  (
                    refl,
                    (
                      refl,
                      (
                        refl,
                        (
                          refl,
                          (
                            refl,
                            (
                              refl,
                              (
                                refl,
                                (
                                  refl,
                                  (refl, (refl, (refl, (refl, (refl, d))))),
                                ),
                              ),
                            ),
                          ),
                        ),
                      ),
                    ),
                  ),
                ),
              ),
            ),
          ),
        ),
      ),
    ),
  ),
)
impl_at o c s z r missing missing there h e d = (
  eight (two_more (First (Node AnImpl (an_impl_of (Second Nil) (Second
      Nil) (First (Called the_safety (AWord (codes "unsafe")))) z)))),
  refl,
  (refl, (refl, (refl, (refl, (refl, (refl, (refl, (refl, (refl, (refl, (refl, (refl, d)))))))))))),
)
impl_at o c s z r missing missing missing h e d = (
  eight (eight (two_more (Second (First (Node AnImpl (an_impl_of
      (Second Nil) (Second Nil) (Second Nil) z)))))),
  refl,
  (
    refl,
    (
      refl,
      (
        refl,
        (
          refl,
          (
            refl,
            (
              refl,
              (
                refl,
                (
                  refl,
                  (
                    refl,
                    (
                      refl,
                      (
                        refl,
                        (
                          refl,
                          (
                            refl,
                            (
                              refl,
                              (
                                refl,
                                (
                                  refl,
                                  (refl, (impl_next z r e, (refl, (refl, (refl, d))))),
                                ),
                              ),
                            ),
                          ),
                        ),
                      ),
                    ),
                  ),
                ),
              ),
            ),
          ),
        ),
      ),
    ),
  ),
)

pub place_impl : (x : Tree) (r : List Token) → has the_const x ≡ false → Derives x (table AnImpl) r → Place AnImpl x r
unfolding table
place_impl (First (Pair o (Pair c (Pair s (Pair (AWord cs) z))))) r h d =
    subst (λ bs. has the_const (First (Pair o (Pair c (Pair s (Pair (AWord bs) z))))) ≡ false
    → Derives (First (Pair o (Pair c (Pair s (Pair (AWord bs) z))))) (table AnImpl) r
    → Place AnImpl (First (Pair o (Pair c (Pair s (Pair (AWord bs) z))))) r)
    (word_is "impl" cs d.1.1.1.1.0)
    (λ i e. impl_at o c s z r (opt_of the_default "default" _ o _ d.1.0) (opt_of the_const "const" _ c _ d.1.1.0)
    (opt_of the_safety "unsafe" _ s _ d.1.1.1.0) i d.1.1.1.1.1 e) h d
place_impl (First (Pair o (Pair c (Pair s (Pair _ z))))) r h d = absurd d.1.1.1.1.0
place_impl (First (Pair o (Pair c (Pair s _)))) r h d = absurd d.1.1.1.1
place_impl (First (Pair o (Pair c _))) r h d = absurd d.1.1.1
place_impl (First (Pair o _)) r h d = absurd d.1.1
place_impl (First _) r h d = absurd d.1
place_impl (Verbatim x) r h d = absurd (kept_raw (is_impl x) d.0)
place_impl _ r h d = absurd d
