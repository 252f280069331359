-- A type that ends in a name takes the arguments that follow it: before a < that begins no <= no type does.
use Rattle.std.proofs.Common.{◌≡◌, ℕ, zero, suc, ◌+◌, ◌≤◌, List, [], ◌∷◌, ◌++◌, refl, sym, ap, ◌∙◌, subst}
use Rattle.std.proofs.Common.{append_assoc, inl, inr, arith}
use Rattle.std.specs.Prelude.{Bool, true, false, not, ◌&&◌, ◌⊎◌, Option, Some, None}
use Rattle.std.proofs.lemmas.List.{append-nil}
use Rattle.proc_macro2.specs.Token.{Token, Opens, Closes, Ident, Punct}
use Rattle.proc_macro2.specs.declared.delimiter.Delimiter.{Delimiter}
use Rattle.rust_leaf.specs.declared.punct.Spacing.TheVariants.{Alone as Apart, Joint}
use Rattle.syn_grammar.specs.Kind.{Kind, Position, Plain, AtType, WithoutPlus, Path, Segments, QualifiedPath}
use Rattle.syn_grammar.specs.Kind.{AnyPath, Arguments, ParenthesizedArguments, AType, TupleType, NeverType}
use Rattle.syn_grammar.specs.Kind.{ReferenceType, PointerType, BracketType, InferType, DynType, ImplType, FnPtrType}
use Rattle.syn_grammar.specs.Kind.{ReturnType, Bound, TraitPath, ExprCast}
use Rattle.syn_grammar.specs.Name.{Part, the_arguments}
use Rattle.syn_grammar.specs.Part.{changed}
use Rattle.syn_grammar.specs.Tidy.{lifetimes_first, is_lifetime_argument}
use Rattle.syn_grammar.specs.Expressions.{postfix_stands}
use Rattle.syn_grammar.specs.Words.{is_name, is_path_keyword}
use Rattle.rust_leaf.specs.Keywords.{is_reserved, same_text}
use Rattle.syn_grammar.specs.Tree.{Tree, AWord, AMark, Nil, Pair, First, Second, Group, Called, Node, marks, flat}
use Rattle.syn_grammar.specs.Gram.{Gram, word, mark, nothing, never, seq, alt, group, called, ref}
use Rattle.syn_grammar.specs.Look.{seen, sees, first_seen, a_lifetime}
use Rattle.syn_grammar.specs.Paths.{arguments_stand, turbofish}
use Rattle.syn_grammar.specs.Table.{table}
use Rattle.syn_grammar.specs.Derives.{Derives}
use Rattle.syn_grammar.specs.Kept.{listed_bound, kept, held}
use Rattle.syn_grammar.specs.Normal.{place_of, passed, normal_in, normal}
use Rattle.syn_grammar.specs.Parens.{ends_in_name}
use Rattle.laws_binding.proofs.Leads.{is_nil}
use Rattle.laws_binding.proofs.Turns.{lone_less}
use Rattle.laws_binding.proofs.Sights.{both}
use Rattle.std.specs.Prelude.{codes}
use Rattle.std.proofs.lemmas.Slice.Eq.{bytes_eq-Decides}

-- only the last token counts
end_skip : (xs : List Token) (t : Token) (ts : List Token) → ends_in_name (xs ++ t ∷ ts) ≡ ends_in_name (t ∷ ts)
end_skip [] t ts = refl
end_skip (Ident cs ∷ []) t ts = refl
end_skip (_ ∷ []) t ts = refl
end_skip (Ident cs ∷ x ∷ xs) t ts = end_skip (x ∷ xs) t ts
end_skip (_ ∷ x ∷ xs) t ts = end_skip (x ∷ xs) t ts

-- the tokens don't end in a name, whatever stands before them
record NoName (ts : List Token) : Type 0 where
  at : (xs : List Token) → ends_in_name (xs ++ ts) ≡ false

one_no : (t : Token) → ends_in_name (t ∷ []) ≡ false → NoName (t ∷ [])
one_no t e = record { at = λ xs. end_skip xs t [] ∙ e }

behind : (us ts : List Token) → NoName ts → NoName (us ++ ts)
behind us ts n = record { at = λ xs. ap ends_in_name (sym (append_assoc xs us ts)) ∙ n.at (xs ++ us) }

marks_no : (c : ℕ) (cs : List ℕ) → NoName (marks c cs Apart)
marks_no c [] = one_no (Punct c Apart) refl
marks_no c (d ∷ ds) = behind (Punct c Joint ∷ []) (marks d ds Apart) (marks_no d ds)

-- what an entry reads doesn't end in a name, whatever follows
record Closed (g : Gram) : Type 0 where
  at : (q : Position) (y : Tree) (r : List Token) → Derives y g r → NoName (flat (normal_in q (kept y)))

mark_closed : {c : ℕ} {cs : List ℕ} → Closed (mark c cs)
mark_closed {c} {cs} = record { at = go }
  where
    go : (q : Position) (y : Tree) (r : List Token) → Derives y (mark c cs) r → NoName (flat (normal_in q (kept y)))
    go q (AMark b bs i) r d = marks_no b bs
    go q _ r d = elim d [ ]

group_closed : {e : Delimiter} {g : Gram} → Closed (group e g)
group_closed {e} {g} = record { at = go }
  where
    go : (q : Position) (y : Tree) (r : List Token) → Derives y (group e g) r → NoName (flat (normal_in q (kept y)))
    go q (Group d x) r f = behind (Opens d ∷ flat (normal_in q (kept x))) (Closes d ∷ []) (one_no (Closes d) refl)
    go q _ r d = elim d [ ]

word_closed : (p : List ℕ → Bool) → ((cs : List ℕ) → p cs ≡ true → (is_name cs && not (is_path_keyword cs)) ≡ false)
    → Closed (word p)
word_closed p h = record { at = go }
  where
    go : (q : Position) (y : Tree) (r : List Token) → Derives y (word p) r → NoName (flat (normal_in q (kept y)))
    go q (AWord cs) r d = one_no (Ident cs) (h cs d)
    go q _ r d = elim d [ ]

ref_closed : {k : Kind} → ((q : Position) (x : Tree) (r : List Token) → Derives x (table k) r
    → NoName (flat (normal_in q (kept (Node k x))))) → Closed (ref k)
ref_closed {k} h = record { at = go }
  where
    go : (q : Position) (y : Tree) (r : List Token) → Derives y (ref k) r → NoName (flat (normal_in q (kept y)))
    go q (Node j x) r d =
        subst (λ i. NoName (flat (normal_in q (kept (Node i x))))) (sym d.0)
        (h q x r (subst (λ i. Derives x (table i) r) d.0 d.1))
    go q _ r d = elim d [ ]

-- arguments end in >
abbrev sorted : Tree → List Token
sorted x = flat (changed the_arguments (lifetimes_first is_lifetime_argument) (normal_in Plain (kept x)))

arguments_in : (a b c : Gram) (q : Position) (x : Tree) (r : List Token)
    → Derives x (seq a (seq b (seq c (mark 62 [])))) r → NoName (flat (normal_in q (kept (Node Arguments x))))
unfolding held passed
arguments_in a b c q (Pair u (Pair v (Pair w (AMark m ms i)))) r d =
    behind (sorted u) _ (behind (sorted v) _ (behind (sorted w) _ (marks_no m ms)))
arguments_in a b c q (Pair u (Pair v (Pair w _))) r d = elim d.1.1.1 [ ]
arguments_in a b c q (Pair u (Pair v _)) r d = elim d.1.1 [ ]
arguments_in a b c q (Pair u _) r d = elim d.1 [ ]
arguments_in a b c q _ r d = elim d [ ]

arguments_closed : Closed (ref Arguments)
unfolding table
arguments_closed = ref_closed (arguments_in _ _ _)

-- the nodes in a tree
abbrev nodes : Tree → ℕ
nodes (Pair x y) = nodes x + nodes y
nodes (First x) = nodes x
nodes (Second x) = nodes x
nodes (Called n x) = nodes x
nodes (Node k x) = suc (nodes x)
nodes _ = 0

-- what an entry reads before such a < doesn't end in a name, in a tree of at most so many nodes; and it or nothing
record Shut (n : ℕ) (g : Gram) : Type 0 where
  at : (q : Position) (y : Tree) (r : List Token) → Derives y g r → sees lone_less r ≡ true → nodes y ≤ n
      → NoName (flat (normal_in q (kept y)))

record Open (n : ℕ) (g : Gram) : Type 0 where
  at : (q : Position) (y : Tree) (r : List Token) → Derives y g r → sees lone_less r ≡ true → nodes y ≤ n
      → NoName (flat (normal_in q (kept y))) ⊎ (flat (normal_in q (kept y)) ≡ [])

shut : {n : ℕ} {g : Gram} → Closed g → Shut n g
shut c = record { at = λ q y r d l m. c.at q y r d }

seq_shut : {n : ℕ} {a b : Gram} → Shut n b → Shut n (seq a b)
seq_shut {n} {a} {b} h = record { at = go }
  where
    go : (q : Position) (y : Tree) (r : List Token) → Derives y (seq a b) r → sees lone_less r ≡ true → nodes y ≤ n
        → NoName (flat (normal_in q (kept y)))
    go q (Pair x z) r d l m = behind (flat (normal_in q (kept x))) _ (h.at q z r d.1 l (omega arith))
    go q _ r d l m = elim d [ ]

alt_shut : {n : ℕ} {t : List Token → Bool} {a b : Gram} → Shut n a → Shut n b → Shut n (alt t a b)
alt_shut {n} {t} {a} {b} h i = record { at = go }
  where
    go : (q : Position) (y : Tree) (r : List Token) → Derives y (alt t a b) r → sees lone_less r ≡ true → nodes y ≤ n
        → NoName (flat (normal_in q (kept y)))
    go q (First x) r d l m = h.at q x r d.1 l m
    go q (Second x) r d l m = i.at q x r d.1 l m
    go q _ r d l m = elim d [ ]

never_shut : {n : ℕ} → Shut n never
never_shut {n} = record { at = go }
  where
    go : (q : Position) (y : Tree) (r : List Token) → Derives y never r → sees lone_less r ≡ true → nodes y ≤ n
        → NoName (flat (normal_in q (kept y)))
    go q Nil r d l m = elim d [ ]
    go q _ r d l m = elim d [ ]

called_shut : {n : ℕ} {p : Part} {a : Gram} → Shut n a → Shut n (called p a)
called_shut {n} {p} {a} h = record { at = go }
  where
    go : (q : Position) (y : Tree) (r : List Token) → Derives y (called p a) r → sees lone_less r ≡ true → nodes y ≤ n
        → NoName (flat (normal_in q (kept y)))
    go q (Called m x) r d l e = h.at (place_of m) x r d.1 l e
    go q _ r d l m = elim d [ ]

opt_open : {n : ℕ} {t : List Token → Bool} {a : Gram} → Shut n a → Open n (alt t a nothing)
opt_open {n} {t} {a} h = record { at = go }
  where
    go : (q : Position) (y : Tree) (r : List Token) → Derives y (alt t a nothing) r → sees lone_less r ≡ true
        → nodes y ≤ n → NoName (flat (normal_in q (kept y))) ⊎ (flat (normal_in q (kept y)) ≡ [])
    go q (First x) r d l m = inl (h.at q x r d.1 l m)
    go q (Second x) r d l m = inr (ap (λ v. flat (normal_in q (kept v))) (is_nil x r d.1))
    go q _ r d l m = elim d [ ]

closed_then : {n : ℕ} {a b : Gram} → Closed a → Open n b → Shut n (seq a b)
closed_then {n} {a} {b} h i = record { at = go }
  where
    joined : (us vs : List Token) → NoName us → NoName vs ⊎ (vs ≡ []) → NoName (us ++ vs)
    joined us vs c (inl e) = behind us vs e
    joined us vs c (inr e) = subst (λ w. NoName (us ++ w)) (sym e) (subst NoName (sym (append-nil us)) c)

    go : (q : Position) (y : Tree) (r : List Token) → Derives y (seq a b) r → sees lone_less r ≡ true → nodes y ≤ n
        → NoName (flat (normal_in q (kept y)))
    go q (Pair x z) r d l m = joined _ _ (h.at q x (flat z ++ r) d.0) (i.at q z r d.1 l (omega arith))
    go q _ r d l m = elim d [ ]

-- where a < is always taken, and something may stand behind
last_shut : {n : ℕ} {t u v : List Token → Bool} {a b c : Gram}
    → ((r : List Token) → sees lone_less r ≡ true → t r ≡ true) → Shut n a → Shut n b → Shut n c
    → Shut n (alt t a (alt u b (alt v c nothing)))
last_shut {n} {t} {u} {v} {a} {b} {c} f h i j = record { at = go }
  where
    go : (q : Position) (y : Tree) (r : List Token) → Derives y (alt t a (alt u b (alt v c nothing))) r
        → sees lone_less r ≡ true → nodes y ≤ n → NoName (flat (normal_in q (kept y)))
    go q (First x) r d l m = h.at q x r d.1 l m
    go q (Second (First x)) r d l m = i.at q x r d.1.1 l m
    go q (Second (Second (First x))) r d l m = j.at q x r d.1.1.1 l m
    go q (Second (Second (Second x))) r d l m =
        absurd (both (t r) (f r l) (subst (λ w. t (flat w ++ r) ≡ false) (is_nil x r d.1.1.1) d.0))
    go q (Second (Second _)) r d l m = elim d.1.1 [ ]
    go q (Second _) r d l m = elim d.1 [ ]
    go q _ r d l m = elim d [ ]

zero_shut : {k : Kind} → Shut 0 (ref k)
zero_shut {k} = record { at = go }
  where
    go : (q : Position) (y : Tree) (r : List Token) → Derives y (ref k) r → sees lone_less r ≡ true → nodes y ≤ 0
        → NoName (flat (normal_in q (kept y)))
    go q (Node j x) r d l m = absurd (omega arith)
    go q _ r d l m = elim d [ ]

ref_shut : {n : ℕ} {k : Kind}
    → ((q : Position) (x : Tree) (r : List Token) → Derives x (table k) r → sees lone_less r ≡ true → nodes x ≤ n
    → NoName (flat (normal_in q (kept (Node k x))))) → Shut (suc n) (ref k)
ref_shut {n} {k} h = record { at = go }
  where
    go : (q : Position) (y : Tree) (r : List Token) → Derives y (ref k) r → sees lone_less r ≡ true → nodes y ≤ suc n
        → NoName (flat (normal_in q (kept y)))
    go q (Node j x) r d l m =
        subst (λ i. NoName (flat (normal_in q (kept (Node i x))))) (sym d.0)
        (h q x r (subst (λ i. Derives x (table i) r) d.0 d.1) l (omega arith))
    go q _ r d l m = elim d [ ]

is_never : (z : Tree) (r : List Token) → Derives z never r → ⊥
is_never Nil r d = elim d [ ]
is_never _ r d = elim d [ ]

-- a bound without a lifetime is a path
bound_in : {n : ℕ} → Shut n (ref TraitPath) → (b : Tree) (r : List Token) → Derives b (table Bound) r
    → sees a_lifetime (flat b ++ r) ≡ false → sees lone_less r ≡ true → nodes b ≤ n
    → NoName (flat (normal_in Plain (kept (Node Bound b))))
unfolding table held passed place_of
bound_in h (First x) r d f l m = absurd (both _ d.0 f)
bound_in h (Second (Called c t)) r d f l m = h.at (place_of c) t r d.1.1 l m
bound_in h (Second _) r d f l m = elim d.1 [ ]
bound_in h _ r d f l m = elim d [ ]

bound_node : {n : ℕ} → Shut n (ref TraitPath) → (b : Tree) (r : List Token) → Derives b (ref Bound) r
    → sees a_lifetime (flat b ++ r) ≡ false → sees lone_less r ≡ true → nodes b ≤ n
    → NoName (flat (normal_in Plain (kept b)))
bound_node {n} h (Node j x) r d f l m =
    subst (λ i. NoName (flat (normal_in Plain (kept (Node i x))))) (sym d.0)
    (bound_in {n = n} h x r (subst (λ i. Derives x (table i) r) d.0 d.1) f l (omega arith))
bound_node h _ r d f l m = elim d [ ]

one_bound : {n : ℕ} (a : Gram) → Shut n (ref TraitPath) → (x : Tree) (r : List Token)
    → Derives x (seq a (alt (sees a_lifetime) never (ref Bound))) r → sees lone_less r ≡ true → nodes x ≤ n
    → NoName (flat (normal_in Plain (listed_bound (kept x))))
unfolding passed place_of
one_bound a h (Pair w (Second b)) r d l m =
    behind (flat (normal_in Plain (kept w))) _ (bound_node h b r d.1.1 d.1.0 l (omega arith))
one_bound a h (Pair w (First z)) r d l m = absurd (is_never z r d.1.1)
one_bound a h (Pair w _) r d l m = elim d.1 [ ]
one_bound a h _ r d l m = elim d [ ]

-- -> Type, or nothing
return_open : {n : ℕ} → Shut n (ref (AType WithoutPlus)) → Open n (ref (ReturnType WithoutPlus))
unfolding table held passed
return_open {n} h = record { at = go }
  where
    inner : Open n (table (ReturnType WithoutPlus))
    inner = opt_open (seq_shut (called_shut h))

    go : (q : Position) (y : Tree) (r : List Token) → Derives y (ref (ReturnType WithoutPlus)) r → sees lone_less r
        ≡ true → nodes y ≤ n → NoName (flat (normal_in q (kept y))) ⊎ (flat (normal_in q (kept y)) ≡ [])
    go q (Node j x) r d l m =
        subst (λ i. NoName (flat (normal_in q (kept (Node i x)))) ⊎ (flat (normal_in q (kept (Node i x))) ≡ []))
        (sym d.0)
        (inner.at Plain x r (subst (λ i. Derives x (table i) r) d.0 d.1) l (omega arith))
    go q _ r d l m = elim d [ ]

keyword_no : (cs : List ℕ) → is_path_keyword cs ≡ true → (is_name cs && not (is_path_keyword cs)) ≡ false
keyword_no cs e = ap (λ b. is_name cs && not b) e ∙ go (is_name cs)
  where
    go : (b : Bool) → (b && false) ≡ false
    go true = refl
    go false = refl

-- _ is no name
infer_no : (cs : List ℕ) → same_text (codes "_") cs ≡ true → (is_name cs && not (is_path_keyword cs)) ≡ false
unfolding is_name is_path_keyword is_reserved
infer_no cs e = subst (λ ds. (is_name ds && not (is_path_keyword ds)) ≡ false) ((bytes_eq-Decides (codes "_") cs).0 e)
    refl

less_seen : (o p : Option (List Token)) → seen p ≡ true → seen (first_seen o p) ≡ true
less_seen None p e = e
less_seen (Some ts) p e = refl

less_taken : (r : List Token) → sees lone_less r ≡ true → sees (arguments_stand AtType) r ≡ true
less_taken r l = less_seen (turbofish r) (lone_less r) l

record All (n : ℕ) : Type 0 where
  type : Shut n (ref (AType WithoutPlus))
  segments : Shut n (ref (Segments AtType))
  path : Shut n (ref (Path AtType))
  qualified : Shut n (ref (QualifiedPath AtType))
  any_path : Shut n (ref (AnyPath AtType))
  tuple : Shut n (ref TupleType)
  never_type : Shut n (ref NeverType)
  reference : Shut n (ref ReferenceType)
  pointer : Shut n (ref PointerType)
  brackets : Shut n (ref BracketType)
  infer : Shut n (ref InferType)
  dyn : Shut n (ref (DynType WithoutPlus))
  impl : Shut n (ref (ImplType WithoutPlus))
  fn_ptr : Shut n (ref FnPtrType)
  trait_path : Shut n (ref TraitPath)
  parenthesized : Shut n (ref ParenthesizedArguments)

module _ (n : ℕ) (a : All n) where
  type_entry : Shut n (table (AType WithoutPlus))
  unfolding table
  type_entry =
      alt_shut a.tuple (alt_shut a.never_type (alt_shut a.reference (alt_shut a.pointer (alt_shut a.brackets
      (alt_shut a.infer (alt_shut a.dyn (alt_shut a.impl (alt_shut a.fn_ptr a.any_path))))))))

  segments_entry : Shut n (table (Segments AtType))
  unfolding table
  segments_entry =
      alt_shut (closed_then (word_closed is_path_keyword keyword_no) (opt_open (seq_shut a.segments)))
      (seq_shut (last_shut less_taken (closed_then arguments_closed (opt_open (seq_shut a.segments)))
      (seq_shut a.segments) a.parenthesized))

  path_entry : Shut n (table (Path AtType))
  unfolding table
  path_entry = seq_shut a.segments

  qualified_entry : Shut n (table (QualifiedPath AtType))
  unfolding table
  qualified_entry = seq_shut (seq_shut (seq_shut (seq_shut (seq_shut a.segments))))

  any_entry : Shut n (table (AnyPath AtType))
  unfolding table
  any_entry = alt_shut a.qualified a.path

  reference_entry : Shut n (table ReferenceType)
  unfolding table
  reference_entry = seq_shut (seq_shut (seq_shut a.type))

  pointer_entry : Shut n (table PointerType)
  unfolding table
  pointer_entry = seq_shut (seq_shut a.type)

  fn_entry : Shut n (table FnPtrType)
  unfolding table
  fn_entry = seq_shut (seq_shut (seq_shut (seq_shut (closed_then group_closed (return_open a.type)))))

  trait_entry : Shut n (table TraitPath)
  unfolding table
  trait_entry = seq_shut a.path

  parenthesized_entry : Shut n (table ParenthesizedArguments)
  unfolding table
  parenthesized_entry = closed_then group_closed (opt_open (seq_shut a.type))

  next : All (suc n)
  unfolding table held passed
  next = record {
    type = ref_shut (λ q x r d l m. type_entry.at Plain x r d l m);
    segments = ref_shut (λ q x r d l m. segments_entry.at Plain x r d l m);
    path = ref_shut (λ q x r d l m. path_entry.at Plain x r d l m);
    qualified = ref_shut (λ q x r d l m. qualified_entry.at Plain x r d l m);
    any_path = ref_shut (λ q x r d l m. any_entry.at Plain x r d l m);
    tuple = ref_shut (λ q x r d l m. group_closed.at Plain x r d);
    never_type = ref_shut (λ q x r d l m. mark_closed.at Plain x r d);
    reference = ref_shut (λ q x r d l m. reference_entry.at Plain x r d l m);
    pointer = ref_shut (λ q x r d l m. pointer_entry.at Plain x r d l m);
    brackets = ref_shut (λ q x r d l m. group_closed.at Plain x r d);
    infer = ref_shut (λ q x r d l m. (word_closed _ infer_no).at Plain x r d);
    dyn = ref_shut (λ q x r d l m. one_bound _ a.trait_path x r d l m);
    impl = ref_shut (λ q x r d l m. one_bound _ a.trait_path x r d l m);
    fn_ptr = ref_shut (λ q x r d l m. fn_entry.at Plain x r d l m);
    trait_path = ref_shut (λ q x r d l m. trait_entry.at Plain x r d l m);
    parenthesized = ref_shut (λ q x r d l m. parenthesized_entry.at Plain x r d l m);
  }

all : (n : ℕ) → All n
all zero = record {
  type = zero_shut;
  segments = zero_shut;
  path = zero_shut;
  qualified = zero_shut;
  any_path = zero_shut;
  tuple = zero_shut;
  never_type = zero_shut;
  reference = zero_shut;
  pointer = zero_shut;
  brackets = zero_shut;
  infer = zero_shut;
  dyn = zero_shut;
  impl = zero_shut;
  fn_ptr = zero_shut;
  trait_path = zero_shut;
  parenthesized = zero_shut;
}
all (suc n) = next n (all n)

-- a cast: its type, and no postfix form behind it
cast_in : (a g : Gram) (n : ℕ) → Shut n g → (y : Tree) (r : List Token)
    → Derives y (seq a (seq g (alt (sees postfix_stands) never nothing))) r → sees lone_less r ≡ true → nodes y ≤ n
    → NoName (flat (normal_in Plain (kept y)))
cast_in a g n h (Pair w (Pair x (Second z))) r d l m =
    let e = is_nil z r d.1.1.1 in
    behind (flat (normal_in Plain (kept w))) _
    (subst (λ v. NoName (flat (normal_in Plain (kept x)) ++ flat (normal_in Plain (kept v)))) (sym e)
    (subst NoName (sym (append-nil _))
    (h.at Plain x r (subst (λ v. Derives x g (flat v ++ r)) e d.1.0) l (omega arith))))
cast_in a g n h (Pair w (Pair x (First z))) r d l m = absurd (is_never z r d.1.1.1)
cast_in a g n h (Pair w (Pair x _)) r d l m = elim d.1.1 [ ]
cast_in a g n h (Pair w _) r d l m = elim d.1 [ ]
cast_in a g n h _ r d l m = elim d [ ]

pub cast_ends : (y : Tree) (r : List Token) → Derives y (table ExprCast) r → sees lone_less r ≡ true
    → ends_in_name (flat (normal (kept y))) ≡ false
unfolding table
cast_ends y r d l =
    let a : All (nodes y) = all (nodes y) in
    (cast_in _ _ (nodes y) (called_shut a.type) y r d l (omega arith)).at []

cast_last : (a g : Gram) (y : Tree) (r : List Token)
    → Derives y (seq a (seq g (alt (sees postfix_stands) never nothing))) r → sees postfix_stands r ≡ false
cast_last a g (Pair w (Pair x (Second z))) r d =
    subst (λ v. sees postfix_stands (flat v ++ r) ≡ false) (is_nil z r d.1.1.1) d.1.1.0
cast_last a g (Pair w (Pair x (First z))) r d = absurd (is_never z r d.1.1.1)
cast_last a g (Pair w (Pair x _)) r d = elim d.1.1 [ ]
cast_last a g (Pair w _) r d = elim d.1 [ ]
cast_last a g _ r d = elim d [ ]

pub cast_no_postfix : (y : Tree) (r : List Token) → Derives y (table ExprCast) r → sees postfix_stands r ≡ false
unfolding table
cast_no_postfix y r d = cast_last _ _ y r d
