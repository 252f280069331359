-- Whether a pattern begins as a receiver does: with self alone, or with a & before it.
use Rattle.std.proofs.Common.{◌≡◌, ℕ, List, [], ◌∷◌, ◌++◌, refl, sym, ap, ◌∙◌, subst, append_assoc, ⊎_elim}
use Rattle.std.specs.Prelude.{Bool, true, false, ◌==◌, codes, cond, Option, Some, None}
use Rattle.proc_macro2.specs.Token.{Token, Ident, Punct}
use Rattle.proc_macro2.specs.declared.delimiter.Delimiter.{Delimiter}
use Rattle.proc_macro2.specs.declared.delimiter.Delimiter.TheVariants.{Parenthesis, Brace, Bracket}
use Rattle.rust_leaf.specs.declared.punct.Spacing.{Spacing}
use Rattle.rust_leaf.specs.declared.punct.Spacing.TheVariants.{Joint}
use Rattle.syn_grammar.specs.Kind.{Kind, AnyPath, IdentPattern, InExpression}
use Rattle.syn_grammar.specs.Kind.{OnePattern, LiteralPattern, RangeToPattern, RestPattern}
use Rattle.syn_grammar.specs.Kind.{SlicePattern, TuplePattern, WildPattern}
use Rattle.syn_grammar.specs.Kind.{Path, PathPattern, ReferencePattern, Segments}
use Rattle.syn_grammar.specs.Words.{any_text, is_bool, is_ident}
use Rattle.rust_leaf.specs.Keywords.{same_text}
use Rattle.syn_grammar.specs.Tree.{Tree, AMark, AWord, Nil, Pair, First, Second, Node}
use Rattle.syn_grammar.specs.Tree.{marks as signs, flat}
use Rattle.syn_grammar.specs.Part.{choice}
use Rattle.syn_grammar.specs.Gram.{ref}
use Rattle.syn_grammar.specs.Look.{Look, a_lifetime, a_literal, a_quoted, a_word, an_ident, behind as past}
use Rattle.syn_grammar.specs.Look.{first_seen, maybe, no, opens, past_marks, seen, sees, ◌or◌, ◌then◌}
use Rattle.syn_grammar.specs.Say.{◌▸◌, at, brace, keyword, marks, optional, parenthesis, refused, sign}
use Rattle.syn_grammar.specs.Say.{when◌read◌else◌}
use Rattle.syn_grammar.specs.Patterns.{binding, dots, range_bound_stands}
use Rattle.syn_grammar.specs.Items.{receiver_stands}
use Rattle.syn_grammar.specs.Table.{table}
use Rattle.syn_grammar.specs.Derives.{Derives}
use Rattle.laws_reread_kinds.proofs.Choices.{other_word, second_lacks, third_lacks}
use Rattle.laws_reread_kinds.specs.Covered.{inner}
use Rattle.laws_reread_kinds.specs.Sees.{Lacks}
use Rattle.laws_reread_kinds.proofs.Classes.{of_all, the_words}
use Rattle.laws_reread_kinds.proofs.Keywords.{reserved_mut, reserved_ref, reserved_self}
use Rattle.laws_reread_kinds.proofs.Sights.{ident_not}
use Rattle.laws_reread_kinds.proofs.Fine.{words_are}
use Rattle.laws_reread_kinds.proofs.Parts.{not_lacking}
use Rattle.laws_reread_kinds.proofs.Fits.{is_self, is_self_alone, is_self_any}
use Rattle.laws_reread_kinds.proofs.Fits.{is_self_names, is_self_path}
use Rattle.laws_reread_kinds.proofs.Alternatives.{bools, bound_stands, dots_seen, goes_on}
use Rattle.laws_reread_kinds.proofs.Alternatives.{name_not, none_read, quoted_is_none, range_marks}
use Rattle.laws_reread_kinds.proofs.Alternatives.{range_stands, true_of, unnamed}
use Rattle.laws_reread_kinds.proofs.Seconds.{either_seen, front_seen, group_is_none, mark_is_none, mark_other}
use Rattle.laws_reread_kinds.proofs.Seconds.{past_none, past_word, word_is_none}

-- self before no ::, and behind a mut that may stand there
abbrev pub self_stands : Look
self_stands = at "self" then no (marks "::")

abbrev pub own_stands : Look
own_stands = (maybe (at "mut") then at "self") then no (marks "::")

-- a punctuation where none stands
abbrev pub Unmarked : ℕ → List Token → Type 0
Unmarked c ts = sees (past_marks c []) ts ≡ false

word_unmarked : (p : List ℕ → Bool) (c : ℕ) (ts : List Token) → sees (a_word p) ts ≡ true → Unmarked c ts
word_unmarked p c (Punct d spacing ∷ us) e = cc
word_unmarked p c _ e = refl

bound_unmarked : (c : ℕ) (ts : List Token) → sees bound_stands ts ≡ true → Unmarked c ts
bound_unmarked c (Punct d spacing ∷ us) e = cc
bound_unmarked c _ e = refl

-- a character that begins no pattern but one behind &
abbrev pub Unused : ℕ → Type 0
Unused c = ((46 == c) ≡ false) × ((45 == c) ≡ false) × ((58 == c) ≡ false) × ((60 == c) ≡ false)

range_unmarked : (c : ℕ) (ts : List Token) → Unused c → sees range_stands ts ≡ true → Unmarked c ts
range_unmarked c ts n e =
    ⊎_elim (λ f. mark_other 46 c (46 ∷ 61 ∷ []) ts n.0 f)
    (λ f. mark_other 46 c (46 ∷ []) ts n.0 (dots_seen ts (front_seen (dots ts) range_bound_stands f)))
    (either_seen ((marks "..=") ts) ((dots then range_bound_stands) ts) e)

literal_unmarked : (c : ℕ) (ts : List Token) → Unused c → sees (a_literal or marks "-") ts ≡ true → Unmarked c ts
literal_unmarked c (Punct d spacing ∷ us) n e = mark_other 45 c [] (Punct d spacing ∷ us) n.1 e
literal_unmarked c _ n e = refl

names_unmarked : (c : ℕ) (y : Tree) (us : List Token) → Derives y (table (Segments InExpression)) us
    → Unmarked c (flat y ++ us)
unfolding table
names_unmarked c (First (Pair (AWord cs) m)) us d = refl
names_unmarked c (First (Pair _ m)) us d = absurd d.1.0
names_unmarked c (First _) us d = absurd d.1
names_unmarked c (Second (Pair (AWord cs) z)) us d = refl
names_unmarked c (Second (Pair _ z)) us d = absurd d.1.0
names_unmarked c (Second _) us d = absurd d.1
names_unmarked c _ us d = absurd d

path_unmarked : (c : ℕ) (y : Tree) (us : List Token) → Unused c → Derives y (table (Path InExpression)) us
    → Unmarked c (flat y ++ us)
unfolding table
path_unmarked c (Pair (First m) y) us n d =
    subst (Unmarked c) (sym (append_assoc (flat m) (flat y) us))
    (mark_other 58 c (58 ∷ []) (flat m ++ (flat y ++ us)) n.2 d.0.0)
path_unmarked c (Pair (Second Nil) (Node k y)) us n d =
    names_unmarked c y us (subst (λ j. Derives y (table j) us) d.1.0 d.1.1)
path_unmarked c (Pair (Second Nil) _) us n d = absurd d.1
path_unmarked c (Pair (Second _) y) us n d = absurd d.0.1
path_unmarked c (Pair _ y) us n d = absurd d.0
path_unmarked c _ us n d = absurd d

any_unmarked : (c : ℕ) (y : Tree) (us : List Token) → Unused c → Derives y (table (AnyPath InExpression)) us
    → Unmarked c (flat y ++ us)
unfolding table
any_unmarked c (First x) us n d = mark_other 60 c [] (flat x ++ us) n.3 d.0
any_unmarked c (Second (Node k y)) us n d = path_unmarked c y us n (subst (λ j. Derives y (table j) us) d.1.0 d.1.1)
any_unmarked c (Second _) us n d = absurd d.1
any_unmarked c _ us n d = absurd d

pattern_unmarked : (c : ℕ) (y : Tree) (us : List Token) → Unused c → Derives y (table PathPattern) us
    → Unmarked c (flat y ++ us)
unfolding table
pattern_unmarked c (Pair (Node k p) e) us n d =
    subst (Unmarked c) (sym (append_assoc (flat p) (flat e) us))
    (any_unmarked c p (flat e ++ us) n (subst (λ j. Derives p (table j) (flat e ++ us)) d.0.0 d.0.1))
pattern_unmarked c (Pair _ e) us n d = absurd d.0
pattern_unmarked c _ us n d = absurd d

group_unmarked : (c : ℕ) (d : Delimiter) (ts : List Token) → sees (opens d) ts ≡ true → Unmarked c ts
group_unmarked c d (Punct e spacing ∷ us) h = cc
group_unmarked c d _ h = refl

-- a & begins a reference
abbrev pub is_reference : Tree → Bool
is_reference (Second (Second (Second (Second (Second (First x)))))) = true
is_reference _ = false

unnamed_unmarked : (c : ℕ) (x : Tree) (s : List Token) → Unused c → (is_reference x ≡ true → (38 == c) ≡ false)
    → Derives x unnamed s
    → Unmarked c (flat x ++ s)
unnamed_unmarked c (First x) s n m d = word_unmarked _ c (flat x ++ s) d.0
unnamed_unmarked c (Second (First x)) s n m d = range_unmarked c (flat x ++ s) n d.1.0
unnamed_unmarked c (Second (Second (First x))) s n m d =
    mark_other 46 c (46 ∷ []) (flat x ++ s) n.0 (dots_seen (flat x ++ s) d.1.1.0)
unnamed_unmarked c (Second (Second (Second (First x)))) s n m d = group_unmarked c Parenthesis (flat x ++ s) d.1.1.1.0
unnamed_unmarked c (Second (Second (Second (Second (First x))))) s n m d =
    group_unmarked c Bracket (flat x ++ s) d.1.1.1.1.0
unnamed_unmarked c (Second (Second (Second (Second (Second (First x)))))) s n m d =
    mark_other 38 c [] (flat x ++ s) (m refl) d.1.1.1.1.1.0
unnamed_unmarked c (Second (Second (Second (Second (Second (Second (First x))))))) s n m d =
    literal_unmarked c (flat x ++ s) n d.1.1.1.1.1.1.0
unnamed_unmarked c (Second (Second (Second (Second (Second (Second (Second (Node k x)))))))) s n m d =
    pattern_unmarked c x s n
    (subst (λ j. Derives x (table j) s) d.1.1.1.1.1.1.1.0 d.1.1.1.1.1.1.1.1)
unnamed_unmarked c (Second (Second (Second (Second (Second (Second (Second _))))))) s n m d = absurd d.1.1.1.1.1.1.1
unnamed_unmarked c (Second (Second (Second (Second (Second (Second _)))))) s n m d = absurd d.1.1.1.1.1.1
unnamed_unmarked c (Second (Second (Second (Second (Second _))))) s n m d = absurd d.1.1.1.1.1
unnamed_unmarked c (Second (Second (Second (Second _)))) s n m d = absurd d.1.1.1.1
unnamed_unmarked c (Second (Second (Second _))) s n m d = absurd d.1.1.1
unnamed_unmarked c (Second (Second _)) s n m d = absurd d.1.1
unnamed_unmarked c (Second _) s n m d = absurd d.1
unnamed_unmarked c _ s n m d = absurd d

unmarked_in : (c : ℕ) (x : Tree) (s : List Token) → Unused c → (38 == c) ≡ false → Derives x (table OnePattern) s
    → Unmarked c (flat x ++ s)
unfolding table
unmarked_in c (First x) s n m d = bound_unmarked c (flat x ++ s) d.0
unmarked_in c (Second x) s n m d = unnamed_unmarked c x s n (λ e. m) d.1
unmarked_in c _ s n m d = absurd d

unmarked_at : (c : ℕ) (x : Tree) (s : List Token) → Unused c → (38 == c) ≡ false → Derives x (ref OnePattern) s
    → Unmarked c (flat x ++ s)
unmarked_at c (Node k x) s n m d = unmarked_in c x s n m (subst (λ j. Derives x (table j) s) d.0 d.1)
unmarked_at c _ s n m d = absurd d

-- self before no ::, of a word
pub self_then : (b : Bool) (us : List Token) → Lacks (marks "::") us
    → seen (past (cond b (Some us) None) (no (marks "::"))) ≡ b
self_then true us e = ap (λ c. seen (cond c None (Some us))) e
self_then false us e = refl

self_on : (b : Bool) (us : List Token) → sees (marks "::") us ≡ true
    → seen (past (cond b (Some us) None) (no (marks "::"))) ≡ false
self_on true us e = ap (λ c. seen (cond c None (Some us))) e
self_on false us e = refl

no_self : (ts : List Token) → Lacks (at "self") ts → Lacks self_stands ts
no_self ts e = past_none (λ cs. same_text (codes "self") cs) (no (marks "::")) ts e

names_self : (y : Tree) (us : List Token) → Derives y (table (Segments InExpression)) us
    → sees self_stands (flat y ++ us) ≡ is_self_names y
unfolding table
names_self (First (Pair (AWord cs) (First m))) us d = self_on (same_text (codes "self") cs) (flat m ++ us) d.1.1.0
names_self (First (Pair (AWord cs) (Second Nil))) us d = self_then (same_text (codes "self") cs) us d.1.1.0
names_self (First (Pair (AWord cs) (Second _))) us d = absurd d.1.1.1
names_self (First (Pair (AWord cs) _)) us d = absurd d.1.1
names_self (First (Pair _ m)) us d = absurd d.1.0
names_self (First _) us d = absurd d.1
names_self (Second (Pair (AWord cs) z)) us d =
    no_self (Ident cs ∷ flat z ++ us)
    (ap (λ b. seen (cond b (Some (flat z ++ us)) None)) (name_not (codes "self") cs reserved_self refl d.1.0))
names_self (Second (Pair _ z)) us d = absurd d.1.0
names_self (Second _) us d = absurd d.1
names_self _ us d = absurd d

path_self : (y : Tree) (us : List Token) → Derives y (table (Path InExpression)) us
    → sees self_stands (flat y ++ us) ≡ is_self_path y
unfolding table
path_self (Pair (First m) y) us d =
    subst (Lacks self_stands) (sym (append_assoc (flat m) (flat y) us))
    (no_self (flat m ++ (flat y ++ us)) (mark_is_none _ 58 (58 ∷ []) (flat m ++ (flat y ++ us)) d.0.0))
path_self (Pair (Second Nil) (Node k y)) us d = names_self y us (subst (λ j. Derives y (table j) us) d.1.0 d.1.1)
path_self (Pair (Second Nil) _) us d = absurd d.1
path_self (Pair (Second _) y) us d = absurd d.0.1
path_self (Pair _ y) us d = absurd d.0
path_self _ us d = absurd d

any_self : (y : Tree) (us : List Token) → Derives y (table (AnyPath InExpression)) us
    → sees self_stands (flat y ++ us) ≡ is_self_any y
unfolding table
any_self (First x) us d = no_self (flat x ++ us) (mark_is_none _ 60 [] (flat x ++ us) d.0)
any_self (Second (Node k y)) us d = path_self y us (subst (λ j. Derives y (table j) us) d.1.0 d.1.1)
any_self (Second _) us d = absurd d.1
any_self _ us d = absurd d

pub pattern_self : (y : Tree) (us : List Token) → Derives y (table PathPattern) us
    → sees self_stands (flat y ++ us) ≡ is_self_alone (Node PathPattern y)
unfolding table
pattern_self (Pair (Node k p) e) us d =
    ap (sees self_stands) (append_assoc (flat p) (flat e) us)
    ∙ any_self p (flat e ++ us) (subst (λ j. Derives p (table j) (flat e ++ us)) d.0.0 d.0.1)
pattern_self (Pair _ e) us d = absurd d.0
pattern_self _ us d = absurd d

-- where another kind stands
other_kind : (l k : Kind) (x : Tree) (ts : List Token) → k ≡ l → is_self_alone (Node l x) ≡ false → Lacks (at "self") ts
    → sees self_stands ts ≡ is_self_alone (Node k x)
other_kind l k x ts e n h = no_self ts h ∙ sym (ap (λ j. is_self_alone (Node j x)) e ∙ n)

bool_not_self : (ts : List Token) → sees (a_word is_bool) ts ≡ true → Lacks (at "self") ts
unfolding is_bool
bool_not_self (Ident cs ∷ us) e =
    of_all (λ ts. Lacks (at "self") ts) (the_words bools) (Ident cs ∷ us) (λ us. refl, (λ us. refl, tt))
    (words_are bools cs us (true_of (is_bool cs) us e))
bool_not_self _ e = cc

literal_not_self : (ts : List Token) → sees (a_literal or marks "-") ts ≡ true → Lacks (at "self") ts
literal_not_self ts e =
    ⊎_elim
    (λ f. ⊎_elim (λ h. quoted_is_none any_text _ ts h) (bool_not_self ts)
    (either_seen ((a_quoted any_text) ts) ((a_word is_bool) ts) f))
    (λ f. mark_is_none _ 45 [] ts f) (either_seen (a_literal ts) ((marks "-") ts) e)

unnamed_self : (x : Tree) (s : List Token) → Derives x unnamed s
    → sees self_stands (flat x ++ s) ≡ is_self_alone (choice x)
unnamed_self (First (Node k x)) s d =
    other_kind WildPattern k x (flat x ++ s) d.1.0 refl (other_word (codes "self") (codes "_") (flat x ++ s) refl d.0)
unnamed_self (First _) s d = absurd d.1
unnamed_self (Second (First (Node k x))) s d =
    other_kind RangeToPattern k x (flat x ++ s) d.1.1.0 refl (range_marks (flat x ++ s) d.1.0 _)
unnamed_self (Second (First _)) s d = absurd d.1.1
unnamed_self (Second (Second (First (Node k x)))) s d =
    other_kind RestPattern k x (flat x ++ s) d.1.1.1.0 refl
    (mark_is_none _ 46 (46 ∷ []) (flat x ++ s) (dots_seen (flat x ++ s) d.1.1.0))
unnamed_self (Second (Second (First _))) s d = absurd d.1.1.1
unnamed_self (Second (Second (Second (First (Node k x))))) s d =
    other_kind TuplePattern k x (flat x ++ s) d.1.1.1.1.0 refl
    (group_is_none _ Parenthesis (flat x ++ s) d.1.1.1.0)
unnamed_self (Second (Second (Second (First _)))) s d = absurd d.1.1.1.1
unnamed_self (Second (Second (Second (Second (First (Node k x)))))) s d =
    other_kind SlicePattern k x (flat x ++ s) d.1.1.1.1.1.0 refl
    (group_is_none _ Bracket (flat x ++ s) d.1.1.1.1.0)
unnamed_self (Second (Second (Second (Second (First _))))) s d = absurd d.1.1.1.1.1
unnamed_self (Second (Second (Second (Second (Second (First (Node k x))))))) s d =
    other_kind ReferencePattern k x (flat x ++ s) d.1.1.1.1.1.1.0 refl
    (mark_is_none _ 38 [] (flat x ++ s) d.1.1.1.1.1.0)
unnamed_self (Second (Second (Second (Second (Second (First _)))))) s d = absurd d.1.1.1.1.1.1
unnamed_self (Second (Second (Second (Second (Second (Second (First (Node k x)))))))) s d =
    other_kind LiteralPattern k x (flat x ++ s) d.1.1.1.1.1.1.1.0 refl
    (literal_not_self (flat x ++ s) d.1.1.1.1.1.1.0)
unnamed_self (Second (Second (Second (Second (Second (Second (First _))))))) s d = absurd d.1.1.1.1.1.1.1
unnamed_self (Second (Second (Second (Second (Second (Second (Second (Node k x)))))))) s d =
    pattern_self x s (subst (λ j. Derives x (table j) s) d.1.1.1.1.1.1.1.0 d.1.1.1.1.1.1.1.1)
    ∙ sym (ap (λ j. is_self_alone (Node j x)) d.1.1.1.1.1.1.1.0)
unnamed_self (Second (Second (Second (Second (Second (Second (Second _))))))) s d = absurd d.1.1.1.1.1.1.1
unnamed_self (Second (Second (Second (Second (Second (Second _)))))) s d = absurd d.1.1.1.1.1.1
unnamed_self (Second (Second (Second (Second (Second _))))) s d = absurd d.1.1.1.1.1
unnamed_self (Second (Second (Second (Second _)))) s d = absurd d.1.1.1.1
unnamed_self (Second (Second (Second _))) s d = absurd d.1.1.1
unnamed_self (Second (Second _)) s d = absurd d.1.1
unnamed_self (Second _) s d = absurd d.1
unnamed_self _ s d = absurd d

-- a name that is bound is no self
ident_self : (y : Tree) (s : List Token) → Derives y (table IdentPattern) s → Lacks (at "self") (flat y ++ s)
unfolding table
ident_self (Pair (First r) y) s d =
    subst (Lacks (at "self")) (sym (append_assoc (flat r) (flat y) s))
    (other_word (codes "self") (codes "ref") (flat r ++ (flat y ++ s)) refl d.0.0)
ident_self (Pair (Second Nil) (Pair (First m) y)) s d =
    subst (Lacks (at "self")) (sym (append_assoc (flat m) (flat y) s))
    (other_word (codes "self") (codes "mut") (flat m ++ (flat y ++ s)) refl d.1.0.0)
ident_self (Pair (Second Nil) (Pair (Second Nil) (Pair (AWord cs) e))) s d =
    ap (λ b. seen (cond b (Some (flat e ++ s)) None)) (ident_not (codes "self") cs reserved_self d.1.1.0)
ident_self (Pair (Second Nil) (Pair (Second Nil) (Pair _ e))) s d = absurd d.1.1.0
ident_self (Pair (Second Nil) (Pair (Second Nil) _)) s d = absurd d.1.1
ident_self (Pair (Second Nil) (Pair (Second _) y)) s d = absurd d.1.0.1
ident_self (Pair (Second Nil) (Pair _ y)) s d = absurd d.1.0
ident_self (Pair (Second Nil) _) s d = absurd d.1
ident_self (Pair (Second _) y) s d = absurd d.0.1
ident_self (Pair _ y) s d = absurd d.0
ident_self _ s d = absurd d

self_in : (x : Tree) (s : List Token) → Derives x (table OnePattern) s
    → sees self_stands (flat x ++ s) ≡ is_self_alone (choice x)
unfolding table
self_in (First (Node k y)) s d =
    other_kind IdentPattern k y (flat y ++ s) d.1.0 refl (ident_self y s
    (subst (λ j. Derives y (table j) s) d.1.0 d.1.1))
self_in (First _) s d = absurd d.1
self_in (Second x) s d = unnamed_self x s d.1
self_in _ s d = absurd d

pub self_at : (x : Tree) (s : List Token) → Derives x (ref OnePattern) s
    → sees self_stands (flat x ++ s) ≡ is_self_alone (choice (inner x))
self_at (Node k x) s d = self_in x s (subst (λ j. Derives x (table j) s) d.0 d.1)
self_at _ s d = absurd d

-- and behind a mut
no_own : (ts : List Token) → Lacks (at "mut") ts → Lacks (at "self") ts → Lacks own_stands ts
no_own ts e f = go ((at "mut") ts) e
  where
    go : (o : Option (List Token)) → seen o ≡ false
        → seen (past (past (first_seen o (Some ts)) (at "self")) (no (marks "::"))) ≡ false
    go None e = no_self ts f
    go (Some us) e = cc

unmoved : (ts : List Token) → Lacks (at "mut") ts → sees own_stands ts ≡ sees self_stands ts
unmoved ts e = go ((at "mut") ts) e
  where
    go : (o : Option (List Token)) → seen o ≡ false
        → seen (past (past (first_seen o (Some ts)) (at "self")) (no (marks "::"))) ≡ sees self_stands ts
    go None e = refl
    go (Some us) e = cc

pub moved_past : (cs : List ℕ) (us : List Token) → same_text (codes "mut") cs ≡ true
    → sees own_stands (Ident cs ∷ us) ≡ sees self_stands us
moved_past cs us e =
    ap (λ b. seen (past (past (first_seen (cond b (Some us) None) (Some (Ident cs ∷ us))) (at "self"))
    (no (marks "::")))) e

ident_own : (y : Tree) (s : List Token) → Derives y (table IdentPattern) s → Lacks own_stands (flat y ++ s)
unfolding table
ident_own (Pair (First r) y) s d =
    subst (Lacks own_stands) (sym (append_assoc (flat r) (flat y) s))
    (no_own (flat r ++ (flat y ++ s)) (other_word (codes "mut") (codes "ref") (flat r ++ (flat y ++ s)) refl d.0.0)
    (other_word (codes "self") (codes "ref") (flat r ++ (flat y ++ s)) refl d.0.0))
ident_own (Pair (Second Nil) (Pair (First (AWord es)) (Pair (AWord cs) e))) s d =
    moved_past es (Ident cs ∷ flat e ++ s) d.1.0.1
    ∙ no_self (Ident cs ∷ flat e ++ s)
    (ap (λ b. seen (cond b (Some (flat e ++ s)) None)) (ident_not (codes "self") cs reserved_self d.1.1.0))
ident_own (Pair (Second Nil) (Pair (First (AWord es)) (Pair _ e))) s d = absurd d.1.1.0
ident_own (Pair (Second Nil) (Pair (First (AWord es)) _)) s d = absurd d.1.1
ident_own (Pair (Second Nil) (Pair (First _) y)) s d = absurd d.1.0.1
ident_own (Pair (Second Nil) (Pair (Second Nil) (Pair (AWord cs) e))) s d =
    no_own (Ident cs ∷ flat e ++ s)
    (ap (λ b. seen (cond b (Some (flat e ++ s)) None)) (ident_not (codes "mut") cs reserved_mut d.1.1.0))
    (ap (λ b. seen (cond b (Some (flat e ++ s)) None)) (ident_not (codes "self") cs reserved_self d.1.1.0))
ident_own (Pair (Second Nil) (Pair (Second Nil) (Pair _ e))) s d = absurd d.1.1.0
ident_own (Pair (Second Nil) (Pair (Second Nil) _)) s d = absurd d.1.1
ident_own (Pair (Second Nil) (Pair (Second _) y)) s d = absurd d.1.0.1
ident_own (Pair (Second Nil) (Pair _ y)) s d = absurd d.1.0
ident_own (Pair (Second Nil) _) s d = absurd d.1
ident_own (Pair (Second _) y) s d = absurd d.0.1
ident_own (Pair _ y) s d = absurd d.0
ident_own _ s d = absurd d

own_in : (x : Tree) (s : List Token) → Derives x (table OnePattern) s → is_self_alone (choice x) ≡ false
    → Lacks own_stands (flat x ++ s)
unfolding table
own_in (First (Node k y)) s d e = ident_own y s (subst (λ j. Derives y (table j) s) d.1.0 d.1.1)
own_in (First _) s d e = absurd d.1
own_in (Second x) s d e =
    unmoved (flat x ++ s)
    (second_lacks ((at "ref") (flat x ++ s)) ((at "mut") (flat x ++ s)) (binding (flat x ++ s)) d.0)
    ∙ unnamed_self x s d.1 ∙ e
own_in _ s d e = absurd d

own_at : (x : Tree) (s : List Token) → Derives x (ref OnePattern) s → is_self_alone (choice (inner x)) ≡ false
    → Lacks own_stands (flat x ++ s)
own_at (Node k x) s d e = own_in x s (subst (λ j. Derives x (table j) s) d.0 d.1) e
own_at _ s d e = absurd d

-- a receiver, behind no & and behind one
pub unreferred : (ts : List Token) → Unmarked 38 ts → sees receiver_stands ts ≡ sees own_stands ts
unreferred ts e = go ((marks "&") ts) e
  where
    go : (o : Option (List Token)) → seen o ≡ false
        → seen (past (first_seen (past o (maybe a_lifetime then maybe (at "mut") then at "self"))
        ((maybe (at "mut") then at "self") ts)) (no (marks "::"))) ≡ sees own_stands ts
    go None e = refl
    go (Some us) e = cc

no_lifetime : (ts : List Token) → Unmarked 39 ts → Lacks a_lifetime ts
no_lifetime (Punct c Joint ∷ Ident cs ∷ us) e = go (c == 39) e
  where
    go : (b : Bool) → seen (cond b (Some (Ident cs ∷ us)) None) ≡ false → seen (cond b (Some us) None) ≡ false
    go true e = cc
    go false e = refl
no_lifetime _ e = refl

pub either_none : (o : Option (List Token)) → first_seen o None ≡ o
either_none None = refl
either_none (Some us) = refl

pub referred : (spacing : Spacing) (us : List Token) → Lacks a_lifetime us
    → sees receiver_stands (Punct 38 spacing ∷ us) ≡ sees own_stands us
referred spacing us e = go (a_lifetime us) e
  where
    go : (o : Option (List Token)) → seen o ≡ false
        → seen (past (first_seen (past (first_seen o (Some us)) (maybe (at "mut") then at "self")) None)
        (no (marks "::"))) ≡ sees own_stands us
    go None e = ap (λ o. seen (past o (no (marks "::")))) (either_none ((maybe (at "mut") then at "self") us))
    go (Some ws) e = cc

referred_at : (c : ℕ) (cs : List ℕ) (spacing : Spacing) (us : List Token) → c ≡ 38 → cs ≡ [] → Lacks a_lifetime us
    → sees receiver_stands (signs c cs spacing ++ us) ≡ sees own_stands us
referred_at c cs spacing us e f l =
    subst (λ d. sees receiver_stands (signs d cs spacing ++ us) ≡ sees own_stands us) (sym e)
    (subst (λ ds. sees receiver_stands (signs 38 ds spacing ++ us) ≡ sees own_stands us) (sym f)
    (referred spacing us l))

-- & mut? and a pattern: a receiver where that is self
behind_and : (y : Tree) (s : List Token) → Derives y (optional (at "mut") (keyword "mut") ▸ ref OnePattern) s
    → is_self (Node ReferencePattern (Pair Nil y)) ≡ false → Lacks own_stands (flat y ++ s) × Lacks a_lifetime
    (flat y ++ s)
behind_and (Pair (First (AWord cs)) p) s d e =
    (moved_past cs (flat p ++ s) d.0.1 ∙ self_at p s d.1 ∙ e, refl)
behind_and (Pair (First _) p) s d e = absurd d.0.1
behind_and (Pair (Second Nil) p) s d e =
    (own_at p s d.1 e, no_lifetime (flat p ++ s) (unmarked_at 39 p s (refl, refl, refl, refl) refl d.1))
behind_and (Pair (Second _) p) s d e = absurd d.0.1
behind_and (Pair _ p) s d e = absurd d.0
behind_and _ s d e = absurd d

reference_in : (y : Tree) (s : List Token) → Derives y (table ReferencePattern) s
    → is_self (Node ReferencePattern y) ≡ false → Lacks receiver_stands (flat y ++ s)
unfolding table
reference_in (Pair (AMark c cs spacing) y) s d e =
    let h = behind_and y s d.1 e in
    ap (sees receiver_stands) (append_assoc (signs c cs spacing) (flat y) s)
    ∙ referred_at c cs spacing (flat y ++ s) d.0.0 d.0.1 h.1 ∙ h.0
reference_in (Pair _ y) s d e = absurd d.0
reference_in _ s d e = absurd d

receiver_unnamed : (x : Tree) (s : List Token) → Derives x unnamed s → is_reference x ≡ false
    → Lacks own_stands (flat x ++ s) → Lacks receiver_stands (flat x ++ s)
receiver_unnamed x s d n e =
    unreferred (flat x ++ s) (unnamed_unmarked 38 x s (refl, refl, refl, refl) (λ h. let f : false ≡ true = sym n ∙ h in
    cc f) d)
    ∙ e

reference_lacks : (k : Kind) (y : Tree) (s : List Token) → k ≡ ReferencePattern → Derives y (table k) s
    → is_self (Node k y) ≡ false → Lacks receiver_stands (flat y ++ s)
reference_lacks k y s e d h =
    reference_in y s (subst (λ j. Derives y (table j) s) e d) (subst (λ j. is_self (Node j y) ≡ false) e h)

-- a pattern that is no receiver is none of a reference, and none alone
alone_of : (z : Tree) → is_self z ≡ false → is_self_alone z ≡ false
alone_of (Node ReferencePattern y) e = refl
alone_of _ e = e

receiver_in : (x : Tree) (s : List Token) → Derives x (table OnePattern) s → is_self (choice x) ≡ false
    → Lacks receiver_stands (flat x ++ s)
unfolding table
receiver_in (First x) s d e =
    unreferred (flat x ++ s) (bound_unmarked 38 (flat x ++ s) d.0)
    ∙ own_in (First x) s d (alone_of (choice (First x)) e)
receiver_in (Second (Second (Second (Second (Second (Second (First (Node k y)))))))) s d e =
    reference_lacks k y s d.1.1.1.1.1.1.1.0 d.1.1.1.1.1.1.1.1 e
receiver_in (Second (Second (Second (Second (Second (Second (First _))))))) s d e = absurd d.1.1.1.1.1.1.1
receiver_in (Second (First x)) s d e =
    receiver_unnamed (First x) s d.1 refl
    (own_in (Second (First x)) s d (alone_of (choice (Second (First x))) e))
receiver_in (Second (Second (First x))) s d e =
    receiver_unnamed (Second (First x)) s d.1 refl
    (own_in (Second (Second (First x))) s d (alone_of (choice (Second (Second (First x)))) e))
receiver_in (Second (Second (Second (First x)))) s d e =
    receiver_unnamed (Second (Second (First x))) s d.1 refl
    (own_in (Second (Second (Second (First x)))) s d (alone_of (choice x) e))
receiver_in (Second (Second (Second (Second (First x))))) s d e =
    receiver_unnamed (Second (Second (Second (First x)))) s d.1 refl
    (own_in (Second (Second (Second (Second (First x))))) s d (alone_of (choice x) e))
receiver_in (Second (Second (Second (Second (Second (First x)))))) s d e =
    receiver_unnamed (Second (Second (Second (Second (First x))))) s d.1 refl
    (own_in (Second (Second (Second (Second (Second (First x)))))) s d (alone_of (choice x) e))
receiver_in (Second (Second (Second (Second (Second (Second (Second x))))))) s d e =
    receiver_unnamed (Second (Second (Second (Second (Second (Second x)))))) s d.1 refl
    (own_in (Second (Second (Second (Second (Second (Second (Second x))))))) s d (alone_of (choice x) e))
receiver_in (Second (Second (Second (Second (Second (Second _)))))) s d e = absurd d.1.1.1.1.1.1
receiver_in (Second (Second (Second (Second (Second _))))) s d e = absurd d.1.1.1.1.1
receiver_in (Second (Second (Second (Second _)))) s d e = absurd d.1.1.1.1
receiver_in (Second (Second (Second _))) s d e = absurd d.1.1.1
receiver_in (Second (Second _)) s d e = absurd d.1.1
receiver_in (Second _) s d e = absurd d.1
receiver_in _ s d e = absurd d

pub receiver_lacks : (x : Tree) (s : List Token) → Derives x (ref OnePattern) s → is_self (choice (inner x)) ≡ false
    → Lacks receiver_stands (flat x ++ s)
receiver_lacks (Node k x) s d e = receiver_in x s (subst (λ j. Derives x (table j) s) d.0 d.1) e
receiver_lacks _ s d e = absurd d

-- no pattern has an identifier and a < behind it
goes_unangled : (ts : List Token) → sees goes_on ts ≡ true → Unmarked 60 ts
goes_unangled ts e =
    ⊎_elim (λ f. mark_other 58 60 (58 ∷ []) ts refl f)
    (λ f. ⊎_elim (λ g. group_unmarked 60 Parenthesis ts g)
    (λ g. ⊎_elim (λ h. group_unmarked 60 Brace ts h) (λ h. mark_other 46 60 (46 ∷ []) ts refl h)
    (either_seen (brace ts) ((marks "..") ts) g)) (either_seen (parenthesis ts) ((brace or marks "..") ts) f))
    (either_seen ((marks "::") ts) ((parenthesis or brace or marks "..") ts) e)

unbound_unangled : (ts : List Token) → Lacks binding ts → Lacks (an_ident then marks "<") ts
unbound_unangled (Ident cs ∷ us) e = go (is_ident cs) e
  where
    go : (b : Bool) → seen (past (cond b (Some us) None) (no goes_on)) ≡ false
        → seen (past (cond b (Some us) None) (marks "<")) ≡ false
    go true h = goes_unangled us (not_lacking goes_on us h)
    go false h = refl
unbound_unangled _ e = refl

at_unangled : (e : Tree) (s : List Token) → Derives e
    (when marks "!" read refused else optional (marks "@") (sign "@" ▸ ref OnePattern)) s
    → Unmarked 60 s → Unmarked 60 (flat e ++ s)
at_unangled (First x) s d a = absurd (none_read x s d.1)
at_unangled (Second (First x)) s d a = mark_other 64 60 [] (flat x ++ s) refl d.1.0
at_unangled (Second (Second Nil)) s d a = a
at_unangled (Second (Second _)) s d a = absurd d.1.1
at_unangled (Second _) s d a = absurd d.1
at_unangled _ s d a = absurd d

ident_unangled : (y : Tree) (s : List Token) → Derives y (table IdentPattern) s → Unmarked 60 s
    → Lacks (an_ident then marks "<") (flat y ++ s)
unfolding table
ident_unangled (Pair (First r) y) s d a =
    subst (Lacks (an_ident then marks "<")) (sym (append_assoc (flat r) (flat y) s))
    (past_none is_ident (marks "<") (flat r ++ (flat y ++ s))
    (word_is_none (codes "ref") (flat r ++ (flat y ++ s)) reserved_ref d.0.0))
ident_unangled (Pair (Second Nil) (Pair (First m) y)) s d a =
    subst (Lacks (an_ident then marks "<")) (sym (append_assoc (flat m) (flat y) s))
    (past_none is_ident (marks "<") (flat m ++ (flat y ++ s))
    (word_is_none (codes "mut") (flat m ++ (flat y ++ s)) reserved_mut d.1.0.0))
ident_unangled (Pair (Second Nil) (Pair (Second Nil) (Pair (AWord cs) e))) s d a =
    past_word is_ident (marks "<") cs (flat e ++ s) (at_unangled e s d.1.1.1 a)
ident_unangled (Pair (Second Nil) (Pair (Second Nil) (Pair _ e))) s d a = absurd d.1.1.0
ident_unangled (Pair (Second Nil) (Pair (Second Nil) _)) s d a = absurd d.1.1
ident_unangled (Pair (Second Nil) (Pair (Second _) y)) s d a = absurd d.1.0.1
ident_unangled (Pair (Second Nil) (Pair _ y)) s d a = absurd d.1.0
ident_unangled (Pair (Second Nil) _) s d a = absurd d.1
ident_unangled (Pair (Second _) y) s d a = absurd d.0.1
ident_unangled (Pair _ y) s d a = absurd d.0
ident_unangled _ s d a = absurd d

unangled_in : (x : Tree) (s : List Token) → Derives x (table OnePattern) s → Unmarked 60 s
    → Lacks (an_ident then marks "<") (flat x ++ s)
unfolding table
unangled_in (First (Node k y)) s d a = ident_unangled y s (subst (λ j. Derives y (table j) s) d.1.0 d.1.1) a
unangled_in (First _) s d a = absurd d.1
unangled_in (Second x) s d a =
    unbound_unangled (flat x ++ s)
    (third_lacks ((at "ref") (flat x ++ s)) ((at "mut") (flat x ++ s)) (binding (flat x ++ s)) d.0)
unangled_in _ s d a = absurd d

pub pattern_unangled : (x : Tree) (s : List Token) → Derives x (ref OnePattern) s → Unmarked 60 s
    → Lacks (an_ident then marks "<") (flat x ++ s)
pattern_unangled (Node k x) s d a = unangled_in x s (subst (λ j. Derives x (table j) s) d.0 d.1) a
pattern_unangled _ s d a = absurd d
