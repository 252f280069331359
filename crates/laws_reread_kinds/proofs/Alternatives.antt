-- The step and the law of one alternative of a pattern: an identifier names what it matches, or begins a path.
use Rattle.std.proofs.Common.{◌≡◌, ℕ, List, [], ◌∷◌, ◌++◌, refl, sym, ap, ◌∙◌, subst, append_assoc, ⊎_elim}
use Rattle.std.specs.Prelude.{Bool, true, false, not, cond, codes, Some, None, ◌&&◌, ◌||◌, ◌==◌}
use Rattle.std.proofs.lemmas.Slice.Eq.{bytes_eq-Decides}
use Rattle.proc_macro2.specs.Token.{Token, Ident, Opens, Punct}
use Rattle.proc_macro2.specs.declared.delimiter.Delimiter.{Delimiter}
use Rattle.proc_macro2.specs.declared.delimiter.Delimiter.TheVariants.{Parenthesis, Brace, Bracket}
use Rattle.rust_leaf.specs.declared.punct.Spacing.TheVariants.{Joint}
use Rattle.syn_grammar.specs.Kind.{Kind, Position, Plain, AnyPath, FieldPatterns, IdentPattern, InExpression}
use Rattle.syn_grammar.specs.Kind.{LiteralPattern, OnePattern, Path, PathPattern}
use Rattle.syn_grammar.specs.Kind.{RangeEnd, RangeToPattern, ReferencePattern, RestPattern, Segments, SlicePattern}
use Rattle.syn_grammar.specs.Kind.{AtType, Pattern, Style, TuplePattern, WildPattern}
use Rattle.syn_grammar.specs.Words.{any_text, is_bool, is_ident, is_path_keyword, is_plain_name}
use Rattle.rust_leaf.specs.Keywords.{is_reserved}
use Rattle.rust_leaf.specs.Keywords.{same_text}
use Rattle.syn_grammar.specs.Tree.{Tree, AMark, AWord, Nil, Back, Pair, First, Second, Node, marks as signs, flat}
use Rattle.syn_grammar.specs.Gram.{Gram, alt, judged, ref}
use Rattle.syn_grammar.specs.Look.{Look, a_literal, a_quoted, a_word, behind as past, no, opens}
use Rattle.syn_grammar.specs.Look.{past_marks, seen, sees, ◌or◌, ◌then◌}
use Rattle.syn_grammar.specs.Say.{refused, sign, ◌▸◌, at, brace, bracket, in_parentheses, many_to_end, marks}
use Rattle.syn_grammar.specs.Say.{optional, parenthesis, when◌read◌else◌}
use Rattle.syn_grammar.specs.Patterns.{binding, dots, range_bound_stands, range_end_stands}
use Rattle.syn_grammar.specs.Paths.{arguments_stand}
use Rattle.syn_grammar.specs.Table.{table}
use Rattle.syn_grammar.specs.Derives.{Derives}
use Rattle.syn_grammar.specs.Kept.{forget, held, kept}
use Rattle.syn_grammar.specs.Tidy.{is_lone_path, is_lone_segment, tidy}
use Rattle.syn_grammar.specs.Normal.{passed, place_of, normal_in}
use Rattle.laws_reread_kinds.proofs.Choices.{both_same, first_of, is_false, none_of, other_word, second_seen}
use Rattle.laws_reread_kinds.proofs.Printed.{KindLaw, IsPlaced, Printed, simple_law}
use Rattle.syn_grammar.specs.Words.{is_name}
use Rattle.syn_grammar.specs.Ranks.{skips}
use Rattle.syn_grammar.specs.Part.{choice}
use Rattle.laws_reread_kinds.specs.After.{behind}
use Rattle.laws_reread_kinds.specs.Sees.{Lacks, LacksAll}
use Rattle.laws_reread_kinds.proofs.Starts.{starts}
use Rattle.laws_reread_kinds.proofs.Readies.{Ready, Step}
use Rattle.laws_reread_kinds.proofs.Classes.{AnyWord, Class, Opening, Quoted, Sign, TheWord, Then, ◌&◌, among_left}
use Rattle.laws_reread_kinds.proofs.Classes.{among_right, of_all}
use Rattle.laws_reread_kinds.proofs.Classes.{the_words}
use Rattle.laws_reread_kinds.proofs.Fits.{Fits, IsMeant}
use Rattle.laws_reread_kinds.specs.Covered.{has_step, inner, is_lone, lone_pattern, lone_rest}
use Rattle.laws_reread_kinds.proofs.Fine.{At, Fine, Without, fine_alt, words_are}
use Rattle.laws_reread_kinds.proofs.Parts.{Found, found_alt, found_ref, meant_step, told_at, weaken}
use Rattle.laws_reread_kinds.proofs.Sights.{ident_not}
use Rattle.laws_reread_kinds.proofs.Keywords.{reserved_crate, reserved_false, reserved_mut, reserved_ref}
use Rattle.laws_reread_kinds.proofs.Keywords.{reserved_big_self, reserved_self, reserved_super}
use Rattle.laws_reread_kinds.proofs.Keywords.{reserved_true, reserved_underscore}
use Rattle.laws_reread_kinds.proofs.Seconds.{either_seen, front_seen, group_is_none, mark_is_none, mark_other}
use Rattle.laws_reread_kinds.proofs.Seconds.{none_seen}
use Rattle.laws_reread_kinds.proofs.Seconds.{past_none, word_is_none}

-- a name that is bound
abbrev pub bound_stands : Look
bound_stands = at "ref" or at "mut" or binding

abbrev pub goes_on : Look
goes_on = marks "::" or parenthesis or brace or marks ".."

unseen_then : (cs : List ℕ) (ts : List Token) → is_ident cs ≡ true → Lacks goes_on ts
    → sees binding (Ident cs ∷ ts) ≡ true
unseen_then cs ts i e =
    ap (λ b. seen (past (cond b (Some ts) None) (no goes_on))) i
    ∙ ap (λ b. seen (cond b None (Some ts))) e

binding_seen : (cs : List ℕ) (ts : List Token) → is_ident cs ≡ true → Lacks goes_on ts
    → sees bound_stands (Ident cs ∷ ts) ≡ true
binding_seen cs ts i e =
    second_seen ((at "ref") (Ident cs ∷ ts)) ((at "mut" or binding) (Ident cs ∷ ts))
    (second_seen ((at "mut") (Ident cs ∷ ts)) (binding (Ident cs ∷ ts)) (unseen_then cs ts i e))

-- where no name stands, none is bound
no_bound : (ts : List Token) → Lacks (at "ref") ts → Lacks (at "mut") ts → Lacks binding ts → Lacks bound_stands ts
no_bound ts e f g =
    none_of ((at "ref") ts) ((at "mut" or binding) ts) e (none_of ((at "mut") ts) (binding ts) f g)

pub no_word : (ts : List Token) → ((p : List ℕ → Bool) → Lacks (a_word p) ts) → Lacks bound_stands ts
no_word ts h = no_bound ts (h _) (h _) (past_none is_ident (no goes_on) ts (h is_ident))

pub quoted_is_none : (q p : List ℕ → Bool) (ts : List Token) → sees (a_quoted q) ts ≡ true → Lacks (a_word p) ts
quoted_is_none q p (Ident cs ∷ ts) e = cc
quoted_is_none q p _ e = refl

abbrev pub bools : List (List ℕ)
bools = codes "true" ∷ codes "false" ∷ []

pub true_of : (b : Bool) (us : List Token) → seen (cond b (Some us) None) ≡ true → b ≡ true
true_of true us e = refl
true_of false us e = cc

bool_is_none : (ts : List Token) → sees (a_word is_bool) ts ≡ true → Lacks bound_stands ts
unfolding is_bool
bool_is_none (Ident cs ∷ us) e =
    of_all (λ ts. Lacks bound_stands ts) (the_words bools) (Ident cs ∷ us)
    (λ us. simp reserved_true refl, (λ us. simp reserved_false refl, tt))
    (words_are bools cs us (true_of (is_bool cs) us e))
bool_is_none _ e = cc

-- a range's marks
pub dots_seen : (ts : List Token) → sees dots ts ≡ true → sees (marks "..") ts ≡ true
dots_seen ts e = none_seen ((marks "..." or marks "..=") ts) (marks "..") ts e

pub range_marks : (ts : List Token) → sees (marks "..=" or (dots then range_bound_stands)) ts ≡ true
    → (p : List ℕ → Bool) → Lacks (a_word p) ts
range_marks ts e p =
    ⊎_elim (λ f. mark_is_none p 46 (46 ∷ 61 ∷ []) ts f)
    (λ f. mark_is_none p 46 (46 ∷ []) ts (dots_seen ts (front_seen (dots ts) range_bound_stands f)))
    (either_seen ((marks "..=") ts) ((dots then range_bound_stands) ts) e)

-- a path that isn't one name alone
keyword_bound : (cs : List ℕ) (us : List Token) → is_path_keyword cs ≡ true → Lacks bound_stands (Ident cs ∷ us)
unfolding is_path_keyword
keyword_bound cs us e =
    of_all (λ ts. Lacks bound_stands ts) (the_words (codes "self" ∷ codes "super" ∷ codes "crate" ∷ []))
    (Ident cs ∷ us)
    (λ us. simp reserved_self refl, (λ us. simp reserved_super refl, (λ us. simp reserved_crate refl, tt)))
    (words_are (codes "self" ∷ codes "super" ∷ codes "crate" ∷ []) cs us e)

pub name_not : (w cs : List ℕ) → is_reserved w ≡ true → same_text w (codes "Self") ≡ false → is_plain_name cs ≡ true
    → same_text w cs ≡ false
unfolding is_plain_name
name_not w cs r n p = go (is_ident cs) refl
  where
    go : (b : Bool) → is_ident cs ≡ b → same_text w cs ≡ false
    go true i = ident_not w cs r i
    go false i =
        let s : same_text (codes "Self") cs ≡ true = ap (λ b. b || same_text (codes "Self") cs) (sym i) ∙ p in
        let f : codes "Self" ≡ cs = (bytes_eq-Decides (codes "Self") cs).0 s in
        ap (same_text w) (sym f) ∙ n

unbound : (cs : List ℕ) (ts : List Token) → (is_ident cs ≡ true → sees goes_on ts ≡ true)
    → Lacks binding (Ident cs ∷ ts)
unbound cs ts e = go (is_ident cs) e
  where
    go : (b : Bool) → (b ≡ true → sees goes_on ts ≡ true) → seen (past (cond b (Some ts) None) (no goes_on)) ≡ false
    go true e = ap (λ b. seen (cond b None (Some ts))) (e refl)
    go false e = refl

goes_after : (cs : List ℕ) (ts : List Token) → is_plain_name cs ≡ true → (is_ident cs ≡ true → sees goes_on ts ≡ true)
    → Lacks bound_stands (Ident cs ∷ ts)
goes_after cs ts n e =
    no_bound (Ident cs ∷ ts)
    (ap (λ b. seen (cond b (Some ts) None)) (name_not (codes "ref") cs reserved_ref refl n))
    (ap (λ b. seen (cond b (Some ts) None)) (name_not (codes "mut") cs reserved_mut refl n)) (unbound cs ts e)

colons_on : (ts : List Token) → sees (marks "::") ts ≡ true → sees goes_on ts ≡ true
colons_on ts e = first_of ((marks "::") ts) ((parenthesis or brace or marks "..") ts) e

names_bound : (y : Tree) (us : List Token) → Derives y (table (Segments InExpression)) us
    → (is_lone_segment (Node (Segments InExpression) y) ≡ true → sees goes_on us ≡ true)
    → Lacks bound_stands (flat y ++ us)
unfolding table
names_bound (First (Pair (AWord cs) m)) us d h = keyword_bound cs (flat m ++ us) d.1.0
names_bound (First (Pair _ m)) us d h = absurd d.1.0
names_bound (First _) us d h = absurd d.1
names_bound (Second (Pair (AWord cs) (First z))) us d h =
    goes_after cs (flat z ++ us) d.1.0
    (λ i. colons_on (flat z ++ us) (front_seen ((marks "::") (flat z ++ us)) (marks "<") d.1.1.0))
names_bound (Second (Pair (AWord cs) (Second (First z)))) us d h =
    goes_after cs (flat z ++ us) d.1.0 (λ i. colons_on (flat z ++ us) d.1.1.1.0)
names_bound (Second (Pair (AWord cs) (Second (Second (First z))))) us d h = let e : false ≡ true = d.1.1.1.1.0 in cc e
names_bound (Second (Pair (AWord cs) (Second (Second (Second Nil))))) us d h = goes_after cs us d.1.0 h
names_bound (Second (Pair (AWord cs) (Second (Second (Second _))))) us d h = absurd d.1.1.1.1.1
names_bound (Second (Pair (AWord cs) (Second (Second _)))) us d h = absurd d.1.1.1.1
names_bound (Second (Pair (AWord cs) (Second _))) us d h = absurd d.1.1.1
names_bound (Second (Pair (AWord cs) _)) us d h = absurd d.1.1
names_bound (Second (Pair _ y)) us d h = absurd d.1.0
names_bound (Second _) us d h = absurd d.1
names_bound _ us d h = absurd d

-- of what is behind the choice between two kinds of paths
abbrev pub is_lone_plain : Tree → Bool
is_lone_plain x = is_lone_path (Node (AnyPath InExpression) (Second x))

path_bound : (y : Tree) (us : List Token) → Derives y (table (Path InExpression)) us
    → (is_lone_plain (Node (Path InExpression) y) ≡ true → sees goes_on us ≡ true) → Lacks bound_stands (flat y ++ us)
unfolding table
path_bound (Pair (First m) y) us d h =
    subst (Lacks bound_stands) (sym (append_assoc (flat m) (flat y) us))
    (no_word (flat m ++ (flat y ++ us)) (λ p. mark_is_none p 58 (58 ∷ []) (flat m ++ (flat y ++ us)) d.0.0))
path_bound (Pair (Second Nil) (Node k y)) us d h =
    names_bound y us (subst (λ j. Derives y (table j) us) d.1.0 d.1.1)
    (subst (λ j. is_lone_segment (Node j y) ≡ true → sees goes_on us ≡ true) d.1.0 h)
path_bound (Pair (Second Nil) _) us d h = absurd d.1
path_bound (Pair (Second _) y) us d h = absurd d.0.1
path_bound (Pair _ y) us d h = absurd d.0
path_bound _ us d h = absurd d

any_bound : (y : Tree) (us : List Token) → Derives y (table (AnyPath InExpression)) us
    → (is_lone_path (Node (AnyPath InExpression) y) ≡ true → sees goes_on us ≡ true)
    → Lacks bound_stands (flat y ++ us)
unfolding table
any_bound (First x) us d h = no_word (flat x ++ us) (λ p. mark_is_none p 60 [] (flat x ++ us) d.0)
any_bound (Second (Node k y)) us d h =
    path_bound y us (subst (λ j. Derives y (table j) us) d.1.0 d.1.1)
    (subst (λ j. is_lone_plain (Node j y) ≡ true → sees goes_on us ≡ true) d.1.0 h)
any_bound (Second _) us d h = absurd d.1
any_bound _ us d h = absurd d

-- what stands behind the path: patterns in parentheses, fields in braces, a range's end, or nothing
abbrev pub path_rest : Gram
path_rest =
    when parenthesis read in_parentheses (many_to_end (ref Pattern))
    else when brace read ref FieldPatterns
    else optional range_end_stands (ref RangeEnd)

rest_on : (e : Tree) (s : List Token) → Derives e path_rest s → lone_rest e ≡ false → sees goes_on (flat e ++ s) ≡ true
rest_on (First x) s d n =
    second_seen ((marks "::") (flat x ++ s)) ((parenthesis or brace or marks "..") (flat x ++ s))
    (first_of (parenthesis (flat x ++ s)) ((brace or marks "..") (flat x ++ s)) d.0)
rest_on (Second (First x)) s d n =
    second_seen ((marks "::") (flat x ++ s)) ((parenthesis or brace or marks "..") (flat x ++ s))
    (second_seen (parenthesis (flat x ++ s)) ((brace or marks "..") (flat x ++ s))
    (first_of (brace (flat x ++ s)) ((marks "..") (flat x ++ s)) d.1.0))
rest_on (Second (Second (First x))) s d n =
    second_seen ((marks "::") (flat x ++ s)) ((parenthesis or brace or marks "..") (flat x ++ s))
    (second_seen (parenthesis (flat x ++ s)) ((brace or marks "..") (flat x ++ s))
    (second_seen (brace (flat x ++ s)) ((marks "..") (flat x ++ s))
    (none_seen ((marks "...") (flat x ++ s)) (marks "..") (flat x ++ s) d.1.1.0)))
rest_on (Second (Second (Second x))) s d n = cc
rest_on (Second (Second _)) s d n = absurd d.1.1
rest_on (Second _) s d n = absurd d.1
rest_on _ s d n = absurd d

both_lone : (a b : Bool) → (a && b) ≡ false → a ≡ true → b ≡ false
both_lone true b e h = e
both_lone false b e h = cc

pattern_bound : (x : Tree) (s : List Token) → Derives x (table PathPattern) s → lone_pattern x ≡ false
    → Lacks bound_stands (flat x ++ s)
unfolding table
pattern_bound (Pair (Node k p) e) s d n =
    subst (Lacks bound_stands) (sym (append_assoc (flat p) (flat e) s))
    (any_bound p (flat e ++ s) (subst (λ j. Derives p (table j) (flat e ++ s)) d.0.0 d.0.1)
    (λ l. rest_on e s d.1 (both_lone (is_lone_path (Node (AnyPath InExpression) p)) (lone_rest e)
    (subst (λ j. (is_lone_path (Node j p) && lone_rest e) ≡ false) d.0.0 n) l)))
pattern_bound (Pair _ e) s d n = absurd d.0
pattern_bound _ s d n = absurd d

lone_bound : (k : Kind) (x : Tree) (s : List Token) → k ≡ PathPattern → Derives x (table k) s → is_lone (Node k x) ≡
    false
    → Lacks bound_stands (flat x ++ s)
lone_bound k x s e d n =
    pattern_bound x s (subst (λ j. Derives x (table j) s) e d) (subst (λ j. is_lone (Node j x) ≡ false) e n)

pub longer_lacks : (c : ℕ) (cs : List ℕ) (ts : List Token) → sees (past_marks c []) ts ≡ false
    → sees (past_marks c cs) ts ≡ false
longer_lacks c [] ts e = e
longer_lacks c (x ∷ xs) (Punct d Joint ∷ ts) e = go (d == c) e
  where
    go : (b : Bool) → seen (cond b (Some ts) None) ≡ false → seen (cond b (past_marks x xs ts) None) ≡ false
    go true e = cc
    go false e = refl
longer_lacks c (x ∷ xs) _ e = refl

pub mark_no_group : (c : ℕ) (cs : List ℕ) (d : Delimiter) (ts : List Token) → sees (past_marks c cs) ts ≡ true
    → Lacks (opens d) ts
mark_no_group c [] d (Opens e ∷ ts) h = cc
mark_no_group c (x ∷ xs) d (Opens e ∷ ts) h = cc
mark_no_group c cs d _ h = refl

pub none_read : (x : Tree) (r : List Token) → Derives x refused r → ⊥
none_read (Pair x y) r d = d
none_read _ r d = d

-- an identifier, and what may stand behind it
at_seen : (e : Tree) (s : List Token) → Derives e
    (when marks "!" read refused else optional (marks "@") (sign "@" ▸ ref OnePattern)) s
    → LacksAll (behind OnePattern) s → Lacks goes_on (flat e ++ s)
at_seen (First x) s d a = absurd (none_read x s d.1)
at_seen (Second (First x)) s d a =
    let h : (c : ℕ) (cs : List ℕ) → (64 == c) ≡ false → sees (past_marks c cs) (flat x ++ s) ≡ false =
    λ c cs n. longer_lacks c cs (flat x ++ s) (mark_other 64 c [] (flat x ++ s) n d.1.0) in
    none_of ((marks "::") (flat x ++ s)) ((parenthesis or brace or marks "..") (flat x ++ s)) (h 58 (58 ∷ []) refl)
    (none_of (parenthesis (flat x ++ s)) ((brace or marks "..") (flat x ++ s))
    (mark_no_group 64 [] Parenthesis (flat x ++ s) d.1.0)
    (none_of (brace (flat x ++ s)) ((marks "..") (flat x ++ s)) (mark_no_group 64 [] Brace (flat x ++ s) d.1.0)
    (h 46 (46 ∷ []) refl)))
at_seen (Second (Second Nil)) s d a =
    none_of ((marks "::") s) ((parenthesis or brace or marks "..") s) a.1.1.1.1.1.1.0
    (none_of (parenthesis s) ((brace or marks "..") s) a.1.1.1.1.0
    (none_of (brace s) ((marks "..") s) a.1.1.1.1.1.0 a.0))
at_seen (Second (Second _)) s d a = absurd d.1.1
at_seen (Second _) s d a = absurd d.1
at_seen _ s d a = absurd d

ident_in : (x : Tree) (s : List Token) → Derives x (table IdentPattern) s → LacksAll (behind OnePattern) s
    → sees bound_stands (flat x ++ s) ≡ true
unfolding table
ident_in (Pair (First r) y) s d a =
    let us = flat r ++ (flat y ++ s) in
    subst (λ us. sees bound_stands us ≡ true) (sym (append_assoc (flat r) (flat y) s))
    (first_of ((at "ref") us) ((at "mut" or binding) us) d.0.0)
ident_in (Pair (Second Nil) (Pair (First m) y)) s d a =
    let us = flat m ++ (flat y ++ s) in
    subst (λ us. sees bound_stands us ≡ true) (sym (append_assoc (flat m) (flat y) s))
    (second_seen ((at "ref") us) ((at "mut" or binding) us) (first_of ((at "mut") us) (binding us) d.1.0.0))
ident_in (Pair (Second Nil) (Pair (Second Nil) (Pair (AWord cs) e))) s d a =
    binding_seen cs (flat e ++ s) d.1.1.0 (at_seen e s d.1.1.1 a)
ident_in (Pair (Second Nil) (Pair (Second Nil) (Pair _ e))) s d a = absurd d.1.1.0
ident_in (Pair (Second Nil) (Pair (Second Nil) _)) s d a = absurd d.1.1
ident_in (Pair (Second Nil) (Pair (Second _) y)) s d a = absurd d.1.0.1
ident_in (Pair (Second Nil) (Pair _ y)) s d a = absurd d.1.0
ident_in (Pair (Second Nil) _) s d a = absurd d.1
ident_in (Pair (Second _) y) s d a = absurd d.0.1
ident_in (Pair _ y) s d a = absurd d.0
ident_in _ s d a = absurd d

ident_seen : (x : Tree) (s : List Token) → Derives x (ref IdentPattern) s → LacksAll (behind OnePattern) s
    → sees bound_stands (flat x ++ s) ≡ true
ident_seen (Node k x) s d a = ident_in x s (subst (λ j. Derives x (table j) s) d.0 d.1) a
ident_seen _ s d a = absurd d

-- the other alternatives
abbrev pub range_stands : Look
range_stands = marks "..=" or (dots then range_bound_stands)

abbrev pub from_groups : Gram
from_groups =
    when parenthesis read ref TuplePattern
    else when bracket read ref SlicePattern
    else when marks "&" read ref ReferencePattern
    else when a_literal or marks "-" read ref LiteralPattern
    else ref PathPattern

abbrev pub from_rest : Gram
from_rest = when dots read ref RestPattern else from_groups

abbrev pub from_range : Gram
from_range = when range_stands read ref RangeToPattern else from_rest

abbrev pub unnamed : Gram
unnamed = when at "_" read ref WildPattern else from_range

literal_lacks : (ts : List Token) → sees (a_literal or marks "-") ts ≡ true → Lacks bound_stands ts
literal_lacks ts e =
    ⊎_elim
    (λ f. ⊎_elim (λ h. no_word ts (λ p. quoted_is_none any_text p ts h)) (bool_is_none ts)
    (either_seen ((a_quoted any_text) ts) ((a_word is_bool) ts) f))
    (λ f. no_word ts (λ p. mark_is_none p 45 [] ts f)) (either_seen (a_literal ts) ((marks "-") ts) e)

wild_lacks : (ts : List Token) → sees (at "_") ts ≡ true → Lacks bound_stands ts
wild_lacks ts e =
    no_bound ts (other_word (codes "ref") (codes "_") ts refl e) (other_word (codes "mut") (codes "_") ts refl e)
    (past_none is_ident (no goes_on) ts (word_is_none (codes "_") ts reserved_underscore e))

unnamed_lacks : (x : Tree) (s : List Token) → Derives x unnamed s → is_lone (choice x) ≡ false
    → Lacks bound_stands (flat x ++ s)
unnamed_lacks (First x) s d e = wild_lacks (flat x ++ s) d.0
unnamed_lacks (Second (First x)) s d e = no_word (flat x ++ s) (range_marks (flat x ++ s) d.1.0)
unnamed_lacks (Second (Second (First x))) s d e =
    no_word (flat x ++ s) (λ p. mark_is_none p 46 (46 ∷ []) (flat x ++ s) (dots_seen (flat x ++ s) d.1.1.0))
unnamed_lacks (Second (Second (Second (First x)))) s d e =
    no_word (flat x ++ s) (λ p. group_is_none p Parenthesis (flat x ++ s) d.1.1.1.0)
unnamed_lacks (Second (Second (Second (Second (First x))))) s d e =
    no_word (flat x ++ s) (λ p. group_is_none p Bracket (flat x ++ s) d.1.1.1.1.0)
unnamed_lacks (Second (Second (Second (Second (Second (First x)))))) s d e =
    no_word (flat x ++ s) (λ p. mark_is_none p 38 [] (flat x ++ s) d.1.1.1.1.1.0)
unnamed_lacks (Second (Second (Second (Second (Second (Second (First x))))))) s d e =
    literal_lacks (flat x ++ s) d.1.1.1.1.1.1.0
unnamed_lacks (Second (Second (Second (Second (Second (Second (Second (Node k x)))))))) s d e =
    lone_bound k x s d.1.1.1.1.1.1.1.0 d.1.1.1.1.1.1.1.1 e
unnamed_lacks (Second (Second (Second (Second (Second (Second (Second _))))))) s d e = absurd d.1.1.1.1.1.1.1
unnamed_lacks (Second (Second (Second (Second (Second (Second _)))))) s d e = absurd d.1.1.1.1.1.1
unnamed_lacks (Second (Second (Second (Second (Second _))))) s d e = absurd d.1.1.1.1.1
unnamed_lacks (Second (Second (Second (Second _)))) s d e = absurd d.1.1.1.1
unnamed_lacks (Second (Second (Second _))) s d e = absurd d.1.1.1
unnamed_lacks (Second (Second _)) s d e = absurd d.1.1
unnamed_lacks (Second _) s d e = absurd d.1
unnamed_lacks _ s d e = absurd d

-- .. by itself, which no bound follows
rest_lacks : (x : Tree) (s : List Token) → Fits x (table RestPattern) → Lacks range_bound_stands s
    → Lacks range_stands (flat x ++ s)
unfolding table
rest_lacks (AMark c cs spacing) s f a =
    subst (λ d. Lacks range_stands (signs d cs spacing ++ s)) (sym f.0)
    (subst (λ ds. Lacks range_stands (signs 46 ds spacing ++ s)) (sym f.1)
    (subst (λ j. Lacks range_stands (signs 46 (46 ∷ []) j ++ s)) f.2 a))
rest_lacks _ s f a = absurd f

fine_rest : Fine (ref RestPattern) (Without (behind OnePattern))
    (λ x s. At (starts RestPattern) x s × Lacks range_stands (flat x ++ s))
unfolding skips
fine_rest = record { by = go }
  where
    go : (x : Tree) (s : List Token) → Fits x (ref RestPattern) → Ready x → LacksAll (behind OnePattern) s
        → Derives x (ref RestPattern) s × (At (starts RestPattern) x s × Lacks range_stands (flat x ++ s))
    go (Node k x) s f w a =
        let (d, i) = (found_ref RestPattern refl).fine.by (Node k x) s f w tt in
        (d, (i, rest_lacks x s (subst (λ j. Fits x (table j)) f.0 f.3) a.1.1.1.1.1.1.1.1.0))
    go _ s f w a = absurd f

abbrev pub group_classes : List Class
group_classes = Opening Parenthesis ∷ Opening Bracket ∷ Sign 38 [] ∷ Sign 45 [] ∷ Quoted any_text ∷ TheWord
    (codes "true") ∷ TheWord (codes "false") ∷ Sign 60 [] ∷ Then 58 (58 ∷ []) (TheWord (codes "self")) ∷ Then 58
    (58 ∷ []) (TheWord (codes "super")) ∷ Then 58 (58 ∷ []) (TheWord (codes "crate")) ∷ Then 58 (58 ∷ [])
    (AnyWord is_ident) ∷ Then 58 (58 ∷ []) (TheWord (codes "Self")) ∷ TheWord (codes "self") ∷ TheWord
    (codes "super") ∷ TheWord (codes "crate") ∷ AnyWord is_ident ∷ TheWord (codes "Self") ∷ []

found_groups : Found from_groups (behind OnePattern) group_classes
unfolding skips is_path_keyword is_plain_name is_bool is_name
found_groups = (found_alt parenthesis
    (weaken ((marks "..") ∷ (marks "!") ∷ (marks "@") ∷ range_end_stands ∷ parenthesis ∷ brace ∷ (marks "::") ∷
    (arguments_stand InExpression) ∷ range_bound_stands ∷ []) (found_ref TuplePattern refl) (λ s a. tt))
    (found_alt bracket (weaken
    ((marks "..") ∷ (marks "!") ∷ (marks "@") ∷ range_end_stands ∷ parenthesis ∷ brace ∷ (marks "::") ∷
    (arguments_stand InExpression) ∷ range_bound_stands ∷ []) (found_ref SlicePattern refl) (λ s a. tt))
    (found_alt (marks "&") (found_ref ReferencePattern refl)
    (weaken ((marks "..") ∷ (marks "!") ∷ (marks "@") ∷ range_end_stands ∷ parenthesis ∷ brace ∷ (marks "::") ∷
    (arguments_stand InExpression) ∷ range_bound_stands ∷ [])
    (found_alt (a_literal or marks "-")
    (weaken (range_end_stands ∷ range_bound_stands ∷ (marks "::") ∷ (arguments_stand InExpression) ∷ parenthesis ∷
    brace ∷ []) (found_ref LiteralPattern refl) (λ s a. (a.0, (a.1.0, (a.1.1.0, (a.1.1.1.0, tt))))))
    (weaken (range_end_stands ∷ range_bound_stands ∷ (marks "::") ∷ (arguments_stand InExpression) ∷ parenthesis ∷
    brace ∷ []) (found_ref PathPattern refl)
    (λ s a. (a.1.1.1.1.0, (a.1.1.1.1.1.0, (a.0, (a.1.1.0, (a.1.1.1.0, (a.1.0, tt)))))))) (search)
    ((λ us. refl) & (λ us. refl) & (λ us. refl) & (λ us. refl) & (λ cs h us. refl) & (λ us. refl) & (λ us. refl) &
    (λ us. refl) & (λ us. refl) &
    (λ cs h us. simp (ident_not (codes "true") cs reserved_true h, ident_not (codes "false") cs reserved_false h)
    refl) & (λ us. refl) & tt))
    (λ s a. (
      a.1.1.1.0,
      (
        a.1.1.1.1.1.1.1.1.0,
        (a.1.1.1.1.1.1.0, (a.1.1.1.1.1.1.1.0, (a.1.1.1.1.0, (a.1.1.1.1.1.0, tt)))),
      ),
    ))) (λ us. refl, tt) (search))
    (λ us. refl, tt) (search)) (λ us. refl, tt) (search))

fine_from_rest : Fine from_rest (Without (behind OnePattern))
    (λ x s. At (starts RestPattern ++ group_classes) x s × Lacks range_stands (flat x ++ s))
unfolding is_path_keyword is_plain_name is_bool is_name
fine_from_rest =
    fine_alt (Without (behind OnePattern))
    (λ x s. At (starts RestPattern ++ group_classes) x s × Lacks range_stands (flat x ++ s)) fine_rest
    found_groups.fine (λ x s c. c) (λ x s c. c)
    (λ x s e i c. (
      told_at dots true (starts RestPattern) (flat x ++ s) (λ us. refl, tt) i.0,
      (among_left (starts RestPattern) group_classes (flat x ++ s) i.0, i.1),
    ))
    (λ x s e i c. (
      told_at dots false group_classes (flat x ++ s) (search) i,
      (
        among_right (starts RestPattern) group_classes (flat x ++ s) i,
        told_at range_stands false group_classes (flat x ++ s) (search) i,
      ),
    ))

abbrev pub range_classes : List Class
range_classes = starts RangeToPattern ++ (starts RestPattern ++ group_classes)

found_range_to : Found (ref RangeToPattern) (behind OnePattern) (starts RangeToPattern)
unfolding skips
found_range_to = (weaken
    ((marks "..") ∷ (marks "!") ∷ (marks "@") ∷ range_end_stands ∷ parenthesis ∷ brace ∷ (marks "::") ∷
    (arguments_stand InExpression) ∷ range_bound_stands ∷ []) (found_ref RangeToPattern refl)
    (λ s a. (a.1.1.1.1.1.1.0, (a.1.1.1.1.1.1.1.0, tt))))

fine_from_range : Fine from_range (Without (behind OnePattern)) (At range_classes)
unfolding is_path_keyword is_plain_name is_bool is_name
fine_from_range =
    fine_alt (Without (behind OnePattern)) (At range_classes) found_range_to.fine fine_from_rest (λ x s c. c)
    (λ x s c. c)
    (λ x s e i c. (
      told_at range_stands true (starts RangeToPattern) (flat x ++ s)
          ((λ us. refl) & (λ cs h us. refl) & (λ us. refl) & (λ us. refl) & (λ us. refl) & (λ us. refl) & (λ us. refl) &
          (λ us. refl) & (λ cs h us. refl) & (λ us. refl) & (λ us. refl) & (λ us. refl) & (λ us. refl) &
          (λ cs h us. refl) & (λ us. refl) & (λ us. refl) & (λ cs h us. refl) & (λ us. refl) & (λ us. refl) &
          (λ us. refl) & (λ us. refl) & (λ us. refl) & (λ us. refl) & (λ cs h us. refl) & (λ us. refl) &
          (λ us. simp (reserved_self) refl) & (λ us. simp (reserved_super) refl) & (λ us. simp (reserved_crate) refl) &
          (λ cs h us. simp (
            ident_not (codes "true") cs reserved_true h,
            ident_not (codes "false") cs reserved_false h,
            h,
          ) refl) & (λ us. simp (reserved_big_self) refl) & tt) i,
      among_left (starts RangeToPattern) (starts RestPattern ++ group_classes) (flat x ++ s) i,
    ))
    (λ x s e i c. (i.1, among_right (starts RangeToPattern) (starts RestPattern ++ group_classes) (flat x ++ s) i.0))

found_wild : Found (ref WildPattern) (behind OnePattern) (starts WildPattern)
unfolding skips
found_wild = (weaken ((marks "..") ∷ (marks "!") ∷ (marks "@") ∷ range_end_stands ∷ parenthesis ∷ brace ∷
    (marks "::") ∷ (arguments_stand InExpression) ∷ range_bound_stands ∷ []) (found_ref WildPattern refl) (λ s a. tt))

abbrev pub unnamed_classes : List Class
unnamed_classes = starts WildPattern ++ range_classes

fine_any : Fine unnamed (Without (behind OnePattern)) (At unnamed_classes)
unfolding is_path_keyword is_plain_name is_bool is_name
fine_any =
    fine_alt (Without (behind OnePattern)) (At unnamed_classes) found_wild.fine fine_from_range (λ x s c. c)
    (λ x s c. c)
    (λ x s e i c. (
      told_at (at "_") true (starts WildPattern) (flat x ++ s) (λ us. refl, tt) i,
      among_left (starts WildPattern) range_classes (flat x ++ s) i,
    ))
    (λ x s e i c. (
      told_at (at "_") false range_classes (flat x ++ s)
          ((λ us. refl) & (λ cs h us. refl) & (λ us. refl) & (λ us. refl) & (λ us. refl) & (λ us. refl) & (λ us. refl) &
          (λ us. refl) & (λ cs h us. refl) & (λ us. refl) & (λ us. refl) & (λ us. refl) & (λ us. refl) &
          (λ cs h us. refl) & (λ us. refl) & (λ us. refl) & (λ cs h us. refl) & (λ us. refl) & (λ us. refl) &
          (λ us. refl) & (λ us. refl) & (λ us. refl) & (λ us. refl) & (λ cs h us. refl) & (λ us. refl) & (λ us. refl) &
          (λ us. refl) & (λ us. refl) & (λ cs h us. refl) & (λ us. refl) & (λ us. refl) & (λ us. refl) & (λ us. refl) &
          (λ us. refl) & (λ us. refl) & (λ cs h us. refl) & (λ us. refl) & (λ us. refl) & (λ us. refl) & (λ us. refl) &
          (λ us. refl) & (λ us. refl) & (λ cs h us. refl) & (λ us. refl) & (λ us. refl) & (λ us. refl) & (λ us. refl) &
          (λ cs h us. simp (ident_not (codes "_") cs reserved_underscore h) refl) & (λ us. refl) & tt) i,
      among_right (starts WildPattern) range_classes (flat x ++ s) i,
    ))

fine_unnamed : Fine unnamed (Without (behind OnePattern)) (λ x s. At unnamed_classes x s × Derives x unnamed s)
fine_unnamed = record { by = λ x s f w a. let (d, i) = fine_any.by x s f w a in (d, (i, d)) }

found_ident : Found (ref IdentPattern) (behind OnePattern) (starts IdentPattern)
unfolding skips
found_ident = (weaken
    ((marks "..") ∷ (marks "!") ∷ (marks "@") ∷ range_end_stands ∷ parenthesis ∷ brace ∷ (marks "::") ∷
    (arguments_stand InExpression) ∷ range_bound_stands ∷ []) (found_ref IdentPattern refl)
    (λ s a. (
      a.1.0,
      (
        a.1.1.0,
        (
          a.0,
          (
            a.1.1.1.0,
            (
              a.1.1.1.1.0,
              (a.1.1.1.1.1.0, (a.1.1.1.1.1.1.0, (a.1.1.1.1.1.1.1.0, (a.1.1.1.1.1.1.1.1.0, tt)))),
            ),
          ),
        ),
      ),
    )))

fine_ident : Fine (ref IdentPattern) (Without (behind OnePattern))
    (λ x s. At (starts IdentPattern) x s × (sees bound_stands (flat x ++ s) ≡ true))
fine_ident =
    record { by = λ x s f w a. let (d, i) = found_ident.fine.by x s f w a in (d, (i, ident_seen x s d a)) }

pub step_one_pattern : Step OnePattern
unfolding table skips
step_one_pattern =
    meant_step OnePattern refl refl
    (fine_alt (λ x s. LacksAll (behind OnePattern) s × IsMeant OnePattern x) (At (starts OnePattern)) fine_ident
    fine_unnamed (λ x s c. c.0) (λ x s c. c.0)
    (λ x s e i c. (i.1, among_left (starts IdentPattern) unnamed_classes (flat x ++ s) i.0))
    (λ x s e i c. (unnamed_lacks x s i.1 c.1, among_right (starts IdentPattern) unnamed_classes (flat x ++ s) i.0)))

-- A kind of which nothing is forgotten or tidied: what is said of what its nodes hold.
module _ (l : Kind) (as_read : (y : Tree) → forget l y ≡ y) (as_held : (y : Tree) → tidy (held l) y ≡ y)
    (still : passed (held l) Plain ≡ Plain) (says : Tree → Bool) where
  pub under_fits : ((y : Tree) → Fits y (table l) → says (kept y) ≡ says y) → (w : Tree) → Fits w (ref l)
      → says (inner (kept w)) ≡ says (inner w)
  under_fits h (Node k y) f =
      ap (λ j. says (forget j (kept y))) f.0 ∙ ap says (as_read (kept y))
      ∙ h y (subst (λ j. Fits y (table j)) f.0 f.3)
  under_fits h _ f = absurd f

  pub under_read : ((y : Tree) (r : List Token) → Derives y (table l) r → says (normal_in Plain (kept y)) ≡ says y)
      → (x : Tree) (r : List Token) → Derives x (ref l) r
      → says (inner (normal_in Plain (kept x))) ≡ says (inner x)
  under_read h (Node k y) r d =
      ap (λ j. says (tidy (held j) (normal_in (passed (held j) Plain) (forget j (kept y))))) d.0
      ∙ ap says (as_held (normal_in (passed (held l) Plain) (forget l (kept y))))
      ∙ ap (λ q. says (normal_in q (forget l (kept y)))) still
      ∙ ap (λ z. says (normal_in Plain z)) (as_read (kept y))
      ∙ h y r (subst (λ j. Derives y (table j) r) d.0 d.1)
  under_read h _ r d = absurd d

-- Of nodes of a kind: what is said of them is the same of what is kept, and of that in normal form.
module _ (l : Kind) (says : Tree → Bool) where
  node_fits : ((y : Tree) → Fits y (table l) → says (kept (Node l y)) ≡ says (Node l y)) → (w : Tree) → Fits w (ref l)
      → says (kept w) ≡ says w
  node_fits h (Node k y) f =
      subst (λ j. says (kept (Node j y)) ≡ says (Node j y)) (sym f.0) (h y (subst (λ j. Fits y (table j)) f.0 f.3))
  node_fits h _ f = absurd f

  node_read : ((y : Tree) (r : List Token) → Derives y (table l) r
      → says (normal_in Plain (kept (Node l y))) ≡ says (Node l y)) → (x : Tree) (r : List Token) → Derives x (ref l) r
      → says (normal_in Plain (kept x)) ≡ says x
  node_read h (Node k y) r d =
      subst (λ j. says (normal_in Plain (kept (Node j y))) ≡ says (Node j y)) (sym d.0)
      (h y r (subst (λ j. Derives y (table j) r) d.0 d.1))
  node_read h _ r d = absurd d

names_fits : (y : Tree) → Fits y (table (Segments InExpression))
    → is_lone_segment (kept (Node (Segments InExpression) y)) ≡ is_lone_segment (Node (Segments InExpression) y)
unfolding table held passed
names_fits (First x) f = refl
names_fits (Second (Pair (AWord cs) (First x))) f = refl
names_fits (Second (Pair (AWord cs) (Second (First x)))) f = refl
names_fits (Second (Pair (AWord cs) (Second (Second (First x))))) f = refl
names_fits (Second (Pair (AWord cs) (Second (Second (Second x))))) f = refl
names_fits (Second (Pair (AWord cs) (Second (Second _)))) f = absurd f.1.1.1.1
names_fits (Second (Pair (AWord cs) (Second _))) f = absurd f.1.1.1
names_fits (Second (Pair (AWord cs) _)) f = absurd f.1.1
names_fits (Second (Pair _ y)) f = absurd f.1.0
names_fits (Second _) f = absurd f.1
names_fits _ f = absurd f

names_read : (y : Tree) (r : List Token) → Derives y (table (Segments InExpression)) r
    → is_lone_segment (normal_in Plain (kept (Node (Segments InExpression) y)))
    ≡ is_lone_segment (Node (Segments InExpression) y)
unfolding table held passed
names_read (First x) r d = refl
names_read (Second (Pair (AWord cs) (First x))) r d = refl
names_read (Second (Pair (AWord cs) (Second (First x)))) r d = refl
names_read (Second (Pair (AWord cs) (Second (Second (First x))))) r d = refl
names_read (Second (Pair (AWord cs) (Second (Second (Second x))))) r d = refl
names_read (Second (Pair (AWord cs) (Second (Second _)))) r d = absurd d.1.1.1.1
names_read (Second (Pair (AWord cs) (Second _))) r d = absurd d.1.1.1
names_read (Second (Pair (AWord cs) _)) r d = absurd d.1.1
names_read (Second (Pair _ y)) r d = absurd d.1.0
names_read (Second _) r d = absurd d.1
names_read _ r d = absurd d

path_fits : (y : Tree) → Fits y (table (Path InExpression))
    → is_lone_plain (kept (Node (Path InExpression) y)) ≡ is_lone_plain (Node (Path InExpression) y)
unfolding table held passed
path_fits (Pair (First m) y) f = refl
path_fits (Pair (Second z) y) f = node_fits (Segments InExpression) is_lone_segment names_fits y f.1
path_fits (Pair _ y) f = absurd f.0
path_fits _ f = absurd f

path_read : (y : Tree) (r : List Token) → Derives y (table (Path InExpression)) r
    → is_lone_plain (normal_in Plain (kept (Node (Path InExpression) y))) ≡ is_lone_plain (Node (Path InExpression) y)
unfolding table held passed
path_read (Pair (First m) y) r d = refl
path_read (Pair (Second z) y) r d = node_read (Segments InExpression) is_lone_segment names_read y r d.1
path_read (Pair _ y) r d = absurd d.0
path_read _ r d = absurd d

-- in whichever style
any_style : (a : Style) (x : Tree) → is_lone_path (Node (AnyPath a) (Second x)) ≡ is_lone_plain x
any_style a (Node (Path b) (Pair (Second z) y)) = refl
any_style a _ = refl

any_fits : (y : Tree) → Fits y (table (AnyPath InExpression))
    → is_lone_path (kept (Node (AnyPath InExpression) y)) ≡ is_lone_path (Node (AnyPath InExpression) y)
unfolding table held passed
any_fits (First x) f = refl
any_fits (Second y) f = any_style AtType (kept y) ∙ node_fits (Path InExpression) is_lone_plain path_fits y f.1
any_fits _ f = absurd f

any_read : (y : Tree) (r : List Token) → Derives y (table (AnyPath InExpression)) r
    → is_lone_path (normal_in Plain (kept (Node (AnyPath InExpression) y)))
    ≡ is_lone_path (Node (AnyPath InExpression) y)
unfolding table held passed
any_read (First x) r d = refl
any_read (Second y) r d =
    any_style AtType (normal_in Plain (kept y)) ∙ node_read (Path InExpression) is_lone_plain path_read y r d.1
any_read _ r d = absurd d

rest_fits : (e : Tree) → Fits e path_rest → lone_rest (kept e) ≡ lone_rest e
rest_fits (First x) f = refl
rest_fits (Second (First x)) f = refl
rest_fits (Second (Second (First x))) f = refl
rest_fits (Second (Second (Second x))) f = refl
rest_fits (Second (Second _)) f = absurd f.1.1
rest_fits (Second _) f = absurd f.1
rest_fits _ f = absurd f

rest_read : (e : Tree) (r : List Token) → Derives e path_rest r → lone_rest (normal_in Plain (kept e)) ≡ lone_rest e
rest_read (First x) r d = refl
rest_read (Second (First x)) r d = refl
rest_read (Second (Second (First x))) r d = refl
rest_read (Second (Second (Second x))) r d = refl
rest_read (Second (Second _)) r d = absurd d.1.1
rest_read (Second _) r d = absurd d.1
rest_read _ r d = absurd d

pattern_fits : (y : Tree) → Fits y (table PathPattern) → lone_pattern (kept y) ≡ lone_pattern y
unfolding table held passed
pattern_fits (Pair p e) f =
    both_same (is_lone_path (kept p)) (lone_rest (kept e)) (is_lone_path p) (lone_rest e)
    (node_fits (AnyPath InExpression) is_lone_path any_fits p f.0) (rest_fits e f.1)
pattern_fits _ f = absurd f

pattern_read : (y : Tree) (r : List Token) → Derives y (table PathPattern) r → lone_pattern
    (normal_in Plain (kept y)) ≡ lone_pattern y
unfolding table held passed
pattern_read (Pair p e) r d =
    both_same (is_lone_path (normal_in Plain (kept p))) (lone_rest (normal_in Plain (kept e))) (is_lone_path p)
    (lone_rest e) (node_read (AnyPath InExpression) is_lone_path any_read p (flat e ++ r) d.0) (rest_read e r d.1)
pattern_read _ r d = absurd d

lone_fits : (x : Tree) (g : Gram) → Fits x g → is_lone (choice (kept x)) ≡ is_lone (choice x)
unfolding held
lone_fits (First x) (alt t a b) f = lone_fits x a f.1
lone_fits (First x) (judged v g) f = lone_fits x g f.1
lone_fits (Second x) (alt t a b) f = lone_fits x b f.1
lone_fits (First x) _ f = absurd f
lone_fits (Second x) _ f = absurd f
lone_fits (Node PathPattern y) (ref k) f = pattern_fits y f.3
lone_fits (Node PathPattern y) _ f = absurd f
lone_fits (Back l k y) _ f = absurd f
lone_fits _ _ f = refl

lone_read : (x : Tree) (g : Gram) (r : List Token) → Derives x g r
    → is_lone (choice (normal_in Plain (kept x))) ≡ is_lone (choice x)
unfolding held passed
lone_read (First x) (alt t a b) r d = lone_read x a r d.1
lone_read (First x) (judged v g) r d = lone_read x g r d.1
lone_read (Second x) (alt t a b) r d = lone_read x b r d.1
lone_read (First x) _ r d = absurd d
lone_read (Second x) _ r d = absurd d
lone_read (Node PathPattern y) (ref k) r d = pattern_read y r d.1
lone_read (Node PathPattern y) _ r d = absurd d
lone_read (Back l k y) _ r d = absurd d
lone_read _ _ r d = refl

pub law_one_pattern : KindLaw OnePattern
unfolding has_step held passed place_of table
law_one_pattern = record { entry = λ q l. simple_law Plain (table OnePattern) refl; node = go }
  where
    go : (q : Position) → IsPlaced q OnePattern → (x : Tree) (r : List Token) → not (is_lone (choice x)) ≡ true
        → Derives x (table OnePattern) r → Printed (table OnePattern) (normal_in (passed OnePattern q) (kept x))
        → Printed (ref OnePattern) (normal_in q (Node (held OnePattern) (kept x)))
    go q l x r m d i =
        let b : is_lone (choice i.tree) ≡ false =
        sym (lone_fits i.tree (table OnePattern) i.fits) ∙ ap (λ z. is_lone (choice z)) i.kept_is
        ∙ lone_read x (table OnePattern) r d ∙ is_false (is_lone (choice x)) m in
        record {
          tree = Node OnePattern i.tree;
          fits = (refl, refl, refl, i.fits, b);
          kept_is = ap (Node OnePattern) i.kept_is;
        }
