-- A macro that stands among statements as an item, by its first word, begins with the word crate alone; it has no name
-- behind its !, and its tokens stand in no braces, where neither ? nor a . that begins no .. follows.
use Rattle.std.proofs.Common.{◌≡◌, ℕ, List, [], ◌∷◌, ◌++◌, refl, sym, ap, ◌∙◌, subst, append_assoc, inl, inr, ⊎_elim}
use Rattle.std.specs.Prelude.{Bool, true, false, ◌&&◌, ◌||◌, not, cond, codes, Option, Some, None}
use Rattle.std.proofs.lemmas.Slice.Eq.{bytes_eq-Decides}
use Rattle.std.proofs.lemmas.Bool.{false≢true}
use Rattle.proc_macro2.specs.Token.{Token, Ident}
use Rattle.proc_macro2.specs.declared.delimiter.Delimiter.{Delimiter}
use Rattle.proc_macro2.specs.declared.delimiter.Delimiter.TheVariants.{Brace}
use Rattle.rust_leaf.specs.declared.punct.Spacing.{Spacing}
use Rattle.syn_grammar.specs.Kind.{Kind, AnItem, AStatement, InFile, InForeign, InImpl, InModule, InTrait, ItemMacro}
use Rattle.syn_grammar.specs.Kind.{Path, Segments}
use Rattle.syn_grammar.specs.Words.{is_ident, is_name, is_path_keyword, is_plain_name}
use Rattle.rust_leaf.specs.Keywords.{is_among, is_reserved, same_text}
use Rattle.syn_grammar.specs.Name.{the_pub}
use Rattle.syn_grammar.specs.Part.{choice, has}
use Rattle.syn_grammar.specs.Tree.{Tree, AMark, AWord, Called, First, Group, Nil, Node, Pair, Second}
use Rattle.syn_grammar.specs.Tree.{marks as signs, flat}
use Rattle.syn_grammar.specs.Gram.{Gram, Keep, alt, raw, ref, never as none}
use Rattle.syn_grammar.specs.Look.{Look, ◌or◌, ◌then◌, a_group, a_word, all_attributes, an_ident, behind}
use Rattle.syn_grammar.specs.Look.{first_seen, no, one_of, seen, sees, the_word}
use Rattle.syn_grammar.specs.Say.{at, brace, in_braces, in_brackets, in_parentheses, marks, parenthesis, sign}
use Rattle.syn_grammar.specs.Say.{when◌read◌else◌, ◌▸◌}
use Rattle.syn_grammar.specs.Items.{macro_name}
use Rattle.syn_grammar.specs.Lists.{item_form}
use Rattle.syn_grammar.specs.Statements.{function_words, item_stands, item_words, macro_item_stands}
use Rattle.syn_grammar.specs.Statements.{macro_statement_stands}
use Rattle.syn_grammar.specs.Verdicts.{form_in_file, item_verdict, refused_if}
use Rattle.syn_grammar.specs.Table.{table}
use Rattle.syn_grammar.specs.Derives.{Derives}
use Rattle.syn_grammar.specs.Kept.{is_there}
use Rattle.laws_reread_kinds.specs.Covered.{is_crate_macro, is_crate_path, is_no_call, item_of}
use Rattle.laws_reread_kinds.proofs.Choices.{both_same, both_true}
use Rattle.laws_reread_kinds.proofs.Passed.{behind_attributes}
use Rattle.laws_items.proofs.Passed.{group_passed}
use Rattle.laws_reread_kinds.proofs.Seconds.{either_seen}
use Rattle.laws_reread_kinds.proofs.WholeItems.{whole_item}
use Rattle.laws_reread.specs.Asked.{is_asked_statement}
use Rattle.laws_reread.proofs.Paths.{is_named}
use Rattle.laws_reread.proofs.ToldBraces.{goes_there}
use Rattle.laws_reread.proofs.ToldParts.{of_whole, public_none}
use Rattle.laws_reread.proofs.ToldPaths.{call_behind}

-- Where an item is seen by its first word, and that is a name before a punctuation, it is crate, and no :: follows.
text_is : (w cs : List ℕ) → same_text w cs ≡ true → w ≡ cs
text_is w cs e = (bytes_eq-Decides w cs).0 e

no_keyword : (w cs : List ℕ) (us : List Token) (l : Look) → is_name w ≡ false → is_name cs ≡ true
    → sees (the_word w then l) (Ident cs ∷ us) ≡ true → ⊥
no_keyword w cs us l n h e = go (same_text w cs) refl e
  where
    go : (b : Bool) → same_text w cs ≡ b → seen (behind (cond b (Some us) None) l) ≡ true → ⊥
    go true i f = false≢true (sym n ∙ ap is_name (text_is w cs i) ∙ h)
    go false i f = false≢true f

no_next : (w cs : List ℕ) (us : List Token) (l : Look) → sees l us ≡ false
    → sees (the_word w then l) (Ident cs ∷ us) ≡ true → ⊥
no_next w cs us l n e = go (same_text w cs) e
  where
    go : (b : Bool) → seen (behind (cond b (Some us) None) l) ≡ true → ⊥
    go true f = false≢true (sym n ∙ f)
    go false f = false≢true f

abbrev are_no_names : List (List ℕ) → Bool
are_no_names [] = true
are_no_names (w ∷ ws) = not (is_name w) && are_no_names ws

among_none : (ws : List (List ℕ)) (cs : List ℕ) → are_no_names ws ≡ true → is_among ws cs ≡ true → is_name cs ≡ false
among_none [] cs n e = absurd (false≢true e)
among_none (w ∷ ws) cs n e =
    go (same_text w cs) refl (among_none ws cs (both_true (not (is_name w)) (are_no_names ws) n).1) e
  where
    off : (b : Bool) → not b ≡ true → b ≡ false
    off false h = refl
    off true h = absurd (false≢true h)

    go : (b : Bool) → same_text w cs ≡ b → (is_among ws cs ≡ true → is_name cs ≡ false)
        → (b || is_among ws cs) ≡ true → is_name cs ≡ false
    go true i m f =
        sym (ap is_name (text_is w cs i)) ∙ off (is_name w) (both_true (not (is_name w)) (are_no_names ws) n).0
    go false i m f = m f

-- no word stands there
abbrev NoWord : List Token → Type 0
NoWord us = (p : List ℕ → Bool) → sees (a_word p) us ≡ false

signs_word : (c : ℕ) (ds : List ℕ) (i : Spacing) (ts : List Token) → NoWord (signs c ds i ++ ts)
signs_word c [] i ts p = refl
signs_word c (d ∷ ds) i ts p = refl

abbrev IsCrate : List ℕ → List Token → Type 0
IsCrate cs us = (same_text (codes "crate") cs ≡ true) × (sees (marks "::") us ≡ false)

crate_only : (cs : List ℕ) (us : List Token) → sees (at "crate" then no (marks "::")) (Ident cs ∷ us) ≡ true
    → IsCrate cs us
crate_only cs us e = go (same_text (codes "crate") cs) refl e
  where
    lacks_colons : (b : Bool) → sees (marks "::") us ≡ b → seen (cond b None (Some us)) ≡ true → b ≡ false
    lacks_colons true h f = absurd (false≢true f)
    lacks_colons false h f = refl

    go : (a : Bool) → same_text (codes "crate") cs ≡ a
        → seen (behind (cond a (Some us) None) (no (marks "::"))) ≡ true → (a ≡ true) × (sees (marks "::") us ≡ false)
    go true i f = (refl, lacks_colons (sees (marks "::") us) refl f)
    go false i f = absurd (false≢true f)

either_word : (us : List Token) → NoWord us → sees (at "unsafe" or at "impl") us ≡ false
either_word us n = go (at "unsafe" us) (at "impl" us) (n (λ cs. same_text (codes "unsafe") cs))
    (n (λ cs. same_text (codes "impl") cs))
  where
    go : (o p : Option (List Token)) → seen o ≡ false → seen p ≡ false → seen (first_seen o p) ≡ false
    go None p e f = f
    go (Some ts) p e f = e

abbrev static_there : Look
static_there = at "static" then (at "mut" or an_ident)

abbrev const_there : Look
const_there = at "const" then no (brace or at "static" or at "move" or marks "|" or (at "async" then no function_words))

abbrev union_there : Look
union_there = at "union" then an_ident

abbrev auto_there : Look
auto_there = at "auto" then at "trait"

abbrev default_there : Look
default_there = at "default" then (at "unsafe" or at "impl")

abbrev unsafe_there : Look
unsafe_there = at "unsafe" then no brace

abbrev async_there : Look
async_there = at "async" then function_words

abbrev crate_there : Look
crate_there = at "crate" then no (marks "::")

-- each word but crate is refuted in its turn
other_word : (t u : Look) (ts : List Token) → (sees t ts ≡ true → ⊥) → sees (t or u) ts ≡ true → sees u ts ≡ true
other_word t u ts f e = ⊎_elim (λ h. absurd (f h)) (λ h. h) (either_seen (t ts) (u ts) e)

not_among : (cs : List ℕ) (us : List Token) → is_name cs ≡ true → sees (one_of item_words) (Ident cs ∷ us) ≡ true → ⊥
unfolding is_name is_path_keyword is_reserved
not_among cs us n e = false≢true (sym (among_none item_words cs refl (among (is_among item_words cs) refl e)) ∙ n)
  where
    among : (b : Bool) → is_among item_words cs ≡ b → seen (cond b (Some us) None) ≡ true → b ≡ true
    among true i f = refl
    among false i f = absurd (false≢true f)

abbrev other_words : Look
other_words = static_there or const_there or unsafe_there or async_there or union_there or auto_there or default_there

last_words : (cs : List ℕ) (us : List Token) → is_name cs ≡ true → NoWord us
    → sees other_words (Ident cs ∷ us) ≡ true → ⊥
unfolding is_name is_path_keyword is_reserved
last_words cs us n w e =
    no_next (codes "default") cs us (at "unsafe" or at "impl") (either_word us w)
    (other_word auto_there default_there ts (no_next (codes "auto") cs us (at "trait")
    (w (λ ds. same_text (codes "trait") ds)))
    (other_word union_there (auto_there or default_there) ts (no_next (codes "union") cs us an_ident (w is_ident))
    (other_word async_there (union_there or auto_there or default_there) ts
    (no_keyword (codes "async") cs us function_words refl n)
    (other_word unsafe_there (async_there or union_there or auto_there or default_there) ts
    (no_keyword (codes "unsafe") cs us (no brace) refl n)
    (other_word const_there (unsafe_there or async_there or union_there or auto_there or default_there) ts
    (no_keyword (codes "const") cs us (no (brace or at "static" or at "move" or marks "|"
    or (at "async" then no function_words))) refl n)
    (other_word static_there (const_there or unsafe_there or async_there or union_there or auto_there
    or default_there) ts (no_keyword (codes "static") cs us (at "mut" or an_ident) refl n) e))))))
  where
    ts : List Token
    ts = Ident cs ∷ us

name_item : (cs : List ℕ) (us : List Token) → is_name cs ≡ true → NoWord us → sees item_stands (Ident cs ∷ us) ≡ true
    → IsCrate cs us
name_item cs us n w e =
    ⊎_elim (λ f. crate_only cs us f) (λ f. absurd (last_words cs us n w f))
    (either_seen (crate_there (Ident cs ∷ us)) _
    (other_word (one_of item_words) (crate_there or other_words) (Ident cs ∷ us) (not_among cs us n) e))

-- So its path is that word alone: behind it stands no ::.
colons_there : (c : ℕ) (ds : List ℕ) (i : Spacing) (ts : List Token) → c ≡ 58 → ds ≡ 58 ∷ []
    → sees (marks "::") (signs c ds i ++ ts) ≡ true
colons_there c ds i ts e f =
    ap (λ b. sees (marks "::") (signs b ds i ++ ts)) e ∙ ap (λ bs. sees (marks "::") (signs 58 bs i ++ ts)) f

no_colons : (cs : List ℕ) (c : ℕ) (ds : List ℕ) (i : Spacing) (z us : List Token) → c ≡ 58 → ds ≡ 58 ∷ []
    → is_name cs ≡ true → sees item_stands (Ident cs ∷ ((signs c ds i ++ z) ++ us)) ≡ true → ⊥
no_colons cs c ds i z us e f n h =
    let o : (signs c ds i ++ z) ++ us ≡ signs c ds i ++ (z ++ us) = append_assoc (signs c ds i) z us in
    let k = name_item cs (signs c ds i ++ (z ++ us)) n (signs_word c ds i (z ++ us))
    (ap (λ ts. sees item_stands (Ident cs ∷ ts)) (sym o) ∙ h) in
    false≢true (sym k.1 ∙ colons_there c ds i (z ++ us) e f)

plain_crate : (cs : List ℕ) → is_plain_name cs ≡ true → same_text (codes "crate") cs ≡ true → ⊥
unfolding is_plain_name is_reserved
plain_crate cs e f = false≢true (sym (ap is_plain_name (sym (text_is (codes "crate") cs f))) ∙ e)

abbrev crate_at : Kind → Tree → Tree
crate_at l z = Node (Path InModule) (Pair (Second Nil) (Node l z))

names_crate : (z : Tree) (us r : List Token) → Derives z (table (Segments InModule)) r → NoWord us
    → sees item_stands (flat z ++ us) ≡ true → is_crate_path (crate_at (Segments InModule) z) ≡ true
unfolding table
names_crate (First (Pair (AWord cs) (First (Pair (AMark c ds i) w)))) us r d n h =
    absurd (no_colons cs c ds i (flat w) us d.1.1.1.0.0 d.1.1.1.0.1 (is_named cs (inr d.1.0)) h)
names_crate (First (Pair (AWord cs) (First (Pair _ w)))) us r d n h = absurd d.1.1.1.0
names_crate (First (Pair (AWord cs) (First _))) us r d n h = absurd d.1.1.1
names_crate (First (Pair (AWord cs) (Second Nil))) us r d n h = (name_item cs us (is_named cs (inr d.1.0)) n h).0
names_crate (First (Pair (AWord cs) (Second _))) us r d n h = absurd d.1.1.1
names_crate (First (Pair (AWord cs) _)) us r d n h = absurd d.1.1
names_crate (First (Pair _ w)) us r d n h = absurd d.1.0
names_crate (First _) us r d n h = absurd d.1
names_crate (Second (Pair (AWord cs) (First w))) us r d n h = absurd (false≢true d.1.1.0)
names_crate (Second (Pair (AWord cs) (Second (First (Pair (AMark c ds i) w))))) us r d n h =
    absurd (no_colons cs c ds i (flat w) us d.1.1.1.1.0.0 d.1.1.1.1.0.1 (is_named cs (inl d.1.0)) h)
names_crate (Second (Pair (AWord cs) (Second (First (Pair _ w))))) us r d n h = absurd d.1.1.1.1.0
names_crate (Second (Pair (AWord cs) (Second (First _)))) us r d n h = absurd d.1.1.1.1
names_crate (Second (Pair (AWord cs) (Second (Second (First w))))) us r d n h = absurd (false≢true d.1.1.1.1.0)
names_crate (Second (Pair (AWord cs) (Second (Second (Second Nil))))) us r d n h =
    absurd (plain_crate cs d.1.0 (name_item cs us (is_named cs (inl d.1.0)) n h).0)
names_crate (Second (Pair (AWord cs) (Second (Second (Second _))))) us r d n h = absurd d.1.1.1.1.1
names_crate (Second (Pair (AWord cs) (Second (Second _)))) us r d n h = absurd d.1.1.1.1
names_crate (Second (Pair (AWord cs) (Second _))) us r d n h = absurd d.1.1.1
names_crate (Second (Pair (AWord cs) _)) us r d n h = absurd d.1.1
names_crate (Second (Pair _ w)) us r d n h = absurd d.1.0
names_crate (Second _) us r d n h = absurd d.1
names_crate _ us r d n h = absurd d

colons_first : (c : ℕ) (ds : List ℕ) (i : Spacing) (ts : List Token) → sees item_stands (signs c ds i ++ ts) ≡ false
colons_first c [] i ts = refl
colons_first c (d ∷ ds) i ts = refl

path_crate : (p : Tree) (us r : List Token) → Derives p (table (Path InModule)) r → NoWord us
    → sees item_stands (flat p ++ us) ≡ true → is_crate_path (Node (Path InModule) p) ≡ true
unfolding table
path_crate (Pair (First (AMark c ds i)) z) us r d n h =
    absurd (false≢true (sym (colons_first c ds i (flat z ++ us))
    ∙ sym (ap (sees item_stands) (append_assoc (signs c ds i) (flat z) us)) ∙ h))
path_crate (Pair (First _) z) us r d n h = absurd d.0.1
path_crate (Pair (Second Nil) (Node l z)) us r d n h =
    subst (λ j. is_crate_path (crate_at j z) ≡ true) (sym d.1.0)
    (names_crate z us r (subst (λ j. Derives z (table j) r) d.1.0 d.1.1) n h)
path_crate (Pair (Second Nil) _) us r d n h = absurd d.1
path_crate (Pair (Second _) z) us r d n h = absurd d.0.1
path_crate (Pair _ z) us r d n h = absurd d.0
path_crate _ us r d n h = absurd d

-- what the tests saw of such a macro, and of what stands behind it
record Seen (ts r : List Token) : Type 0 where
  item : sees item_stands ts ≡ true
  no_name : sees macro_item_stands ts ≡ false
  no_statement : sees macro_statement_stands ts ≡ false
  free : sees goes_there r ≡ false

-- its tokens stand in no braces
braces_seen : (e : Delimiter) (x : Tree) (r : List Token) → e ≡ Brace → Derives x raw [] → sees goes_there r ≡ false
    → sees (a_group Brace then no goes_there) (flat (Group e x) ++ r) ≡ true
braces_seen e x r f d h =
    subst (λ j. sees (a_group Brace then no goes_there) (flat (Group j x) ++ r) ≡ true) (sym f)
    (ap (λ o. seen (behind o (no goes_there))) (group_passed Brace x raw r d)
    ∙ ap (λ b. seen (cond b None (Some r))) h)

abbrev a_named : Look
a_named = an_ident or at "try"

unnamed : (n g : Tree) (r : List Token) → Derives n (macro_name InFile) (flat g ++ r)
    → sees a_named ((flat n ++ flat g) ++ r) ≡ false → (not (is_there n) ≡ true) × (flat n ≡ [])
unnamed (First m) g r d e =
    absurd (false≢true (sym e ∙ ap (sees a_named) (append_assoc (flat m) (flat g) r) ∙ d.0))
unnamed (Second Nil) g r d e = (refl, refl)
unnamed (Second _) g r d e = absurd d.1
unnamed _ g r d e = absurd d

abbrev macro_tokens : Gram
macro_tokens = when brace read in_braces raw else
    (when parenthesis read in_parentheses raw else in_brackets raw) ▸ sign ";"

unbraced : (g : Tree) (r : List Token) → Derives g macro_tokens r → sees goes_there r ≡ false
    → sees (a_group Brace then no goes_there) (flat g ++ r) ≡ false → not (is_there g) ≡ true
unbraced (First (Group e x)) r d f h = absurd (false≢true (sym h ∙ braces_seen e x r d.1.0 d.1.1 f))
unbraced (First _) r d f h = absurd d.1
unbraced (Second x) r d f h = refl
unbraced _ r d f h = absurd d

call_in : (k : Kind) (p : Tree) (c : ℕ) (ds : List ℕ) (i : Spacing) (n g : Tree) (r : List Token)
    → Derives (Pair (Node k p) (Pair (AMark c ds i) (Pair n g))) (table (ItemMacro InFile)) r
    → Seen (flat (Pair (Node k p) (Pair (AMark c ds i) (Pair n g))) ++ r) r
    → is_crate_macro (Pair (Node k p) (Pair (AMark c ds i) (Pair n g))) ≡ true
unfolding table
call_in k p c ds i n g r d s =
    let ts : List Token = flat n ++ flat g in
    let rest : List Token = (signs c ds i ++ ts) ++ r in
    let dp = subst (λ j. Derives p (table j) rest) d.0.0 d.0.1 in
    let o : (flat p ++ (signs c ds i ++ ts)) ++ r ≡ flat p ++ (signs c ds i ++ (ts ++ r)) =
    append_assoc (flat p) (signs c ds i ++ ts) r ∙ ap (λ us. flat p ++ us) (append_assoc (signs c ds i) ts r) in
    let u = unnamed n g r d.1.1.0
    (sym (call_behind p c ds i ts r rest d.1.0.0 d.1.0.1 dp a_named) ∙ s.no_name) in
    let v = unbraced g r d.1.1.1 s.free
    (sym (ap (λ us. sees (a_group Brace then no goes_there) ((us ++ flat g) ++ r)) u.1)
    ∙ sym (call_behind p c ds i ts r rest d.1.0.0 d.1.0.1 dp (a_group Brace then no goes_there)) ∙ s.no_statement) in
    both_same (is_crate_path (Node k p)) (not (is_there n) && not (is_there g)) true true
    (subst (λ j. is_crate_path (Node j p) ≡ true) (sym d.0.0)
    (path_crate p (signs c ds i ++ (ts ++ r)) rest dp (signs_word c ds i (ts ++ r))
    (sym (ap (sees item_stands) o) ∙ s.item)))
    (both_same (not (is_there n)) (not (is_there g)) true true u.0 v)

macro_call : (y : Tree) (r : List Token) → Derives y (table (ItemMacro InFile)) r → Seen (flat y ++ r) r
    → is_crate_macro y ≡ true
unfolding table
macro_call (Pair (Node k p) (Pair (AMark c ds i) (Pair n g))) r d s = call_in k p c ds i n g r d s
macro_call (Pair (Node k p) (Pair (AMark c ds i) _)) r d s = absurd d.1.1
macro_call (Pair (Node k p) (Pair _ n)) r d s = absurd d.1.0
macro_call (Pair (Node k p) _) r d s = absurd d.1
macro_call (Pair _ y) r d s = absurd d.0
macro_call _ r d s = absurd d

-- What was chosen, where an item was seen by its words, is no other macro: behind pub no macro is kept.
abbrev is_call_kind : Kind → Bool
is_call_kind (ItemMacro InFile) = true
is_call_kind (ItemMacro InForeign) = false
is_call_kind (ItemMacro InTrait) = false
is_call_kind (ItemMacro InImpl) = false
is_call_kind k = true

abbrev are_choices : Gram → Bool
are_choices (alt t a b) = are_choices a && are_choices b
are_choices (ref k) = is_call_kind k
are_choices none = true
are_choices _ = false

not_public : (v : Bool) → refused_if v Keep ≡ Keep → v ≡ false
not_public false e = refl
not_public true e = cc e

node_call : (k : Kind) (y : Tree) (r : List Token) (v : Bool) → is_call_kind k ≡ true → Derives y (table k) r
    → form_in_file v (Node k y) ≡ Keep → (v ≡ false → Seen (flat y ++ r) r) → is_no_call (Node k y) ≡ true
node_call (ItemMacro InFile) y r v c d e s = macro_call y r d (s (not_public v e))
node_call (ItemMacro _) y r v c d e s = absurd (false≢true c)
node_call _ y r v c d e s = refl

chosen_call : (x : Tree) (g : Gram) (r : List Token) (v : Bool) → Derives x g r → are_choices g ≡ true
    → form_in_file v (choice x) ≡ Keep → (v ≡ false → Seen (flat x ++ r) r) → is_no_call (choice x) ≡ true
chosen_call (First x) (alt t a b) r v d c e s =
    chosen_call x a r v d.1 (both_true (are_choices a) (are_choices b) c).0 e s
chosen_call (Second x) (alt t a b) r v d c e s =
    chosen_call x b r v d.1 (both_true (are_choices a) (are_choices b) c).1 e s
chosen_call _ (alt t a b) r v d c e s = absurd d
chosen_call (Node k y) (ref l) r v d c e s = node_call k y r v (ap is_call_kind d.0 ∙ c) d.1 e s
chosen_call _ (ref l) r v d c e s = absurd d
chosen_call _ none r v d c e s = absurd d
chosen_call x _ r v d c e s = absurd (false≢true c)

-- an item that is kept, behind its attributes
whole_call : (x : Tree) (r : List Token) → Derives x whole_item r → item_verdict InFile x ≡ Keep
    → sees (all_attributes then item_stands) (flat x ++ r) ≡ true
    → sees (all_attributes then macro_item_stands) (flat x ++ r) ≡ false
    → sees (all_attributes then macro_statement_stands) (flat x ++ r) ≡ false → sees goes_there r ≡ false
    → is_no_call (choice (item_of x)) ≡ true
whole_call (Pair (Node l p) (Pair (Called n (Node k v)) (Called m i))) r d e f g h w =
    let o : Tree = Node l p in
    let z : Tree = Pair (Called n (Node k v)) (Called m i) in
    let b = has the_pub v in
    chosen_call i item_form r b d.1.1.1 refl (of_whole l p n k v m i Keep d.1.0.0 d.1.1.0 d.1.0.1.0 e)
    (λ c. let a : flat v ≡ [] = public_none v (flat i ++ r)
    (subst (λ j. Derives v (table j) (flat i ++ r)) d.1.0.1.0 d.1.0.1.1) c in
    subst (λ us. Seen ((us ++ flat i) ++ r) r) a record {
      item = sym (behind_attributes o z item_stands r _ d.0 refl) ∙ f;
      no_name = sym (behind_attributes o z macro_item_stands r _ d.0 refl) ∙ g;
      no_statement = sym (behind_attributes o z macro_statement_stands r _ d.0 refl) ∙ h;
      free = w;
    })
whole_call (Pair (Node l p) (Pair (Called n (Node k v)) _)) r d e f g h w = absurd d.1.1
whole_call (Pair (Node l p) (Pair (Called n _) i)) r d e f g h w = absurd d.1.0.1
whole_call (Pair (Node l p) (Pair _ i)) r d e f g h w = absurd d.1.0
whole_call (Pair (Node l p) _) r d e f g h w = absurd d.1
whole_call (Pair _ y) r d e f g h w = absurd d.0
whole_call _ r d e f g h w = absurd d

item_call : (x : Tree) (r : List Token) → Derives (First x) (table AnItem) r
    → sees (all_attributes then item_stands) (flat x ++ r) ≡ true
    → sees (all_attributes then macro_item_stands) (flat x ++ r) ≡ false
    → sees (all_attributes then macro_statement_stands) (flat x ++ r) ≡ false → sees goes_there r ≡ false
    → is_no_call (choice (item_of x)) ≡ true
unfolding table
item_call x r d f g h w = whole_call x r d.1 d.0 f g h w

-- So of a statement that stands among others nothing is to be asked.
pub statement_told : (x : Tree) (r : List Token) → Derives x (table AStatement) r → sees goes_there r ≡ false
    → is_asked_statement x ≡ true
unfolding table
statement_told (Second (Second (Second (First (Node k (First x)))))) r d w =
    item_call x r (subst (λ j. Derives (First x) (table j) r) d.1.1.1.1.0 d.1.1.1.1.1) d.1.1.1.0 d.0 d.1.0 w
statement_told _ r d w = refl
