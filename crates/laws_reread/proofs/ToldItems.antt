-- An item that stands among statements, as the tests in front of it saw it: one that was seen by a path, ! and a name
-- is such a macro, behind no visibility; and one that is kept as tokens is no macro, and begins as a statement may.
use Rattle.std.proofs.Common.{◌≡◌, ℕ, List, [], ◌∷◌, ◌++◌, refl, sym, ap, ◌∙◌, subst, append_assoc, ⊎_elim}
use Rattle.std.specs.Prelude.{Bool, true, false, ◌&&◌, not, cond, codes, Option, Some, None}
use Rattle.std.proofs.lemmas.Slice.Eq.{bytes_eq-Decides}
use Rattle.std.proofs.lemmas.Bool.{false≢true}
use Prim.Native.String.{String}
use Rattle.proc_macro2.specs.Token.{Token, Ident}
use Rattle.proc_macro2.specs.declared.delimiter.Delimiter.TheVariants.{Parenthesis}
use Rattle.syn_grammar.specs.Kind.{Kind, AType, AnImpl, AnItem, ImplGenerics, ImplItems, InFile, InnerAttributes}
use Rattle.syn_grammar.specs.Kind.{ItemMacro, Visibility, Where, WithPlus}
use Rattle.syn_grammar.specs.Name.{Part, same_part, the_const, the_default, the_first, the_generics}
use Rattle.syn_grammar.specs.Name.{the_polarity, the_pub, the_safety, the_self, the_where}
use Rattle.syn_grammar.specs.Words.{is_ident, is_name, is_path_keyword, is_string}
use Rattle.rust_leaf.specs.Keywords.{is_reserved, same_text}
use Rattle.syn_grammar.specs.Tree.{Tree, AMark, AWord, Called, First, Nil, Node, Pair, Second, Verbatim, flat}
use Rattle.syn_grammar.specs.Part.{choice, found, has, is_some, or_else}
use Rattle.syn_grammar.specs.Gram.{Gram, Verdict, AsRaw, alt, ref, never as none}
use Rattle.syn_grammar.specs.Look.{Look, ◌then◌, ◌or◌, a_group, a_path, a_quoted, a_word, all_attributes, an_ident}
use Rattle.syn_grammar.specs.Look.{behind, first_seen}
use Rattle.syn_grammar.specs.Look.{maybe, no, repeatedly, seen, sees, the_word}
use Rattle.syn_grammar.specs.Say.{◌∶◌, ◌▸◌, at, brace, in_braces, keyword, marks, optional, sign}
use Rattle.syn_grammar.specs.Items.{is_impl, signature_stands, trait_stands}
use Rattle.syn_grammar.specs.Lists.{item_form, macro_stands}
use Rattle.syn_grammar.specs.Statements.{item_stands, macro_item_stands}
use Rattle.syn_grammar.specs.Verdicts.{form_in_file, item_verdict, refused_if}
use Rattle.syn_grammar.specs.Types.{kept_if}
use Rattle.syn_grammar.specs.Table.{table}
use Rattle.syn_grammar.specs.Derives.{Derives}
use Rattle.syn_grammar.specs.Kept.{is_there}
use Rattle.laws_reread_kinds.specs.Covered.{is_begun, is_macro_item, is_named_macro, is_no_macro, is_statement_item}
use Rattle.laws_reread_kinds.proofs.CalledParts.{lacks_part, no_part}
use Rattle.laws_reread_kinds.proofs.Choices.{both_same, both_true}
use Rattle.laws_reread_kinds.proofs.ItemPlaces.{word_front}
use Rattle.laws_reread_kinds.proofs.Passed.{behind_attributes}
use Rattle.laws_reread_kinds.proofs.Seconds.{either_seen, front_seen}
use Rattle.laws_reread_kinds.proofs.WholeItems.{whole_item}
use Rattle.laws_reread.proofs.Paths.{one_more}
use Rattle.laws_reread.proofs.ToldParts.{of_whole, public_none}
use Rattle.laws_reread.proofs.ToldPaths.{call_behind}

-- No path begins with a word that is no name; and where a word stands behind the first one, no ! does.
no_path : (w : List ℕ) (us : List Token) (l : Look) → is_name w ≡ false → sees (a_path then l) (Ident w ∷ us) ≡ false
no_path w us l e = ap (λ b. seen (behind (behind (cond b (Some us) None) (repeatedly one_more)) l)) e

no_bang : (w v : List ℕ) (us : List Token) (l : Look)
    → sees (a_path then marks "!" then l) (Ident w ∷ Ident v ∷ us) ≡ false
no_bang w v us l = go (is_name w)
  where
    go : (b : Bool)
        → seen (behind (behind (cond b (Some (Ident v ∷ us)) None) (repeatedly one_more)) (marks "!" then l)) ≡ false
    go true = refl
    go false = refl

-- the name of a macro that is an item
abbrev a_named : Look
a_named = an_ident or at "try"

-- such a macro stands not where that is seen
abbrev Off : Look → Type 0
Off t = (ts : List Token) → sees t ts ≡ true → sees macro_item_stands ts ≡ true → ⊥

off_word : (w : List ℕ) → is_name w ≡ false → Off (the_word w)
off_word w n ts e h =
    let (us, i) = word_front w ts e in
    false≢true (sym (no_path w us (marks "!" then a_named) n) ∙ sym (ap (sees macro_item_stands) i) ∙ h)

off_then : (t l : Look) → Off t → Off (t then l)
off_then t l f ts e h = f ts (front_seen (t ts) l e) h

off_or : (t u : Look) → Off t → Off u → Off (t or u)
off_or t u f g ts e h = ⊎_elim (λ i. f ts i h) (λ i. g ts i h) (either_seen (t ts) (u ts) e)

off_maybe : (t u : Look) → Off t → Off u → Off (maybe t then u)
off_maybe t u f g ts e h = go (t ts) refl
  where
    go : (o : Option (List Token)) → t ts ≡ o → ⊥
    go None i = g ts (sym (ap (λ o. seen (behind (first_seen o (Some ts)) u)) i) ∙ e) h
    go (Some us) i = f ts (ap seen i) h

-- two words
off_two : (w : List ℕ) (p : List ℕ → Bool) → Off (the_word w then a_word p)
off_two w p ts e h =
    let (us, i) = word_front w ts (front_seen ((the_word w) ts) (a_word p) e) in
    go us (word_passed us (sym (ap (sees (the_word w then a_word p)) i) ∙ e)) (sym (ap (sees macro_item_stands) i) ∙ h)
  where
    word_passed : (us : List Token) → sees (the_word w then a_word p) (Ident w ∷ us) ≡ true → sees (a_word p) us ≡ true
    word_passed us f = pass (same_text w w) f
      where
        pass : (b : Bool) → seen (behind (cond b (Some us) None) (a_word p)) ≡ true → sees (a_word p) us ≡ true
        pass true f = f
        pass false f = absurd (false≢true f)

    go : (us : List Token) → sees (a_word p) us ≡ true → sees macro_item_stands (Ident w ∷ us) ≡ true → ⊥
    go (Ident v ∷ us) f g = false≢true (sym (no_bang w v us a_named) ∙ g)
    go _ f g = false≢true f

-- An impl has a word in front, or two.
abbrev Worded : List Token → Type 0
Worded ts = (v : List ℕ) × (us : List Token) × (ts ≡ Ident v ∷ us) × (is_name v ≡ false)

unnamed : (w cs : List ℕ) → is_name w ≡ false → same_text w cs ≡ true → is_name cs ≡ false
unnamed w cs n e = sym (ap is_name ((bytes_eq-Decides w cs).0 e)) ∙ n

worded : (n : Part) (w : String) (x z : Tree) (r : List Token) → is_name (codes w) ≡ false
    → Derives x (optional (at w) (n ∶ keyword w)) (flat z ++ r) → Worded (flat z ++ r)
    → Worded ((flat x ++ flat z) ++ r)
worded n w (First (Called m (AWord cs))) z r i d o = (cs, flat z ++ r, refl, unnamed (codes w) cs i d.1.1)
worded n w (First (Called m _)) z r i d o = absurd d.1.1
worded n w (First _) z r i d o = absurd d.1
worded n w (Second Nil) z r i d o = o
worded n w (Second _) z r i d o = absurd d.1
worded n w _ z r i d o = absurd d

impl_words : (x w : Tree) (r : List Token) → Worded (flat w ++ r)
    → Derives x (optional (at "default") (the_default ∶ keyword "default")) (flat w ++ r)
    → sees macro_item_stands ((flat x ++ flat w) ++ r) ≡ true → ⊥
impl_words (First (Called m (AWord cs))) w r o d e =
    false≢true (sym (no_bang cs o.0 o.1 a_named) ∙ sym (ap (λ ts. sees macro_item_stands (Ident cs ∷ ts)) o.2) ∙ e)
impl_words (First (Called m _)) w r o d e = d.1.1
impl_words (First _) w r o d e = d.1
impl_words (Second Nil) w r o d e =
    false≢true (sym (no_path o.0 o.1 (marks "!" then a_named) o.3) ∙ sym (ap (sees macro_item_stands) o.2) ∙ e)
impl_words (Second _) w r o d e = d.1
impl_words _ w r o d e = d

impl_off : (y : Tree) (r : List Token) → Derives y (table AnImpl) r → sees macro_item_stands (flat y ++ r) ≡ true → ⊥
unfolding table is_name is_path_keyword is_reserved
impl_off (First (Pair d (Pair c (Pair u (Pair (AWord cs) z))))) r h e =
    impl_words d (Pair c (Pair u (Pair (AWord cs) z))) r
    (worded the_const "const" c (Pair u (Pair (AWord cs) z)) r refl h.1.1.0
    (worded the_safety "unsafe" u (Pair (AWord cs) z) r refl h.1.1.1.0
    (cs, flat z ++ r, refl, unnamed (codes "impl") cs refl h.1.1.1.1.0))) h.1.0 e
impl_off (First (Pair d (Pair c (Pair u (Pair _ z))))) r h e = h.1.1.1.1.0
impl_off (First (Pair d (Pair c (Pair u _)))) r h e = h.1.1.1.1
impl_off (First (Pair d (Pair c _))) r h e = h.1.1.1
impl_off (First (Pair d _)) r h e = h.1.1
impl_off (First _) r h e = h.1
impl_off (Verbatim x) r h e = raw_none (is_impl x) h.0
  where
    raw_none : (b : Bool) → kept_if b ≡ AsRaw → ⊥
    raw_none true i = cc i
    raw_none false i = cc i
impl_off _ r h e = h

-- What was chosen where such a macro was seen is one.
abbrev Chosen : Gram → Type 0
Chosen g =
    (x : Tree) (r : List Token) → Derives x g r → sees macro_item_stands (flat x ++ r) ≡ true
    → is_named_macro (choice x) ≡ true

unseen : (t : List Token → Bool) (k : Kind) (g : Gram)
    → ((ts : List Token) → t ts ≡ true → sees macro_item_stands ts ≡ true → ⊥) → Chosen g → Chosen (alt t (ref k) g)
unseen t k g f more (First x) r d e = absurd (f (flat x ++ r) d.0 e)
unseen t k g f more (Second x) r d e = more x r d.1 e
unseen t k g f more _ r d e = absurd d

no_impl : (t : List Token → Bool) (g : Gram) → Chosen g → Chosen (alt t (ref AnImpl) g)
no_impl t g more (First (Node k y)) r d e =
    absurd (impl_off y r (subst (λ j. Derives y (table j) r) d.1.0 d.1.1) e)
no_impl t g more (First _) r d e = absurd d.1
no_impl t g more (Second x) r d e = more x r d.1 e
no_impl t g more _ r d e = absurd d

-- the macro, by its path and its !
macro_in : (y : Tree) (r : List Token) → Derives y (table (ItemMacro InFile)) r
    → sees macro_item_stands (flat y ++ r) ≡ true → is_named_macro (Node (ItemMacro InFile) y) ≡ true
unfolding table
macro_in (Pair q (Pair b (Pair (First n) g))) r d e = refl
macro_in (Pair (Node j x) (Pair (AMark c cs i) (Pair (Second Nil) g))) r d e =
    absurd (false≢true (sym d.1.1.0.0
    ∙ sym (call_behind x c cs i (flat g) r _ d.1.0.0 d.1.0.1
    (subst (λ l. Derives x (table l) ((flat (AMark c cs i) ++ flat g) ++ r)) d.0.0 d.0.1) a_named) ∙ e))
macro_in (Pair (Node j x) (Pair _ (Pair (Second Nil) g))) r d e = absurd d.1.0
macro_in (Pair _ (Pair b (Pair (Second Nil) g))) r d e = absurd d.0
macro_in (Pair q (Pair b (Pair (Second _) g))) r d e = absurd d.1.1.0.1
macro_in (Pair q (Pair b (Pair _ g))) r d e = absurd d.1.1.0
macro_in (Pair q (Pair b _)) r d e = absurd d.1.1
macro_in (Pair q _) r d e = absurd d.1
macro_in _ r d e = absurd d

a_macro : Chosen (alt (sees macro_stands) (ref (ItemMacro InFile)) none)
a_macro (First (Node k y)) r d e =
    subst (λ j. is_named_macro (Node j y) ≡ true) (sym d.1.0)
    (macro_in y r (subst (λ j. Derives y (table j) r) d.1.0 d.1.1) e)
a_macro (First _) r d e = absurd d.1
a_macro (Second x) r d e = absurd (nowhere x d.1)
  where
    nowhere : (x : Tree) → Derives x none r → ⊥
    nowhere (Pair y z) d = d
    nowhere _ d = d
a_macro _ r d e = absurd d

abbrev legacy : Look
legacy = maybe (at "extern" then maybe (a_quoted is_string)) then at "fn"

signature_off : Off (signature_stands InFile)
unfolding is_name is_path_keyword is_reserved
signature_off =
    off_maybe (at "const") (maybe (at "async") then maybe (at "unsafe") then legacy) (off_word (codes "const") refl)
    (off_maybe (at "async") (maybe (at "unsafe") then legacy) (off_word (codes "async") refl)
    (off_maybe (at "unsafe") legacy (off_word (codes "unsafe") refl)
    (off_maybe (at "extern" then maybe (a_quoted is_string)) (at "fn")
    (off_then (at "extern") (maybe (a_quoted is_string)) (off_word (codes "extern") refl))
    (off_word (codes "fn") refl))))

item_named : Chosen item_form
unfolding is_name is_path_keyword is_reserved
item_named =
    unseen _ _ _ signature_off
    (unseen _ _ _ (off_then (at "extern") (at "crate") (off_word (codes "extern") refl))
    (unseen _ _ _ (off_word (codes "extern") refl)
    (unseen _ _ _ (off_word (codes "use") refl)
    (unseen _ _ _ (off_word (codes "static") refl)
    (unseen _ _ _ (off_then (at "const") trait_stands (off_word (codes "const") refl))
    (no_impl _ _
    (unseen _ _ _ (off_word (codes "const") refl)
    (unseen _ _ _ (off_then (at "unsafe") (at "extern") (off_word (codes "unsafe") refl))
    (unseen _ _ _ (off_then (at "unsafe") (at "mod") (off_word (codes "unsafe") refl))
    (no_impl _ _
    (unseen _ _ _ (off_word (codes "unsafe") refl)
    (unseen _ _ _ (off_word (codes "mod") refl)
    (unseen _ _ _ (off_word (codes "type") refl)
    (unseen _ _ _ (off_word (codes "struct") refl)
    (unseen _ _ _ (off_word (codes "enum") refl)
    (unseen _ _ _ (off_two (codes "union") is_ident)
    (unseen _ _ _ (off_then (at "impl")
    (a_group Parenthesis then (at "const" or at "unsafe" or at "auto" or at "trait")) (off_word (codes "impl") refl))
    (unseen _ _ _ (off_or (at "trait") (at "auto" then at "trait") (off_word (codes "trait") refl)
    (off_two (codes "auto") (λ cs. same_text (codes "trait") cs)))
    (no_impl _ _
    (unseen _ _ _ (off_word (codes "macro") refl) a_macro))))))))))))))))))))

-- in front of it stands no visibility
visible_off : (v : Tree) (r : List Token) → Derives v (table Visibility) r → sees macro_item_stands (flat v ++ r) ≡ true
    → (not (is_there v) ≡ true) × (flat v ≡ [])
unfolding table is_name is_path_keyword is_reserved
visible_off (First (Pair (Called m (AWord cs)) y)) r d e =
    absurd (false≢true (sym (no_path cs (flat y ++ r) (marks "!" then a_named) (unnamed (codes "pub") cs refl d.1.0.1))
    ∙ e))
visible_off (First (Pair (Called m _) y)) r d e = absurd d.1.0.1
visible_off (First (Pair _ y)) r d e = absurd d.1.0
visible_off (First _) r d e = absurd d.1
visible_off (Second Nil) r d e = (refl, refl)
visible_off (Second _) r d e = absurd d.1
visible_off _ r d e = absurd d

whole_named : (x : Tree) (r : List Token) → Derives x whole_item r
    → sees (all_attributes then macro_item_stands) (flat x ++ r) ≡ true → is_macro_item (Node AnItem (First x)) ≡ true
whole_named (Pair o (Pair (Called n (Node k v)) (Called m i))) r d e =
    let b : sees macro_item_stands ((flat v ++ flat i) ++ r) ≡ true =
    sym (behind_attributes o (Pair (Called n (Node k v)) (Called m i)) macro_item_stands r _ d.0 refl) ∙ e in
    let p = visible_off v (flat i ++ r) (subst (λ j. Derives v (table j) (flat i ++ r)) d.1.0.1.0 d.1.0.1.1)
    (sym (ap (sees macro_item_stands) (append_assoc (flat v) (flat i) r)) ∙ b) in
    both_same (not (is_there v)) (is_named_macro (choice i)) true true p.0
    (item_named i r d.1.1.1 (sym (ap (λ us. sees macro_item_stands ((us ++ flat i) ++ r)) p.1) ∙ b))
whole_named (Pair o (Pair (Called n (Node k v)) _)) r d e = absurd d.1.1
whole_named (Pair o (Pair (Called n _) i)) r d e = absurd d.1.0.1
whole_named (Pair o (Pair _ i)) r d e = absurd d.1.0
whole_named (Pair o _) r d e = absurd d.1
whole_named _ r d e = absurd d

-- no macro is kept as tokens
no_raw_macro : (v : Bool) (z : Tree) → form_in_file v z ≡ AsRaw → is_no_macro z ≡ true
no_raw_macro true (Node (ItemMacro p) y) e = cc e
no_raw_macro false (Node (ItemMacro p) y) e = cc e
no_raw_macro v _ e = refl

macro_named : (z : Tree) → is_named_macro z ≡ true → is_no_macro z ≡ false
macro_named (Node (ItemMacro p) y) e = refl
macro_named _ e = absurd (false≢true e)

raw_unnamed : (x : Tree) (r : List Token) → Derives x whole_item r → item_verdict InFile x ≡ AsRaw
    → is_macro_item (Node AnItem (First x)) ≡ true → ⊥
raw_unnamed (Pair (Node l p) (Pair (Called n (Node k v)) (Called m i))) r d e h =
    let c = both_true (not (is_there v)) (is_named_macro (choice i)) h in
    false≢true (sym (macro_named (choice i) c.1)
    ∙ no_raw_macro (has the_pub v) (choice i) (of_whole l p n k v m i AsRaw d.1.0.0 d.1.1.0 d.1.0.1.0 e))
raw_unnamed (Pair (Node l p) (Pair (Called n (Node k v)) _)) r d e h = d.1.1
raw_unnamed (Pair (Node l p) (Pair (Called n _) i)) r d e h = d.1.0.1
raw_unnamed (Pair (Node l p) (Pair _ i)) r d e h = d.1.0
raw_unnamed (Pair (Node l p) _) r d e h = d.1
raw_unnamed (Pair _ y) r d e h = d.0
raw_unnamed _ r d e h = d

named_in : (k : Kind) (x : Tree) (r : List Token) → Derives x (table AnItem) r
    → sees (all_attributes then macro_item_stands) (flat x ++ r) ≡ true → is_macro_item (Node k x) ≡ true
unfolding table
named_in k (First x) r d e = whole_named x r d.1 e
named_in k (Verbatim x) r d e = absurd (raw_unnamed x r d.1 d.0 (whole_named x r d.1 e))
named_in k _ r d e = absurd d

pub named_told : (x : Tree) (r : List Token) → Derives x (ref AnItem) r
    → sees (all_attributes then macro_item_stands) (flat x ++ r) ≡ true → is_macro_item x ≡ true
named_told (Node k x) r d e = named_in k x r (subst (λ j. Derives x (table j) r) d.0 d.1) e
named_told _ r d e = absurd d

-- An impl that is kept as tokens, by the words in front of it: behind default stands const only behind pub.
-- With neither of them there is nothing to show.
abbrev default_front : Gram
default_front = optional (at "default") (the_default ∶ keyword "default")

abbrev const_front : Gram
const_front = optional (at "const") (the_const ∶ keyword "const")

abbrev past_const : Gram
past_const =
    optional (at "unsafe") (the_safety ∶ keyword "unsafe") ▸ keyword "impl" ▸ the_generics ∶ ref ImplGenerics
    ▸ optional (marks "!" then no brace) (the_polarity ∶ sign "!") ▸ the_first ∶ ref (AType WithPlus)
    ▸ optional (at "for") (keyword "for" ▸ the_self ∶ ref (AType WithPlus)) ▸ the_where ∶ ref Where
    ▸ in_braces (ref InnerAttributes ▸ ref ImplItems)

not_both : (a b : Bool) → (a ≡ true → b ≡ true → ⊥) → not (a && b) ≡ true
not_both true true f = absurd (f refl refl)
not_both true false f = refl
not_both false b f = refl

-- a verdict that keeps the tokens of an impl with default: it is not pub
not_public : (v a b : Bool) (w : Verdict) → b ≡ true → refused_if (v && not (a && not b)) w ≡ AsRaw → v ≡ false
not_public false a b w e h = refl
not_public true true true w e h = cc h
not_public true false true w e h = cc h
not_public true a false w e h = cc e

words_seen : (cs ds : List ℕ) (us : List Token) → same_text (codes "default") cs ≡ true
    → same_text (codes "const") ds ≡ true → sees item_stands (Ident cs ∷ Ident ds ∷ us) ≡ false
words_seen cs ds us e f =
    sym (ap (λ w. sees item_stands (Ident w ∷ Ident ds ∷ us)) ((bytes_eq-Decides (codes "default") cs).0 e))
    ∙ sym (ap (λ w. sees item_stands (Ident (codes "default") ∷ Ident w ∷ us)) ((bytes_eq-Decides
    (codes "const") ds).0 f))

-- so it has not both
has_front : (n : Part) (x y : Tree) (g : Gram) (r : List Token) → Derives y g r → lacks_part n g ≡ true
    → has n (Pair x y) ≡ true → has n x ≡ true
has_front n x y g r d l e = go (found n x) (sym (ap (λ o. is_some (or_else (found n x) o)) (no_part n y g r d l)) ∙ e)
  where
    go : (o : Option Tree) → is_some (or_else o None) ≡ true → is_some o ≡ true
    go (Some z) f = refl
    go None f = f

has_behind : (n : Part) (x y : Tree) (g : Gram) (r : List Token) → Derives x g r → lacks_part n g ≡ true
    → has n (Pair x y) ≡ true → has n y ≡ true
has_behind n x y g r d l e = sym (ap (λ o. is_some (or_else o (found n y))) (no_part n x g r d l)) ∙ e

both_there : (d c y : Tree) (r : List Token) → Derives (Pair d (Pair c y)) (default_front ▸ const_front ▸ past_const) r
    → sees item_stands (flat (Pair d (Pair c y)) ++ r) ≡ true → has the_default d ≡ true → has the_const c ≡ true → ⊥
both_there (First (Called m (AWord cs))) (First (Called n (AWord ds))) y r d e f g =
    false≢true (sym (words_seen cs ds (flat y ++ r) d.0.1.1 d.1.0.1.1) ∙ e)
both_there (First (Called m (AWord cs))) (First (Called n _)) y r d e f g = d.1.0.1.1
both_there (First (Called m (AWord cs))) (First _) y r d e f g = d.1.0.1
both_there (First (Called m (AWord cs))) (Second Nil) y r d e f g = false≢true g
both_there (First (Called m (AWord cs))) (Second _) y r d e f g = d.1.0.1
both_there (First (Called m (AWord cs))) _ y r d e f g = d.1.0
both_there (First (Called m _)) c y r d e f g = d.0.1.1
both_there (First _) c y r d e f g = d.0.1
both_there (Second Nil) c y r d e f g = false≢true f
both_there (Second _) c y r d e f g = d.0.1
both_there _ c y r d e f g = d.0

impl_begun : (y : Tree) (r : List Token) (v : Bool) → Derives y (table AnImpl) r
    → form_in_file v (Node AnImpl y) ≡ AsRaw
    → (v ≡ false → sees item_stands (flat y ++ r) ≡ true) → is_begun (Node AnImpl y) ≡ true
unfolding table same_part
impl_begun (First (Pair d (Pair c y))) r v h e s =
    not_both (has the_default (Pair d (Pair c y))) (has the_const (Pair d (Pair c y)))
    (λ f g. both_there d c y r h.1
    (s (not_public v (has the_const (Pair d (Pair c y))) (has the_default (Pair d (Pair c y))) _ f e))
    (has_front the_default d (Pair c y) (const_front ▸ past_const) r h.1.1 refl f)
    (has_front the_const c y past_const r h.1.1.1 refl
    (has_behind the_const d (Pair c y) default_front _ h.1.0 refl g)))
impl_begun (First (Pair d _)) r v h e s = absurd h.1.1
impl_begun (First _) r v h e s = absurd h.1
impl_begun (Verbatim x) r v h e s = refl
impl_begun _ r v h e s = absurd h

-- what was chosen, where an item was seen by its words
abbrev are_choices : Gram → Bool
are_choices (alt t a b) = are_choices a && are_choices b
are_choices (ref k) = true
are_choices none = true
are_choices _ = false

node_begun : (k : Kind) (y : Tree) (r : List Token) (v : Bool) → Derives y (table k) r
    → form_in_file v (Node k y) ≡ AsRaw → (v ≡ false → sees item_stands (flat y ++ r) ≡ true)
    → is_begun (Node k y) ≡ true
node_begun AnImpl y r v d e s = impl_begun y r v d e s
node_begun _ y r v d e s = refl

chosen_begun : (x : Tree) (g : Gram) (r : List Token) (v : Bool) → Derives x g r → are_choices g ≡ true
    → form_in_file v (choice x) ≡ AsRaw → (v ≡ false → sees item_stands (flat x ++ r) ≡ true)
    → is_begun (choice x) ≡ true
chosen_begun (First x) (alt t a b) r v d c e s =
    chosen_begun x a r v d.1 (both_true (are_choices a) (are_choices b) c).0 e s
chosen_begun (Second x) (alt t a b) r v d c e s =
    chosen_begun x b r v d.1 (both_true (are_choices a) (are_choices b) c).1 e s
chosen_begun _ (alt t a b) r v d c e s = absurd d
chosen_begun (Node k y) (ref l) r v d c e s = node_begun k y r v d.1 e s
chosen_begun _ (ref l) r v d c e s = absurd d
chosen_begun _ none r v d c e s = absurd d
chosen_begun x _ r v d c e s = absurd (false≢true c)

-- a raw item among statements
raw_in : (x : Tree) (r : List Token) → Derives x whole_item r → item_verdict InFile x ≡ AsRaw
    → sees (all_attributes then item_stands) (flat x ++ r) ≡ true → is_statement_item (Verbatim x) ≡ true
raw_in (Pair (Node l p) (Pair (Called n (Node k v)) (Called m i))) r d e h =
    let w : form_in_file (has the_pub v) (choice i) ≡ AsRaw =
    of_whole l p n k v m i AsRaw d.1.0.0 d.1.1.0 d.1.0.1.0 e in
    let b : sees item_stands ((flat v ++ flat i) ++ r) ≡ true =
    sym (behind_attributes (Node l p) (Pair (Called n (Node k v)) (Called m i)) item_stands r _ d.0 refl) ∙ h in
    both_same (is_no_macro (choice i)) (is_begun (choice i)) true true (no_raw_macro (has the_pub v) (choice i) w)
    (chosen_begun i item_form r (has the_pub v) d.1.1.1 refl w
    (λ f. sym (ap (λ us. sees item_stands ((us ++ flat i) ++ r))
    (public_none v (flat i ++ r) (subst (λ j. Derives v (table j) (flat i ++ r)) d.1.0.1.0 d.1.0.1.1) f)) ∙ b))
raw_in (Pair (Node l p) (Pair (Called n (Node k v)) _)) r d e h = absurd d.1.1
raw_in (Pair (Node l p) (Pair (Called n _) i)) r d e h = absurd d.1.0.1
raw_in (Pair (Node l p) (Pair _ i)) r d e h = absurd d.1.0
raw_in (Pair (Node l p) _) r d e h = absurd d.1
raw_in (Pair _ y) r d e h = absurd d.0
raw_in _ r d e h = absurd d

raw_kept : (x : Tree) (r : List Token) → Derives (Verbatim x) (table AnItem) r
    → sees (all_attributes then item_stands) (flat x ++ r) ≡ true → is_statement_item (Verbatim x) ≡ true
unfolding table
raw_kept x r d e = raw_in x r d.1 d.0 e

pub raw_told : (k : Kind) (x : Tree) (r : List Token) → Derives (Node k (Verbatim x)) (ref AnItem) r
    → sees (all_attributes then item_stands) (flat x ++ r) ≡ true → is_statement_item (Verbatim x) ≡ true
raw_told k x r d e = raw_kept x r (subst (λ j. Derives (Verbatim x) (table j) r) d.0 d.1) e
