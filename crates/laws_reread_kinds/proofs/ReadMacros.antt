-- What was read as a macro among items: the tests saw how a macro begins, and no other item that begins with default.
use Rattle.std.proofs.Common.{◌≡◌, ℕ, List, [], ◌∷◌, ◌++◌, refl, sym, ap, ◌∙◌, subst, append_assoc}
use Rattle.std.specs.Prelude.{Bool, true, false, ◌&&◌, ◌||◌, not, cond, codes, Option, Some, None}
use Rattle.std.proofs.lemmas.Slice.Eq.{bytes_eq-Decides}
use Rattle.std.proofs.lemmas.Bool.{false≢true}
use Rattle.proc_macro2.specs.Token.{Token, Ident}
use Rattle.syn_grammar.specs.Kind.{AMacroDefinition}
use Rattle.syn_grammar.specs.Kind.{AnImpl, InFile, InForeign, InModule, InTrait, ItemMacro, Kind, Path, Place, Segments}
use Rattle.syn_grammar.specs.Tree.{Tree, AWord, First, Nil, Node, Pair, Second, flat}
use Rattle.syn_grammar.specs.Part.{choice}
use Rattle.syn_grammar.specs.Words.{is_path_keyword}
use Rattle.rust_leaf.specs.Keywords.{is_reserved, same_text}
use Rattle.syn_grammar.specs.Gram.{Gram, alt, ref}
use Rattle.syn_grammar.specs.Look.{Look, first_seen, no, seen, sees, ◌or◌, ◌then◌}
use Rattle.syn_grammar.specs.Say.{at, marks, refused, when◌read◌else◌}
use Rattle.syn_grammar.specs.Lists.{item_form, macro_stands}
use Rattle.syn_grammar.specs.Table.{table}
use Rattle.syn_grammar.specs.Derives.{Derives}
use Rattle.laws_reread_kinds.specs.Sees.{Lacks}
use Rattle.laws_reread_kinds.proofs.MacroPaths.{has_own_word, has_plain_path, is_own_word, is_plain_macro}
use Rattle.laws_reread_kinds.proofs.MacroPaths.{is_plain_path}
use Rattle.laws_reread_kinds.proofs.MacroPaths.{may_be_default}
use Rattle.laws_reread_kinds.proofs.Seconds.{mark_other}

-- what is seen by default before one in its place
abbrev pub default_look : Place → Look
default_look InForeign = λ ts. None
default_look InTrait = at "default"
default_look p = at "default" then no (marks "!")

not_self : (ds : List ℕ) (us : List Token) → sees macro_stands (Ident ds ∷ us) ≡ true
    → not (same_text (codes "Self") ds) ≡ true
unfolding is_reserved
not_self ds us e = go (same_text (codes "Self") ds) refl
  where
    go : (b : Bool) → same_text (codes "Self") ds ≡ b → not b ≡ true
    go false f = refl
    go true f =
        let g : codes "Self" ≡ ds = (bytes_eq-Decides (codes "Self") ds).0 f in
        absurd (false≢true (subst (λ es. sees macro_stands (Ident es ∷ us) ≡ true) (sym g) e))

own_default : (p : Place) (b : Bool) (us : List Token) → (b ≡ false → sees (marks "!") us ≡ false)
    → Lacks (default_look p) (Ident (codes "default") ∷ us) → may_be_default p b ≡ true
own_default InForeign b us n e = refl
own_default InTrait b us n e = absurd (false≢true (sym e))
own_default _ true us n e = refl
own_default _ false us n e = absurd (false≢true (sym e ∙ ap (λ c. seen (cond c None (Some us))) (n refl)))

own_word : (p : Place) (ds : List ℕ) (us : List Token) (b : Bool)
    → (codes "default" ≡ ds → b ≡ false → sees (marks "!") us ≡ false)
    → sees macro_stands (Ident ds ∷ us) ≡ true → Lacks (default_look p) (Ident ds ∷ us) → is_own_word p ds b ≡ true
own_word p ds us b n e f =
    ap (λ c. c && (not (same_text (codes "default") ds) || may_be_default p b)) (not_self ds us e)
    ∙ go (same_text (codes "default") ds) refl
  where
    go : (c : Bool) → same_text (codes "default") ds ≡ c → (not c || may_be_default p b) ≡ true
    go false g = refl
    go true g =
        let h : codes "default" ≡ ds = (bytes_eq-Decides (codes "default") ds).0 g in
        own_default p b us (n h) (subst (λ es. Lacks (default_look p) (Ident es ∷ us)) (sym h) f)

no_keyword : (ds : List ℕ) → is_path_keyword ds ≡ true → codes "default" ≡ ds → ⊥
unfolding is_path_keyword
no_keyword ds e h = false≢true (subst (λ es. is_path_keyword es ≡ true) (sym h) e)

-- its words
segments_own : (p : Place) (w : Tree) (r : List Token) → Derives w (table (Segments InModule)) r
    → sees macro_stands (flat w ++ r) ≡ true → Lacks (default_look p) (flat w ++ r) → has_own_word p w ≡ true
unfolding table
segments_own p (First (Pair (AWord ds) y)) r d e f =
    own_word p ds (flat y ++ r) false (λ h i. absurd (no_keyword ds d.1.0 h)) e f
segments_own p (First (Pair _ y)) r d e f = absurd d.1.0
segments_own p (First _) r d e f = absurd d.1
segments_own p (Second (Pair (AWord ds) (First y))) r d e f = absurd (false≢true d.1.1.0)
segments_own p (Second (Pair (AWord ds) (Second (First y)))) r d e f =
    own_word p ds (flat y ++ r) false (λ h i. mark_other 58 33 (58 ∷ []) (flat y ++ r) refl d.1.1.1.0) e f
segments_own p (Second (Pair (AWord ds) (Second (Second y)))) r d e f =
    own_word p ds (flat y ++ r) true (λ h i. absurd (false≢true (sym i))) e f
segments_own p (Second (Pair (AWord ds) (Second _))) r d e f = absurd d.1.1.1
segments_own p (Second (Pair (AWord ds) _)) r d e f = absurd d.1.1
segments_own p (Second (Pair _ y)) r d e f = absurd d.1.0
segments_own p (Second _) r d e f = absurd d.1
segments_own p _ r d e f = absurd d

path_own : (p : Place) (x : Tree) (r : List Token) → Derives x (table (Path InModule)) r
    → sees macro_stands (flat x ++ r) ≡ true → Lacks (default_look p) (flat x ++ r) → is_plain_path p x ≡ true
unfolding table
path_own p (Pair (First c) y) r d e f = refl
path_own p (Pair (Second Nil) (Node l w)) r d e f =
    segments_own p w r (subst (λ j. Derives w (table j) r) d.1.0 d.1.1) e f
path_own p (Pair (Second Nil) _) r d e f = absurd d.1
path_own p (Pair (Second _) y) r d e f = absurd d.0.1
path_own p (Pair _ y) r d e f = absurd d.0
path_own p _ r d e f = absurd d

macro_own : (p : Place) (y : Tree) (s : List Token) → Derives y (table (ItemMacro p)) s
    → sees macro_stands (flat y ++ s) ≡ true → Lacks (default_look p) (flat y ++ s) → has_plain_path p y ≡ true
unfolding table
macro_own p (Pair (Node k x) z) s d e f =
    path_own p x (flat z ++ s) (subst (λ j. Derives x (table j) (flat z ++ s)) d.0.0 d.0.1)
    (ap (sees macro_stands) (sym (append_assoc (flat x) (flat z) s)) ∙ e)
    (ap (sees (default_look p)) (sym (append_assoc (flat x) (flat z) s)) ∙ f)
macro_own p (Pair _ z) s d e f = absurd d.0
macro_own p _ s d e f = absurd d

pub own_read : (p : Place) (x : Tree) (s : List Token) → Derives x (ref (ItemMacro p)) s
    → sees macro_stands (flat x ++ s) ≡ true → Lacks (default_look p) (flat x ++ s) → is_plain_macro x ≡ true
own_read p (Node k y) s d e f =
    subst (λ j. is_plain_macro (Node j y) ≡ true) (sym d.0)
    (macro_own p y s (subst (λ j. Derives y (table j) s) d.0 d.1) e f)
own_read p _ s d e f = absurd d

-- of other kinds nothing is asked
pub other_read : (k : Kind) → ((y : Tree) → is_plain_macro (Node k y) ≡ true) → (x : Tree) (s : List Token)
    → Derives x (ref k) s → is_plain_macro (choice x) ≡ true
other_read k n (Node j y) s d = subst (λ i. is_plain_macro (Node i y) ≡ true) (sym d.0) (n y)
other_read k n _ s d = absurd d

-- one look or another
either_lacks : (l m : Look) (ts : List Token) → Lacks (l or m) ts → Lacks m ts
either_lacks l m ts e = go (l ts) (m ts) e
  where
    go : (o q : Option (List Token)) → seen (first_seen o q) ≡ false → seen q ≡ false
    go None q e = e
    go (Some us) q e = cc e

-- an item's form
abbrev FormLaw : Gram → Type 0
FormLaw g = (x : Tree) (s : List Token) → Derives x g s → is_plain_macro (choice x) ≡ true

form_alt : (t : List Token → Bool) (k : Kind) (g : Gram) → ((y : Tree) → is_plain_macro (Node k y) ≡ true) → FormLaw g
    → FormLaw (alt t (ref k) g)
form_alt t k g n l (First x) s d = other_read k n x s d.1
form_alt t k g n l (Second x) s d = l x s d.1
form_alt t k g n l _ s d = absurd d

form_last : FormLaw (
    when at "impl" or (at "default" then no (marks "!")) read ref AnImpl
    else when at "macro" read ref AMacroDefinition
    else when macro_stands read ref (ItemMacro InFile)
    else refused
    )
form_last (First x) s d = other_read AnImpl (λ y. refl) x s d.1
form_last (Second (First x)) s d = other_read AMacroDefinition (λ y. refl) x s d.1.1
form_last (Second (Second (First (Node k y)))) s d =
    own_read InFile (Node k y) s d.1.1.1 d.1.1.0
    (either_lacks (at "impl") (at "default" then no (marks "!")) (flat y ++ s) d.0)
form_last (Second (Second (First _))) s d = absurd d.1.1.1
form_last (Second (Second (Second Nil))) s d = absurd d.1.1.1
form_last (Second (Second (Second _))) s d = absurd d.1.1.1
form_last (Second (Second _)) s d = absurd d.1.1
form_last (Second _) s d = absurd d.1
form_last _ s d = absurd d

pub form_read : FormLaw item_form
form_read =
    form_alt _ _ _ (λ y. refl) (form_alt _ _ _ (λ y. refl) (form_alt _ _ _ (λ y. refl) (form_alt _ _ _ (λ y. refl) (
    form_alt _ _ _ (λ y. refl) (form_alt _ _ _ (λ y. refl) (form_alt _ _ _ (λ y. refl) (form_alt _ _ _ (λ y. refl) (
    form_alt _ _ _ (λ y. refl) (form_alt _ _ _ (λ y. refl) (form_alt _ _ _ (λ y. refl) (form_alt _ _ _ (λ y. refl) (
    form_alt _ _ _ (λ y. refl) (form_alt _ _ _ (λ y. refl) (form_alt _ _ _ (λ y. refl) (form_alt _ _ _ (λ y. refl) (
    form_alt _ _ _ (λ y. refl) (form_alt _ _ _ (λ y. refl) (form_alt _ _ _ (λ y. refl) (form_last)))))))))))))))))))
