-- An item's form that fits stands among the alternatives where its words in front call for it.
use Rattle.std.proofs.Common.{◌≡◌, ℕ, suc, ◌+◌, List, [], ◌∷◌, ◌++◌, refl, sym, ap, ◌∙◌, subst, append_assoc}
use Rattle.std.proofs.Common.{⊎_elim, arith}
use Rattle.std.specs.Prelude.{Bool, true, false, ◌||◌, cond, codes, Option, Some, None}
use Prim.Native.String.{String}
use Rattle.std.proofs.lemmas.Slice.Eq.{bytes_eq-Decides}
use Rattle.proc_macro2.specs.Token.{Token, Ident}
use Rattle.syn_grammar.specs.Kind.{Kind, AConst, AConstTrait, AForeignModule, AFunction, AMacroDefinition, AModule}
use Rattle.syn_grammar.specs.Kind.{ARestrictedTrait, AStatic, AStruct, ATrait, ATypeAlias, AUnion, AUse, AnEnum}
use Rattle.syn_grammar.specs.Kind.{AnExternCrate, AnImpl, InFile, ItemMacro}
use Rattle.syn_grammar.specs.Name.{Part, same_part, the_const, the_default, the_safety}
use Rattle.syn_grammar.specs.Tree.{Tree, First, Second, Nil, Node, Pair, Called, Verbatim, flat}
use Rattle.syn_grammar.specs.Part.{choice, has, found, is_some, or_else}
use Rattle.rust_leaf.specs.Keywords.{is_among, same_text}
use Rattle.syn_grammar.specs.Gram.{Gram, alt, never, ref}
use Rattle.syn_grammar.specs.Look.{Look, seen, sees, the_word, ◌or◌, ◌then◌, first_seen, maybe, no}
use Rattle.syn_grammar.specs.Say.{at, keyword, marks, optional, ◌∶◌, ◌▸◌}
use Rattle.syn_grammar.specs.Items.{is_impl, is_trait}
use Rattle.syn_grammar.specs.Kept.{kept}
use Rattle.syn_grammar.specs.Kind.{Plain}
use Rattle.laws_reread_kinds.specs.Sees.{Lacks}
use Rattle.laws_reread_kinds.proofs.Elements.{has_read}
use Rattle.laws_reread_kinds.proofs.CalledParts.{lacks_part}
use Rattle.laws_reread_kinds.proofs.Impls.{contrary, core, none_found}
use Rattle.laws_reread_kinds.proofs.Verdicts.{has_normal}
use Rattle.laws_reread_kinds.proofs.Seconds.{front_seen}
use Rattle.laws_items.proofs.Places.{kept_raw, none_then}
use Rattle.syn_grammar.specs.Lists.{item_form}
use Rattle.syn_grammar.specs.Ranks.{skips}
use Rattle.syn_grammar.specs.Table.{table}
use Rattle.syn_grammar.specs.Derives.{Derives}
use Rattle.laws_items.proofs.Places.{Place, place_block, place_const, place_crate, place_function, place_module}
use Rattle.laws_items.proofs.Places.{place_static, place_struct, place_trait, place_union, place_use, place_alias}
use Rattle.laws_items.proofs.Places.{place_enum}
use Rattle.laws_items.proofs.Impls.{place_impl}
use Rattle.laws_reread_kinds.specs.After.{After}
use Rattle.laws_reread_kinds.proofs.Begins.{Begins}
use Rattle.laws_reread_kinds.proofs.Choices.{is_false}
use Rattle.laws_reread_kinds.proofs.Classes.{Class, IsAmong, among_left, among_right, the_words}
use Rattle.laws_reread_kinds.proofs.Fits.{Fits, IsItem, is_item_form, own_place, place}
use Rattle.laws_reread_kinds.proofs.MacroItems.{listed_classes, macro_front, macro_listed, place_macro}
use Rattle.laws_reread_kinds.proofs.Readies.{Ready}
use Rattle.laws_reread_kinds.proofs.Fine.{At, Fine, fine_ref, words_are}
use Rattle.laws_reread_kinds.proofs.Parts.{none_never}

-- the words that an item begins with
abbrev pub item_words : List (List ℕ)
item_words =
    codes "const" ∷ codes "async" ∷ codes "unsafe" ∷ codes "extern" ∷ codes "fn" ∷ codes "use" ∷ codes "static"
    ∷ codes "mod" ∷ codes "type" ∷ codes "struct" ∷ codes "enum" ∷ codes "union" ∷ codes "auto" ∷ codes "trait"
    ∷ codes "default" ∷ codes "impl" ∷ []

abbrev pub item_classes : List Class
item_classes = the_words item_words ++ listed_classes

-- What is known of a kind of form: anything may follow it, it begins with such a word, and it has its place.
record Placing (k : Kind) : Type 0 where
  after : (x : Tree) (s : List Token) → After k x s
  placed : (y : Tree) (s : List Token) → is_item_form (Node k y) ≡ true → Derives y (table k) s
      → Begins k (Node k y) s → Place k y s × At item_classes y s

-- one of these words
all_among : List (List ℕ) → Bool
all_among [] = true
all_among (w ∷ ws) = cond (is_among item_words w) (all_among ws) false

EachPlaced : Gram → Type 0
EachPlaced (alt t a b) = EachPlaced a × EachPlaced b
EachPlaced (ref k) = Placing k
EachPlaced never = Unit {0}
EachPlaced _ = ⊥

where_placed : (g : Gram) → EachPlaced g → (x : Tree) (s : List Token) → Fits x g → Ready x
    → is_item_form (choice x) ≡ true
    → (y : Tree) × (choice y ≡ choice x) × Derives y item_form s × At item_classes x s
unfolding EachPlaced
where_placed (alt t a b) e (First x) s f w h = where_placed a e.0 x s f.1 w h
where_placed (alt t a b) e (Second x) s f w h = where_placed b e.1 x s f.1 w h
where_placed (alt t a b) e _ s f w h = absurd f
where_placed (ref k) e (Node l y) s f w h =
    let (d, i) = (fine_ref {k = k}).by (Node l y) s f w (e.after (Node l y) s) in
    let (p, b) = e.placed y s (subst (λ j. is_item_form (Node j y) ≡ true) d.0 h)
    (subst (λ j. Derives y (table j) s) d.0 d.1) (subst (λ j. Begins k (Node j y) s) d.0 i) in
    (p.0, p.1 ∙ ap (λ j. Node j y) (sym d.0), p.2, b)
where_placed (ref k) e _ s f w h = absurd f
where_placed never e x s f w h = absurd (none_never x f)
where_placed _ e x s f w h = absurd e

-- Each alternative stands where the words in front of its form call for it.
abbrev PlaceLaw : ℕ → Gram → Type 0
PlaceLaw n g = (x : Tree) (r : List Token) → Derives x g r → n + place x ≡ own_place (choice x)

place_alt : (t : List Token → Bool) (k : Kind) (g : Gram) (n : ℕ)
    → ((y : Tree) (r : List Token) → Derives y (table k) r → t (flat y ++ r) ≡ true → n ≡ own_place (Node k y))
    → PlaceLaw (suc n) g → PlaceLaw n (alt t (ref k) g)
place_alt t k g n one more (First (Node l y)) r d =
    let e : n ≡ own_place (Node l y) =
    subst (λ j. n ≡ own_place (Node j y)) (sym d.1.0)
    (one y r (subst (λ j. Derives y (table j) r) d.1.0 d.1.1) d.0) in
    omega (arith, e)
place_alt t k g n one more (First _) r d = absurd d.1
place_alt t k g n one more (Second y) r d = let e = more y r d.1 in omega (arith, e)
place_alt t k g n one more _ r d = absurd d

place_never : (n : ℕ) → PlaceLaw n never
place_never n Nil r d = absurd d
place_never n _ r d = absurd d

-- where a word stands, no other is seen
pub word_front : (w : List ℕ) (ts : List Token) → sees (the_word w) ts ≡ true → (us : List Token) × (ts ≡ Ident w ∷ us)
word_front w (Ident cs ∷ us) e = go (same_text w cs) refl
  where
    go : (b : Bool) → same_text w cs ≡ b → (vs : List Token) × (Ident cs ∷ us ≡ Ident w ∷ vs)
    go true i = (us, ap (λ v. Ident v ∷ us) (sym ((bytes_eq-Decides w cs).0 i)))
    go false i =
        let f : false ≡ true = sym (ap (λ b. seen (cond b (Some us) None)) i) ∙ e in
        cc f
word_front w _ e = cc

not_word : (w : List ℕ) (l : Look) (ts : List Token) → ((us : List Token) → sees l (Ident w ∷ us) ≡ false)
    → sees l ts ≡ true → Lacks (the_word w) ts
not_word w l ts h e = go (sees (the_word w) ts) refl
  where
    go : (b : Bool) → sees (the_word w) ts ≡ b → b ≡ false
    go false i = refl
    go true i =
        let (us, j) = word_front w ts i in
        let g : false ≡ true = sym (h us) ∙ ap (sees l) (sym j) ∙ e in
        cc g

-- a word that may be missing, in front: it is there where it is seen
abbrev a_front : Part → String → Gram
a_front n w = optional (at w) (n ∶ keyword w)

has_either : (n : Part) (x y : Tree) (a b : Bool) → has n x ≡ a → has n y ≡ b → has n (Pair x y) ≡ (a || b)
has_either n x y a b e f = go (found n x) (found n y) e f
  where
    go : (o p : Option Tree) → is_some o ≡ a → is_some p ≡ b → is_some (or_else o p) ≡ (a || b)
    go None p e f = f ∙ ap (λ c. c || b) e
    go (Some z) p e f = ap (λ c. c || b) e

pub has_none : (n : Part) (x : Tree) (g : Gram) (r : List Token) → Derives x g r → lacks_part n g ≡ true
    → has n x ≡ false
has_none n x g r d e =
    sym (has_normal n Plain (kept x) ∙ has_read n x g r d) ∙ ap is_some (none_found n x g r d e)

front_read : (n : Part) (w : String) (x : Tree) (ts : List Token) (b : Bool) → same_part n n ≡ true
    → Derives x (a_front n w) ts → sees (at w) (flat x ++ ts) ≡ b → has n x ≡ b
front_read n w (First (Called m y)) ts b h d e =
    subst (λ j. has n (First (Called j y)) ≡ b) (sym d.1.0)
    (ap (λ c. is_some (cond c (Some y) None)) h ∙ sym d.0 ∙ e)
front_read n w (First _) ts b h d e = absurd d.1
front_read n w (Second Nil) ts b h d e = sym d.0 ∙ e
front_read n w (Second _) ts b h d e = absurd d.1
front_read n w _ ts b h d e = absurd d

front_is : (n : Part) (w : String) (x z : Tree) (g : Gram) (r : List Token) (b : Bool) → same_part n n ≡ true
    → lacks_part n g ≡ true → Derives x (a_front n w) (flat z ++ r) → Derives z g r
    → sees (at w) ((flat x ++ flat z) ++ r) ≡ b → has n (Pair x z) ≡ b
front_is n w x z g r b h l d u e =
    has_either n x z b false
    (front_read n w x (flat z ++ r) b h d (ap (sees (at w)) (sym (append_assoc (flat x) (flat z) r)) ∙ e))
    (has_none n z g r u l)
    ∙ or_false b
  where
    or_false : (b : Bool) → (b || false) ≡ b
    or_false true = refl
    or_false false = refl

-- where it is missing, what follows stands in front
front_gone : (n : Part) (w : String) (x z : Tree) (r : List Token) → Derives x (a_front n w) (flat z ++ r)
    → Lacks (at w) ((flat x ++ flat z) ++ r) → (flat x ++ flat z) ++ r ≡ flat z ++ r
front_gone n w (First y) z r d e =
    let f : true ≡ false = sym d.0 ∙ ap (sees (at w)) (sym (append_assoc (flat y) (flat z) r)) ∙ e in
    cc f
front_gone n w (Second Nil) z r d e = refl
front_gone n w (Second _) z r d e = absurd d.1
front_gone n w _ z r d e = absurd d

-- extern blocks, modules and traits, by their unsafe
block_place : (y : Tree) (r : List Token) (b : Bool) → Derives y (table AForeignModule) r
    → sees (at "unsafe") (flat y ++ r) ≡ b → own_place (Node AForeignModule y) ≡ cond b 8 2
unfolding table same_part
block_place (Pair x z) r b d e =
    ap (λ c. cond c 8 2) (front_is the_safety "unsafe" x z _ r b refl refl d.0 d.1 e)
block_place _ r b d e = absurd d

module_place : (y : Tree) (r : List Token) (b : Bool) → Derives y (table AModule) r
    → sees (at "unsafe") (flat y ++ r) ≡ b → own_place (Node AModule y) ≡ cond b 9 12
unfolding table same_part
module_place (Pair x z) r b d e =
    ap (λ c. cond c 9 12) (front_is the_safety "unsafe" x z _ r b refl refl d.0 d.1 e)
module_place _ r b d e = absurd d

trait_place : (y : Tree) (r : List Token) (b : Bool) → Derives y (table ATrait) r
    → sees (at "unsafe") (flat y ++ r) ≡ b → own_place (Node ATrait y) ≡ cond b 11 18
unfolding table same_part
trait_place (First (Pair x z)) r b d e =
    ap (λ c. cond c 11 18) (front_is the_safety "unsafe" x z _ r b refl refl d.1.0 d.1.1 e)
trait_place (First _) r b d e = absurd d.1
trait_place (Verbatim x) r b d e = absurd (kept_raw (is_trait x) d.0)
trait_place _ r b d e = absurd d

-- impls, by the words in front of theirs
abbrev word_impl : Gram
word_impl = keyword "impl" ▸ core

abbrev past_const : Gram
past_const = a_front the_safety "unsafe" ▸ word_impl

abbrev past_default : Gram
past_default = a_front the_const "const" ▸ past_const

abbrev impl_places : Bool → Bool → Bool → ℕ
impl_places a b c = cond a 19 (cond b 6 (cond c 10 19))

impl_place : (y : Tree) (r : List Token) (n : ℕ) → Derives y (table AnImpl) r
    → (sees (at "default") (flat y ++ r) ≡ true → n ≡ 19)
    → ((b c : Bool) → Lacks (at "default") (flat y ++ r) → sees (at "const") (flat y ++ r) ≡ b
    → (b ≡ false → sees (at "unsafe") (flat y ++ r) ≡ c) → n ≡ impl_places false b c)
    → n ≡ own_place (Node AnImpl y)
unfolding table same_part
impl_place (First (Pair d (Pair c (Pair u z)))) r n h first others =
    go (sees (at "default") ts) (sees (at "const") (flat (Pair c (Pair u z)) ++ r))
    (sees (at "unsafe") (flat (Pair u z) ++ r)) refl refl refl
  where
    ts : List Token
    ts = flat (Pair d (Pair c (Pair u z))) ++ r

    is_default : (b : Bool) → sees (at "default") ts ≡ b → has the_default (Pair d (Pair c (Pair u z))) ≡ b
    is_default b e = front_is the_default "default" d (Pair c (Pair u z)) past_default r b refl refl h.1.0 h.1.1 e

    is_const : (b : Bool) → sees (at "const") (flat (Pair c (Pair u z)) ++ r) ≡ b
        → has the_const (Pair d (Pair c (Pair u z))) ≡ b
    is_const b e =
        has_either the_const d (Pair c (Pair u z)) false b
        (has_none the_const d (a_front the_default "default") (flat (Pair c (Pair u z)) ++ r) h.1.0 refl)
        (front_is the_const "const" c (Pair u z) past_const r b refl refl h.1.1.0 h.1.1.1 e)

    is_unsafe : (b : Bool) → sees (at "unsafe") (flat (Pair u z) ++ r) ≡ b
        → has the_safety (Pair d (Pair c (Pair u z))) ≡ b
    is_unsafe b e =
        has_either the_safety d (Pair c (Pair u z)) false b
        (has_none the_safety d (a_front the_default "default") (flat (Pair c (Pair u z)) ++ r) h.1.0 refl)
        (has_either the_safety c (Pair u z) false b
        (has_none the_safety c (a_front the_const "const") (flat (Pair u z) ++ r) h.1.1.0 refl)
        (front_is the_safety "unsafe" u z word_impl r b refl refl h.1.1.1.0 h.1.1.1.1 e))

    go : (i j k : Bool) → sees (at "default") ts ≡ i → sees (at "const") (flat (Pair c (Pair u z)) ++ r) ≡ j
        → sees (at "unsafe") (flat (Pair u z) ++ r) ≡ k
        → n ≡ own_place (Node AnImpl (First (Pair d (Pair c (Pair u z)))))
    go true j k e f g = first e ∙ sym (ap (λ b. impl_places b (has the_const (Pair d (Pair c (Pair u z))))
        (has the_safety (Pair d (Pair c (Pair u z))))) (is_default true e))
    go false j k e f g =
        let p : ts ≡ flat (Pair c (Pair u z)) ++ r = front_gone the_default "default" d (Pair c (Pair u z)) r h.1.0 e in
        others j k e (ap (sees (at "const")) p ∙ f)
        (λ i. ap (sees (at "unsafe")) (p ∙ front_gone the_const "const" c (Pair u z) r h.1.1.0 (f ∙ i)) ∙ g)
        ∙ sym (ap (λ b. impl_places b (has the_const (Pair d (Pair c (Pair u z))))
        (has the_safety (Pair d (Pair c (Pair u z))))) (is_default false e)
        ∙ ap (λ b. impl_places false b (has the_safety (Pair d (Pair c (Pair u z))))) (is_const j f)
        ∙ ap (impl_places false j) (is_unsafe k g))
impl_place (First (Pair d (Pair c _))) r n h first others = absurd h.1.1.1
impl_place (First (Pair d _)) r n h first others = absurd h.1.1
impl_place (First _) r n h first others = absurd h.1
impl_place (Verbatim x) r n h first others = absurd (kept_raw (is_impl x) h.0)
impl_place _ r n h first others = absurd h

-- the first of two words is seen
or_first : (l m : Look) (ts : List Token) → sees (l or m) ts ≡ true → Lacks m ts → sees l ts ≡ true
or_first l m ts e f = go (l ts) (m ts) e f
  where
    go : (o p : Option (List Token)) → seen (first_seen o p) ≡ true → seen p ≡ false → seen o ≡ true
    go (Some us) p e f = refl
    go None p e f =
        let g : true ≡ false = sym e ∙ f in
        cc g

-- the alternatives of an item
read_impl_const : (y : Tree) (r : List Token) → Derives y (table AnImpl) r
    → sees (at "const" then maybe (at "unsafe") then at "impl") (flat y ++ r) ≡ true → 6 ≡ own_place (Node AnImpl y)
read_impl_const y r d e =
    let f = front_seen ((at "const") (flat y ++ r)) (maybe (at "unsafe") then at "impl") e in
    impl_place y r 6 d
    (λ g. absurd (contrary (sees (at "default") (flat y ++ r)) g
    (not_word (codes "default") (at "const") (flat y ++ r) (λ us. refl) f)))
    (λ b c l i j. ap (λ k. impl_places false k c) (sym f ∙ i))

read_impl_unsafe : (y : Tree) (r : List Token) → Derives y (table AnImpl) r
    → sees (at "unsafe" then at "impl") (flat y ++ r) ≡ true → 10 ≡ own_place (Node AnImpl y)
read_impl_unsafe y r d e =
    let f = front_seen ((at "unsafe") (flat y ++ r)) (at "impl") e in
    let n = not_word (codes "const") (at "unsafe") (flat y ++ r) (λ us. refl) f in
    impl_place y r 10 d
    (λ g. absurd (contrary (sees (at "default") (flat y ++ r)) g
    (not_word (codes "default") (at "unsafe") (flat y ++ r) (λ us. refl) f)))
    (λ b c l i j. ap (λ k. impl_places false false k) (sym f ∙ j (sym i ∙ n))
    ∙ ap (λ k. impl_places false k c) (sym n ∙ i))

read_impl : (y : Tree) (r : List Token) → Derives y (table AnImpl) r
    → sees (at "impl" or (at "default" then no (marks "!"))) (flat y ++ r) ≡ true → 19 ≡ own_place (Node AnImpl y)
read_impl y r d e =
    impl_place y r 19 d (λ g. refl)
    (λ b c l i j. let f = or_first (at "impl") (at "default" then no (marks "!")) (flat y ++ r) e
    (none_then (at "default") (no (marks "!")) (flat y ++ r) l) in
    let n = not_word (codes "const") (at "impl") (flat y ++ r) (λ us. refl) f in
    let m = not_word (codes "unsafe") (at "impl") (flat y ++ r) (λ us. refl) f in
    ap (λ k. impl_places false false k) (sym m ∙ j (sym i ∙ n)) ∙ ap (λ k. impl_places false k c) (sym n ∙ i))

own_read : PlaceLaw 0 item_form
own_read =
    place_alt _ _ _ 0 (λ y r d e. refl) (place_alt _ _ _ 1 (λ y r d e. refl)
    (place_alt _ _ _ 2 (λ y r d e. sym (block_place y r false d
    (not_word (codes "unsafe") (at "extern") (flat y ++ r) (λ us. refl) e)))
    (place_alt _ _ _ 3 (λ y r d e. refl) (place_alt _ _ _ 4 (λ y r d e. refl) (place_alt _ _ _ 5 (λ y r d e. refl)
    (place_alt _ _ _ 6 (λ y r d e. read_impl_const y r d e) (place_alt _ _ _ 7 (λ y r d e. refl)
    (place_alt _ _ _ 8 (λ y r d e. sym (block_place y r true d
    (front_seen ((at "unsafe") (flat y ++ r)) (at "extern") e)))
    (place_alt _ _ _ 9 (λ y r d e. sym (module_place y r true d
    (front_seen ((at "unsafe") (flat y ++ r)) (at "mod") e)))
    (place_alt _ _ _ 10 (λ y r d e. read_impl_unsafe y r d e)
    (place_alt _ _ _ 11 (λ y r d e. sym (trait_place y r true d e))
    (place_alt _ _ _ 12 (λ y r d e. sym (module_place y r false d
    (not_word (codes "unsafe") (at "mod") (flat y ++ r) (λ us. refl) e)))
    (place_alt _ _ _ 13 (λ y r d e. refl) (place_alt _ _ _ 14 (λ y r d e. refl) (place_alt _ _ _ 15 (λ y r d e. refl)
    (place_alt _ _ _ 16 (λ y r d e. refl) (place_alt _ _ _ 17 (λ y r d e. refl)
    (place_alt _ _ _ 18 (λ y r d e. sym (trait_place y r false d
    (not_word (codes "unsafe") (at "trait" or (at "auto" then at "trait")) (flat y ++ r) (λ us. refl) e)))
    (place_alt _ _ _ 19 (λ y r d e. read_impl y r d e) (place_alt _ _ _ 20 (λ y r d e. refl)
    (place_alt _ _ _ 21 (λ y r d e. refl) (place_never 22))))))))))))))))))))))

pub placed_own : (x : Tree) (r : List Token) → Derives x item_form r → place x ≡ own_place (choice x)
placed_own x r d = let e = own_read x r d in omega (arith, e)

-- alternatives of kinds
abbrev IsChain : Gram → Type 0
IsChain (alt t (ref k) b) = IsChain b
IsChain never = Unit {0}
IsChain _ = ⊥

same_tree : (g : Gram) → IsChain g → (w y : Tree) (r : List Token) → Fits w g → Derives y g r → place w ≡ place y
    → choice w ≡ choice y → w ≡ y
same_tree (alt t (ref k) b) c (First (Node i w)) (First (Node j y)) r f d p e = ap First e
same_tree (alt t (ref k) b) c (First (Node i w)) (First _) r f d p e = absurd d.1
same_tree (alt t (ref k) b) c (First (Node i w)) (Second y) r f d p e = cc p
same_tree (alt t (ref k) b) c (First (Node i w)) _ r f d p e = absurd d
same_tree (alt t (ref k) b) c (First _) y r f d p e = absurd f.1
same_tree (alt t (ref k) b) c (Second w) (First y) r f d p e = cc p
same_tree (alt t (ref k) b) c (Second w) (Second y) r f d p e =
    ap Second (same_tree b c w y r f.1 d.1 (omega (arith, p)) e)
same_tree (alt t (ref k) b) c (Second w) _ r f d p e = absurd d
same_tree (alt t (ref k) b) c _ y r f d p e = absurd f
same_tree never c w y r f d p e = absurd (none_never w f)
same_tree _ c w y r f d p e = absurd c

-- each kind's
words : (vs : List (List ℕ)) (ts : List Token) → all_among vs ≡ true → IsAmong (the_words vs) ts
    → IsAmong (the_words item_words) ts
unfolding all_among
words [] ts e i = absurd i
words (w ∷ ws) ts e i = go (is_among item_words w) refl e (λ f j. words ws ts f j)
  where
    go : (b : Bool) → is_among item_words w ≡ b → cond b (all_among ws) false ≡ true
        → (all_among ws ≡ true → IsAmong (the_words ws) ts → IsAmong (the_words item_words) ts)
        → IsAmong (the_words item_words) ts
    go true h f k = ⊎_elim (λ j. subst (IsAmong (the_words item_words)) (sym j.1) (words_are item_words w j.0 h))
        (λ j. k f j) i
    go false h f k = cc f

placing : (k : Kind) (vs : List (List ℕ)) → all_among vs ≡ true → ((x : Tree) (s : List Token) → After k x s)
    → ((y : Tree) (s : List Token) → Begins k (Node k y) s → At (the_words vs) y s)
    → ((y : Tree) (s : List Token) → is_item_form (Node k y) ≡ true → Derives y (table k) s → Place k y s) → Placing k
placing k vs e a b p =
    record {
      after = a;
      placed = λ y s h d i. (
        p y s h d,
        among_left (the_words item_words) listed_classes (flat y ++ s)
            (words vs (flat y ++ s) e (b y s i)),
      );
    }

unplaced : (k : Kind) → ((x : Tree) (s : List Token) → After k x s)
    → ((y : Tree) → is_item_form (Node k y) ≡ false) → Placing k
unplaced k a n =
    record { after = a; placed = λ y s h d i. absurd (contrary (is_item_form (Node k y)) h (n y)) }

placing_function : Placing (AFunction InFile)
unfolding skips all_among
placing_function =
    placing (AFunction InFile) (codes "const" ∷ codes "async" ∷ codes "unsafe" ∷ codes "extern" ∷ codes "fn" ∷ []) refl
    (λ x s. tt) (λ y s i. i)
    (λ y s h d. place_function y s d)

placing_crate : Placing AnExternCrate
unfolding skips all_among
placing_crate =
    placing AnExternCrate (codes "extern" ∷ []) refl (λ x s. tt) (λ y s i. i)
    (λ y s h d. place_crate y s d)

placing_block : Placing AForeignModule
unfolding skips all_among
placing_block =
    placing AForeignModule (codes "unsafe" ∷ codes "extern" ∷ []) refl (λ x s. tt) (λ y s i. i)
    (λ y s h d. place_block y s d)

placing_use : Placing AUse
unfolding skips all_among
placing_use =
    placing AUse (codes "use" ∷ []) refl (λ x s. tt) (λ y s i. i)
    (λ y s h d. place_use y s d)

placing_static : Placing AStatic
unfolding skips all_among
placing_static =
    placing AStatic (codes "static" ∷ []) refl (λ x s. tt) (λ y s i. i)
    (λ y s h d. place_static y s d)

placing_const_trait : Placing AConstTrait
placing_const_trait = unplaced AConstTrait (λ x s. tt) (λ y. refl)

placing_impl : Placing AnImpl
unfolding skips all_among
placing_impl =
    placing AnImpl (codes "default" ∷ codes "const" ∷ codes "unsafe" ∷ codes "impl" ∷ []) refl (λ x s. tt)
    (λ y s i. i) (λ y s h d. place_impl y s (is_false (has the_const y) h) d)

placing_const : Placing AConst
unfolding skips all_among
placing_const =
    placing AConst (codes "const" ∷ []) refl (λ x s. tt) (λ y s i. i)
    (λ y s h d. place_const y s d)

placing_module : Placing AModule
unfolding skips all_among
placing_module =
    placing AModule (codes "unsafe" ∷ codes "mod" ∷ []) refl (λ x s. tt) (λ y s i. i)
    (λ y s h d. place_module y s d)

placing_trait : Placing ATrait
unfolding skips all_among
placing_trait =
    placing ATrait (codes "unsafe" ∷ codes "auto" ∷ codes "trait" ∷ []) refl (λ x s. tt) (λ y s i. i)
    (λ y s h d. place_trait y s d)

placing_alias : Placing (ATypeAlias InFile)
unfolding skips all_among
placing_alias =
    placing (ATypeAlias InFile) (codes "type" ∷ []) refl (λ x s. tt) (λ y s i. i)
    (λ y s h d. place_alias y s d)

placing_struct : Placing AStruct
unfolding skips all_among
placing_struct =
    placing AStruct (codes "struct" ∷ []) refl (λ x s. tt) (λ y s i. i)
    (λ y s h d. place_struct y s d)

placing_enum : Placing AnEnum
unfolding skips all_among
placing_enum =
    placing AnEnum (codes "enum" ∷ []) refl (λ x s. tt) (λ y s i. i)
    (λ y s h d. place_enum y s d)

placing_union : Placing AUnion
unfolding skips all_among
placing_union =
    placing AUnion (codes "union" ∷ []) refl (λ x s. tt) (λ y s i. i)
    (λ y s h d. place_union y s d)

placing_restricted : Placing ARestrictedTrait
placing_restricted = unplaced ARestrictedTrait (λ x s. tt) (λ y. refl)

placing_definition : Placing AMacroDefinition
placing_definition = unplaced AMacroDefinition (λ x s. tt) (λ y. refl)

placing_macro : Placing (ItemMacro InFile)
placing_macro =
    record {
      after = λ x s. tt;
      placed = λ y s h d i. let j = macro_front InFile y s d i h in (
        place_macro y s d j,
        among_right (the_words item_words) listed_classes (flat y ++ s) (macro_listed InFile (flat y ++ s) j),
      );
    }

each_placed : EachPlaced item_form
unfolding EachPlaced
each_placed = (
  placing_function,
  (
    placing_crate,
    (
      placing_block,
      (
        placing_use,
        (
          placing_static,
          (
            placing_const_trait,
            (
              placing_impl,
              (
                placing_const,
                (
                  placing_block,
                  (
                    placing_module,
                    (
                      placing_impl,
                      (
                        placing_trait,
                        (
                          placing_module,
                          (
                            placing_alias,
                            (
                              placing_struct,
                              (
                                placing_enum,
                                (
                                  placing_union,
                                  (
                                    placing_restricted,
                                    (
                                      placing_trait,
                                      (
                                        placing_impl,
                                        (
                                          placing_definition,
                                          (placing_macro, tt),
                                        ),
                                      ),
                                    ),
                                  ),
                                ),
                              ),
                            ),
                          ),
                        ),
                      ),
                    ),
                  ),
                ),
              ),
            ),
          ),
        ),
      ),
    ),
  ),
)

pub fine_form : Fine item_form (λ x s. IsItem x) (At item_classes)
fine_form = record { by = go }
  where
    go : (x : Tree) (s : List Token) → Fits x item_form → Ready x → IsItem x
        → Derives x item_form s × At item_classes x s
    go x s f w e =
        let (z, c, d, i) = where_placed item_form each_placed x s f w e.1 in
        let p : place x ≡ place z = e.0 ∙ sym (ap own_place c) ∙ sym (placed_own z s d) in
        (subst (λ t. Derives t item_form s) (sym (same_tree item_form tt x z s f d p (sym c))) d, i)
