-- The step and the law of items among others: their attributes and visibility stand before their form.
use Rattle.std.proofs.Common.{◌≡◌, List, [], ◌∷◌, ◌++◌, refl, sym, ap, ◌∙◌, subst, inl, inr}
use Rattle.std.specs.Prelude.{true, false, codes}
use Rattle.proc_macro2.specs.Token.{Token}
use Rattle.syn_grammar.specs.Kind.{Kind, AnItem, InFile, OuterAttributes, Plain, Position, Visibility}
use Rattle.syn_grammar.specs.Name.{same_part, the_item, the_pub, the_visibility}
use Rattle.syn_grammar.specs.Tree.{Tree, Called, First, Node, Pair, Verbatim, flat}
use Rattle.syn_grammar.specs.Part.{choice}
use Rattle.syn_grammar.specs.Gram.{Gram, Keep, ref}
use Rattle.syn_grammar.specs.Say.{at, ◌∶◌, ◌▸◌}
use Rattle.rust_leaf.specs.Keywords.{same_text, is_reserved}
use Rattle.syn_grammar.specs.Lists.{item_form}
use Rattle.syn_grammar.specs.Verdicts.{form_in_file, is_public, item_verdict}
use Rattle.syn_grammar.specs.Ranks.{skips}
use Rattle.syn_grammar.specs.Table.{table}
use Rattle.syn_grammar.specs.Derives.{Derives}
use Rattle.syn_grammar.specs.Kept.{forget, held, kept}
use Rattle.syn_grammar.specs.Tidy.{tidy}
use Rattle.syn_grammar.specs.Normal.{passed, place_of, normal_in}
use Rattle.laws_reread_kinds.specs.Covered.{has_step, inner, is_known, is_taken, item_of}
use Rattle.laws_reread_kinds.specs.Sees.{LacksAll}
use Rattle.laws_items.proofs.Stays.{item_stays}
use Rattle.laws_reread_kinds.proofs.RawItems.{raw_front}
use Rattle.laws_reread_kinds.proofs.Classes.{TheWord, others}
use Rattle.laws_reread_kinds.proofs.Starts.{starts}
use Rattle.laws_reread_kinds.proofs.Fits.{Fits, IsItem, IsMeant, is_item_form, own_place, place}
use Rattle.laws_reread_kinds.proofs.Readies.{Step}
use Rattle.laws_reread_kinds.proofs.Fine.{At, Edge, Fine, fine_called, fine_raw_or, fine_weaker}
use Rattle.laws_reread_kinds.proofs.Parts.{Told, maybe_ahead, maybe_called, maybe_ref, meant_step}
use Rattle.laws_reread_kinds.proofs.Printed.{EntryLaw, IsPlaced, KindLaw, Printed, simple_law}
use Rattle.laws_reread_kinds.proofs.ItemPlaces.{fine_form, item_classes, placed_own}
use Rattle.laws_reread_kinds.proofs.Keywords.{reserved_pub}
use Rattle.laws_reread_kinds.proofs.MacroItems.{a_word_lacked}
use Rattle.laws_reread_kinds.proofs.ReadMacros.{form_read}
use Rattle.laws_reread_kinds.proofs.Sights.{ident_not}
use Rattle.laws_reread_kinds.proofs.ItemVerdicts.{LawOf, SameItem, each_item, form_same, kept_form, place_fits}
use Rattle.laws_reread_kinds.proofs.ItemVerdicts.{place_normal, place_read, same_has}

-- attributes, visibility and the item
abbrev pub whole_item : Gram
whole_item = ref OuterAttributes ▸ the_visibility ∶ ref Visibility ▸ the_item ∶ item_form

abbrev pub ItemEdge : Edge
ItemEdge x s = IsItem (item_of x)

pub_unseen : Told (at "pub") false item_classes
pub_unseen = (
  λ us. refl,
  (
    λ us. refl,
    (
      λ us. refl,
      (
        λ us. refl,
        (
          λ us. refl,
          (
            λ us. refl,
            (
              λ us. refl,
              (
                λ us. refl,
                (
                  λ us. refl,
                  (
                    λ us. refl,
                    (
                      λ us. refl,
                      (
                        λ us. refl,
                        (
                          λ us. refl,
                          (
                            λ us. refl,
                            (
                              λ us. refl,
                              (
                                λ us. refl,
                                (
                                  (λ cs h us. a_word_lacked (same_text (codes "pub") cs) us
                                      (ident_not (codes "pub") cs reserved_pub h)),
                                  (
                                    λ us. refl,
                                    (
                                      λ us. refl,
                                      (λ us. refl, (λ us. refl, tt)),
                                    ),
                                  ),
                                ),
                              ),
                            ),
                          ),
                        ),
                      ),
                    ),
                  ),
                ),
              ),
            ),
          ),
        ),
      ),
    ),
  ),
)

fine_whole : Fine whole_item ItemEdge (At (others (starts AnItem)))
unfolding skips
fine_whole =
    maybe_ahead ItemEdge (TheWord (codes "pub") ∷ item_classes) (maybe_ref OuterAttributes refl)
    (maybe_ahead ItemEdge item_classes (maybe_called (maybe_ref Visibility refl))
    (fine_called {A = ItemEdge} {F = At item_classes} fine_form)
    (pub_unseen, ((search), tt)) (λ x y s c. c)) ((search), tt) (λ x y s c. c)

pub step_an_item : Step AnItem
unfolding table skips is_reserved
step_an_item =
    meant_step AnItem refl refl
    (fine_weaker (λ x s. LacksAll [] s × IsMeant AnItem x) (At (starts AnItem))
    (fine_raw_or {A = ItemEdge} {F = At (starts AnItem)}
    (fine_weaker ItemEdge (At (starts AnItem)) fine_whole (λ x s c. c) (λ x s i c. inr i))
    (λ x s d. inl (raw_front (item_verdict InFile) (the_item ∶ item_form) (search) x s d))) (λ x s c. c.1)
    (λ x s i c. i))

-- Both trees have these parts.
data Whole : Tree → Tree → Type 0 where
  wholes : (k : Kind) (o v x : Tree) (l : Kind) (p u w : Tree)
      → Whole (Pair (Node k o) (Pair (Called the_visibility v) (Called the_item x)))
      (Pair (Node l p) (Pair (Called the_visibility u) (Called the_item w)))

abbrev Shape : Tree → Type 0
Shape x =
    (k : Kind) × (o : Tree) × (v : Tree) × (y : Tree)
    × (x ≡ Pair (Node k o) (Pair (Called the_visibility v) (Called the_item y)))

shape_read : (x : Tree) (r : List Token) → Derives x whole_item r → Shape x
shape_read (Pair (Node k o) (Pair (Called n v) (Called m y))) r d = (
  k,
  o,
  v,
  y,
  ap (λ j. Pair (Node k o) (Pair (Called j v) (Called m y))) d.1.0.0
      ∙ ap (λ j. Pair (Node k o) (Pair (Called the_visibility v) (Called j y))) d.1.1.0,
)
shape_read (Pair (Node k o) (Pair (Called n v) _)) r d = absurd d.1.1
shape_read (Pair (Node k o) (Pair _ y)) r d = absurd d.1.0
shape_read (Pair (Node k o) _) r d = absurd d.1
shape_read (Pair _ y) r d = absurd d.0
shape_read _ r d = absurd d

shape_fits : (x : Tree) → Fits x whole_item → Shape x
shape_fits (Pair (Node k o) (Pair (Called n v) (Called m y))) d = (
  k,
  o,
  v,
  y,
  ap (λ j. Pair (Node k o) (Pair (Called j v) (Called m y))) d.1.0.0
      ∙ ap (λ j. Pair (Node k o) (Pair (Called the_visibility v) (Called j y))) d.1.1.0,
)
shape_fits (Pair (Node k o) (Pair (Called n v) _)) d = absurd d.1.1
shape_fits (Pair (Node k o) (Pair _ y)) d = absurd d.1.0
shape_fits (Pair (Node k o) _) d = absurd d.1
shape_fits (Pair _ y) d = absurd d.0
shape_fits _ d = absurd d

both_shapes : (P : Tree → Tree → Type 0) (x w : Tree) → Shape x → Shape w
    → ((y z : Tree) → Whole y z → P y z) → P x w
both_shapes P x w (k, o, v, y, e) (l, p, u, z, f) h =
    subst (λ a. P a w) (sym e) (subst (λ b. P (Pair (Node k o) (Pair (Called the_visibility v) (Called the_item y))) b)
    (sym f) (h _ _ (wholes k o v y l p u z)))

-- the one is pub where the other is
public_in : LawOf (λ x w. is_public w ≡ is_public x) Visibility
unfolding held passed
public_in q v u r d f e = same_has the_pub Plain (table Visibility) v u r d f (ap inner e)

pub public_same : (q : Position) (v u : Tree) (r : List Token) → Derives v (ref Visibility) r → Fits u (ref Visibility)
    → kept u ≡ normal_in q (kept v) → is_public u ≡ is_public v
public_same q (Node k v) (Node l u) r d f e =
    form_same (λ x w. is_public w ≡ is_public x) (ref Visibility) public_in q (Node k v) (Node l u) r d f e
public_same q (Node k v) _ r d f e = absurd f
public_same q _ u r d f e = absurd d

behind_both : Tree → Tree
behind_both (Pair o (Pair v (Called n y))) = y
behind_both x = x

visible : Tree → Tree
visible (Pair o (Pair (Called n v) y)) = v
visible x = x

abbrev WholeLaw : Tree → Tree → Type 0
WholeLaw x w =
    (r : List Token) → Derives x whole_item r → Fits w whole_item → kept w ≡ normal_in Plain (kept x)
    → (item_verdict InFile x ≡ Keep → item_verdict InFile w ≡ Keep) × SameItem (choice (item_of x)) (choice (item_of w))
    × (place (item_of w) ≡ own_place (choice (item_of x)))
    × (item_verdict InFile x ≡ Keep → is_item_form (choice (item_of x)) ≡ true)

whole_same : (x w : Tree) → Whole x w → WholeLaw x w
unfolding place_of behind_both visible same_part
whole_same x w (wholes k o v y l p u z) r d f e =
    let s = form_same SameItem item_form each_item Plain y z r d.1.1.1 f.1.1.1 (ap behind_both e) in (
      λ h. ap (λ b. form_in_file b (choice z)) (public_same Plain v u (flat (Called the_item y) ++ r) d.1.0.1 f.1.0.1
          (ap visible e))
          ∙ s.0 (is_public v) h,
      s,
      sym (place_fits z item_form f.1.1.1) ∙ ap place (ap behind_both e) ∙ place_normal Plain (kept y)
          ∙ place_read y item_form r d.1.1.1 ∙ placed_own y r d.1.1.1,
      λ h. kept_form (is_public v) (choice y) (form_read y r d.1.1.1) h,
    )

whole_law : (x w : Tree) → WholeLaw x w
whole_law x w r d f e =
    both_shapes WholeLaw x w (shape_read x r d) (shape_fits w f) whole_same r d f e

item_meant : (x w : Tree) (r : List Token) → Derives x (table AnItem) r → Fits w (table AnItem)
    → kept w ≡ normal_in Plain (kept x) → IsItem (item_of w)
unfolding table
item_meant (First x) (First w) r d f e =
    let s = whole_law x w r d.1 f.1 (ap inside e) in
    (s.2 ∙ sym s.1.1, s.1.2 ∙ s.3 d.0)
  where
    inside : Tree → Tree
    inside (First x) = x
    inside x = x
item_meant (First x) (Verbatim w) r d f e = cc e
item_meant (First x) _ r d f e = absurd f
item_meant (Verbatim x) (First w) r d f e = cc e
item_meant (Verbatim x) (Verbatim w) r d f e = (refl, refl)
item_meant (Verbatim x) _ r d f e = absurd f
item_meant _ w r d f e = absurd d

-- a kind that holds what it reads, of which something is meant where it is taken
pub taken_law : (k : Kind) → is_known k ≡ true
    → ((x w : Tree) (r : List Token) → Derives x (table k) r → Fits w (table k) → kept w ≡ normal_in Plain (kept x)
    → is_taken k x ≡ true → IsMeant k w) → ((x : Tree) → forget k x ≡ x) → ((x : Tree) → tidy (held k) x ≡ x)
    → ((q : Position) → passed (held k) q ≡ Plain) → ((q : Position) → passed k q ≡ Plain) → EntryLaw Plain (table k)
    → KindLaw k
taken_law k h n f t u p e = record { entry = λ q l. subst (λ m. EntryLaw m (table k)) (sym (p q)) e; node = go }
  where
    go : (q : Position) → IsPlaced q k → (x : Tree) (r : List Token) → is_taken k x ≡ true → Derives x (table k) r
        → Printed (table k) (normal_in (passed k q) (kept x))
        → Printed (ref k) (normal_in q (Node (held k) (forget k (kept x))))
    go q l x r o d i =
        let s : kept i.tree ≡ normal_in Plain (kept x) = i.kept_is ∙ ap (λ m. normal_in m (kept x)) (p q) in
        record {
          tree = Node k i.tree;
          fits = (refl, h, ap flat (f (kept i.tree)), i.fits, n x i.tree r d i.fits s o);
          kept_is =
              ap (Node (held k)) (f (kept i.tree) ∙ s ∙ sym (ap (λ m. normal_in m (kept x)) (u q))
              ∙ sym (ap (normal_in (passed (held k) q)) (f (kept x)))
              ∙ sym (t (normal_in (passed (held k) q) (forget k (kept x)))));
        }

pub law_an_item : KindLaw AnItem
unfolding has_step held passed place_of table
law_an_item =
    taken_law AnItem refl (λ x w r d f e o. item_meant x w r d f e) (λ x. refl) (λ x. refl) (λ q. refl) (λ q. refl) (
      (λ x w r c d f e h. (whole_law x w r d f e).0 h),
      (λ x r d s. (item_stays AnItem (Node AnItem (Verbatim x)) r s refl (refl, d)).1),
      simple_law Plain whole_item refl,
    )
