-- Structs, enums and unions that were read as items are items of data.
use Rattle.std.specs.Prelude.{◌≡◌, Bool, true, false, ◌&&◌, List, refl}
use Rattle.std.proofs.Common.{◌∙◌, ap, inl, inr, subst, sym, ⊎_elim}
use Rattle.proc_macro2.specs.Token.{Token}
use Rattle.syn_grammar.specs.Derives.{Derives}
use Rattle.syn_grammar.specs.Gram as g
use Rattle.syn_grammar.specs.Gram.{Gram, Verdict, Keep, AsRaw, Refuse}
use Rattle.syn_grammar.specs.Kind as k
use Rattle.syn_grammar.specs.Lists.{item, item_form, only}
use Rattle.syn_grammar.specs.Name as n
use Rattle.syn_grammar.specs.Part.{choice, the}
use Rattle.syn_grammar.specs.Table.{table}
use Rattle.syn_grammar.specs.Tree as t
use Rattle.syn_grammar.specs.Tree.{Tree}
use Rattle.syn_grammar.specs.Verdicts.{form_in_file, item_verdict, marked, strictly}
use Rattle.syn_part.proofs.Chosen.{choice_is}
use Rattle.syn_part.proofs.Derived.{shaped}
use Rattle.syn_part.specs.Kept.{IsFirst}
use Rattle.syn_part.specs.Shape.{IsAmong, IsShaped}
use Rattle.syn_data.specs.Derive.{HasData, IsAlone, IsDataItem, IsDataKind, IsItemKind, form_of, read_form}

-- What is read of one kind alone is never raw.
never_raw : (v : Verdict) → strictly v ≡ AsRaw → ⊥
never_raw Keep e = cc
never_raw AsRaw e = cc
never_raw Refuse e = cc

kept_alone : (x : Tree) (v : Tree → Verdict) (a : Gram) (rest : List Token)
    → Derives x (g.judged (λ y. strictly (v y)) a) rest → IsFirst x
kept_alone (t.First x) v a rest d = tt
kept_alone (t.Verbatim x) v a rest d = absurd (never_raw (v x) d.0)
kept_alone _ v a rest d = absurd d

differ : Keep ≡ AsRaw → ⊥
differ e = cc

-- Nor is a struct, an enum or a union among items.
keeps : (v : Bool) (x : Tree) → IsDataKind x → form_in_file v x ≡ Keep
keeps v (t.Node k.AStruct x) h = refl
keeps v (t.Node k.AnEnum x) h = refl
keeps v (t.Node k.AUnion x) h = refl
keeps v _ h = absurd h

-- no alternative is judged
abbrev plain_choice : Gram → Bool
plain_choice (g.alt s a b) = plain_choice a && plain_choice b
plain_choice (g.judged v a) = false
plain_choice _ = true

both_left : (a b : Bool) → (a && b) ≡ true → a ≡ true
both_left true b e = refl
both_left false b e = e

both_right : (a b : Bool) → (a && b) ≡ true → b ≡ true
both_right true b e = e
both_right false b e = cc

-- So a node that was chosen has the entry of its kind, whichever alternative it is.
node_among : (i : k.Kind) (x : Tree) (a : Gram) → plain_choice a ≡ true → IsAmong (t.Node i x) a
    → IsShaped x (table i)
node_among i x (g.alt s a b) e h =
    ⊎_elim (node_among i x a (both_left (plain_choice a) (plain_choice b) e))
    (node_among i x b (both_right (plain_choice a) (plain_choice b) e)) h
node_among i x (g.judged v a) e h = cc
node_among i x (g.ref l) e h = h.1
node_among i x _ e h = absurd h

data_among : (x : Tree) → IsAmong x item_form → IsDataKind x → HasData x
data_among (t.Node k.AStruct x) h d = inl (refl, node_among k.AStruct x item_form refl h)
data_among (t.Node k.AnEnum x) h d = inr (inl (refl, node_among k.AnEnum x item_form refl h))
data_among (t.Node k.AUnion x) h d = inr (inr (refl, node_among k.AUnion x item_form refl h))
data_among _ h d = absurd d

-- what a tree of such a shape is made of
pair_is : (x : Tree) (a b : Gram) → IsShaped x (g.seq a b)
    → (p : Tree) × (q : Tree) × (x ≡ t.Pair p q) × IsShaped p a × IsShaped q b
pair_is (t.Pair p q) a b h = (p, q, refl, h.0, h.1)
pair_is _ a b h = absurd h

node_is : (x : Tree) (l : k.Kind) → IsShaped x (g.ref l) → (p : Tree) × (x ≡ t.Node l p)
node_is (t.Node i p) l h = (p, ap (λ j. t.Node j p) h.0)
node_is _ l h = absurd h

called_is : (x : Tree) (m : n.Part) (c : Gram) → IsShaped x (g.called m c)
    → (z : Tree) × (x ≡ t.Called m z) × IsShaped z c
called_is (t.Called o z) m c h = (z, ap (λ p. t.Called p z) h.0, h.1)
called_is _ m c h = absurd h

-- attributes, a visibility and a form
abbrev parts : Tree → Tree → Tree → Tree
parts p v z = t.Pair (t.Node k.OuterAttributes p) (t.Pair (t.Called n.the_visibility v) (t.Called n.the_item z))

abbrev part_shape : Gram → Gram
part_shape c = g.seq (g.ref k.OuterAttributes) (g.seq (g.called n.the_visibility (g.ref k.Visibility))
    (g.called n.the_item c))

parts_are : (x : Tree) (c : Gram) → IsShaped x (part_shape c)
    → (p : Tree) × (v : Tree) × (z : Tree) × (x ≡ parts p v z) × IsShaped z c
parts_are x c h =
    let a = pair_is x _ _ h in
    let b = node_is a.0 k.OuterAttributes a.3 in
    let d = pair_is a.1 _ _ a.4 in
    let e = called_is d.0 n.the_visibility _ d.3 in
    let f = called_is d.1 n.the_item c d.4 in
    (b.0, e.0, f.0, cc, f.2)

-- what is kept of an item with such a form behind it
item_is : (x : Tree) (i : k.Kind) (c : Gram) → IsShaped x (part_shape c)
    → ((z : Tree) → IsShaped z c → HasData (choice z)) → HasData (form_of (t.Node i (t.First x)))
item_is x i c h f =
    let d = parts_are x c h in
    subst (λ y. HasData (form_of (t.Node i (t.First y)))) (sym d.3) (f d.2 d.4)

alone_data : (i : k.Kind) (x : Tree) (c : k.Kind) → IsFirst x → IsShaped x (only c)
    → ((z : Tree) → IsShaped z (g.ref c) → HasData z) → HasData (form_of (t.Node i x))
alone_data i (t.First x) c h s f = item_is x i (g.ref c) s (λ z j. f (choice z) (choice_is z (g.ref c) j))
alone_data i _ c h s f = absurd h

alone_is : (x : Tree) (l c : k.Kind) (rest : List Token) → IsItemKind l → table l ≡ only c
    → ((z : Tree) → IsShaped z (g.ref c) → HasData z) → Derives x (g.ref l) rest → IsDataItem x
alone_is (t.Node i x) l c rest h e f d =
    let s : Derives x (only c) rest = subst (λ a. Derives x a rest) (ap table d.0 ∙ e) d.1 in
    let first : IsFirst x = kept_alone x (item_verdict k.InFile) (part_shape (g.ref c)) rest s in
    (l, h, first, shaped (t.Node i x) (g.ref l) rest d, alone_data i x c first (shaped x (only c) rest s) f)
alone_is _ l c rest h e f d = absurd d

pub read_alone : (x : Tree) (l : k.Kind) (rest : List Token) → IsAlone l → Derives x (g.ref l) rest → IsDataItem x
unfolding table
read_alone x k.ItemStruct rest h d = alone_is x k.ItemStruct k.AStruct rest tt refl (λ z j. inl j) d
read_alone x k.ItemEnum rest h d = alone_is x k.ItemEnum k.AnEnum rest tt refl (λ z j. inr (inl j)) d
read_alone x k.ItemUnion rest h d = alone_is x k.ItemUnion k.AUnion rest tt refl (λ z j. inr (inr j)) d
read_alone x _ rest h d = absurd h

among_is : (i : k.Kind) (x : Tree) (rest : List Token) → Derives x item rest → IsDataKind (read_form (t.Node i x))
    → IsFirst x × HasData (form_of (t.Node i x))
unfolding parts_are n.same_part
among_is i (t.First x) rest s h =
    let d = parts_are x item_form (shaped x (part_shape item_form) rest s.1) in
    let kind : IsDataKind (choice d.2) = subst (λ y. IsDataKind (choice (the n.the_item y))) d.3 h in (
      tt,
      subst (λ y. HasData (form_of (t.Node i (t.First y)))) (sym d.3)
          (data_among (choice d.2) (choice_is d.2 item_form d.4) kind),
    )
among_is i (t.Verbatim x) rest s h =
    let e = keeps (marked k.InFile x) (choice (the n.the_item x)) h in
    let f : Keep ≡ AsRaw = sym e ∙ s.0 in
    absurd (differ f)
among_is i _ rest s h = absurd s

pub read_among : (x : Tree) (rest : List Token) → Derives x (g.ref k.AnItem) rest → IsDataKind (read_form x)
    → IsDataItem x
unfolding table
read_among (t.Node i x) rest d h =
    let s : Derives x item rest = subst (λ j. Derives x (table j) rest) d.0 d.1 in
    let a = among_is i x rest s h in
    (k.AnItem, tt, a.0, shaped (t.Node i x) (g.ref k.AnItem) rest d, a.1)
read_among _ rest d h = absurd d

pub ruleset read_items = (read_alone, read_among)
