-- An item of one kind is read by itself exactly where it is read among others.
use Rattle.std.proofs.Common.{◌≡◌, List, ◌++◌, refl, sym, ap, ◌∙◌, subst}
use Rattle.std.specs.Prelude.{Bool, true, false, ◌||◌}
use Rattle.proc_macro2.specs.Token.{Token}
use Rattle.syn_grammar.specs.Kind.{Kind, InFile, OuterAttributes, Visibility, AnItem}
use Rattle.syn_grammar.specs.Name.{same_part, the_visibility, the_item, the_const}
use Rattle.syn_grammar.specs.Tree.{Tree, Nil, Pair, First, Second, Called, Verbatim, Node, flat}
use Rattle.syn_grammar.specs.Part.{has, choice}
use Rattle.syn_grammar.specs.Gram.{Gram, alt, never, ref, Verdict, Keep, AsRaw, Refuse}
use Rattle.syn_grammar.specs.Verdicts.{item_verdict, form_in_file, is_public, raw_if, refused_if, strictly}
use Rattle.syn_grammar.specs.Lists.{item_form, only}
use Rattle.syn_grammar.specs.Table.{table}
use Rattle.syn_grammar.specs.Derives.{Derives}
use Rattle.syn_grammar.specs.Read.{IsDerived}
use Rattle.laws_items.specs.Readers.{Reader, of_structs, of_enums, of_unions, of_functions, of_extern_crates}
use Rattle.laws_items.specs.Readers.{of_extern_blocks, of_uses, of_statics, of_constants, of_modules, of_aliases}
use Rattle.laws_items.specs.Readers.{of_impls, ItemParts, item_parts, ReadsItem}
use Rattle.laws_items.proofs.Places.{Place, place_struct, place_enum, place_union, place_function, place_crate}
use Rattle.laws_items.proofs.Places.{place_block, place_use, place_static, place_const, place_module, place_alias}
use Rattle.laws_items.proofs.Impls.{place_impl}

-- what was chosen has its tokens
pub flat_choice : (y : Tree) → flat (choice y) ≡ flat y
flat_choice (First x) = flat_choice x
flat_choice (Second x) = flat_choice x
flat_choice _ = refl

-- and is read as its kind
abbrev pub Formed : Tree → List Token → Type 0
Formed y r = (l : Kind) × (x : Tree) × (choice y ≡ Node l x) × Derives x (table l) r

alt_form : (t : List Token → Bool) (j : Kind) (b : Gram) (r : List Token)
    → ((y : Tree) → Derives y b r → Formed y r) → (y : Tree) → Derives y (alt t (ref j) b) r → Formed y r
alt_form t j b r f (First (Node l x)) d = (l, x, refl, d.1.1)
alt_form t j b r f (First _) d = absurd d.1
alt_form t j b r f (Second y) d = f y d.1
alt_form t j b r f _ d = absurd d

none_form : (r : List Token) (y : Tree) → Derives y never r → Formed y r
none_form r Nil d = absurd d
none_form r _ d = absurd d

pub of_form : (r : List Token) (y : Tree) → Derives y item_form r → Formed y r
of_form r y d =
    alt_form _ _ _ r (λ y d. alt_form _ _ _ r (λ y d. alt_form _ _ _ r (λ y d. alt_form _ _ _ r (λ y d. alt_form _ _
    _ r (λ y d. alt_form _ _ _ r (λ y d. alt_form _ _ _ r (λ y d. alt_form _ _ _ r (λ y d. alt_form _ _ _ r (λ y
    d. alt_form _ _ _ r (λ y d. alt_form _ _ _ r (λ y d. alt_form _ _ _ r (λ y d. alt_form _ _ _ r (λ y d.
    alt_form _ _ _ r (λ y d. alt_form _ _ _ r (λ y d. alt_form _ _ _ r (λ y d. alt_form _ _ _ r (λ y d. alt_form
    _ _ _ r (λ y d. alt_form _ _ _ r (λ y d. alt_form _ _ _ r (λ y d. alt_form _ _ _ r (λ y d. alt_form _ _ _ r
    (λ y d. none_form r y d) y d) y d) y d) y d) y d) y d) y d) y d) y d) y d) y d) y d) y d) y d) y d) y d) y d)
    y d) y d) y d) y d) y d

-- the verdict goes by the visibility and the form
pub verdict_is : (k : Kind) (o v y : Tree)
    → item_verdict InFile (Pair (Node k o) (Pair (Called the_visibility v) (Called the_item y)))
    ≡ form_in_file (is_public v) (choice y)
unfolding same_part
verdict_is k o v y = refl

strictly_keep : (v : Verdict) → strictly v ≡ Keep → v ≡ Keep
strictly_keep Keep e = refl
strictly_keep AsRaw e = cc
strictly_keep Refuse e = cc

abbrev pub item_tree : Kind → Tree → Tree → Tree → Tree
item_tree k o v y = First (Pair (Node k o) (Pair (Called the_visibility v) (Called the_item y)))

abbrev Placed : Kind → Type 0
Placed l = (x : Tree) (r : List Token) (b : Bool) → form_in_file b (Node l x) ≡ Keep → Derives x (table l) r
    → Place l x r

module _ (l : Kind) (place : Placed l) where
  -- by itself, then among others
  record Among (k : Kind) (o v x : Tree) (r : List Token) : Type 0 where
    form : Tree
    chosen : choice form ≡ Node l x
    read : Derives (item_tree k o v form) (table AnItem) r
    tokens : flat form ≡ flat x

  among : (k : Kind) (o v x : Tree) (r : List Token) → Derives (item_tree k o v (Node l x)) (only l) r
      → Among k o v x r
  unfolding table
  among k o v x r d =
      let keep = sym (verdict_is k o v (Node l x))
      ∙ strictly_keep (item_verdict InFile (Pair (Node k o) (Pair (Called the_visibility v) (Called the_item (Node l
      x)))))
      d.0 in
      let p = place x r (is_public v) keep d.1.1.1.1.1 in
      let e : flat p.0 ≡ flat x = sym (flat_choice p.0) ∙ ap flat p.1 in
      record {
        form = p.0;
        chosen = p.1;
        read = (
          verdict_is k o v p.0 ∙ ap (form_in_file (is_public v)) p.1 ∙ keep,
          (
            subst (λ us. Derives (Node k o) (ref OuterAttributes) ((flat v ++ us) ++ r)) (sym e) d.1.0,
            ((refl, subst (λ us. Derives v (ref Visibility) (us ++ r)) (sym e) d.1.1.0.1), (refl, p.2)),
          ),
        );
        tokens = e;
      }

  -- and back
  alone : (k : Kind) (o v y x : Tree) (r : List Token) → choice y ≡ Node l x
      → Derives (item_tree k o v y) (table AnItem) r → Derives (item_tree k o v (Node l x)) (only l) r
  unfolding table
  alone k o v y x r c d =
      let f = of_form r y d.1.1.1.1 in
      let g : Node f.0 f.1 ≡ Node l x = sym f.2 ∙ c in
      let a : f.0 ≡ l = cc in
      let b : f.1 ≡ x = cc in
      let e : flat y ≡ flat x = sym (flat_choice y) ∙ ap flat c in (
        ap strictly
            (verdict_is k o v (Node l x) ∙ ap (form_in_file (is_public v)) (sym c) ∙ sym (verdict_is k o v y) ∙ d.0),
        (
          subst (λ us. Derives (Node k o) (ref OuterAttributes) ((flat v ++ us) ++ r)) e d.1.0,
          (
            (refl, subst (λ us. Derives v (ref Visibility) (us ++ r)) e d.1.1.0.1),
            (refl, (refl, subst (λ j. Derives x (table j) r) a (subst (λ z. Derives z (table f.0) r) b f.3))),
          ),
        ),
      )

refused_keep : (b : Bool) (v : Verdict) → refused_if b v ≡ Keep → v ≡ Keep
refused_keep true v e = cc
refused_keep false v e = e

raw_keep : (b : Bool) → raw_if b ≡ Keep → b ≡ false
raw_keep true e = cc
raw_keep false e = refl

or_false : (a b : Bool) → (a || b) ≡ false → a ≡ false
or_false true b e = e
or_false false b e = refl

placed : (k l : Kind) → Reader k l → Placed l
placed _ _ of_structs x r b e d = place_struct x r d
placed _ _ of_enums x r b e d = place_enum x r d
placed _ _ of_unions x r b e d = place_union x r d
placed _ _ of_functions x r b e d = place_function x r d
placed _ _ of_extern_crates x r b e d = place_crate x r d
placed _ _ of_extern_blocks x r b e d = place_block x r d
placed _ _ of_uses x r b e d = place_use x r d
placed _ _ of_statics x r b e d = place_static x r d
placed _ _ of_constants x r b e d = place_const x r d
placed _ _ of_modules x r b e d = place_module x r d
placed _ _ of_aliases x r b e d = place_alias x r d
placed _ _ of_impls x r b e d = place_impl x r (or_false (has the_const x) _ (raw_keep _ (refused_keep _ _ e))) d

entry : (k l : Kind) → Reader k l → table k ≡ only l
unfolding table
entry _ _ of_structs = refl
entry _ _ of_enums = refl
entry _ _ of_unions = refl
entry _ _ of_functions = refl
entry _ _ of_extern_crates = refl
entry _ _ of_extern_blocks = refl
entry _ _ of_uses = refl
entry _ _ of_statics = refl
entry _ _ of_constants = refl
entry _ _ of_modules = refl
entry _ _ of_aliases = refl
entry _ _ of_impls = refl

-- what a reader of one kind reads, in its parts
record Split (l : Kind) (x : Tree) (r : List Token) : Type 0 where
  kind : Kind
  attributes : Tree
  visibility : Tree
  form : Tree
  is : x ≡ item_tree kind attributes visibility (Node l form)

split_only : (l : Kind) (x : Tree) (r : List Token) → Derives x (only l) r → Split l x r
split_only l (First (Pair (Node k o) (Pair (Called n v) (Called m (Node j x))))) r d = record {
  kind = k;
  attributes = o;
  visibility = v;
  form = x;
  is = ap (λ a. First (Pair (Node k o) (Pair (Called a v) (Called m (Node j x))))) d.1.1.0.0
      ∙ ap (λ a. First (Pair (Node k o) (Pair (Called the_visibility v) (Called a (Node j x))))) d.1.1.1.0
      ∙ ap (λ a. item_tree k o v (Node a x)) d.1.1.1.1.0;
}
split_only l (First (Pair (Node k o) (Pair (Called n v) (Called m _)))) r d = absurd d.1.1.1.1
split_only l (First (Pair (Node k o) (Pair (Called n v) _))) r d = absurd d.1.1.1
split_only l (First (Pair (Node k o) (Pair _ y))) r d = absurd d.1.1.0
split_only l (First (Pair (Node k o) _)) r d = absurd d.1.1
split_only l (First (Pair _ y)) r d = absurd d.1.0
split_only l (First _) r d = absurd d.1
split_only l (Verbatim x) r d = absurd (not_raw _ d.0)
  where
    not_raw : (v : Verdict) → strictly v ≡ AsRaw → ⊥
    not_raw Keep e = cc
    not_raw AsRaw e = cc
    not_raw Refuse e = cc
split_only l _ r d = absurd d

pub read_alone : (k l : Kind) (ts : List Token) (tree : Tree) (rest : List Token) → Reader k l
    → IsDerived k ts tree rest
    → (o : Tree) × (v : Tree) × (x : Tree) × (item_parts tree ≡ ItemParts o v (Node l x))
    × ReadsItem AnItem ts o v (Node l x) rest
read_alone k l ts (Node j z) rest h d =
    let e = subst (λ g. Derives z g rest) (entry k l h) (subst (λ i. Derives z (table i) rest) d.0.0 d.0.1) in
    let s = split_only l z rest e in
    let a = among l (placed k l h) s.kind s.attributes s.visibility s.form rest
    (subst (λ y. Derives y (only l) rest) s.is e) in (
      Node s.kind s.attributes,
      s.visibility,
      s.form,
      ap (λ y. item_parts (Node j y)) s.is,
      record {
        tree = Node AnItem (item_tree s.kind s.attributes s.visibility a.form);
        derived = (
          (refl, a.read),
          ap (λ us. (flat s.attributes ++ (flat s.visibility ++ us)) ++ rest) a.tokens
              ∙ ap (λ y. flat y ++ rest) (sym s.is) ∙ d.1,
        );
        parts = ap (ItemParts (Node s.kind s.attributes) s.visibility) a.chosen;
      },
    )
read_alone k l ts _ rest h d = absurd d.0

-- an item with a form, in its parts
pub record SplitItem (l : Kind) (tree o v x : Tree) : Type 0 where
  pub kind : Kind
  pub attributes : Tree
  pub form : Tree
  pub is : tree ≡ item_tree kind attributes v form
  pub is_first : Node kind attributes ≡ o
  pub chosen : choice form ≡ Node l x

pub split_item : (l : Kind) (j : Kind) (x : Tree) (r : List Token) (o v f : Tree) → Derives x (table AnItem) r
    → item_parts (Node j x) ≡ ItemParts o v (Node l f) → SplitItem l x o v f
unfolding table
split_item l j (First (Pair (Node k a) (Pair (Called n w) (Called m y)))) r o v f d e =
    let b : Node k a ≡ o = cc in
    let c : w ≡ v = cc in
    let g : choice y ≡ Node l f = cc in
    record {
      kind = k;
      attributes = a;
      form = y;
      is = ap (λ i. First (Pair (Node k a) (Pair (Called i w) (Called m y)))) d.1.1.0.0
          ∙ ap (λ i. First (Pair (Node k a) (Pair (Called the_visibility w) (Called i y)))) d.1.1.1.0
          ∙ ap (λ i. item_tree k a i y) c;
      is_first = b;
      chosen = g;
    }
split_item l j (First (Pair (Node k a) (Pair (Called n w) _))) r o v f d e = absurd d.1.1.1
split_item l j (First (Pair (Node k a) (Pair _ y))) r o v f d e = absurd d.1.1.0
split_item l j (First (Pair (Node k a) _)) r o v f d e = absurd d.1.1
split_item l j (First (Pair _ y)) r o v f d e = absurd d.1.0
split_item l j (First _) r o v f d e = absurd d.1
split_item l j (Verbatim x) r o v f d e = cc
split_item l j _ r o v f d e = absurd d

pub read_among : (k l : Kind) (ts : List Token) (o v x : Tree) (rest : List Token) → Reader k l
    → ReadsItem AnItem ts o v (Node l x) rest → ReadsItem k ts o v (Node l x) rest
read_among k l ts o v x rest h q = go q.tree q.derived q.parts
  where
    go : (t : Tree) → IsDerived AnItem ts t rest → item_parts t ≡ ItemParts o v (Node l x)
        → ReadsItem k ts o v (Node l x) rest
    go (Node j z) d e =
        let c = subst (λ i. Derives z (table i) rest) d.0.0 d.0.1 in
        let s = split_item l j z rest o v x c e in
        let b = alone l (placed k l h) s.kind s.attributes v s.form x rest s.chosen
        (subst (λ y. Derives y (table AnItem) rest) s.is c) in
        let f : flat x ≡ flat s.form = sym (ap flat s.chosen) ∙ flat_choice s.form in
        record {
          tree = Node k (item_tree s.kind s.attributes v (Node l x));
          derived = (
            (refl, subst (λ g. Derives (item_tree s.kind s.attributes v (Node l x)) g rest) (sym (entry k l h)) b),
            ap (λ us. (flat s.attributes ++ (flat v ++ us)) ++ rest) f ∙ ap (λ y. flat y ++ rest) (sym s.is) ∙ d.1,
          );
          parts = ap (λ a. ItemParts a v (Node l x)) s.is_first;
        }
    go _ d e = absurd d.0
