-- A trait, or an alias of traits, is read by itself exactly where it is read among others.
use Rattle.std.proofs.Common.{◌≡◌, List, ◌++◌, refl, sym, ap, ◌∙◌, subst}
use Rattle.std.specs.Prelude.{Bool, true, false, not}
use Rattle.proc_macro2.specs.Token.{Token}
use Rattle.syn_grammar.specs.Kind.{Kind, OuterAttributes, Visibility, AnItem, ATrait}
use Rattle.syn_grammar.specs.Name.{same_part, the_item, the_equals}
use Rattle.syn_grammar.specs.Tree.{Tree, Pair, First, Called, Verbatim, Node, flat}
use Rattle.syn_grammar.specs.Part.{has, the, choice}
use Rattle.syn_grammar.specs.Gram.{Gram, judged, ref, Keep, AsRaw}
use Rattle.syn_grammar.specs.Say.{◌∶◌, ◌▸◌}
use Rattle.syn_grammar.specs.Types.{kept_if}
use Rattle.syn_grammar.specs.Verdicts.{form_in_file, is_public}
use Rattle.syn_grammar.specs.Lists.{is_trait_alias}
use Rattle.syn_grammar.specs.Table.{table}
use Rattle.syn_grammar.specs.Derives.{Derives}
use Rattle.syn_grammar.specs.Read.{IsDerived}
use Rattle.laws_items.specs.Readers.{ItemParts, item_parts, ReadsItem, trait_reader}
use Rattle.laws_items.proofs.Places.{place_trait}
use Rattle.laws_items.proofs.Readers.{flat_choice, of_form, verdict_is, item_tree, split_item}

abbrev is_same : Bool → Bool → Bool
is_same false a = not a
is_same true a = a

abbrev trait_entry : Bool → Gram
trait_entry b = judged (λ x. kept_if (is_same b (is_trait_alias (the the_item x))))
    (ref OuterAttributes ▸ ref Visibility ▸ the_item ∶ ref ATrait)

entry : (b : Bool) → table (trait_reader b) ≡ trait_entry b
unfolding table
entry false = refl
entry true = refl

is_kept : (b a : Bool) → kept_if (is_same b a) ≡ Keep → a ≡ b
is_kept false false e = refl
is_kept false true e = cc
is_kept true false e = cc
is_kept true true e = refl

kept_is : (b a : Bool) → a ≡ b → kept_if (is_same b a) ≡ Keep
kept_is false false e = refl
kept_is false true e = cc
kept_is true false e = cc
kept_is true true e = refl

not_raw : (b : Bool) → kept_if b ≡ AsRaw → ⊥
not_raw true e = cc
not_raw false e = cc

abbrev trait_tree : Kind → Tree → Kind → Tree → Tree → Tree
trait_tree k o w v x = First (Pair (Node k o) (Pair (Node w v) (Called the_item (Node ATrait x))))

alias_is : (k : Kind) (o : Tree) (w : Kind) (v x : Tree)
    → is_trait_alias (the the_item (Pair (Node k o) (Pair (Node w v) (Called the_item (Node ATrait x)))))
    ≡ has the_equals x
unfolding same_part
alias_is k o w v x = refl

-- among others
record Among (k : Kind) (o : Tree) (w : Kind) (v x : Tree) (r : List Token) : Type 0 where
  form : Tree
  chosen : choice form ≡ Node ATrait x
  read : Derives (item_tree k o (Node w v) form) (table AnItem) r
  tokens : flat form ≡ flat x

among : (b : Bool) (k : Kind) (o : Tree) (w : Kind) (v x : Tree) (r : List Token)
    → Derives (trait_tree k o w v x) (trait_entry b) r → Among k o w v x r
unfolding table
among b k o w v x r d =
    let p = place_trait x r d.1.1.1.1.1 in
    let e : flat p.0 ≡ flat x = sym (flat_choice p.0) ∙ ap flat p.1 in
    record {
      form = p.0;
      chosen = p.1;
      read = (
        verdict_is k o (Node w v) p.0 ∙ ap (form_in_file (is_public (Node w v))) p.1,
        (
          subst (λ us. Derives (Node k o) (ref OuterAttributes) ((flat v ++ us) ++ r)) (sym e) d.1.0,
          ((refl, subst (λ us. Derives (Node w v) (ref Visibility) (us ++ r)) (sym e) d.1.1.0), (refl, p.2)),
        ),
      );
      tokens = e;
    }

-- and back
alone : (b : Bool) (k : Kind) (o : Tree) (w : Kind) (v y x : Tree) (r : List Token) → choice y ≡ Node ATrait x
    → has the_equals x ≡ b → Derives (item_tree k o (Node w v) y) (table AnItem) r
    → Derives (trait_tree k o w v x) (trait_entry b) r
unfolding table
alone b k o w v y x r c h d =
    let f = of_form r y d.1.1.1.1 in
    let g : Node f.0 f.1 ≡ Node ATrait x = sym f.2 ∙ c in
    let a : f.0 ≡ ATrait = cc in
    let i : f.1 ≡ x = cc in
    let e : flat y ≡ flat x = sym (flat_choice y) ∙ ap flat c in (
      ap (λ u. kept_if (is_same b u)) (alias_is k o w v x) ∙ kept_is b (has the_equals x) h,
      (
        subst (λ us. Derives (Node k o) (ref OuterAttributes) ((flat v ++ us) ++ r)) e d.1.0,
        (
          subst (λ us. Derives (Node w v) (ref Visibility) (us ++ r)) e d.1.1.0.1,
          (refl, (refl, subst (λ j. Derives x (table j) r) a (subst (λ z. Derives z (table f.0) r) i f.3))),
        ),
      ),
    )

record Split (x : Tree) : Type 0 where
  kind : Kind
  attributes : Tree
  seen_as : Kind
  visibility : Tree
  form : Tree
  is : x ≡ trait_tree kind attributes seen_as visibility form

split_trait : (b : Bool) (x : Tree) (r : List Token) → Derives x (trait_entry b) r → Split x
split_trait b (First (Pair (Node k o) (Pair (Node w v) (Called m (Node j x))))) r d = record {
  kind = k;
  attributes = o;
  seen_as = w;
  visibility = v;
  form = x;
  is = ap (λ a. First (Pair (Node k o) (Pair (Node w v) (Called a (Node j x))))) d.1.1.1.0
      ∙ ap (λ a. First (Pair (Node k o) (Pair (Node w v) (Called the_item (Node a x))))) d.1.1.1.1.0;
}
split_trait b (First (Pair (Node k o) (Pair (Node w v) (Called m _)))) r d = absurd d.1.1.1.1
split_trait b (First (Pair (Node k o) (Pair (Node w v) _))) r d = absurd d.1.1.1
split_trait b (First (Pair (Node k o) (Pair _ y))) r d = absurd d.1.1.0
split_trait b (First (Pair (Node k o) _)) r d = absurd d.1.1
split_trait b (First (Pair _ y)) r d = absurd d.1.0
split_trait b (First _) r d = absurd d.1
split_trait b (Verbatim x) r d = absurd (not_raw _ d.0)
split_trait b _ r d = absurd d

pub read_alone : (b : Bool) (ts : List Token) (tree : Tree) (rest : List Token)
    → IsDerived (trait_reader b) ts tree rest
    → (o : Tree) × (v : Tree) × (x : Tree) × (item_parts tree ≡ ItemParts o v (Node ATrait x))
    × (has the_equals x ≡ b) × ReadsItem AnItem ts o v (Node ATrait x) rest
read_alone b ts (Node j z) rest d =
    let e = subst (λ g. Derives z g rest) (entry b) (subst (λ i. Derives z (table i) rest) d.0.0 d.0.1) in
    let s = split_trait b z rest e in
    let c = subst (λ y. Derives y (trait_entry b) rest) s.is e in
    let a = among b s.kind s.attributes s.seen_as s.visibility s.form rest c in (
      Node s.kind s.attributes,
      Node s.seen_as s.visibility,
      s.form,
      ap (λ y. item_parts (Node j y)) s.is,
      is_kept b (has the_equals s.form)
          (ap (λ u. kept_if (is_same b u)) (sym (alias_is s.kind s.attributes s.seen_as s.visibility s.form)) ∙ c.0),
      record {
        tree = Node AnItem (item_tree s.kind s.attributes (Node s.seen_as s.visibility) a.form);
        derived = (
          (refl, a.read),
          ap (λ us. (flat s.attributes ++ (flat s.visibility ++ us)) ++ rest) a.tokens
              ∙ ap (λ y. flat y ++ rest) (sym s.is) ∙ d.1,
        );
        parts = ap (ItemParts (Node s.kind s.attributes) (Node s.seen_as s.visibility)) a.chosen;
      },
    )
read_alone b ts _ rest d = absurd d.0

shown : (v : Tree) (k : Kind) (o y : Tree) (r : List Token) → Derives (item_tree k o v y) (table AnItem) r
    → (w : Kind) × (u : Tree) × (v ≡ Node w u)
unfolding table
shown (Node w u) k o y r d = (w, u, refl)
shown _ k o y r d = absurd d.1.1.0.1

pub read_among : (b : Bool) (ts : List Token) (o v x : Tree) (rest : List Token) → has the_equals x ≡ b
    → ReadsItem AnItem ts o v (Node ATrait x) rest → ReadsItem (trait_reader b) ts o v (Node ATrait x) rest
read_among b ts o v x rest h q = go q.tree q.derived q.parts
  where
    go : (t : Tree) → IsDerived AnItem ts t rest → item_parts t ≡ ItemParts o v (Node ATrait x)
        → ReadsItem (trait_reader b) ts o v (Node ATrait x) rest
    go (Node j z) d e =
        let c = subst (λ i. Derives z (table i) rest) d.0.0 d.0.1 in
        let s = split_item ATrait j z rest o v x c e in
        let m = subst (λ y. Derives y (table AnItem) rest) s.is c in
        let n = shown v s.kind s.attributes s.form rest m in
        let a = alone b s.kind s.attributes n.0 n.1 s.form x rest s.chosen h
        (subst (λ u. Derives (item_tree s.kind s.attributes u s.form) (table AnItem) rest) n.2 m) in
        let f : flat x ≡ flat s.form = sym (ap flat s.chosen) ∙ flat_choice s.form in
        record {
          tree = Node (trait_reader b) (trait_tree s.kind s.attributes n.0 n.1 x);
          derived = (
            (refl, subst (λ g. Derives (trait_tree s.kind s.attributes n.0 n.1 x) g rest) (sym (entry b)) a),
            ap (λ us. (flat s.attributes ++ (flat n.1 ++ us)) ++ rest) f
                ∙ ap (λ u. (flat s.attributes ++ (flat u ++ flat s.form)) ++ rest) (sym n.2)
                ∙ ap (λ y. flat y ++ rest) (sym s.is) ∙ d.1,
          );
          parts = ap (λ a. ItemParts a (Node n.0 n.1) (Node ATrait x)) s.is_first
              ∙ ap (λ u. ItemParts o u (Node ATrait x)) (sym n.2);
        }
    go _ d e = absurd d.0
