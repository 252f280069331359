-- Macros that stand among statements as items: what is printed for one has its name, and nothing but attributes in
-- front.
use Rattle.std.proofs.Common.{◌≡◌, List, ◌++◌, refl, sym, ap, ◌∙◌, subst}
use Rattle.std.specs.Prelude.{true, false, not}
use Rattle.std.proofs.lemmas.Bool.{false≢true}
use Rattle.proc_macro2.specs.Token.{Token}
use Rattle.syn_grammar.specs.Kind.{Kind, AnItem, AStatement, InFile, ItemMacro, Plain, Position, Visibility}
use Rattle.syn_grammar.specs.Tree.{Tree, Called, First, Nil, Node, Pair, Second, Verbatim, flat}
use Rattle.syn_grammar.specs.Part.{choice}
use Rattle.syn_grammar.specs.Items.{macro_name}
use Rattle.syn_grammar.specs.Lists.{item_form}
use Rattle.syn_grammar.specs.Statements.{statement}
use Rattle.syn_grammar.specs.Table.{table}
use Rattle.syn_grammar.specs.Derives.{Derives}
use Rattle.syn_grammar.specs.Kept.{as_statement, held, is_there, kept}
use Rattle.syn_grammar.specs.Normal.{normal_in, passed, place_of}
use Rattle.laws_reread_kinds.specs.Covered.{has_form_step, has_step, is_macro_item, is_named_macro}
use Rattle.laws_reread_kinds.specs.Covered.{is_statement_form}
use Rattle.laws_reread_kinds.proofs.Choices.{both_same, both_true}
use Rattle.laws_reread_kinds.proofs.Fits.{Fits}
use Rattle.laws_reread_kinds.proofs.ItemVerdicts.{EachOf, LawOf, form_same}
use Rattle.laws_reread_kinds.proofs.Lets.{Law}
use Rattle.laws_reread_kinds.proofs.WholeItems.{whole_item}

-- its name
name_back : (n : Tree) → Fits n (macro_name InFile) → is_there (kept n) ≡ true → is_there n ≡ true
name_back (First n) f e = refl
name_back (Second Nil) f e = absurd (false≢true e)
name_back (Second _) f e = absurd f.1
name_back _ f e = absurd f

there_normal : (q : Position) (n : Tree) → is_there n ≡ true → is_there (normal_in q (kept n)) ≡ true
there_normal q (First n) e = refl
there_normal q _ e = absurd (false≢true e)

abbrev SameName : Tree → Tree → Type 0
SameName x w = is_named_macro x ≡ true → is_named_macro w ≡ true

abbrev name_of : Tree → Tree
name_of (Node k (Pair q (Pair b (Pair n g)))) = n
name_of x = x

named : LawOf SameName (ItemMacro InFile)
unfolding table held passed
named q (Pair a (Pair b (Pair n g))) (Pair x (Pair y (Pair m z))) r d f e h =
    name_back m f.1.1.0
    (subst (λ i. is_there i ≡ true) (sym (ap name_of e)) (there_normal Plain n h))
named q (Pair a (Pair b (Pair n g))) (Pair x (Pair y _)) r d f e h = absurd f.1.1
named q (Pair a (Pair b (Pair n g))) (Pair x _) r d f e h = absurd f.1
named q (Pair a (Pair b (Pair n g))) _ r d f e h = absurd f
named q (Pair a (Pair b _)) v r d f e h = absurd d.1.1
named q (Pair a _) v r d f e h = absurd d.1
named q _ v r d f e h = absurd d

none : (k : Kind) → ((y : Tree) → is_named_macro (Node k y) ≡ false) → LawOf SameName k
none k n q y v r d f e h = absurd (false≢true (sym (n y) ∙ h))

each_named : EachOf SameName item_form
each_named = (
  none _ (λ y. refl),
  (
    none _ (λ y. refl),
    (
      none _ (λ y. refl),
      (
        none _ (λ y. refl),
        (
          none _ (λ y. refl),
          (
            none _ (λ y. refl),
            (
              none _ (λ y. refl),
              (
                none _ (λ y. refl),
                (
                  none _ (λ y. refl),
                  (
                    none _ (λ y. refl),
                    (
                      none _ (λ y. refl),
                      (
                        none _ (λ y. refl),
                        (
                          none _ (λ y. refl),
                          (
                            none _ (λ y. refl),
                            (
                              none _ (λ y. refl),
                              (
                                none _ (λ y. refl),
                                (
                                  none _ (λ y. refl),
                                  (
                                    none _ (λ y. refl),
                                    (
                                      none _ (λ y. refl),
                                      (
                                        none _ (λ y. refl),
                                        (none _ (λ y. refl), (named, tt)),
                                      ),
                                    ),
                                  ),
                                ),
                              ),
                            ),
                          ),
                        ),
                      ),
                    ),
                  ),
                ),
              ),
            ),
          ),
        ),
      ),
    ),
  ),
)

-- no visibility
private_in : (v u : Tree) (r : List Token) → Derives v (table Visibility) r → kept u ≡ normal_in Plain (kept v)
    → not (is_there v) ≡ true → not (is_there u) ≡ true
unfolding table
private_in (First y) (First z) r d e h = absurd (false≢true h)
private_in (Second y) (First z) r d e h = cc e
private_in _ (First z) r d e h = absurd d
private_in v _ r d e h = refl

private_same : (j k : Kind) (q : Position) (v u : Tree) (r : List Token) → k ≡ Visibility → j ≡ Visibility
    → Derives v (table k) r → kept (Node j u) ≡ normal_in q (kept (Node k v)) → not (is_there v) ≡ true
    → not (is_there u) ≡ true
unfolding held passed
private_same j k q v u r e f d i h =
    let g : kept (Node Visibility u) ≡ normal_in q (kept (Node Visibility v)) =
    subst (λ l. kept (Node l u) ≡ normal_in q (kept (Node Visibility v))) f
    (subst (λ l. kept (Node j u) ≡ normal_in q (kept (Node l v))) e i) in
    private_in v u r (subst (λ l. Derives v (table l) r) e d) (ap inside g) h
  where
    inside : Tree → Tree
    inside (Node l x) = x
    inside x = x

-- the item
abbrev visible_part : Tree → Tree
visible_part (Pair o (Pair (Called n v) z)) = v
visible_part x = x

abbrev item_part : Tree → Tree
item_part (Pair o (Pair v (Called n z))) = z
item_part x = x

named_whole : (a b : Kind) (x w : Tree) (r : List Token) → Derives x whole_item r → Fits w whole_item
    → kept w ≡ normal_in Plain (kept x) → is_macro_item (Node a (First x)) ≡ true
    → is_macro_item (Node b (First w)) ≡ true
named_whole a b (Pair o (Pair (Called n (Node k v)) (Called m i))) (Pair p (Pair (Called l (Node j u)) (Called t z))) r
    d
    f e h =
    let c = both_true (not (is_there v)) (is_named_macro (choice i)) h in
    both_same (not (is_there u)) (is_named_macro (choice z)) true true
    (private_same j k (place_of n) v u (flat i ++ r) d.1.0.1.0 f.1.0.1.0 d.1.0.1.1 (ap visible_part e) c.0)
    (form_same SameName item_form each_named (place_of m) i z r d.1.1.1 f.1.1.1 (ap item_part e) c.1)
named_whole a b (Pair o (Pair (Called n (Node k v)) (Called m i))) (Pair p (Pair (Called l (Node j u)) _)) r d f e h =
    absurd f.1.1
named_whole a b (Pair o (Pair (Called n (Node k v)) (Called m i))) (Pair p (Pair (Called l _) z)) r d f e h =
    absurd f.1.0.1
named_whole a b (Pair o (Pair (Called n (Node k v)) (Called m i))) (Pair p (Pair _ z)) r d f e h = absurd f.1.0
named_whole a b (Pair o (Pair (Called n (Node k v)) (Called m i))) (Pair p _) r d f e h = absurd f.1
named_whole a b (Pair o (Pair (Called n (Node k v)) (Called m i))) _ r d f e h = absurd f
named_whole a b (Pair o (Pair (Called n (Node k v)) _)) w r d f e h = absurd d.1.1
named_whole a b (Pair o (Pair (Called n _) z)) w r d f e h = absurd d.1.0.1
named_whole a b (Pair o (Pair _ z)) w r d f e h = absurd d.1.0
named_whole a b (Pair o _) w r d f e h = absurd d.1
named_whole a b _ w r d f e h = absurd d

kept_named : (a b : Kind) (x w : Tree) (r : List Token) → Derives (First x) (table AnItem) r → Fits w (table AnItem)
    → kept w ≡ normal_in Plain (kept (First x)) → is_macro_item (Node a (First x)) ≡ true
    → is_macro_item (Node b w) ≡ true
unfolding table
kept_named a b x (First w) r d f e h = named_whole a b x w r d.1 f.1 (ap inside e) h
  where
    inside : Tree → Tree
    inside (First y) = y
    inside y = y
kept_named a b x (Verbatim w) r d f e h = cc e
kept_named a b x _ r d f e h = absurd f

abbrev item_inside : Tree → Tree
item_inside (First (Node k x)) = x
item_inside x = x

named_printed : (x w : Tree) (r : List Token) → Derives (First x) (table AnItem) r
    → is_macro_item (Node AnItem (First x)) ≡ true → Fits w statement
    → kept w ≡ normal_in Plain (kept (First (Node AnItem (First x))))
    → (is_statement_form w ≡ true) × (as_statement (kept w) ≡ kept w)
unfolding held passed
named_printed x (First (Node l w)) r d n f e = (
  kept_named AnItem l x w r d (subst (λ j. Fits w (table j)) f.1.0 f.1.3)
      (ap item_inside (subst (λ j. kept (First (Node j w)) ≡ normal_in Plain (kept (First (Node AnItem (First x)))))
      f.1.0 e)) n,
  refl,
)
named_printed x (First _) r d n f e = absurd f.1
named_printed x (Second w) r d n f e = cc e
named_printed x _ r d n f e = absurd f

pub named_law : (q : Position) (x : Tree) (r : List Token) → Derives x (table AnItem) r
    → Law q r (First (Node AnItem x))
unfolding table held passed has_step has_form_step
named_law q (First x) r c o d i =
    let s = named_printed x i.tree r c o i.fits i.kept_is in
    record {
      tree = Node AStatement i.tree;
      fits = (refl, refl, ap flat s.1, i.fits, s.0);
      kept_is = ap (Node AStatement) (s.1 ∙ i.kept_is);
    }
named_law q (Verbatim x) r c o d i = absurd (false≢true o)
named_law q _ r c o d i = absurd c
