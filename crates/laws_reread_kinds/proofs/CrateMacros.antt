-- A macro by the word crate alone among statements: what is printed for one is such a macro.
use Rattle.std.proofs.Common.{◌≡◌, List, refl, sym, ap, ◌∙◌, subst}
use Rattle.std.specs.Prelude.{Bool, true, ◌&&◌, not}
use Rattle.std.proofs.lemmas.Bool.{false≢true}
use Rattle.proc_macro2.specs.Token.{Token}
use Rattle.syn_grammar.specs.Kind.{Kind, AnItem, InFile, InModule, ItemMacro, Path, Plain, Segments}
use Rattle.syn_grammar.specs.Tree.{Tree, AWord, Called, First, Nil, Node, Pair, Second}
use Rattle.syn_grammar.specs.Part.{choice}
use Rattle.syn_grammar.specs.Gram.{Gram, alt, ref}
use Rattle.syn_grammar.specs.Lists.{item_form}
use Rattle.syn_grammar.specs.Table.{table}
use Rattle.syn_grammar.specs.Derives.{Derives}
use Rattle.syn_grammar.specs.Kept.{held, is_there, kept}
use Rattle.syn_grammar.specs.Normal.{normal_in, passed, place_of}
use Rattle.laws_reread_kinds.specs.Covered.{is_crate_path, is_no_call, item_of}
use Rattle.laws_reread_kinds.proofs.Choices.{both_same, both_true}
use Rattle.laws_reread_kinds.proofs.Fits.{Fits}
use Rattle.laws_reread_kinds.proofs.ItemVerdicts.{EachOf, LawOf, form_same}
use Rattle.laws_reread_kinds.proofs.WholeItems.{whole_item}

-- its path
names_kept : (z : Tree) → Fits z (table (Segments InModule))
    → is_crate_path (kept (Node (Path InModule) (Pair (Second Nil) (Node (Segments InModule) z))))
    ≡ is_crate_path (Node (Path InModule) (Pair (Second Nil) (Node (Segments InModule) z)))
unfolding table held
names_kept (First (Pair (AWord cs) (First y))) f = refl
names_kept (First (Pair (AWord cs) (Second y))) f = refl
names_kept (First (Pair (AWord cs) _)) f = absurd f.1.1
names_kept (First (Pair _ y)) f = absurd f.1.0
names_kept (First _) f = absurd f.1
names_kept (Second y) f = refl
names_kept _ f = absurd f

path_kept : (x : Tree) → Fits x (table (Path InModule))
    → is_crate_path (kept (Node (Path InModule) x)) ≡ is_crate_path (Node (Path InModule) x)
unfolding table held
path_kept (Pair (First m) y) f = refl
path_kept (Pair (Second Nil) (Node l z)) f =
    subst (λ j. is_crate_path (kept (Node (Path InModule) (Pair (Second Nil) (Node j z))))
    ≡ is_crate_path (Node (Path InModule) (Pair (Second Nil) (Node j z)))) (sym f.1.0)
    (names_kept z (subst (λ j. Fits z (table j)) f.1.0 f.1.3))
path_kept (Pair (Second Nil) _) f = absurd f.1
path_kept (Pair (Second _) y) f = absurd f.0.1
path_kept (Pair _ y) f = absurd f.0
path_kept _ f = absurd f

whole_kept : (q : Tree) → Fits q (ref (Path InModule)) → is_crate_path (kept q) ≡ is_crate_path q
whole_kept (Node k x) f =
    subst (λ j. is_crate_path (kept (Node j x)) ≡ is_crate_path (Node j x)) (sym f.0)
    (path_kept x (subst (λ j. Fits x (table j)) f.0 f.3))
whole_kept _ f = absurd f

-- and in normal form
names_normal : (z : Tree) (r : List Token) → Derives z (table (Segments InModule)) r
    → is_crate_path (Node (Path InModule) (Pair (Second Nil) (Node (Segments InModule) z))) ≡ true
    → is_crate_path (normal_in Plain (kept (Node (Path InModule) (Pair (Second Nil) (Node (Segments InModule) z)))))
    ≡ true
unfolding table held passed
names_normal (First (Pair (AWord cs) (Second y))) r d e = e
names_normal _ r d e = absurd (false≢true e)

path_normal : (x : Tree) (r : List Token) → Derives x (table (Path InModule)) r
    → is_crate_path (Node (Path InModule) x) ≡ true
    → is_crate_path (normal_in Plain (kept (Node (Path InModule) x))) ≡ true
unfolding table held passed
path_normal (Pair (Second Nil) (Node l z)) r d e =
    subst (λ j. is_crate_path (normal_in Plain (kept (Node (Path InModule) (Pair (Second Nil) (Node j z))))) ≡ true)
    (sym d.1.0)
    (names_normal z r (subst (λ j. Derives z (table j) r) d.1.0 d.1.1)
    (subst (λ j. is_crate_path (Node (Path InModule) (Pair (Second Nil) (Node j z))) ≡ true) d.1.0 e))
path_normal (Pair (Second Nil) _) r d e = absurd d.1
path_normal (Pair (Second _) z) r d e = absurd d.0.1
path_normal _ r d e = absurd (false≢true e)

whole_normal : (q : Tree) (r : List Token) → Derives q (ref (Path InModule)) r → is_crate_path q ≡ true
    → is_crate_path (normal_in Plain (kept q)) ≡ true
whole_normal (Node k x) r d e =
    subst (λ j. is_crate_path (normal_in Plain (kept (Node j x))) ≡ true) (sym d.0)
    (path_normal x r (subst (λ j. Derives x (table j) r) d.0 d.1)
    (subst (λ j. is_crate_path (Node j x) ≡ true) d.0 e))
whole_normal _ r d e = absurd d

-- a choice's alternative
there_kept : (t : List Token → Bool) (a b : Gram) (x : Tree) → Fits x (alt t a b) → is_there (kept x) ≡ is_there x
there_kept t a b (First x) f = refl
there_kept t a b (Second x) f = refl
there_kept t a b _ f = absurd f

there_normal : (t : List Token → Bool) (a b : Gram) (x : Tree) (r : List Token) → Derives x (alt t a b) r
    → is_there (normal_in Plain (kept x)) ≡ is_there x
there_normal t a b (First x) r d = refl
there_normal t a b (Second x) r d = refl
there_normal t a b _ r d = absurd d

-- the macro
abbrev SameCall : Tree → Tree → Type 0
SameCall x w = is_no_call x ≡ true → is_no_call w ≡ true

abbrev path_part : Tree → Tree
path_part (Node k (Pair q z)) = q
path_part x = x

abbrev name_part : Tree → Tree
name_part (Node k (Pair q (Pair b (Pair n g)))) = n
name_part x = x

abbrev tokens_part : Tree → Tree
tokens_part (Node k (Pair q (Pair b (Pair n g)))) = g
tokens_part x = x

call_same : LawOf SameCall (ItemMacro InFile)
unfolding table held passed
call_same q (Pair a (Pair b (Pair n g))) (Pair x (Pair y (Pair m z))) r d f e h =
    let c = both_true (is_crate_path a) (not (is_there n) && not (is_there g)) h in
    let i = both_true (not (is_there n)) (not (is_there g)) c.1 in
    both_same (is_crate_path x) (not (is_there m) && not (is_there z)) true true
    (sym (whole_kept x f.0) ∙ ap is_crate_path (ap path_part e) ∙ whole_normal a _ d.0 c.0)
    (both_same (not (is_there m)) (not (is_there z)) true true
    (ap not (sym (there_kept _ _ _ m f.1.1.0) ∙ ap is_there (ap name_part e) ∙ there_normal _ _ _ n _ d.1.1.0) ∙ i.0)
    (ap not (sym (there_kept _ _ _ z f.1.1.1) ∙ ap is_there (ap tokens_part e) ∙ there_normal _ _ _ g _ d.1.1.1) ∙ i.1))
call_same q (Pair a (Pair b (Pair n g))) (Pair x (Pair y _)) r d f e h = absurd f.1.1
call_same q (Pair a (Pair b (Pair n g))) (Pair x _) r d f e h = absurd f.1
call_same q (Pair a (Pair b (Pair n g))) _ r d f e h = absurd f
call_same q (Pair a (Pair b _)) v r d f e h = absurd d.1.1
call_same q (Pair a _) v r d f e h = absurd d.1
call_same q _ v r d f e h = absurd d

other : (k : Kind) → ((y : Tree) → is_no_call (Node k y) ≡ true) → LawOf SameCall k
other k n q y v r d f e h = n v

each_call : EachOf SameCall item_form
each_call = (
  other _ (λ y. refl),
  (
    other _ (λ y. refl),
    (
      other _ (λ y. refl),
      (
        other _ (λ y. refl),
        (
          other _ (λ y. refl),
          (
            other _ (λ y. refl),
            (
              other _ (λ y. refl),
              (
                other _ (λ y. refl),
                (
                  other _ (λ y. refl),
                  (
                    other _ (λ y. refl),
                    (
                      other _ (λ y. refl),
                      (
                        other _ (λ y. refl),
                        (
                          other _ (λ y. refl),
                          (
                            other _ (λ y. refl),
                            (
                              other _ (λ y. refl),
                              (
                                other _ (λ y. refl),
                                (
                                  other _ (λ y. refl),
                                  (
                                    other _ (λ y. refl),
                                    (
                                      other _ (λ y. refl),
                                      (
                                        other _ (λ y. refl),
                                        (
                                          other _ (λ y. refl),
                                          (call_same, tt),
                                        ),
                                      ),
                                    ),
                                  ),
                                ),
                              ),
                            ),
                          ),
                        ),
                      ),
                    ),
                  ),
                ),
              ),
            ),
          ),
        ),
      ),
    ),
  ),
)

-- the item
abbrev item_part : Tree → Tree
item_part (Pair o (Pair v (Called n z))) = z
item_part x = x

whole_call : (x w : Tree) (r : List Token) → Derives x whole_item r → Fits w whole_item
    → kept w ≡ normal_in Plain (kept x) → is_no_call (choice (item_of x)) ≡ true
    → is_no_call (choice (item_of w)) ≡ true
whole_call (Pair o (Pair v (Called m i))) (Pair p (Pair u (Called t z))) r d f e h =
    form_same SameCall item_form each_call (place_of m) i z r d.1.1.1 f.1.1.1 (ap item_part e) h
whole_call (Pair o (Pair v (Called m i))) (Pair p (Pair u _)) r d f e h = absurd f.1.1
whole_call (Pair o (Pair v (Called m i))) (Pair p _) r d f e h = absurd f.1
whole_call (Pair o (Pair v (Called m i))) _ r d f e h = absurd f
whole_call (Pair o (Pair v _)) w r d f e h = absurd d.1.1
whole_call (Pair o _) w r d f e h = absurd d.1
whole_call _ w r d f e h = absurd d

abbrev inside : Tree → Tree
inside (First x) = x
inside x = x

pub call_printed : (x w : Tree) (r : List Token) → Derives (First x) (table AnItem) r → Fits (First w) (table AnItem)
    → kept (First w) ≡ normal_in Plain (kept (First x)) → is_no_call (choice (item_of x)) ≡ true
    → is_no_call (choice (item_of w)) ≡ true
unfolding table
call_printed x w r d f e h = whole_call x w r d.1 f.1 (ap inside e) h
