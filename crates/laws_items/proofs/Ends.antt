-- No derived tree ends in a quote.
use Rattle.std.proofs.Common.{◌≡◌, ℕ, List, [], ◌∷◌, ◌++◌, refl, sym, ap, ◌∙◌, subst, append_assoc}
use Rattle.std.specs.Prelude.{Bool, true, false, not, ◌==◌, if◌then◌else◌, IsTrue}
use Rattle.proc_macro2.specs.Token.{Token, Opens, Closes, Ident, Literal, Punct}
use Rattle.proc_macro2.specs.Spacing.{quote, may_stand, IsWellSpaced}
use Rattle.rust_leaf.specs.declared.punct.Spacing.{Spacing}
use Rattle.rust_leaf.specs.declared.punct.Spacing.TheVariants.{Alone as Apart, Joint}
use Rattle.syn_grammar.specs.Kind.{Position}
use Rattle.syn_grammar.specs.Tree.{Tree, AWord, ALiteral, AMark, ALifetime, Raw, Nil, Pair, First, Second, End, Again}
use Rattle.syn_grammar.specs.Tree.{Final, More, Group, Dropped, Called, Verbatim, Node, Whole, Alone, Front, Back}
use Rattle.syn_grammar.specs.Tree.{Infix, marks, flat}
use Rattle.syn_grammar.specs.Gram.{Gram, word, literal, mark, lifetime, raw, nothing, seq, alt, star}
use Rattle.syn_grammar.specs.Gram.{many, group, judged, dropped, called, ref, operand}
use Rattle.syn_grammar.specs.Table.{table}
use Rattle.syn_grammar.specs.Forms.{inside}
use Rattle.syn_grammar.specs.Derives.{Derives, Bound}
use Rattle.syn_grammar.specs.Calm.{calm_marks, calm_entry}
use Rattle.syn_grammar.proofs.Whole.{and_true}
use Rattle.syn_grammar.proofs.Marks.{all_calm}
use Rattle.syn_grammar.proofs.Spaced.{cut, spaced_behind}
use Rattle.laws_items.proofs.Spacing.{unquoted, unquoted_next}

unquoted_both : (xs ys : List Token) → unquoted xs ≡ true → unquoted ys ≡ true → unquoted (xs ++ ys) ≡ true
unquoted_both [] ys e f = f
unquoted_both (x ∷ []) [] e f = e
unquoted_both (x ∷ []) (y ∷ ys) e f = unquoted_next x y ys ∙ f
unquoted_both (x ∷ t ∷ xs) ys e f =
    unquoted_next x t (xs ++ ys) ∙ unquoted_both (t ∷ xs) ys (sym (unquoted_next x t xs) ∙ e) f

unquoted_marks : (c : ℕ) (cs : List ℕ) (spacing : Spacing) → calm_marks c cs ≡ true
    → unquoted (marks c cs spacing) ≡ true
unquoted_marks c [] spacing h = h
unquoted_marks c (d ∷ []) spacing h = (and_true _ _ (and_true _ _ h).1).1
unquoted_marks c (d ∷ e ∷ ds) spacing h = unquoted_marks d (e ∷ ds) spacing (and_true _ _ (and_true _ _ h).1).1

end_unquoted : (c : ℕ) (spacing : Spacing) (b : Bool) → (c == quote) ≡ b → IsTrue (may_stand (Punct c spacing) [])
    → not (c == quote) ≡ true
end_unquoted c spacing false e h = ap not e
end_unquoted c Apart true e h = h
end_unquoted c Joint true e h = let f : false ≡ true = sym (ap (λ b. if b then false else false) e) ∙ h in cc f

raw_unquoted : (ts : List Token) → IsWellSpaced (ts ++ []) → unquoted ts ≡ true
raw_unquoted [] w = refl
raw_unquoted (Opens d ∷ []) w = refl
raw_unquoted (Closes d ∷ []) w = refl
raw_unquoted (Ident cs ∷ []) w = refl
raw_unquoted (Literal cs ∷ []) w = refl
raw_unquoted (Punct c spacing ∷ []) w = end_unquoted c spacing (c == quote) refl w.0
raw_unquoted (t ∷ u ∷ ts) w = unquoted_next t u ts ∙ raw_unquoted (u ∷ ts) w.1

mutual
  pub unquoted_tree : (x : Tree) (g : Gram) (r : List Token) → calm_entry g ≡ true → Derives x g r
      → IsWellSpaced (flat x ++ r) → unquoted (flat x) ≡ true
  unquoted_tree (AWord cs) (word p) r c d w = refl
  unquoted_tree (ALiteral cs) (literal p) r c d w = refl
  unquoted_tree (AMark m ms spacing) (mark n ns) r c d w =
      unquoted_marks m ms spacing (ap (λ k. calm_marks k ms) d.0 ∙ ap (calm_marks n) d.1 ∙ c)
  unquoted_tree (ALifetime cs) lifetime r c d w = refl
  unquoted_tree (Raw ts) raw r c d w = raw_unquoted ts (subst (λ q. IsWellSpaced (ts ++ q)) d.1 w)
  unquoted_tree Nil nothing r c d w = refl
  unquoted_tree (Pair x y) (seq a b) r c d w =
      let h = and_true _ _ c in
      let v = subst IsWellSpaced (append_assoc (flat x) (flat y) r) w in
      unquoted_both (flat x) (flat y) (unquoted_tree x a (flat y ++ r) h.0 d.0 v)
      (unquoted_tree y b r h.1 d.1 (spaced_behind (flat x) (flat y ++ r) v))
  unquoted_tree (First x) (alt t a b) r c d w = unquoted_tree x a r (and_true _ _ c).0 d.1 w
  unquoted_tree (Second x) (alt t a b) r c d w = unquoted_tree x b r (and_true _ _ c).1 d.1 w
  unquoted_tree End (star t g) r c d w = refl
  unquoted_tree (Again x y) (star t g) r c d w =
      let v = subst IsWellSpaced (append_assoc (flat x) (flat y) r) w in
      unquoted_both (flat x) (flat y) (unquoted_tree x g (flat y ++ r) c d.1 v)
      (unquoted_tree y (star t g) r c d.2 (spaced_behind (flat x) (flat y ++ r) v))
  unquoted_tree End (many f m g) r c d w = refl
  unquoted_tree (Final x) (many f m g) r c d w = unquoted_tree x g r (and_true _ _ c).1 d.1 w
  unquoted_tree (More x m spacing y) (many f n g) r c d w =
      let h = and_true _ _ c in
      let v = subst IsWellSpaced (append_assoc (flat x) (Punct m spacing ∷ flat y) r) w in
      unquoted_both (flat x) (Punct m spacing ∷ flat y) (unquoted_tree x g (Punct m spacing ∷ flat y ++ r) h.1 d.2 v)
      (unquoted_both (Punct m spacing ∷ []) (flat y) (ap (λ k. not (k == quote)) d.1 ∙ h.0)
      (unquoted_tree y (many f n g) r c d.3 (spaced_behind (flat x) (Punct m spacing ∷ flat y ++ r) v).1))
  unquoted_tree (Group f x) (group o g) r c d w =
      unquoted_both (Opens f ∷ flat x) (Closes f ∷ [])
      (let v = subst IsWellSpaced (append_assoc (flat x) (Closes f ∷ []) r) w.1 in
      unquoted_both (Opens f ∷ []) (flat x) refl (unquoted_tree x g [] c d.1 (cut (flat x) f r v))) refl
  unquoted_tree (First x) (judged v g) r c d w = unquoted_tree x g r c d.1 w
  unquoted_tree (Verbatim x) (judged v g) r c d w = unquoted_tree x g r c d.1 w
  unquoted_tree (Dropped x) (dropped g) r c d w = unquoted_tree x g r c d w
  unquoted_tree (Called n x) (called m g) r c d w = unquoted_tree x g r c d.1 w
  unquoted_tree (Node k x) (ref l) r c d w = unquoted_tree x (table k) r (all_calm k) d.1 w
  unquoted_tree (Whole x) (operand p n) r c d w = unquoted_bound x p r d.1 w
  unquoted_tree _ _ r c d w = absurd d

  unquoted_bound : (x : Tree) (p : Position) (r : List Token) → Bound p x r → IsWellSpaced (flat x ++ r)
      → unquoted (flat x) ≡ true
  unquoted_bound (Alone k y) p r d w = unquoted_tree y (table k) r (all_calm k) d.1 w
  unquoted_bound (Front k y x) p r d w =
      let v = subst IsWellSpaced (append_assoc (flat y) (flat x) r) w in
      unquoted_both (flat y) (flat x) (unquoted_tree y (table k) (flat x ++ r) (all_calm k) d.1 v)
      (unquoted_bound x (inside p k) r d.4 (spaced_behind (flat y) (flat x ++ r) v))
  unquoted_bound (Back l k y) p r d w =
      let v = subst IsWellSpaced (append_assoc (flat l) (flat y) r) w in
      unquoted_both (flat l) (flat y) (unquoted_bound l p (flat y ++ r) d.4 v)
      (unquoted_tree y (table k) r (all_calm k) d.1 (spaced_behind (flat l) (flat y ++ r) v))
  unquoted_bound (Infix l k y z) p r d w =
      let v = subst IsWellSpaced
      (append_assoc (flat l) (flat y ++ flat z) r ∙ ap (λ u. flat l ++ u) (append_assoc (flat y) (flat z) r)) w in
      let u = spaced_behind (flat l) (flat y ++ (flat z ++ r)) v in
      unquoted_both (flat l) (flat y ++ flat z) (unquoted_bound l p (flat y ++ (flat z ++ r)) d.4 v)
      (unquoted_both (flat y) (flat z) (unquoted_tree y (table k) (flat z ++ r) (all_calm k) d.1 u)
      (unquoted_bound z (inside p k) r d.6 (spaced_behind (flat y) (flat z ++ r) u)))
  unquoted_bound _ p r d w = absurd d
