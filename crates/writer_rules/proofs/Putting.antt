-- Tokens that are put in several steps, of which the last one may fail, and those of a tree by its form.
use Rattle.std.specs.Prelude.{◌≡◌, ◌≤◌, ◌<◌, ◌+◌, ℕ, List, [], ◌∷◌, ◌++◌, OnOk, Result, drop, get_or, length, refl}
use Rattle.std.proofs.Common.{ap, ◌∙◌, sym, append_assoc, arith}
use Rattle.std.proofs.lemmas.List.{append-nil, at_drop_all, at_drop_more}
use Rattle.std.proofs.lemmas.Result.{on_ok_weaker}
use Rattle.proc_macro2.specs.Token.{Token}
use Rattle.syn_grammar.specs.Tree as t
use Rattle.syn_grammar.specs.Tree.{Tree}
use Rattle.reader_tree.specs.declared.tree.Element.{Element}
use Rattle.reader_tree.specs.declared.tree.Tree.TheDeep.{size-Tree}
use Rattle.reader_tree.specs.Forms.{elements}
use Rattle.reader_tree.specs.Size.{node_count}
use Rattle.reader_tree.proofs.Sizes.{tree_size}
use Rattle.writer_rules.specs.declared.within.Within.{Within}
use Rattle.writer_rules.specs.Laid.{laid_in}

pub put_same : {T E : Type 0} (r : Result T E) (a b x y : List Token) → x ≡ y → OnOk r (b ≡ a ++ x)
    → OnOk r (b ≡ a ++ y)
put_same r a b x y e = on_ok_weaker r (λ f. f ∙ ap (λ ts. a ++ ts) e)

pub put_second : {T E : Type 0} (r : Result T E) (a b c x y w : List Token) → b ≡ a ++ x → x ++ y ≡ w
    → OnOk r (c ≡ b ++ y) → OnOk r (c ≡ a ++ w)
put_second r a b c x y w e f =
    on_ok_weaker r (λ g. g ∙ ap (λ ts. ts ++ y) e ∙ append_assoc a x y ∙ ap (λ ts. a ++ ts) f)

pub put_third : {T E : Type 0} (r : Result T E) (a b c d x y z w : List Token) → b ≡ a ++ x → c ≡ b ++ y
    → x ++ (y ++ z) ≡ w → OnOk r (d ≡ c ++ z) → OnOk r (d ≡ a ++ w)
put_third r a b c d x y z w e f g =
    put_second r a c d (x ++ y) z w (f ∙ ap (λ ts. ts ++ y) e ∙ append_assoc a x y) (append_assoc x y z ∙ g)

pub put_fourth : {T E : Type 0} (r : Result T E) (a b c d e x y z v w : List Token) → b ≡ a ++ x → c ≡ b ++ y
    → d ≡ c ++ z → x ++ (y ++ (z ++ v)) ≡ w → OnOk r (e ≡ d ++ v) → OnOk r (e ≡ a ++ w)
put_fourth r a b c d e x y z v w f g h i =
    put_third r a c d e (x ++ y) z v w (g ∙ ap (λ ts. ts ++ y) f ∙ append_assoc a x y) h
    (append_assoc x y (z ++ v) ∙ i)

-- nothing is put
pub put_none : (a x : List Token) → [] ≡ x → a ≡ a ++ x
put_none a x e = sym (append-nil a) ∙ ap (λ ts. a ++ ts) e

-- of a tree that is left these tokens are put, which are those of its form
pub form_put : (w : Within) (x y : Tree) (old new all ts : List Token) → x ≡ y → ts ≡ laid_in w y
    → old ++ laid_in w x ≡ all → new ≡ old ++ ts → new ≡ all
form_put w x y old new all ts is form left put =
    put ∙ ap (λ us. old ++ us) (form ∙ ap (laid_in w) (sym is)) ∙ left

pub put_form : {T E : Type 0} (r : Result T E) (w : Within) (x y : Tree) (old new all ts : List Token) → x ≡ y
    → ts ≡ laid_in w y → old ++ laid_in w x ≡ all → OnOk r (new ≡ old ++ ts) → OnOk r (new ≡ all)
put_form r w x y old new all ts is form left = on_ok_weaker r (form_put w x y old new all ts is form left)

-- of a tree that is left the tokens of another are left, behind those that are put
pub tail_left : (w v u : Within) (x y z q : Tree) (old new all ts : List Token) → x ≡ y
    → laid_in w y ≡ ts ++ laid_in v z → u ≡ v → q ≡ z → old ++ laid_in w x ≡ all → new ≡ old ++ ts
    → new ++ laid_in u q ≡ all
tail_left w v u x y z q old new all ts is form within tree left put =
    ap (λ k. new ++ laid_in k q) within ∙ ap (λ k. new ++ laid_in v k) tree
    ∙ ap (λ us. us ++ laid_in v z) put ∙ append_assoc old ts (laid_in v z)
    ∙ ap (λ us. old ++ us) (sym (ap (laid_in w) is ∙ form)) ∙ left

-- of a tree that is left the tokens of another are left
pub other_left : (w v u : Within) (x y z q : Tree) (old all : List Token) → x ≡ y → laid_in w y ≡ laid_in v z
    → u ≡ v → q ≡ z → old ++ laid_in w x ≡ all → old ++ laid_in u q ≡ all
other_left w v u x y z q old all is form within tree left =
    ap (λ k. old ++ laid_in k q) within ∙ ap (λ k. old ++ laid_in v k) tree
    ∙ ap (λ us. old ++ us) (sym (ap (laid_in w) is ∙ form)) ∙ left

-- what is put of an innermost operand, and of the forms that it stands in
pub chain_put : {T E : Type 0} (r : Result T E) (old one two new ts bs cs all : List Token)
    → one ++ (ts ++ bs) ≡ old ++ (all ++ []) → two ≡ one ++ ts → cs ≡ bs → OnOk r (new ≡ two ++ cs)
    → OnOk r (new ≡ old ++ all)
chain_put r old one two new ts bs cs all fronts put same =
    on_ok_weaker r (λ e. e ∙ ap (λ us. two ++ us) same ∙ ap (λ us. us ++ bs) put ∙ append_assoc one ts bs ∙ fronts
    ∙ ap (λ us. old ++ us) (append-nil all))

-- of a tree that is left what is left is smaller
pub tail_below : (x y z q : Tree) → x ≡ y → q ≡ z → node_count z < node_count y → size-Tree q < size-Tree x
tail_below x y z q is tree below =
    omega (arith, ap node_count is, ap node_count tree, below, tree_size q, tree_size x)

pub tail_inside : (x y z q : Tree) (n : ℕ) → x ≡ y → q ≡ z → node_count z < node_count y → size-Tree x ≤ n
    → size-Tree q ≤ n
tail_inside x y z q n is tree below inside = omega (arith, tail_below x y z q is tree below, inside)

pub last_below : (c : ℕ) (es : List Element) (x : Tree) → node_count x < node_count (elements c es (t.Final x))
last_below c [] x = omega arith
last_below c (e ∷ es) x = omega (arith, last_below c es x)

-- nothing is left at the end of a list
pub loop_end : {X : Type 0} (l : List X → List Token) (xs : List X) (i : ℕ) (old all : List Token) → length xs ≤ i
    → l [] ≡ [] → old ++ l (drop i xs) ≡ all → old ≡ all
loop_end l xs i old all end empty left =
    sym (append-nil old) ∙ ap (λ us. old ++ us) (sym (at_drop_all l xs i end ∙ empty)) ∙ left

-- one more of a list is put, of which these tokens are
pub loop_next : {X : Type 0} (l : List X → List Token) (xs : List X) (i : ℕ) (x : X) (old new all ts : List Token)
    → i < length xs → x ≡ get_or xs i x → l (x ∷ drop (i + 1) xs) ≡ ts ++ l (drop (i + 1) xs)
    → old ++ l (drop i xs) ≡ all → new ≡ old ++ ts → new ++ l (drop (i + 1) xs) ≡ all
loop_next l xs i x old new all ts h e step left put =
    let rest : List Token = l (drop (i + 1) xs) in
    ap (λ us. us ++ rest) put ∙ append_assoc old ts rest
    ∙ ap (λ us. old ++ us)
    (sym (at_drop_more l xs i x h ∙ ap (λ y. l (y ∷ drop (i + 1) xs)) (sym e) ∙ step))
    ∙ left

-- none of what is left of a list is put
pub loop_stop : {X : Type 0} (l : List X → List Token) (xs : List X) (i : ℕ) (x : X) (old all : List Token)
    → i < length xs → x ≡ get_or xs i x → l (x ∷ drop (i + 1) xs) ≡ [] → old ++ l (drop i xs) ≡ all → old ≡ all
loop_stop l xs i x old all h e stop left =
    sym (append-nil old)
    ∙ ap (λ us. old ++ us)
    (sym (at_drop_more l xs i x h ∙ ap (λ y. l (y ∷ drop (i + 1) xs)) (sym e) ∙ stop))
    ∙ left
