-- The elements of a list, one by one.
use Rattle.std.specs.Prelude.{◌≡◌, ◌+◌, ◌<◌, ℕ, Bool, List, [], ◌∷◌, ◌++◌, MatchOption, Option, Some, None, length}
use Rattle.std.specs.Prelude.{get_or, map, refl, take}
use Rattle.std.specs.List.{All, range_with_len}
use Rattle.std.proofs.Common.{◌∙◌, ap, append_assoc, arith, sym}
use Rattle.std.proofs.lemmas.List.{map-append, take_more}
use Rattle.std.proofs.lemmas.List.FromFn.{map-range_with_len_more}
use Rattle.std.proofs.lemmas.List.Elements.{All-cons, All-get_or, All-nil}
use Rattle.proc_macro2.specs.Token.{Token}
use Rattle.reader_tree.specs.Forms.{elements, ending}
use Rattle.reader_tree.specs.declared.tree.Element.{Element}
use Rattle.syn_grammar.specs.Gram as g
use Rattle.syn_grammar.specs.Gram.{Gram, many}
use Rattle.syn_grammar.specs.Kind as k
use Rattle.syn_grammar.specs.Tree.{Tree}
use Rattle.syn_part.specs.Leaves.{node_tree}
use Rattle.syn_part.specs.Shape.{IsShaped}
use Rattle.syn_data.specs.Members.{elements_in, name_of, names_in}
use Rattle.syn_data.specs.declared.members.Member.{Member}
use Rattle.syn_data.specs.declared.members.Member.TheVariants as members
use denote.Bor.{Bor}

pub elements_counted : (c : ℕ) (es : List Element) (o : Option (Bor Tree))
    → elements_in (elements c es (ending node_tree o)) ≡ length es + elements_in (ending node_tree o)
elements_counted c [] o = omega arith
elements_counted c (e ∷ es) o = let h = elements_counted c es o in omega arith

-- how many a list has, by whether a last one stands behind those that a mark follows
pub counted : (n c : ℕ) (es : List Element) (o : Option (Bor Tree))
    → MatchOption o (n ≡ length es) (λ x. n ≡ length es + 1) → n ≡ elements_in (elements c es (ending node_tree o))
counted n c es None h = let e = elements_counted c es None in omega arith
counted n c es (Some x) h = let e = elements_counted c es (Some x) in omega arith

-- each element of a list has the shape of its entry
pub elements_shaped : (d : ℕ) (es : List Element) (y : Tree) (e : List Token → Bool) (c : ℕ) (a : Gram)
    → IsShaped (elements d es y) (many e c a) → All (λ x. IsShaped x.tree a) es
elements_shaped d [] y e c a h = All-nil (λ (z : Element). IsShaped z.tree a)
elements_shaped d (x ∷ es) y e c a h =
    All-cons (λ (z : Element). IsShaped z.tree a) x es h.1 (elements_shaped d es y e c a h.2)

pub ending_shaped : (d : ℕ) (es : List Element) (y : Tree) (e : List Token → Bool) (c : ℕ) (a : Gram)
    → IsShaped (elements d es y) (many e c a) → IsShaped y (many e c a)
ending_shaped d [] y e c a h = h
ending_shaped d (x ∷ es) y e c a h = ending_shaped d es y e c a h.2

-- the names of fields are those of the ones that a mark follows, and that of the last
pub names_listed : (c : ℕ) (es : List Element) (y : Tree)
    → names_in (elements c es y) ≡ map (λ x. name_of x.tree) es ++ names_in y
names_listed c [] y = refl
names_listed c (x ∷ es) y = ap (λ zs. name_of x.tree ∷ zs) (names_listed c es y)

-- one more name behind those of the elements before it
pub names_more : (es : List Element) (i : ℕ) (x : Element) (a b c : List Tree) → i < length es → x ≡ get_or es i x
    → (All (λ (z : Element). IsShaped z.tree (g.ref k.NamedField)) es
    → b ≡ a ++ map (λ (z : Element). name_of z.tree) (take i es))
    → (IsShaped x.tree (g.ref k.NamedField) → c ≡ b ++ (name_of x.tree ∷ []))
    → All (λ (z : Element). IsShaped z.tree (g.ref k.NamedField)) es
    → c ≡ a ++ map (λ (z : Element). name_of z.tree) (take (i + 1) es)
names_more es i x a b c l e before here all =
    let f = λ (z : Element). name_of z.tree in
    let t = take_more es i x l in
    let s : IsShaped (get_or es i x).tree (g.ref k.NamedField) =
    All-get_or (λ (z : Element). IsShaped z.tree (g.ref k.NamedField)) es i x l all in
    let h : c ≡ b ++ (f x ∷ []) = here (rw e s) in
    let m : map f (take (i + 1) es) ≡ map f (take i es) ++ (f (get_or es i x) ∷ []) =
    ap (map f) t ∙ map-append f (take i es) (get_or es i x ∷ []) in
    h ∙ ap (λ zs. zs ++ (f x ∷ [])) (before all) ∙ append_assoc a (map f (take i es)) (f x ∷ [])
    ∙ ap (λ z. a ++ (map f (take i es) ++ (f z ∷ []))) e ∙ ap (λ zs. a ++ zs) (sym m)

-- all names, where those of the ones that a mark follows were found, and then that of the last
pub names_whole : (n : ℕ) (es : List Element) (o : Option (Bor Tree)) (z a b : List Tree) (e : List Token → Bool)
    (c : ℕ)
    → z ≡ []
    → (All (λ (x : Element). IsShaped x.tree (g.ref k.NamedField)) es
    → a ≡ z ++ map (λ (x : Element). name_of x.tree) es)
    → ((e : List Token → Bool) (c : ℕ) → IsShaped (ending node_tree o) (many e c (g.ref k.NamedField))
    → b ≡ a ++ names_in (ending node_tree o))
    → IsShaped (elements n es (ending node_tree o)) (many e c (g.ref k.NamedField))
    → b ≡ names_in (elements n es (ending node_tree o))
names_whole n es o z a b e c q before last h =
    let y = ending node_tree o in
    let f = λ (x : Element). name_of x.tree in
    let p : a ≡ map f es =
    before (elements_shaped n es y e c (g.ref k.NamedField) h) ∙ ap (λ zs. zs ++ map f es) q in
    last e c (ending_shaped n es y e c (g.ref k.NamedField) h) ∙ ap (λ zs. zs ++ names_in y) p
    ∙ sym (names_listed n es y)

-- one more number
pub numbers_more : (ms : List Member) (n : ℕ) → ms ≡ map members.Unnamed (range_with_len 0 n)
    → ms ++ (members.Unnamed n ∷ []) ≡ map members.Unnamed (range_with_len 0 (n + 1))
numbers_more ms n h =
    ap (λ zs. zs ++ (members.Unnamed n ∷ [])) h ∙ sym (map-range_with_len_more members.Unnamed 0 n n (omega arith))
