-- Files one behind the other: the second, without attributes of its own, goes on with the items of the first.
use Rattle.std.proofs.Common.{◌≡◌, List, [], ◌∷◌, ◌++◌, refl, sym, ap, ◌∙◌, subst, append_assoc, inl, inr}
use Rattle.std.proofs.lemmas.List.{append-nil}
use Rattle.std.specs.Prelude.{ℕ, Bool, true, false, Option, Some, None, codes, ◌⊎◌}
use Rattle.proc_macro2.specs.declared.delimiter.Delimiter.TheVariants.{Bracket}
use Rattle.proc_macro2.specs.Token.{Token}
use Rattle.syn_grammar.specs.Derives.{Derives}
use Rattle.syn_grammar.specs.Gram.{Gram, group, mark, ref, star}
use Rattle.syn_grammar.specs.Kind.{AFile, AnItem, InnerAttribute, InnerAttributes, Items, Kind}
use Rattle.syn_grammar.specs.Look.{Look, behind, lacks, opens, seen, sees, the_end, ◌then◌}
use Rattle.syn_grammar.specs.Say.{marks}
use Rattle.syn_grammar.specs.Table.{table}
use Rattle.syn_grammar.specs.Tree.{Tree, AMark, Pair, End, Again, Group, Node, flat}
use Rattle.laws_items.proofs.Alike.{IsSteady, blind_sure, steady_sees, sure_mark, sure_then}
use Rattle.laws_items.proofs.Stays as stays
use Rattle.laws_programs.specs.Joined.{attributes_of, file_of, in_turn, items_of, turns}
use Rattle.laws_programs.specs.Program.{IsFile}
use Rattle.laws_programs.proofs.Shebangs.{bracketed, inner_opens, marked}

-- turns as a list, and back
pub turns_again : (xs : List Tree) → turns (in_turn xs) ≡ xs
turns_again [] = refl
turns_again (x ∷ xs) = ap (λ ys. x ∷ ys) (turns_again xs)

same_turns : (x : Tree) (t : List Token → Bool) (g : Gram) (r : List Token) → Derives x (star t g) r
    → x ≡ in_turn (turns x)
same_turns End t g r d = refl
same_turns (Again x y) t g r d = ap (Again x) (same_turns y t g r d.2)
same_turns _ t g r d = absurd d

pub flat_both : (xs ys : List Tree) → flat (in_turn (xs ++ ys)) ≡ flat (in_turn xs) ++ flat (in_turn ys)
flat_both [] ys = refl
flat_both (x ∷ xs) ys =
    ap (λ ts. flat x ++ ts) (flat_both xs ys) ∙ sym (append_assoc (flat x) (flat (in_turn xs)) (flat (in_turn ys)))

-- a file's tree is that of its attributes and its items
pub record Parts (tree : Tree) : Type 0 where
  pub attributes : List Tree
  pub items : List Tree
  pub is : tree ≡ file_of attributes items
  pub front : Derives (in_turn attributes) (table InnerAttributes) (flat (in_turn items) ++ [])
  pub listed : Derives (in_turn items) (table Items) []

made_parts : (x y : Tree) → Derives x (table InnerAttributes) (flat y ++ []) → Derives y (table Items) []
    → Parts (Node AFile (Pair (Node InnerAttributes x) (Node Items y)))
unfolding table
made_parts x y d e =
    let same_x = same_turns x _ _ _ d in
    let same_y = same_turns y _ _ _ e in
    record {
      attributes = turns x;
      items = turns y;
      is = ap (λ (z : Tree). Node AFile (Pair (Node InnerAttributes z) (Node Items y))) same_x
          ∙ ap (λ (z : Tree). Node AFile (Pair (Node InnerAttributes (in_turn (turns x))) (Node Items z))) same_y;
      front = subst (λ (z : Tree). Derives (in_turn (turns x)) (table InnerAttributes) (flat z ++ [])) same_y
          (subst (λ (z : Tree). Derives z (table InnerAttributes) (flat y ++ [])) same_x d);
      listed = subst (λ (z : Tree). Derives z (table Items) []) same_y e;
    }

pair_parts : (a b : Tree) → Derives a (ref InnerAttributes) (flat b ++ []) → Derives b (ref Items) []
    → Parts (Node AFile (Pair a b))
pair_parts (Node k x) (Node l y) d e =
    subst (λ (i : Kind). Parts (Node AFile (Pair (Node i x) (Node l y)))) (sym d.0)
    (subst (λ (j : Kind). Parts (Node AFile (Pair (Node InnerAttributes x) (Node j y)))) (sym e.0)
    (made_parts x y (subst (λ i. Derives x (table i) (flat y ++ [])) d.0 d.1)
    (subst (λ i. Derives y (table i) []) e.0 e.1)))
pair_parts (Node k x) _ d e = absurd e
pair_parts _ b d e = absurd d

file_parts : (y : Tree) → Derives y (table AFile) [] → Parts (Node AFile y)
unfolding table
file_parts (Pair a b) d = pair_parts a b d.0 d.1
file_parts _ d = absurd d

pub parts : (tree : Tree) → Derives tree (ref AFile) [] → Parts tree
parts (Node k y) d =
    subst (λ (i : Kind). Parts (Node i y)) (sym d.0) (file_parts y (subst (λ i. Derives y (table i) []) d.0 d.1))
parts _ d = absurd d

pub attributes_are : (tree : Tree) → (p : Parts tree) → attributes_of tree ≡ p.attributes
attributes_are tree p = ap attributes_of p.is ∙ turns_again p.attributes

pub items_are : (tree : Tree) → (p : Parts tree) → items_of tree ≡ p.items
items_are tree p = ap items_of p.is ∙ turns_again p.items

-- items, and others behind them
still_more : (a b c d : List Token) → d ≡ b ++ c → lacks the_end (a ++ b ++ []) ≡ true
    → lacks the_end (a ++ d ++ []) ≡ true
still_more (t ∷ a) b c d e h = refl
still_more [] (t ∷ b) c d e h = ap (λ ts. lacks the_end (ts ++ [])) e
still_more [] [] c d e h = cc

items_joined : (xs ys : List Tree) → Derives (in_turn xs) (table Items) [] → Derives (in_turn ys) (table Items) []
    → Derives (in_turn (xs ++ ys)) (table Items) []
unfolding table
items_joined [] ys d e = e
items_joined (x ∷ xs) ys d e = (
  still_more (flat x) (flat (in_turn xs)) (flat (in_turn ys)) (flat (in_turn (xs ++ ys))) (flat_both xs ys) d.0,
  stays.item_stays AnItem x (flat (in_turn xs) ++ []) (flat (in_turn (xs ++ ys)) ++ []) refl d.1,
  items_joined xs ys d.2 e,
)

-- where # and ! stand
abbrev pub inner : Look
inner = marks "#" then marks "!"

steady : IsSteady (sees inner)
steady = steady_sees (blind_sure (sure_then (sure_mark (codes "#") refl) (sure_mark (codes "!") refl)))

-- they don't where items stand before others, none of which begins with them
items_unmarked : (xs ys : List Tree) → Derives (in_turn xs) (table Items) []
    → sees inner (flat (in_turn xs) ++ []) ≡ false → sees inner (flat (in_turn ys) ++ []) ≡ false
    → sees inner (flat (in_turn (xs ++ ys)) ++ []) ≡ false
unfolding table
items_unmarked [] ys d m n = n
items_unmarked (x ∷ xs) ys d m n =
    let r : List Token = flat (in_turn xs) ++ [] in
    let s : List Token = flat (in_turn (xs ++ ys)) ++ [] in
    ap (sees inner) (append_assoc (flat x) (flat (in_turn (xs ++ ys))) [])
    ∙ stays.tested (sees inner) steady (flat x ++ r) (flat x ++ s) false
    (stays.ended x (ref AnItem) r s refl d.1).0
    (ap (sees inner) (sym (append_assoc (flat x) (flat (in_turn xs)) [])) ∙ m)

-- an attribute ends in its bracket
sign_anywhere : (x : Tree) (c : ℕ) (r s : List Token) → Derives x (mark c []) r → Derives x (mark c []) s
sign_anywhere (AMark d ds spacing) c r s e = e
sign_anywhere _ c r s e = absurd e

bracket_anywhere : (x : Tree) (g : Gram) (r s : List Token) → Derives x (group Bracket g) r
    → Derives x (group Bracket g) s
bracket_anywhere (Group d y) g r s e = e
bracket_anywhere _ g r s e = absurd e

attribute_anywhere : (x : Tree) (r s : List Token) → Derives x (table InnerAttribute) r
    → Derives x (table InnerAttribute) s
unfolding table
attribute_anywhere (Pair x (Pair y z)) r s (d, (e, f)) = (
  sign_anywhere x 35 ((flat y ++ flat z) ++ r) ((flat y ++ flat z) ++ s) d,
  (sign_anywhere y 33 (flat z ++ r) (flat z ++ s) e, bracket_anywhere z _ r s f),
)
attribute_anywhere (Pair x _) r s (d, e) = absurd e
attribute_anywhere _ r s d = absurd d

inner_anywhere : (x : Tree) (r s : List Token) → Derives x (ref InnerAttribute) r → Derives x (ref InnerAttribute) s
inner_anywhere (Node k x) r s d = (
  d.0,
  subst (λ i. Derives x (table i) s) (sym d.0)
      (attribute_anywhere x r s (subst (λ i. Derives x (table i) r) d.0 d.1)),
)
inner_anywhere _ r s d = absurd d

seen_first : (o : Option (List Token)) (k : Look) → seen (behind o k) ≡ true → seen o ≡ true
seen_first None k h = h
seen_first (Some ts) k h = refl

seen_both : (o : Option (List Token)) (l k : Look) → seen (behind o (l then k)) ≡ true → seen (behind o l) ≡ true
seen_both None l k h = h
seen_both (Some ts) l k h = seen_first (l ts) k h

is_marked : (ts : List Token) → bracketed ts → marked ts
is_marked ts h = seen_both (marks "#" ts) (marks "!") (opens Bracket) h

pub attributes_before : (xs : List Tree) (r s : List Token) → Derives (in_turn xs) (table InnerAttributes) r
    → sees inner s ≡ false → Derives (in_turn xs) (table InnerAttributes) s
unfolding table
attributes_before [] r s d n = n
attributes_before (x ∷ xs) r s d n = (
  is_marked (flat x ++ flat (in_turn xs) ++ s)
      (subst bracketed (sym (append_assoc (flat x) (flat (in_turn xs)) s))
      (inner_opens x (flat (in_turn xs) ++ r) (flat (in_turn xs) ++ s) d.1)),
  inner_anywhere x (flat (in_turn xs) ++ r) (flat (in_turn xs) ++ s) d.1,
  attributes_before xs r s d.2 n,
)

-- none stands behind them
none_behind : (xs : List Tree) (r : List Token) → Derives (in_turn xs) (table InnerAttributes) r
    → sees inner r ≡ false
unfolding table
none_behind [] r d = d
none_behind (x ∷ xs) r d = none_behind xs r d.2

-- files, by their attributes and items
made_file : (ts : List Token) (xs ys : List Tree)
    → Derives (in_turn xs) (table InnerAttributes) (flat (in_turn ys) ++ []) → Derives (in_turn ys) (table Items) []
    → flat (in_turn xs) ++ flat (in_turn ys) ≡ ts → IsFile ts (file_of xs ys)
unfolding table
made_file ts xs ys d e s = record { derived = (refl, ((refl, d), (refl, e))); spelled = s }

joined_parts : (ts us : List Token) (xs ys zs : List Tree)
    → Derives (in_turn xs) (table InnerAttributes) (flat (in_turn ys) ++ []) → Derives (in_turn ys) (table Items) []
    → Derives (in_turn zs) (table Items) [] → sees inner (flat (in_turn zs) ++ []) ≡ false
    → flat (in_turn xs) ++ flat (in_turn ys) ≡ ts → flat (in_turn zs) ≡ us → IsFile (ts ++ us) (file_of xs (ys ++ zs))
joined_parts ts us xs ys zs d e f n s t =
    made_file (ts ++ us) xs (ys ++ zs)
    (attributes_before xs (flat (in_turn ys) ++ []) (flat (in_turn (ys ++ zs)) ++ []) d
    (items_unmarked ys zs e (none_behind xs (flat (in_turn ys) ++ []) d) n))
    (items_joined ys zs e f)
    (ap (λ vs. flat (in_turn xs) ++ vs) (flat_both ys zs)
    ∙ sym (append_assoc (flat (in_turn xs)) (flat (in_turn ys)) (flat (in_turn zs)))
    ∙ ap (λ vs. vs ++ flat (in_turn zs)) s ∙ ap (λ vs. ts ++ vs) t)

pub joined_files : (ts us : List Token) (t u : Tree) → IsFile ts t → IsFile us u → attributes_of u ≡ []
    → IsFile (ts ++ us) (file_of (attributes_of t) (items_of t ++ items_of u))
joined_files ts us t u f g none =
    let p = parts t f.derived in
    let q = parts u g.derived in
    let empty : q.attributes ≡ [] = sym (attributes_are u q) ∙ none in
    let unmarked = none_behind q.attributes (flat (in_turn q.items) ++ []) q.front in
    let spelled_t : flat (in_turn p.attributes) ++ flat (in_turn p.items) ≡ ts = ap flat (sym p.is) ∙ f.spelled in
    let spelled_u : flat (in_turn q.items) ≡ us =
    ap (λ xs. flat (in_turn xs) ++ flat (in_turn q.items)) (sym empty) ∙ ap flat (sym q.is) ∙ g.spelled in
    let made = joined_parts ts us p.attributes p.items q.items p.front p.listed q.listed unmarked spelled_t spelled_u in
    subst (λ xs. IsFile (ts ++ us) (file_of xs (items_of t ++ items_of u))) (sym (attributes_are t p))
    (subst (λ ys. IsFile (ts ++ us) (file_of p.attributes (ys ++ items_of u))) (sym (items_are t p))
    (subst (λ zs. IsFile (ts ++ us) (file_of p.attributes (p.items ++ zs))) (sym (items_are u q)) made))

-- a file that has attributes of its own begins with # and !, and no other does
abbrev pub Begun : List Tree → List Token → Type 0
Begun attributes ts =
    ((attributes ≡ []) × (sees inner ts ≡ false)) ⊎ ((attributes ≡ [] → ⊥) × (sees inner ts ≡ true))

parts_begun : (xs ys : List Tree) → Derives (in_turn xs) (table InnerAttributes) (flat (in_turn ys) ++ [])
    → Begun xs (flat (in_turn xs) ++ flat (in_turn ys))
unfolding table
parts_begun [] ys d = inl (refl, ap (sees inner) (sym (append-nil (flat (in_turn ys)))) ∙ d)
parts_begun (x ∷ xs) ys d =
    inr
    (λ e. cc, ap (λ us. sees inner (flat x ++ flat (in_turn xs) ++ us)) (sym (append-nil (flat (in_turn ys)))) ∙ d.0)

pub begun : (ts : List Token) (t : Tree) → IsFile ts t → Begun (attributes_of t) ts
begun ts t f =
    let p = parts t f.derived in
    subst (λ xs. Begun xs ts) (sym (attributes_are t p))
    (subst (λ us. Begun p.attributes us) (ap flat (sym p.is) ∙ f.spelled)
    (parts_begun p.attributes p.items p.front))
