-- Raw tokens stay as they were read, but for the last mark of a raw item that is set apart.
use Rattle.std.proofs.Common.{◌≡◌, List, [], ◌∷◌, refl, sym, ap, ◌∙◌, subst, inl, inr}
use Rattle.std.specs.Prelude.{◌⊎◌, Bool, true, false}
use Rattle.proc_macro2.specs.Token.{Token, Opens, Closes, Ident, Literal, Punct}
use Rattle.syn_grammar.specs.Kind.{Kind, Plain, AnItem}
use Rattle.syn_grammar.specs.Tree.{Tree, Raw, Pair, First, Second, Again}
use Rattle.syn_grammar.specs.Tree.{Final, More, Group, Dropped, Called, Verbatim, Node, Whole, Alone, Front}
use Rattle.syn_grammar.specs.Tree.{Back, Infix, flat}
use Rattle.syn_grammar.specs.Kept.{kept}
use Rattle.syn_grammar.specs.Normal.{apart, normal}
use Rattle.syn_grammar.proofs.Every.{Every, is_item, no_row, AnyDelimiter, AnyText, AnyMark, AnyTurn, item_kind}
use Rattle.syn_grammar.proofs.Every.{in_node, out_node, every_kept, every_normal}
use Rattle.laws_items.specs.Raws.{IsRaw, HasRaw, HasRawItem, IsSetApart}

abbrev AllRaw : (List Token → Type 0) → (List Token → Type 0) → Tree → Type 0
AllRaw P Q x = Every false AnyTurn AnyDelimiter AnyText AnyText AnyMark P Q x

module _ (P Q : List Token → Type 0) where
  own_item : (x : Tree) → ((ts : List Token) → IsRaw ts x → Q ts) → AllRaw P Q x → AllRaw P Q (Node AnItem x)
  own_item (Raw us) g h = g us refl
  own_item (Verbatim x) g h = g (flat x) refl
  own_item _ g h = h

  of_node : (k : Kind) (x : Tree) → ((ts : List Token) → (k ≡ AnItem) × IsRaw ts x → Q ts) → AllRaw P Q x
      → AllRaw P Q (Node k x)
  of_node k x g h = go (is_item k) refl
    where
      go : (b : Bool) → is_item k ≡ b → AllRaw P Q (Node k x)
      go false e = in_node false AnyTurn AnyDelimiter AnyText AnyText AnyMark P Q k x e (no_row k) h
      go true e =
          subst (λ i. AllRaw P Q (Node i x)) (sym (item_kind k e)) (own_item x (λ ts i. g ts (item_kind k e, i)) h)

  -- what holds of each that a tree has holds of all
  all_own : (x : Tree) → ((ts : List Token) → HasRaw ts x → P ts) → ((ts : List Token) → HasRawItem ts x → Q ts)
      → AllRaw P Q x
  all_own (Raw us) f g = f us refl
  all_own (Verbatim x) f g = f (flat x) refl
  all_own (Pair x y) f g =
      (all_own x (λ ts i. f ts (inl i)) (λ ts i. g ts (inl i)), all_own y (λ ts i. f ts (inr i)) (λ ts i. g ts (inr i)))
  all_own (First x) f g = all_own x f g
  all_own (Second x) f g = all_own x f g
  all_own (Again x y) f g =
      (all_own x (λ ts i. f ts (inl i)) (λ ts i. g ts (inl i)), all_own y (λ ts i. f ts (inr i)) (λ ts i. g ts (inr i)))
  all_own (Final x) f g = all_own x f g
  all_own (More x c spacing y) f g = (
    all_own x (λ ts i. f ts (inl i)) (λ ts i. g ts (inl i)),
    tt,
    all_own y (λ ts i. f ts (inr i)) (λ ts i. g ts (inr i)),
  )
  all_own (Group d x) f g = (tt, all_own x f g)
  all_own (Dropped x) f g = all_own x f g
  all_own (Called n x) f g = all_own x f g
  all_own (Node k x) f g = of_node k x (λ ts i. g ts (inl i)) (all_own x f (λ ts i. g ts (inr i)))
  all_own (Whole x) f g = all_own x f g
  all_own (Alone k y) f g = all_own y f g
  all_own (Front k y x) f g =
      (all_own y (λ ts i. f ts (inl i)) (λ ts i. g ts (inl i)), all_own x (λ ts i. f ts (inr i)) (λ ts i. g ts (inr i)))
  all_own (Back l k y) f g =
      (all_own l (λ ts i. f ts (inl i)) (λ ts i. g ts (inl i)), all_own y (λ ts i. f ts (inr i)) (λ ts i. g ts (inr i)))
  all_own (Infix l k y r) f g = (
    all_own l (λ ts i. f ts (inl i)) (λ ts i. g ts (inl i)),
    all_own y (λ ts i. f ts (inr (inl i))) (λ ts i. g ts (inr (inl i))),
    all_own r (λ ts i. f ts (inr (inr i))) (λ ts i. g ts (inr (inr i))),
  )
  all_own _ f g = tt

-- and of each where it holds of all
module _ (P Q : List Token → Type 0) (ts : List Token) (R : Type 0) (f : P ts → R) (g : Q ts → R) where
  one_item : (x : Tree) → (AllRaw P Q x → HasRaw ts x → R) → AllRaw P Q (Node AnItem x) → HasRaw ts x → R
  one_item (Raw us) r h i = g (subst Q i h)
  one_item (Verbatim x) r h i = g (subst Q i h)
  one_item _ r h i = r h i

  one_node : (k : Kind) (x : Tree) (b : Bool) → is_item k ≡ b → (AllRaw P Q x → HasRaw ts x → R)
      → AllRaw P Q (Node k x) → HasRaw ts x → R
  one_node k x false e r h i =
      r (out_node false AnyTurn AnyDelimiter AnyText AnyText AnyMark P Q k x e (no_row k) h) i
  one_node k x true e r h i = one_item x r (subst (λ j. AllRaw P Q (Node j x)) (item_kind k e) h) i

  either : {A B : Type 0} → (A → R) → (B → R) → A ⊎ B → R
  either a b (inl i) = a i
  either a b (inr i) = b i

  one_own : (x : Tree) → AllRaw P Q x → HasRaw ts x → R
  one_own (Raw us) h i = f (subst P i h)
  one_own (Verbatim x) h i = f (subst P i h)
  one_own (Pair x y) h i = either (λ j. one_own x h.0 j) (λ j. one_own y h.1 j) i
  one_own (First x) h i = one_own x h i
  one_own (Second x) h i = one_own x h i
  one_own (Again x y) h i = either (λ j. one_own x h.0 j) (λ j. one_own y h.1 j) i
  one_own (Final x) h i = one_own x h i
  one_own (More x c spacing y) h i = either (λ j. one_own x h.0 j) (λ j. one_own y h.2 j) i
  one_own (Group d x) h i = one_own x h.1 i
  one_own (Dropped x) h i = one_own x h i
  one_own (Called n x) h i = one_own x h i
  one_own (Node k x) h i = one_node k x (is_item k) refl (λ a b. one_own x a b) h i
  one_own (Whole x) h i = one_own x h i
  one_own (Alone k y) h i = one_own y h i
  one_own (Front k y x) h i = either (λ j. one_own y h.0 j) (λ j. one_own x h.1 j) i
  one_own (Back l k y) h i = either (λ j. one_own l h.0 j) (λ j. one_own y h.1 j) i
  one_own (Infix l k y r) h i =
      either (λ j. one_own l h.0 j) (λ j. either (λ m. one_own y h.1 m) (λ m. one_own r h.2 m) j) i
  one_own _ h i = absurd i

-- the raw tokens of an item are raw tokens
raw_here : (x : Tree) (us : List Token) → IsRaw us x → HasRaw us x
raw_here (Raw vs) us h = h
raw_here (Verbatim x) us h = h
raw_here _ us h = absurd h

raw_of : (x : Tree) (us : List Token) → HasRawItem us x → HasRaw us x
raw_of (Node k x) us (inl h) = raw_here x us h.1
raw_of (Node k x) us (inr h) = raw_of x us h
raw_of (Pair x y) us (inl h) = inl (raw_of x us h)
raw_of (Pair x y) us (inr h) = inr (raw_of y us h)
raw_of (First x) us h = raw_of x us h
raw_of (Second x) us h = raw_of x us h
raw_of (Again x y) us (inl h) = inl (raw_of x us h)
raw_of (Again x y) us (inr h) = inr (raw_of y us h)
raw_of (Final x) us h = raw_of x us h
raw_of (More x c spacing y) us (inl h) = inl (raw_of x us h)
raw_of (More x c spacing y) us (inr h) = inr (raw_of y us h)
raw_of (Group d x) us h = raw_of x us h
raw_of (Dropped x) us h = raw_of x us h
raw_of (Called n x) us h = raw_of x us h
raw_of (Whole x) us h = raw_of x us h
raw_of (Alone k y) us h = raw_of y us h
raw_of (Front k y x) us (inl h) = inl (raw_of y us h)
raw_of (Front k y x) us (inr h) = inr (raw_of x us h)
raw_of (Back l k y) us (inl h) = inl (raw_of l us h)
raw_of (Back l k y) us (inr h) = inr (raw_of y us h)
raw_of (Infix l k y r) us (inl h) = inl (raw_of l us h)
raw_of (Infix l k y r) us (inr (inl h)) = inr (inl (raw_of y us h))
raw_of (Infix l k y r) us (inr (inr h)) = inr (inr (raw_of r us h))
raw_of _ us h = absurd h

-- what is kept has no other raw tokens
pub kept_raws : (x : Tree) (ts : List Token) → HasRaw ts (kept x) → HasRaw ts x
kept_raws x ts i =
    let P : List Token → Type 0 = λ us. HasRaw us x in
    one_own P P ts (HasRaw ts x) (λ h. h) (λ h. h) (kept x)
    (every_kept false AnyTurn AnyDelimiter AnyText AnyText AnyMark P P tt (λ cs. tt) tt tt (λ c cs i h. h) (λ us h. h)
    no_row x (all_own P P x (λ us h. h) (λ us h. raw_of x us h))) i

-- set apart twice is set apart once
some_apart : (t : Token) (ts : List Token) → apart (t ∷ ts) ≡ [] → ⊥
some_apart (Punct c spacing) [] e = cc
some_apart (Punct c spacing) (u ∷ us) e = cc
some_apart (Opens d) ts e = cc
some_apart (Closes d) ts e = cc
some_apart (Ident cs) ts e = cc
some_apart (Literal cs) ts e = cc

apart_twice : (ts : List Token) → apart (apart ts) ≡ apart ts
apart_twice [] = refl
apart_twice (Punct c spacing ∷ []) = refl
apart_twice (Punct c spacing ∷ t ∷ ts) = go (apart (t ∷ ts)) (some_apart t ts) (apart_twice (t ∷ ts))
  where
    go : (us : List Token) → (us ≡ [] → ⊥) → apart us ≡ us → apart (Punct c spacing ∷ us) ≡ Punct c spacing ∷ us
    go [] f e = absurd (f refl)
    go (u ∷ us) f e = ap (λ vs. Punct c spacing ∷ vs) e
apart_twice (Opens d ∷ ts) = ap (λ us. Opens d ∷ us) (apart_twice ts)
apart_twice (Closes d ∷ ts) = ap (λ us. Closes d ∷ us) (apart_twice ts)
apart_twice (Ident cs ∷ ts) = ap (λ us. Ident cs ∷ us) (apart_twice ts)
apart_twice (Literal cs ∷ ts) = ap (λ us. Literal cs ∷ us) (apart_twice ts)

-- of a raw item: its own tokens, or these set apart
abbrev AsItem : Tree → List Token → Type 0
AsItem x ts = (us : List Token) × HasRawItem us x × ((ts ≡ us) ⊎ (ts ≡ apart us))

as_read : (x : Tree) (ts : List Token) → AsItem x ts → HasRaw ts x ⊎ IsSetApart ts x
as_read x ts (us, h, inl e) = inl (subst (λ vs. HasRaw vs x) (sym e) (raw_of x us h))
as_read x ts (us, h, inr e) = inr (us, h, e)

set_apart : (x : Tree) (ts : List Token) → AsItem x ts → AsItem x (apart ts)
set_apart x ts (us, h, inl e) = (us, h, inr (ap apart e))
set_apart x ts (us, h, inr e) = (us, h, inr (ap apart e ∙ apart_twice us))

pub normal_raws : (x : Tree) (ts : List Token) → HasRaw ts (normal x) → HasRaw ts x ⊎ IsSetApart ts x
normal_raws x ts i =
    let P : List Token → Type 0 = λ us. HasRaw us x in
    let Q : List Token → Type 0 = AsItem x in
    one_own P Q ts (HasRaw ts x ⊎ IsSetApart ts x) (λ h. inl h) (λ h. as_read x ts h) (normal x)
    (every_normal false AnyTurn AnyTurn AnyDelimiter AnyText AnyText AnyMark P Q tt (λ c cs i h. h) tt (set_apart x)
    (λ p a b f h. f h) (λ a b f h. f h) Plain x (all_own P Q x (λ us h. h) (λ us h. (us, h, inl refl)))) i
