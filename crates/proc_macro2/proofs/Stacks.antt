-- One stack of trees: what is put, what is taken.
use Rattle.std.proofs.Common.{◌≡◌, arith, List, [], ◌∷◌, ◌++◌, refl, sym, ap, ◌∙◌, subst, length, take}
use Rattle.std.proofs.Common.{drop, length-append, take-append-drop}
use Rattle.std.specs.Prelude.{reverse}
use Rattle.std.proofs.Math.Seq.{take-length, drop-length}
use Rattle.std.proofs.lemmas.List.{append-nil, reverse-append, take-append-le, drop-append-le}
use Rattle.std.proofs.lemmas.List.Concat.{flat_map-append}
use Rattle.proc_macro2.specs.Token.{Spanned}
use Rattle.proc_macro2.specs.Flat.{tree_tokens, trees_tokens}
use Rattle.proc_macro2.specs.Stream.{IsStream}
use Rattle.proc_macro2.specs.Stack.{IsStack, IsTaken, IsInnermost, Open, groups_of, inside_of, open_of, parent_of}
use Rattle.proc_macro2.specs.Built.{IsAdded, IsOpened}
use Rattle.proc_macro2.specs.declared.builder.Frame.{Frame}
use Rattle.proc_macro2.specs.declared.tree.TokenTree.{TokenTree}
use Rattle.proc_macro2.proofs.StreamLemmas.{empty_stream, joined_stream}

-- the last frame is the first from behind
pub last_first : (fs gs : List Frame) (f : Frame) → fs ≡ gs ++ f ∷ [] → reverse fs ≡ f ∷ reverse gs
last_first fs gs f e = ap reverse e ∙ reverse-append gs (f ∷ [])

-- more trees
more_tokens : (xs ys : List TokenTree) → IsStream (trees_tokens xs) → IsStream (trees_tokens ys)
    → IsStream (trees_tokens (xs ++ ys))
more_tokens xs ys a b = subst IsStream (sym (flat_map-append tree_tokens xs ys))
    (joined_stream (trees_tokens xs) (trees_tokens ys) a b)

stack_more : (fs : List Frame) (xs ys : List TokenTree) → IsStack fs xs → IsStream (trees_tokens ys)
    → IsStack fs (xs ++ ys)
stack_more [] xs ys a b = more_tokens xs ys a b
stack_more (f ∷ fs) xs ys s b = (
  omega (arith, s.0, length-append xs ys),
  subst (λ ts. IsStream (trees_tokens ts)) (sym (drop-append-le f.mark xs ys s.0))
      (more_tokens (drop f.mark xs) ys s.1 b),
  subst (IsStack fs) (sym (take-append-le f.mark xs ys s.0)) s.2,
)

inside_more : (fs : List Frame) (xs ys : List TokenTree) → IsStack fs xs
    → inside_of fs (xs ++ ys) ≡ inside_of fs xs ++ trees_tokens ys
inside_more [] xs ys s = flat_map-append tree_tokens xs ys
inside_more (f ∷ fs) xs ys s = ap trees_tokens (drop-append-le f.mark xs ys s.0)
    ∙ flat_map-append tree_tokens (drop f.mark xs) ys

groups_more : (fs : List Frame) (xs ys : List TokenTree) → IsStack fs xs → groups_of fs (xs ++ ys) ≡ groups_of fs xs
groups_more [] xs ys s = refl
groups_more (f ∷ fs) xs ys s =
    ap (λ ts. groups_of fs ts ++ parent_of f (inside_of fs ts) ∷ []) (take-append-le f.mark xs ys s.0)

-- one more
pub put_stack : (fs : List Frame) (ts us : List TokenTree) (t : TokenTree) → us ≡ ts ++ t ∷ [] → IsStack fs ts
    → IsStream (tree_tokens t) → IsStack fs us
put_stack fs ts us t e s h =
    subst (IsStack fs) (sym e) (stack_more fs ts (t ∷ []) s (subst IsStream (sym (append-nil (tree_tokens t))) h))

pub is_added : (fs : List Frame) (ts us : List TokenTree) (t : TokenTree) (old : Open) → open_of fs ts ≡ old
    → us ≡ ts ++ t ∷ [] → IsStack fs ts → IsAdded old (open_of fs us) (tree_tokens t)
is_added fs ts us t old v e s = record {
  groups_are = ap (groups_of fs) e ∙ groups_more fs ts (t ∷ []) s ∙ ap (λ (o : Open). o.groups) v;
  inside_is = ap (inside_of fs) e ∙ inside_more fs ts (t ∷ []) s
      ∙ ap (λ x. inside_of fs ts ++ x) (append-nil (tree_tokens t)) ∙ ap (λ (o : Open). o.inside ++ tree_tokens t) v;
}

-- one more group
pub opened_stack : (fs gs : List Frame) (ts : List TokenTree) (f : Frame) → gs ≡ fs ++ f ∷ [] → f.mark ≡ length ts
    → IsStack (reverse fs) ts → IsStack (reverse gs) ts
opened_stack fs gs ts f e m s = subst (λ hs. IsStack hs ts) (sym (last_first gs fs f e)) (
  omega (arith, m),
  subst (λ us. IsStream (trees_tokens us)) (sym (drop-length ts) ∙ ap (λ n. drop n ts) (sym m)) empty_stream,
  subst (IsStack (reverse fs)) (sym (take-length ts) ∙ ap (λ n. take n ts) (sym m)) s,
)

pub is_opened : (fs gs : List Frame) (ts : List TokenTree) (f : Frame) (old : Open) → open_of (reverse fs) ts ≡ old
    → gs ≡ fs ++ f ∷ [] → f.mark ≡ length ts → IsOpened old (open_of (reverse gs) ts) f.delimiter f.count
is_opened fs gs ts f old v e m =
    let all : take f.mark ts ≡ ts = ap (λ n. take n ts) m ∙ take-length ts in
    let none : drop f.mark ts ≡ [] = ap (λ n. drop n ts) m ∙ drop-length ts in
    record {
      groups_are = ap (λ hs. groups_of hs ts) (last_first gs fs f e)
          ∙ ap (λ us. groups_of (reverse fs) us ++ parent_of f (inside_of (reverse fs) us) ∷ []) all
          ∙ ap (λ (o : Open). o.groups ++ parent_of f o.inside ∷ []) v;
      inside_is = ap (λ hs. inside_of hs ts) (last_first gs fs f e) ∙ ap trees_tokens none;
    }

-- one group less
pub popped_stack : (fs gs : List Frame) (ts : List TokenTree) (f : Frame) → fs ≡ gs ++ f ∷ [] → IsStack (reverse fs) ts
    → IsStack (f ∷ reverse gs) ts
popped_stack fs gs ts f e s = subst (λ hs. IsStack hs ts) (last_first fs gs f e) s

-- the trees of a group that isn't taken stay
pub merged_stack : (fs gs : List Frame) (ts : List TokenTree) (f : Frame) → fs ≡ gs ++ f ∷ [] → IsStack (reverse fs) ts
    → IsStack (reverse gs) ts
merged_stack fs gs ts f e s =
    let p = popped_stack fs gs ts f e s in
    subst (IsStack (reverse gs)) (take-append-drop f.mark ts)
    (stack_more (reverse gs) (take f.mark ts) (drop f.mark ts) p.2 p.1)

pub taken_stack : (fs gs : List Frame) (ts us : List TokenTree) (f : Frame) → fs ≡ gs ++ f ∷ [] → us ≡ take f.mark ts
    → IsStack (reverse fs) ts → IsStack (reverse gs) us
taken_stack fs gs ts us f e t s = subst (IsStack (reverse gs)) (sym t) (popped_stack fs gs ts f e s).2

pub is_taken : (fs gs : List Frame) (ts us : List TokenTree) (f : Frame) (old : Open) (stream : List Spanned)
    → open_of (reverse fs) ts ≡ old → fs ≡ gs ++ f ∷ [] → us ≡ take f.mark ts → stream ≡ trees_tokens (drop f.mark ts) →
    IsTaken old (open_of (reverse gs) us) f stream
is_taken fs gs ts us f old stream v e t s = record {
  groups_were = ap (λ (o : Open). o.groups) (sym v) ∙ ap (λ hs. groups_of hs ts) (last_first fs gs f e)
      ∙ ap (λ xs. groups_of (reverse gs) xs ++ parent_of f (inside_of (reverse gs) xs) ∷ []) (sym t);
  stream_is = s ∙ sym (ap (λ hs. inside_of hs ts) (last_first fs gs f e)) ∙ ap (λ (o : Open). o.inside) v;
}

-- the innermost group
pub is_innermost : (fs gs : List Frame) (ts : List TokenTree) (f : Frame) (old : Open) → open_of (reverse fs) ts ≡ old
    → fs ≡ gs ++ f ∷ [] → IsInnermost old.groups f.count
is_innermost fs gs ts f old v e = record {
  others = groups_of (reverse gs) (take f.mark ts);
  group = parent_of f (inside_of (reverse gs) (take f.mark ts));
  are = ap (λ (o : Open). o.groups) (sym v) ∙ ap (λ hs. groups_of hs ts) (last_first fs gs f e);
  count_is = refl;
}
