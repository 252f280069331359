-- The tokens of trees tell where each tree ends.
use Rattle.std.proofs.Common.{◌≡◌, List, [], ◌∷◌, ◌++◌, Option, Some, None, Bool, true, false, refl, sym, ap, ◌∙◌}
use Rattle.std.proofs.Common.{subst, append_assoc, map}
use Rattle.std.proofs.lemmas.List.{append_cancel_left}
use Rattle.rust_map.specs.declared.span.Span.{Span}
use Rattle.proc_macro2.specs.declared.tree.TokenTree.{TokenTree}
use Rattle.proc_macro2.specs.declared.tree.TokenTree.TheVariants as tree
use Rattle.proc_macro2.specs.Token.{Delimiter, Token, Opens, Closes, Spanned}
use Rattle.proc_macro2.specs.Groups.{groups_behind, groups_open, IsMatched, GroupsAreMatched}
use Rattle.proc_macro2.specs.Flat.{spanned, tree_tokens, trees_tokens}
use Rattle.proc_macro2.proofs.GroupLemmas.{after, none_some, some_same}

head_same : {X : Type 0} {x y : X} {xs ys : List X} → x ∷ xs ≡ y ∷ ys → x ≡ y
head_same e = cc

tail_same : {X : Type 0} {x y : X} {xs ys : List X} → x ∷ xs ≡ y ∷ ys → xs ≡ ys
tail_same e = cc

-- no closing token stands where matched tokens end, and then goes on with them
closes_none : (ds : List Delimiter) (t c : Spanned) (d : Delimiter) (tt : List Spanned) → c.token ≡ Closes d → ds ≡ []
    → c ≡ t → after (groups_behind ds t.token) tt ≡ Some [] → ⊥
closes_none ds t c d tt p q e n =
    none_some (sym (ap (λ x. after (groups_behind [] x) tt) (ap (λ s. s.token) (sym e) ∙ p))
    ∙ sym (ap (λ x. after (groups_behind x t.token) tt) q) ∙ n)

-- matched tokens before a closing token are the same ones
inside_same : (ds : List Delimiter) (ss tt : List Spanned) (c k : Spanned) (d e : Delimiter) (xs ys : List Spanned)
    → c.token ≡ Closes d → k.token ≡ Closes e →
    groups_open ds ss ≡ Some [] → groups_open ds tt ≡ Some [] → ss ++ c ∷ xs ≡ tt ++ k ∷ ys → ss ≡ tt
inside_same ds [] [] c k d e xs ys p q m n h = refl
inside_same ds [] (t ∷ tt) c k d e xs ys p q m n h = absurd (closes_none ds t c d tt p (some_same m) (head_same h) n)
inside_same ds (s ∷ ss) [] c k d e xs ys p q m n h =
    absurd (closes_none ds s k e ss q (some_same n) (sym (head_same h)) m)
inside_same ds (s ∷ ss) (t ∷ tt) c k d e xs ys p q m n h =
    let same : s ≡ t = head_same h in
    ap (λ x. x ∷ ss) same ∙ ap (λ r. t ∷ r)
    (past (λ fs m' n'. inside_same fs ss tt c k d e xs ys p q m' n' (tail_same h)) (groups_behind ds s.token) m
    (subst (λ x. after (groups_behind ds x.token) tt ≡ Some []) (sym same) n))
  where
    past : ((fs : List Delimiter) → groups_open fs ss ≡ Some [] → groups_open fs tt ≡ Some [] → ss ≡ tt)
        → (o : Option (List Delimiter)) → after o ss ≡ Some [] → after o tt ≡ Some [] → ss ≡ tt
    past more None m' n' = absurd (none_some m')
    past more (Some fs) m' n' = more fs m' n'

abbrev opens : Token → Bool
opens (Opens d) = true
opens _ = false

-- a tree's tokens: one that opens nothing, or a group's
data Shape (tokens : List Spanned) : Type 0 where
  leaf : (x : Spanned) → tokens ≡ x ∷ [] → opens x.token ≡ false → Shape tokens
  node : (d : Delimiter) (span : Span) (inside : List Spanned)
      → tokens ≡ spanned (Opens d) span ∷ inside ++ spanned (Closes d) span ∷ [] → IsMatched inside → Shape tokens

first_same : (a b xs ys : List Spanned) → Shape a → Shape b → a ++ xs ≡ b ++ ys → a ≡ b
first_same a b xs ys (leaf x e o) (leaf y f p) h = e
    ∙ ap (λ z. z ∷ []) (head_same (sym (ap (λ r. r ++ xs) e) ∙ h ∙ ap (λ r. r ++ ys) f)) ∙ sym f
first_same a b xs ys (leaf x e o) (node d span ss f m) h = let z : x ≡ spanned (Opens d) span =
    head_same (sym (ap (λ r. r ++ xs) e) ∙ h ∙ ap (λ r. r ++ ys) f) in let w : true ≡ false =
    sym (ap (λ s. opens s.token) z) ∙ o in cc
first_same a b xs ys (node d span ss e m) (leaf y f p) h = let z : spanned (Opens d) span ≡ y =
    head_same (sym (ap (λ r. r ++ xs) e) ∙ h ∙ ap (λ r. r ++ ys) f) in let w : true ≡ false = ap (λ s. opens s.token) z
    ∙ p in cc
first_same a b xs ys (node d span ss e m) (node c place tt f n) h =
    let all = sym (ap (λ r. r ++ xs) e) ∙ h ∙ ap (λ r. r ++ ys) f in
    let z : spanned (Opens d) span ≡ spanned (Opens c) place = head_same all in
    let rest : ss ++ spanned (Closes d) span ∷ xs ≡ tt ++ spanned (Closes c) place ∷ ys =
    sym (append_assoc ss (spanned (Closes d) span ∷ []) xs) ∙ tail_same all
    ∙ append_assoc tt (spanned (Closes c) place ∷ []) ys in
    let inside : ss ≡ tt = inside_same [] ss tt _ _ d c xs ys refl refl m n rest in
    e ∙ group_same d c span place ss tt z inside ∙ sym f
  where
    group_same : (d c : Delimiter) (span place : Span) (ss tt : List Spanned)
        → spanned (Opens d) span ≡ spanned (Opens c) place → ss ≡ tt →
        spanned (Opens d) span ∷ ss ++ spanned (Closes d) span ∷ []
        ≡ spanned (Opens c) place ∷ tt ++ spanned (Closes c) place ∷ []
    group_same d c span place ss tt z i =
        ap (λ r. spanned (Opens d) span ∷ r ++ spanned (Closes d) span ∷ []) i
        ∙ ap (λ (s : Spanned). s ∷ tt ++ closing s ∷ []) z
      where
        closing : Spanned → Spanned
        closing s = spanned (closes s.token) s.span
          where
            closes : Token → Token
            closes (Opens x) = Closes x
            closes t = t

shape : (t : TokenTree) (ts : List TokenTree) → GroupsAreMatched (t ∷ ts) → Shape (tree_tokens t) × GroupsAreMatched ts
shape (tree.Group g) ts m = (node g.delimiter g.span g.stream refl m.0, m.1)
shape (tree.Ident i) ts m = (leaf _ refl refl, m)
shape (tree.Punct p) ts m = (leaf _ refl refl, m)
shape (tree.Literal l) ts m = (leaf _ refl refl, m)

some_tokens : (t : TokenTree) (ts : List TokenTree) → trees_tokens (t ∷ ts) ≡ [] → ⊥
some_tokens (tree.Group g) ts e = cc
some_tokens (tree.Ident i) ts e = cc
some_tokens (tree.Punct p) ts e = cc
some_tokens (tree.Literal l) ts e = cc

pub one_list : (ts us : List TokenTree) → GroupsAreMatched ts → GroupsAreMatched us → trees_tokens ts ≡ trees_tokens us
    → map tree_tokens ts ≡ map tree_tokens us
one_list [] [] m n e = refl
one_list [] (u ∷ us) m n e = absurd (some_tokens u us (sym e))
one_list (t ∷ ts) [] m n e = absurd (some_tokens t ts e)
one_list (t ∷ ts) (u ∷ us) m n e =
    let a = shape t ts m in
    let b = shape u us n in
    let same : tree_tokens t ≡ tree_tokens u =
    first_same (tree_tokens t) (tree_tokens u) (trees_tokens ts) (trees_tokens us) a.0 b.0 e in
    let rest : trees_tokens ts ≡ trees_tokens us =
    append_cancel_left (tree_tokens u) (trees_tokens ts) (trees_tokens us)
    (sym (ap (λ r. r ++ trees_tokens ts) same) ∙ e) in
    ap (λ x. x ∷ map tree_tokens ts) same ∙ ap (λ r. tree_tokens u ∷ r) (one_list ts us a.1 b.1 rest)
