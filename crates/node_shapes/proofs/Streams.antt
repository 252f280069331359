-- Tokens of trees in parts: what a tree is read of are trees by themselves.
use Rattle.std.specs.Prelude.{◌≡◌, ℕ, zero, suc, ◌+◌, Bool, true, false, not, ◌&&◌, List, []}
use Rattle.std.specs.Prelude.{◌∷◌, ◌++◌, length, refl}
use Rattle.std.proofs.Common.{◌∙◌, ap, append_assoc, arith, sym}
use Rattle.rust_leaf.specs.Mark.{is_mark}
use Rattle.rust_leaf.specs.Minus.{starts_with_minus}
use Rattle.rust_leaf.specs.declared.punct.Spacing.{Spacing}
use Rattle.rust_leaf.specs.declared.punct.Spacing.TheVariants.{Joint}
use Rattle.proc_macro2.specs.Groups.{same_delimiter}
use Rattle.proc_macro2.specs.Token.{Token, Opens, Closes, Ident, Literal, Punct}
use Rattle.proc_macro2.specs.declared.delimiter.Delimiter.{Delimiter}
use Rattle.syn_grammar.specs.Kind.{Position}
use Rattle.syn_grammar.specs.Tree.{Tree, AWord, ALiteral, AMark, ALifetime, Raw, Nil, Pair, First, Second, End, Again}
use Rattle.syn_grammar.specs.Tree.{Final, More, Group, Dropped, Called, Verbatim, Node, Whole, Alone, Front, Back}
use Rattle.syn_grammar.specs.Tree.{Infix, marks, flat}
use Rattle.syn_grammar.specs.Gram.{Gram, word, literal, mark, lifetime, raw, nothing, seq, alt, star, many, group}
use Rattle.syn_grammar.specs.Gram.{judged, dropped, called, ref, operand, closes_all}
use Rattle.syn_grammar.specs.Table.{table}
use Rattle.syn_grammar.specs.Derives.{Derives, Bound}
use Rattle.syn_grammar.specs.Forms.{inside}
use Rattle.node_shapes.specs.Streams.{stand, are_trees}

-- tokens among which each group that opens is closed, and no other
record IsLevel (xs : List Token) : Type 0 where
  by : (n : ℕ) (us : List Token) → closes_all n (xs ++ us) ≡ closes_all n us

level_none : IsLevel []
level_none = record { by = λ n us. refl }

level_both : (xs ys : List Token) → IsLevel xs → IsLevel ys → IsLevel (xs ++ ys)
level_both xs ys a b = record {
  by = λ n us. ap (closes_all n) (append_assoc xs ys us) ∙ a.by n (ys ++ us) ∙ b.by n us;
}

level_word : (cs : List ℕ) → IsLevel (Ident cs ∷ [])
level_word cs = record { by = λ n us. refl }

level_quoted : (cs : List ℕ) → IsLevel (Literal cs ∷ [])
level_quoted cs = record { by = λ n us. refl }

level_sign : (c : ℕ) (spacing : Spacing) → IsLevel (Punct c spacing ∷ [])
level_sign c spacing = record { by = λ n us. refl }

level_marks : (c : ℕ) (cs : List ℕ) (spacing : Spacing) → IsLevel (marks c cs spacing)
level_marks c [] spacing = level_sign c spacing
level_marks c (d ∷ ds) spacing =
    level_both (Punct c Joint ∷ []) (marks d ds spacing) (level_sign c Joint) (level_marks d ds spacing)

level_group : (d : Delimiter) (xs : List Token) → IsLevel xs → IsLevel (Opens d ∷ xs ++ Closes d ∷ [])
level_group d xs a = record {
  by = λ n us. ap (closes_all (suc n)) (append_assoc xs (Closes d ∷ []) us) ∙ a.by (suc n) (Closes d ∷ us);
}

-- behind n more that are open
closes_behind : (m n k : ℕ) (xs us : List Token) → k ≡ m + n → closes_all m xs ≡ true
    → closes_all k (xs ++ us) ≡ closes_all n us
closes_behind m n k (Opens d ∷ xs) us e h = closes_behind (suc m) n (suc k) xs us (omega (arith, e)) h
closes_behind m n k (Ident cs ∷ xs) us e h = closes_behind m n k xs us e h
closes_behind m n k (Literal cs ∷ xs) us e h = closes_behind m n k xs us e h
closes_behind m n k (Punct c spacing ∷ xs) us e h = closes_behind m n k xs us e h
closes_behind zero n k (Closes d ∷ xs) us e h = cc
closes_behind (suc m) n zero (Closes d ∷ xs) us e h = absurd (omega (arith, e))
closes_behind (suc m) n (suc k) (Closes d ∷ xs) us e h = closes_behind m n k xs us (omega (arith, e)) h
closes_behind zero n k [] us e h = let f : k ≡ n = omega (arith, e) in ap (λ i. closes_all i us) f
closes_behind (suc m) n k [] us e h = cc

level_raw : (xs : List Token) → closes_all 0 xs ≡ true → IsLevel xs
level_raw xs h = record { by = λ n us. closes_behind 0 n n xs us (omega arith) h }

-- each tree's tokens are
mutual
  level : (x : Tree) (g : Gram) (r : List Token) → Derives x g r → IsLevel (flat x)
  level (AWord cs) (word p) r d = level_word cs
  level (ALiteral cs) (literal p) r d = level_quoted cs
  level (AMark c cs spacing) (mark e es) r d = level_marks c cs spacing
  level (ALifetime cs) lifetime r d =
      level_both (Punct 39 Joint ∷ []) (Ident cs ∷ []) (level_sign 39 Joint) (level_word cs)
  level (Raw ts) raw r d = level_raw ts d.0
  level Nil nothing r d = level_none
  level (Pair x y) (seq a b) r d = level_both (flat x) (flat y) (level x a (flat y ++ r) d.0) (level y b r d.1)
  level (First x) (alt t a b) r d = level x a r d.1
  level (Second x) (alt t a b) r d = level x b r d.1
  level End (star t g) r d = level_none
  level (Again x y) (star t g) r d =
      level_both (flat x) (flat y) (level x g (flat y ++ r) d.1) (level y (star t g) r d.2)
  level End (many e c g) r d = level_none
  level (Final x) (many e c g) r d = level x g r d.1
  level (More x m spacing y) (many e c g) r d =
      level_both (flat x) (Punct m spacing ∷ flat y) (level x g (Punct m spacing ∷ flat y ++ r) d.2)
      (level_both (Punct m spacing ∷ []) (flat y) (level_sign m spacing) (level y (many e c g) r d.3))
  level (Group e x) (group f g) r d = level_group e (flat x) (level x g [] d.1)
  level (First x) (judged v g) r d = level x g r d.1
  level (Verbatim x) (judged v g) r d = level x g r d.1
  level (Dropped x) (dropped g) r d = level x g r d
  level (Called n x) (called m g) r d = level x g r d.1
  level (Node k x) (ref l) r d = level x (table k) r d.1
  level (Whole x) (operand p n) r d = level_form x p r d.1
  level _ _ r d = absurd d

  level_form : (x : Tree) (p : Position) (r : List Token) → Bound p x r → IsLevel (flat x)
  level_form (Alone k y) p r d = level y (table k) r d.1
  level_form (Front k y x) p r d =
      level_both (flat y) (flat x) (level y (table k) (flat x ++ r) d.1) (level_form x (inside p k) r d.4)
  level_form (Back l k y) p r d =
      level_both (flat l) (flat y) (level_form l p (flat y ++ r) d.4) (level y (table k) r d.1)
  level_form (Infix l k y z) p r d =
      level_both (flat l) (flat y ++ flat z) (level_form l p (flat y ++ (flat z ++ r)) d.4)
      (level_both (flat y) (flat z) (level y (table k) (flat z ++ r) d.1) (level_form z (inside p k) r d.6))
  level_form _ p r d = absurd d

both : (a b : Bool) → (a && b) ≡ true → (a ≡ true) × (b ≡ true)
both true b e = (refl, e)
both false b e = cc

join : (a b : Bool) → a ≡ true → b ≡ true → (a && b) ≡ true
join true b e h = h
join false b e h = cc

-- tokens that close what is open before them, and what is behind them
stand_split : (ts : List Token) (m : ℕ) (es ds : List Delimiter) (us : List Token) → length es ≡ m
    → closes_all m ts ≡ true → stand (es ++ ds) (ts ++ us) ≡ true
    → (stand es ts ≡ true) × (stand ds us ≡ true)
stand_split [] zero [] ds us l c h = (refl, h)
stand_split [] zero (e ∷ es) ds us l c h = absurd (omega (arith, l))
stand_split [] (suc m) es ds us l c h = cc
stand_split (Opens d ∷ ts) m es ds us l c h = stand_split ts (suc m) (d ∷ es) ds us (omega (arith, l)) c h
stand_split (Closes d ∷ ts) zero es ds us l c h = cc
stand_split (Closes d ∷ ts) (suc m) [] ds us l c h = absurd (omega (arith, l))
stand_split (Closes d ∷ ts) (suc m) (e ∷ es) ds us l c h =
    let q = both (same_delimiter e d) (stand (es ++ ds) (ts ++ us)) h in
    let r = stand_split ts m es ds us (omega (arith, l)) c q.1 in
    (join (same_delimiter e d) (stand es ts) q.0 r.0, r.1)
stand_split (Ident cs ∷ ts) m es ds us l c h = stand_split ts m es ds us l c h
stand_split (Literal cs ∷ ts) m es ds us l c h =
    let q = both (not (starts_with_minus cs)) (stand (es ++ ds) (ts ++ us)) h in
    let r = stand_split ts m es ds us l c q.1 in
    (join (not (starts_with_minus cs)) (stand es ts) q.0 r.0, r.1)
stand_split (Punct p spacing ∷ ts) m es ds us l c h =
    let q = both (is_mark p) (stand (es ++ ds) (ts ++ us)) h in
    let r = stand_split ts m es ds us l c q.1 in (join (is_mark p) (stand es ts) q.0 r.0, r.1)

closed : (xs : List Token) → IsLevel xs → closes_all 0 xs ≡ true
closed xs a = ap (closes_all 0) (sym (append_none xs)) ∙ a.by 0 []
  where
    append_none : (xs : List Token) → xs ++ [] ≡ xs
    append_none [] = refl
    append_none (y ∷ ys) = ap (λ zs. y ∷ zs) (append_none ys)

-- the tokens of a tree that was read, and what is behind them
pub split : (x : Tree) (g : Gram) (r : List Token) → Derives x g r → (ds : List Delimiter) (us : List Token)
    → stand ds (flat x ++ us) ≡ true → (are_trees (flat x) ≡ true) × (stand ds us ≡ true)
split x g r d ds us h = stand_split (flat x) 0 [] ds us refl (closed (flat x) (level x g r d)) h

pub split_form : (x : Tree) (p : Position) (r : List Token) → Bound p x r
    → (ds : List Delimiter) (us : List Token)
    → stand ds (flat x ++ us) ≡ true → (are_trees (flat x) ≡ true) × (stand ds us ≡ true)
split_form x p r d ds us h = stand_split (flat x) 0 [] ds us refl (closed (flat x) (level_form x p r d)) h

-- behind a mark
pub behind_mark : (c : ℕ) (spacing : Spacing) (ts : List Token) → are_trees (Punct c spacing ∷ ts) ≡ true
    → are_trees ts ≡ true
behind_mark c spacing ts h = (both (is_mark c) (stand [] ts) h).1
