-- Behind a path that was read and its ! a test sees what it sees behind these alone.
use Rattle.std.proofs.Common.{◌≡◌, ℕ, zero, suc, List, [], ◌∷◌, ◌++◌, length, refl, sym, ap, ◌∙◌, subst, append_assoc}
use Rattle.std.proofs.Common.{inl, inr}
use Rattle.std.specs.Prelude.{true, cond, Some, None}
use Rattle.std.proofs.lemmas.Bool.{false≢true}
use Rattle.proc_macro2.specs.Token.{Token, Ident, Punct}
use Rattle.rust_leaf.specs.declared.punct.Spacing.{Spacing}
use Rattle.rust_leaf.specs.declared.punct.Spacing.TheVariants.{Alone as Apart, Joint}
use Rattle.syn_grammar.specs.Kind.{InModule, Path, Segments}
use Rattle.syn_grammar.specs.Words.{is_name}
use Rattle.syn_grammar.specs.Tree.{Tree, AMark, AWord, First, Nil, Node, Pair, Second, marks as signs, flat}
use Rattle.syn_grammar.specs.Look.{Look, ◌then◌, a_path, as_far, behind, first_seen, repeatedly, seen, sees}
use Rattle.syn_grammar.specs.Say.{marks}
use Rattle.syn_grammar.specs.Table.{table}
use Rattle.syn_grammar.specs.Derives.{Derives}
use Rattle.laws_reread.proofs.Paths.{one_more, is_named}

-- behind a name: further names, as many as there are turns, and then a !
abbrev plus : ℕ → ℕ → ℕ
plus zero m = m
plus (suc n) m = suc (plus n m)

plus_suc : (n m : ℕ) → plus n (suc m) ≡ suc (plus n m)
plus_suc zero m = refl
plus_suc (suc n) m = ap suc (plus_suc n m)

record Chain (j : Spacing) (vs us : List Token) : Type 0 where
  count : ℕ
  left : ℕ
  turns : length us ≡ plus count left
  far : (m : ℕ) → as_far (plus count m) one_more us ≡ Some (Punct 33 j ∷ vs)

-- tokens that begin with the name of a macro
record Named (j : Spacing) (vs us : List Token) : Type 0 where
  text : List ℕ
  rest : List Token
  is : us ≡ Ident text ∷ rest
  passes : is_name text ≡ true
  chain : Chain j vs rest

none_at : (j : Spacing) (vs : List Token) (m : ℕ) → as_far m one_more (Punct 33 j ∷ vs) ≡ Some (Punct 33 j ∷ vs)
none_at j vs zero = refl
none_at Apart vs (suc m) = refl
none_at Joint vs (suc m) = refl

chain_end : (j : Spacing) (vs : List Token) → Chain j vs (Punct 33 j ∷ vs)
chain_end j vs = record { count = 0; left = length (Punct 33 j ∷ vs); turns = refl; far = none_at j vs }

chain_more : (j : Spacing) (vs : List Token) (i : Spacing) (us : List Token) → Named j vs us
    → Chain j vs (Punct 58 Joint ∷ Punct 58 i ∷ us)
chain_more j vs i us n = subst (λ ws. Chain j vs (Punct 58 Joint ∷ Punct 58 i ∷ ws)) (sym n.is) record {
  count = suc n.chain.count;
  left = suc (suc n.chain.left);
  turns = ap (λ m. suc (suc (suc m))) n.chain.turns
      ∙ sym (ap suc (plus_suc n.chain.count (suc n.chain.left) ∙ ap suc (plus_suc n.chain.count n.chain.left)));
  far = λ m. ap (λ b. first_seen (behind (cond b (Some n.rest) None)
      (as_far (plus n.chain.count m) one_more)) (Some (Punct 58 Joint ∷ Punct 58 i ∷ Ident n.text ∷ n.rest)))
      n.passes
      ∙ ap (λ o. first_seen o (Some (Punct 58 Joint ∷ Punct 58 i ∷ Ident n.text ∷ n.rest))) (n.chain.far m);
}

-- the names of a path
a_named : (j : Spacing) (vs : List Token) (cs : List ℕ) (us : List Token) → is_name cs ≡ true → Chain j vs us
    → Named j vs (Ident cs ∷ us)
a_named j vs cs us h c = record { text = cs; rest = us; is = refl; passes = h; chain = c }

behind_colons : (j : Spacing) (vs : List Token) (c : ℕ) (cs : List ℕ) (i : Spacing) (z : Tree) (ts : List Token)
    → c ≡ 58 → cs ≡ 58 ∷ [] → Named j vs (flat z ++ ts) → Chain j vs ((signs c cs i ++ flat z) ++ ts)
behind_colons j vs c cs i z ts e f n =
    subst (λ d. Chain j vs ((signs d cs i ++ flat z) ++ ts)) (sym e)
    (subst (λ ds. Chain j vs ((signs 58 ds i ++ flat z) ++ ts)) (sym f) (chain_more j vs i (flat z ++ ts) n))

segments_named : (z : Tree) (j : Spacing) (vs r : List Token) → Derives z (table (Segments InModule)) r
    → Named j vs (flat z ++ Punct 33 j ∷ vs)
unfolding table
segments_named (First (Pair (AWord cs) (First (Pair (AMark c ms i) (Node k z))))) j vs r d =
    a_named j vs cs _ (is_named cs (inr d.1.0))
    (behind_colons j vs c ms i z _ d.1.1.1.0.0 d.1.1.1.0.1
    (segments_named z j vs r (subst (λ l. Derives z (table l) r) d.1.1.1.1.0 d.1.1.1.1.1)))
segments_named (First (Pair (AWord cs) (First (Pair (AMark c ms i) _)))) j vs r d = absurd d.1.1.1.1
segments_named (First (Pair (AWord cs) (First (Pair _ y)))) j vs r d = absurd d.1.1.1.0
segments_named (First (Pair (AWord cs) (First _))) j vs r d = absurd d.1.1.1
segments_named (First (Pair (AWord cs) (Second Nil))) j vs r d =
    a_named j vs cs _ (is_named cs (inr d.1.0)) (chain_end j vs)
segments_named (First (Pair (AWord cs) (Second _))) j vs r d = absurd d.1.1.1
segments_named (First (Pair (AWord cs) _)) j vs r d = absurd d.1.1
segments_named (First (Pair _ y)) j vs r d = absurd d.1.0
segments_named (First _) j vs r d = absurd d.1
segments_named (Second (Pair (AWord cs) (First x))) j vs r d = absurd (false≢true d.1.1.0)
segments_named (Second (Pair (AWord cs) (Second (First (Pair (AMark c ms i) (Node k z)))))) j vs r d =
    a_named j vs cs _ (is_named cs (inl d.1.0))
    (behind_colons j vs c ms i z _ d.1.1.1.1.0.0 d.1.1.1.1.0.1
    (segments_named z j vs r (subst (λ l. Derives z (table l) r) d.1.1.1.1.1.0 d.1.1.1.1.1.1)))
segments_named (Second (Pair (AWord cs) (Second (First (Pair (AMark c ms i) _))))) j vs r d = absurd d.1.1.1.1.1
segments_named (Second (Pair (AWord cs) (Second (First (Pair _ y))))) j vs r d = absurd d.1.1.1.1.0
segments_named (Second (Pair (AWord cs) (Second (First _)))) j vs r d = absurd d.1.1.1.1
segments_named (Second (Pair (AWord cs) (Second (Second (Second Nil))))) j vs r d =
    a_named j vs cs _ (is_named cs (inl d.1.0)) (chain_end j vs)
segments_named (Second (Pair (AWord cs) (Second (Second (Second _))))) j vs r d = absurd d.1.1.1.1.1
segments_named (Second (Pair (AWord cs) (Second (Second (First y))))) j vs r d = absurd (false≢true d.1.1.1.1.0)
segments_named (Second (Pair (AWord cs) (Second (Second _)))) j vs r d = absurd d.1.1.1.1
segments_named (Second (Pair (AWord cs) (Second _))) j vs r d = absurd d.1.1.1
segments_named (Second (Pair (AWord cs) _)) j vs r d = absurd d.1.1
segments_named (Second (Pair _ y)) j vs r d = absurd d.1.0
segments_named (Second _) j vs r d = absurd d.1
segments_named _ j vs r d = absurd d

-- what is seen behind the path and its !
abbrev IsBehind : Spacing → List Token → List Token → Type 0
IsBehind j vs us = (l : Look) → sees (a_path then marks "!" then l) us ≡ seen (l vs)

name_then : (l : Look) (j : Spacing) (vs : List Token) (cs : List ℕ) (us : List Token) → is_name cs ≡ true
    → Chain j vs us → sees (a_path then marks "!" then l) (Ident cs ∷ us) ≡ seen (l vs)
name_then l j vs cs us h c =
    ap (λ b. seen (behind (behind (cond b (Some us) None) (repeatedly one_more)) (marks "!" then l))) h
    ∙ ap (λ n. seen (behind (as_far n one_more us) (marks "!" then l))) c.turns
    ∙ ap (λ o. seen (behind o (marks "!" then l))) (c.far c.left)

named_behind : (j : Spacing) (vs us : List Token) → Named j vs us → IsBehind j vs us
named_behind j vs us n l =
    ap (sees (a_path then marks "!" then l)) n.is ∙ name_then l j vs n.text n.rest n.passes n.chain

root_behind : (j : Spacing) (vs : List Token) (c : ℕ) (cs : List ℕ) (i : Spacing) (z : Tree) (ts : List Token)
    → c ≡ 58 → cs ≡ 58 ∷ [] → Named j vs (flat z ++ ts) → IsBehind j vs ((signs c cs i ++ flat z) ++ ts)
root_behind j vs c cs i z ts e f n l =
    ap (λ d. sees (a_path then marks "!" then l) ((signs d cs i ++ flat z) ++ ts)) e
    ∙ ap (λ ds. sees (a_path then marks "!" then l) ((signs 58 ds i ++ flat z) ++ ts)) f
    ∙ ap (λ us. sees (a_path then marks "!" then l) (Punct 58 Joint ∷ Punct 58 i ∷ us)) n.is
    ∙ name_then l j vs n.text n.rest n.passes n.chain

path_behind : (x : Tree) (j : Spacing) (vs r : List Token) → Derives x (table (Path InModule)) r
    → IsBehind j vs (flat x ++ Punct 33 j ∷ vs)
unfolding table
path_behind (Pair (First (AMark c cs i)) (Node k z)) j vs r d l =
    root_behind j vs c cs i z _ d.0.1.0 d.0.1.1
    (segments_named z j vs r (subst (λ m. Derives z (table m) r) d.1.0 d.1.1)) l
path_behind (Pair (First (AMark c cs i)) _) j vs r d l = absurd d.1
path_behind (Pair (First _) y) j vs r d l = absurd d.0.1
path_behind (Pair (Second Nil) (Node k z)) j vs r d l =
    named_behind j vs _ (segments_named z j vs r (subst (λ m. Derives z (table m) r) d.1.0 d.1.1)) l
path_behind (Pair (Second Nil) _) j vs r d l = absurd d.1
path_behind (Pair (Second _) y) j vs r d l = absurd d.0.1
path_behind (Pair _ y) j vs r d l = absurd d.0
path_behind _ j vs r d l = absurd d

-- with the path and the ! as they were read
bang_is : (c : ℕ) (cs : List ℕ) (i : Spacing) (ts : List Token) → c ≡ 33 → cs ≡ []
    → signs c cs i ++ ts ≡ Punct 33 i ∷ ts
bang_is c cs i ts e f = ap (λ d. signs d cs i ++ ts) e ∙ ap (λ ds. signs 33 ds i ++ ts) f

pub call_behind : (x : Tree) (c : ℕ) (cs : List ℕ) (i : Spacing) (ts q r : List Token) → c ≡ 33 → cs ≡ []
    → Derives x (table (Path InModule)) r → (l : Look)
    → sees (a_path then marks "!" then l) ((flat x ++ (signs c cs i ++ ts)) ++ q) ≡ seen (l (ts ++ q))
call_behind x c cs i ts q r e f d l =
    ap (sees (a_path then marks "!" then l))
    (append_assoc (flat x) (signs c cs i ++ ts) q
    ∙ ap (λ us. flat x ++ us) (append_assoc (signs c cs i) ts q ∙ bang_is c cs i (ts ++ q) e f))
    ∙ path_behind x i (ts ++ q) r d l
