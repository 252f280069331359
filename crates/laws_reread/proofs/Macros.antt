-- A path before ! and a group begins the form of a macro, wherever that may stand.
use Rattle.std.proofs.Common.{◌≡◌, ℕ, zero, suc, List, [], ◌∷◌, ◌++◌, length, refl, sym, ap, ◌∙◌, subst, append_assoc}
use Rattle.std.proofs.Common.{inl, inr}
use Rattle.std.specs.Prelude.{Bool, true, false, ◌⊎◌, cond, codes, Some, None}
use Rattle.std.proofs.lemmas.Slice.Eq.{bytes_eq-Decides}
use Rattle.std.proofs.lemmas.Bool.{false≢true}
use Rattle.proc_macro2.specs.Token.{Token, Ident, Punct}
use Rattle.rust_leaf.specs.declared.punct.Spacing.{Spacing}
use Rattle.rust_leaf.specs.declared.punct.Spacing.TheVariants.{Alone as Apart, Joint}
use Rattle.syn_grammar.specs.Kind.{Kind, Position, Plain, InCondition, InArm, InStatement, InModule, ExprMacro}
use Rattle.syn_grammar.specs.Kind.{AMacro, Path, Segments}
use Rattle.syn_grammar.specs.Words.{is_bool, is_name, is_path_keyword, is_plain_name}
use Rattle.rust_leaf.specs.Keywords.{is_reserved, same_text}
use Rattle.syn_grammar.specs.Tree.{Tree, AWord, AMark, Nil, Pair, First, Second, Node, marks as signs, flat}
use Rattle.syn_grammar.specs.Look.{Look, ◌then◌, a_path, seen, sees, behind, first_seen, as_far, repeatedly}
use Rattle.syn_grammar.specs.Say.{at, marks}
use Rattle.syn_grammar.specs.Table.{table}
use Rattle.syn_grammar.specs.Kept.{kept}
use Rattle.syn_grammar.specs.Normal.{normal}
use Rattle.syn_grammar.specs.Forms.{front, let_stands, macro_call_stands}
use Rattle.laws_reread_expressions.specs.Behind.{no_operand}
use Rattle.laws_reread_expressions.specs.Formed.{IsFront}
use Rattle.laws_reread_expressions.proofs.Names.{raw_off}
use Rattle.laws_reread_kinds.proofs.Fits.{Fits}
use Rattle.laws_reread_kinds.proofs.Readies.{OwnReady}
use Rattle.laws_reread.proofs.Paths.{bang, one_more, or_macro, root_front, keyword_is, is_named}

-- behind a name: further names, as many as there are turns, and then a !
abbrev plus : ℕ → ℕ → ℕ
plus zero m = m
plus (suc n) m = suc (plus n m)

plus_suc : (n m : ℕ) → plus n (suc m) ≡ suc (plus n m)
plus_suc zero m = refl
plus_suc (suc n) m = ap suc (plus_suc n m)

record Chain (vs us : List Token) : Type 0 where
  count : ℕ
  left : ℕ
  turns : length us ≡ plus count left
  far : (m : ℕ) → as_far (plus count m) one_more us ≡ Some (Punct 33 Apart ∷ vs)
  no_const : sees (at "const") us ≡ false
  no_mut : sees (at "mut") us ≡ false

-- tokens that begin with the name of a macro
record Called (vs us : List Token) : Type 0 where
  text : List ℕ
  rest : List Token
  is : us ≡ Ident text ∷ rest
  passes : (is_plain_name text ≡ true) ⊎ (is_path_keyword text ≡ true)
  chain : Chain vs rest

chain_end : (vs : List Token) → Chain vs (Punct 33 Apart ∷ vs)
chain_end vs = record {
  count = 0;
  left = length (Punct 33 Apart ∷ vs);
  turns = refl;
  far = go;
  no_const = refl;
  no_mut = refl;
}
  where
    go : (m : ℕ) → as_far m one_more (Punct 33 Apart ∷ vs) ≡ Some (Punct 33 Apart ∷ vs)
    go zero = refl
    go (suc m) = refl

chain_more : (vs : List Token) (i : Spacing) (us : List Token) → Called vs us
    → Chain vs (Punct 58 Joint ∷ Punct 58 i ∷ us)
chain_more vs i us n = subst (λ ws. Chain vs (Punct 58 Joint ∷ Punct 58 i ∷ ws)) (sym n.is) record {
  count = suc n.chain.count;
  left = suc (suc n.chain.left);
  turns = ap (λ m. suc (suc (suc m))) n.chain.turns
      ∙ sym (ap suc (plus_suc n.chain.count (suc n.chain.left) ∙ ap suc (plus_suc n.chain.count n.chain.left)));
  far = λ m. ap (λ b. first_seen (behind (cond b (Some n.rest) None)
      (as_far (plus n.chain.count m) one_more)) (Some (Punct 58 Joint ∷ Punct 58 i ∷ Ident n.text ∷ n.rest)))
      (is_named n.text n.passes)
      ∙ ap (λ o. first_seen o (Some (Punct 58 Joint ∷ Punct 58 i ∷ Ident n.text ∷ n.rest))) (n.chain.far m);
  no_const = refl;
  no_mut = refl;
}

-- the names of a path
called : (vs : List Token) (cs : List ℕ) (us : List Token) → (is_plain_name cs ≡ true) ⊎ (is_path_keyword cs ≡ true)
    → Chain vs us → Called vs (Ident cs ∷ us)
called vs cs us h c = record { text = cs; rest = us; is = refl; passes = h; chain = c }

behind_colons : (vs : List Token) (c : ℕ) (cs : List ℕ) (i : Spacing) (z : Tree) (ts : List Token) → c ≡ 58
    → cs ≡ 58 ∷ [] → Called vs (flat z ++ ts) → Chain vs ((signs c cs i ++ flat z) ++ ts)
behind_colons vs c cs i z ts e f n =
    subst (λ d. Chain vs ((signs d cs i ++ flat z) ++ ts)) (sym e)
    (subst (λ ds. Chain vs ((signs 58 ds i ++ flat z) ++ ts)) (sym f) (chain_more vs i (flat z ++ ts) n))

segments_called : (z : Tree) (vs : List Token) → Fits z (table (Segments InModule))
    → Called vs (flat z ++ Punct 33 Apart ∷ vs)
unfolding table
segments_called (First (Pair (AWord cs) (First (Pair (AMark c ms i) (Node k z))))) vs f =
    called vs cs _ (inr f.1.0)
    (behind_colons vs c ms i z _ f.1.1.1.0.0 f.1.1.1.0.1
    (segments_called z vs (subst (λ j. Fits z (table j)) f.1.1.1.1.0 f.1.1.1.1.3)))
segments_called (First (Pair (AWord cs) (First (Pair (AMark c ms i) _)))) vs f = absurd f.1.1.1.1
segments_called (First (Pair (AWord cs) (First (Pair _ y)))) vs f = absurd f.1.1.1.0
segments_called (First (Pair (AWord cs) (First _))) vs f = absurd f.1.1.1
segments_called (First (Pair (AWord cs) (Second Nil))) vs f = called vs cs _ (inr f.1.0) (chain_end vs)
segments_called (First (Pair (AWord cs) (Second _))) vs f = absurd f.1.1.1
segments_called (First (Pair (AWord cs) _)) vs f = absurd f.1.1
segments_called (First (Pair _ y)) vs f = absurd f.1.0
segments_called (First _) vs f = absurd f.1
segments_called (Second (Pair (AWord cs) (First x))) vs f = absurd (false≢true f.1.1.0.1)
segments_called (Second (Pair (AWord cs) (Second (First (Pair (AMark c ms i) (Node k z)))))) vs f =
    called vs cs _ (inl f.1.0)
    (behind_colons vs c ms i z _ f.1.1.1.1.0.0 f.1.1.1.1.0.1
    (segments_called z vs (subst (λ j. Fits z (table j)) f.1.1.1.1.1.0 f.1.1.1.1.1.3)))
segments_called (Second (Pair (AWord cs) (Second (First (Pair (AMark c ms i) _))))) vs f = absurd f.1.1.1.1.1
segments_called (Second (Pair (AWord cs) (Second (First (Pair _ y))))) vs f = absurd f.1.1.1.1.0
segments_called (Second (Pair (AWord cs) (Second (First _)))) vs f = absurd f.1.1.1.1
segments_called (Second (Pair (AWord cs) (Second (Second (Second Nil))))) vs f =
    called vs cs _ (inl f.1.0) (chain_end vs)
segments_called (Second (Pair (AWord cs) (Second (Second (Second _))))) vs f = absurd f.1.1.1.1.1
segments_called (Second (Pair (AWord cs) (Second (Second (First y))))) vs f = absurd (false≢true f.1.1.1.1.0.1)
segments_called (Second (Pair (AWord cs) (Second (Second _)))) vs f = absurd f.1.1.1.1
segments_called (Second (Pair (AWord cs) (Second _))) vs f = absurd f.1.1.1
segments_called (Second (Pair (AWord cs) _)) vs f = absurd f.1.1
segments_called (Second (Pair _ y)) vs f = absurd f.1.0
segments_called (Second _) vs f = absurd f.1
segments_called _ vs f = absurd f

-- whether :: stands before it or not
pub Macro : List Token → List Token → Type 0
Macro rest us =
    ((i : Spacing) × (vs : List Token) × (us ≡ Punct 58 Joint ∷ Punct 58 i ∷ vs) × Called rest vs) ⊎ Called rest us

root_macro : (rest : List Token) (c : ℕ) (cs : List ℕ) (i : Spacing) (z : Tree) (ts : List Token) → c ≡ 58
    → cs ≡ 58 ∷ [] → Called rest (flat z ++ ts) → Macro rest ((signs c cs i ++ flat z) ++ ts)
unfolding Macro
root_macro rest c cs i z ts e f n =
    inl (
      i,
      flat z ++ ts,
      append_assoc (signs c cs i) (flat z) ts
          ∙ ap (λ d. signs d cs i ++ (flat z ++ ts)) e
          ∙ ap (λ ds. signs 58 ds i ++ (flat z ++ ts)) f,
      n,
    )

pub path_macro : (x : Tree) (vs : List Token) → Fits x (table (Path InModule))
    → Macro vs (flat x ++ Punct 33 Apart ∷ vs)
unfolding table Macro
path_macro (Pair (First (AMark c cs i)) (Node k z)) vs f =
    root_macro vs c cs i z _ f.0.1.0 f.0.1.1 (segments_called z vs (subst (λ j. Fits z (table j)) f.1.0 f.1.3))
path_macro (Pair (First (AMark c cs i)) _) vs f = absurd f.1
path_macro (Pair (First _) y) vs f = absurd f.0.1
path_macro (Pair (Second Nil) (Node k z)) vs f =
    inr (segments_called z vs (subst (λ j. Fits z (table j)) f.1.0 f.1.3))
path_macro (Pair (Second Nil) _) vs f = absurd f.1
path_macro (Pair (Second _) y) vs f = absurd f.0.1
path_macro (Pair _ y) vs f = absurd f.0
path_macro _ vs f = absurd f

pub banged : (c : ℕ) (cs : List ℕ) (i : Spacing) (ts : List Token) → c ≡ 33 → cs ≡ [] → Apart ≡ i
    → signs c cs i ++ ts ≡ Punct 33 Apart ∷ ts
banged c cs i ts e f g =
    ap (λ d. signs d cs i ++ ts) e ∙ ap (λ ds. signs 33 ds i ++ ts) f ∙ ap (λ j. Punct 33 j ∷ ts) (sym g)

abbrev pub delimited_in : Tree → Tree
delimited_in (Node k (Pair x (Pair b d))) = d
delimited_in x = x

macro_of : (k : Kind) (x : Tree) → Fits x (table AMacro) → (ts : List Token)
    → Macro (flat (delimited_in (Node k x)) ++ ts) (flat x ++ ts)
unfolding table
macro_of j (Pair (Node k x) (Pair (AMark c cs i) y)) f ts =
    subst (Macro (flat y ++ ts))
    (sym (append_assoc (flat x) (signs c cs i ++ flat y) ts
    ∙ ap (λ us. flat x ++ us) (append_assoc (signs c cs i) (flat y) ts
    ∙ banged c cs i (flat y ++ ts) f.1.0.0 f.1.0.1 f.1.0.2)))
    (path_macro x (flat y ++ ts) (subst (λ j. Fits x (table j)) f.0.0 f.0.3))
macro_of j (Pair (Node k x) (Pair _ y)) f ts = absurd f.1.0
macro_of j (Pair (Node k x) _) f ts = absurd f.1
macro_of j (Pair _ y) f ts = absurd f.0
macro_of j _ f ts = absurd f

macro : (y : Tree) → Fits y (table ExprMacro) → (ts : List Token) → Macro (flat (delimited_in y) ++ ts) (flat y ++ ts)
unfolding table
macro (Node k x) f ts = macro_of k x (subst (λ j. Fits x (table j)) f.0 f.3) ts
macro _ f ts = absurd f

-- the form that they begin: no keyword is a name
pub unlike : (w cs : List ℕ) → is_plain_name w ≡ false → is_plain_name cs ≡ true → same_text w cs ≡ false
unlike w cs e h = go (same_text w cs) refl
  where
    go : (b : Bool) → same_text w cs ≡ b → same_text w cs ≡ false
    go false f = f
    go true f = absurd (false≢true (sym e ∙ ap is_plain_name ((bytes_eq-Decides w cs).0 f) ∙ h))

module _ (cs : List ℕ) (h : is_plain_name cs ≡ true) (us : List Token) (b : Bool) where
  no_bool : is_bool cs ≡ false
  unfolding is_bool is_plain_name is_reserved
  no_bool = rw (unlike (codes "true") cs refl h, unlike (codes "false") cs refl h) refl

  no_let : (p : Position) → seen (let_stands p (Ident cs ∷ us)) ≡ false
  unfolding is_plain_name is_reserved
  no_let InStatement = refl
  no_let Plain = rw (unlike (codes "let") cs refl h) refl
  no_let InCondition = rw (unlike (codes "let") cs refl h) refl
  no_let InArm = rw (unlike (codes "let") cs refl h) refl

  pub name_front : (p : Position) → seen (macro_call_stands (Ident cs ∷ us)) ≡ b → front p (Ident cs ∷ us) ≡ or_macro b
  unfolding front is_plain_name is_reserved
  name_front p e =
      rw (
        no_bool,
        unlike (codes "loop") cs refl h,
        unlike (codes "while") cs refl h,
        unlike (codes "static") cs refl h,
        unlike (codes "move") cs refl h,
        unlike (codes "const") cs refl h,
        unlike (codes "async") cs refl h,
        unlike (codes "async") cs refl h,
        unlike (codes "for") cs refl h,
        unlike (codes "_") cs refl h,
        unlike (codes "unsafe") cs refl h,
        unlike (codes "try") cs refl h,
        unlike (codes "if") cs refl h,
        unlike (codes "match") cs refl h,
        unlike (codes "continue") cs refl h,
        unlike (codes "break") cs refl h,
        unlike (codes "return") cs refl h,
        unlike (codes "yield") cs refl h,
        no_let p,
        e,
        is_named cs (inl h),
      ) refl

-- in each of these cases
call_then : (l : Look) (cs : List ℕ) (us vs : List Token) → is_name cs ≡ true → Chain vs us
    → sees (a_path then l) (Ident cs ∷ us) ≡ seen (l (Punct 33 Apart ∷ vs))
call_then l cs us vs h c =
    ap (λ b. seen (behind (behind (cond b (Some us) None) (repeatedly one_more)) l)) h
    ∙ ap (λ n. seen (behind (as_far n one_more us) l)) c.turns ∙ ap (λ o. seen (behind o l)) (c.far c.left)

abbrev Fronts : List Token → Type 0
Fronts us = ((p : Position) → front p us ≡ Some ExprMacro) × (sees no_operand us ≡ false)

called_front : (rest us : List Token) → Called rest us → Fronts us
called_front rest us n = subst Fronts (sym n.is) (go n.passes)
  where
    seen_call : seen (macro_call_stands (Ident n.text ∷ n.rest)) ≡ true
    seen_call = call_then bang n.text n.rest rest (is_named n.text n.passes) n.chain

    go : (is_plain_name n.text ≡ true) ⊎ (is_path_keyword n.text ≡ true) → Fronts (Ident n.text ∷ n.rest)
    go (inl h) = (
      λ p. name_front n.text h n.rest true p seen_call,
      raw_off n.text h n.rest n.chain.no_const n.chain.no_mut,
    )
    go (inr h) =
        let k = keyword_is n.text h in
        (λ p. k.front_is p n.rest true seen_call, k.single n.rest)

macro_front : (rest us : List Token) → Macro rest us → Fronts us
unfolding Macro
macro_front rest us (inl m) =
    subst Fronts (sym (m.2 ∙ ap (λ vs. Punct 58 Joint ∷ Punct 58 m.0 ∷ vs) m.3.is)) (
      λ p. root_front p m.0 m.3.text m.3.rest true
          (call_then bang m.3.text m.3.rest rest (is_named m.3.text m.3.passes) m.3.chain),
      refl,
    )
macro_front rest us (inr n) = called_front rest us n

-- what is seen behind the path
pub macro_behind : (l : Look) (rest us : List Token) → Macro rest us
    → sees (a_path then marks "!" then l) us ≡ seen (l rest)
unfolding Macro
macro_behind l rest us (inl m) =
    ap (sees (a_path then marks "!" then l)) (m.2 ∙ ap (λ vs. Punct 58 Joint ∷ Punct 58 m.0 ∷ vs) m.3.is)
    ∙ call_then (marks "!" then l) m.3.text m.3.rest rest (is_named m.3.text m.3.passes) m.3.chain
macro_behind l rest us (inr n) =
    ap (sees (a_path then marks "!" then l)) n.is
    ∙ call_then (marks "!" then l) n.text n.rest rest (is_named n.text n.passes) n.chain

pub behind_call : (l : Look) (y : Tree) (ts : List Token) → Fits y (table ExprMacro)
    → sees (a_path then marks "!" then l) (flat y ++ ts) ≡ seen (l (flat (delimited_in y) ++ ts))
behind_call l y ts f = macro_behind l (flat (delimited_in y) ++ ts) (flat y ++ ts) (macro y f ts)

pub macro_part : (M : List Token → Type 0) (y : Tree) → Fits y (table ExprMacro) → OwnReady ExprMacro y
    → flat (normal (kept y)) ≡ flat y → IsFront M ExprMacro y
macro_part M y f w n = record {
  begins = λ p ts s m. (macro_front (flat (delimited_in y) ++ ts) (flat y ++ ts) (macro y f ts)).0 p;
  read = λ ts m. (w ts tt).0;
  held = n;
  single = λ ts m. (macro_front (flat (delimited_in y) ++ ts) (flat y ++ ts) (macro y f ts)).1;
}
