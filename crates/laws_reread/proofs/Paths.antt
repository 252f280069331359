-- A path begins the form of a path, and no macro, wherever that may stand.
use Rattle.std.proofs.Common.{◌≡◌, ℕ, zero, suc, List, [], ◌∷◌, ◌++◌, length, refl, sym, ap, ◌∙◌, subst, append_assoc}
use Rattle.std.proofs.Common.{inl, inr}
use Rattle.std.specs.Prelude.{Bool, true, false, ◌==◌, ◌⊎◌, ◌||◌, cond, codes, Option, Some, None}
use Rattle.std.proofs.lemmas.Bool.{eqb-true}
use Rattle.std.proofs.lemmas.Slice.Eq.{bytes_eq-Decides}
use Rattle.std.proofs.lemmas.Bool.{false≢true}
use Rattle.proc_macro2.specs.Token.{Token, Ident, Punct}
use Rattle.rust_leaf.specs.declared.punct.Spacing.{Spacing}
use Rattle.rust_leaf.specs.declared.punct.Spacing.TheVariants.{Alone as Apart, Joint}
use Rattle.syn_grammar.specs.Kind.{Kind, Position, Plain, InCondition, InArm, InStatement, InExpression, ExprPath}
use Rattle.syn_grammar.specs.Kind.{AnyPath, ExprMacro, Path, Segments}
use Rattle.syn_grammar.specs.Words.{is_bool, is_ident, is_name, is_path_keyword, is_plain_name}
use Rattle.rust_leaf.specs.Keywords.{is_among}
use Rattle.rust_leaf.specs.Keywords.{is_reserved, same_text}
use Rattle.syn_grammar.specs.Tree.{Tree, AWord, AMark, Nil, Pair, First, Second, Node, marks as signs, flat}
use Rattle.syn_grammar.specs.Look.{Look, seen, sees, behind, first_seen, ◌then◌, no, as_far, repeatedly, a_name}
use Rattle.syn_grammar.specs.Look.{the_mark}
use Rattle.syn_grammar.specs.Say.{at, marks}
use Rattle.syn_grammar.specs.Paths.{turbofish}
use Rattle.syn_grammar.specs.Table.{table}
use Rattle.syn_grammar.specs.Derives.{Derives}
use Rattle.syn_grammar.specs.Kept.{kept}
use Rattle.syn_grammar.specs.Normal.{normal}
use Rattle.syn_grammar.specs.Forms.{front, macro_call_stands}
use Rattle.laws_reread_expressions.specs.Behind.{no_operand}
use Rattle.laws_reread_expressions.specs.Formed.{IsFront}
use Rattle.laws_reread_expressions.proofs.Names.{End, colons, no_more, path_front, raw_off}
use Rattle.laws_reread_kinds.proofs.Readies.{OwnReady}

abbrev pub bang : Look
bang = no (marks "!=") then marks "!"

abbrev pub one_more : Look
one_more = the_mark (codes "::") then a_name

-- behind a name: as far as further names go, no ! stands there
abbrev Calm : List Token → Type 0
Calm us = (n : ℕ) → seen (behind (as_far n one_more us) bang) ≡ false

calm_end : (us : List Token) → one_more us ≡ None → sees bang us ≡ false → Calm us
calm_end us e f n = ap (λ o. seen (behind o bang)) (no_more n one_more us e) ∙ f

one_of_both : (o : Option (List Token)) (us : List Token) → seen (behind o bang) ≡ false → sees bang us ≡ false
    → seen (behind (first_seen o (Some us)) bang) ≡ false
one_of_both None us e f = f
one_of_both (Some vs) us e f = e

calm_more : (us vs : List Token) → one_more us ≡ Some vs → Calm vs → sees bang us ≡ false → Calm us
calm_more us vs e c f zero = f
calm_more us vs e c f (suc n) =
    ap (λ o. seen (behind (first_seen (behind o (as_far n one_more)) (Some us)) bang)) e
    ∙ one_of_both (as_far n one_more vs) us (c n) f

-- tokens that begin with a name
record Named (us : List Token) : Type 0 where
  text : List ℕ
  rest : List Token
  is : us ≡ Ident text ∷ rest
  passes : (is_plain_name text ≡ true) ⊎ (is_path_keyword text ≡ true)
  calm : Calm rest
  no_const : sees (at "const") rest ≡ false
  no_mut : sees (at "mut") rest ≡ false

-- what stands behind a name: the end, or ::
record Tail (us : List Token) : Type 0 where
  calm : Calm us
  no_const : sees (at "const") us ≡ false
  no_mut : sees (at "mut") us ≡ false

end_tail : (ts : List Token) → End ts → Tail ts
end_tail ts f =
    record {
      calm = calm_end ts (ap (λ o. behind o a_name) (colons ts f.colon)) f.bang;
      no_const = f.const;
      no_mut = f.mut;
    }

or_first : (a b c : Bool) → a ≡ true → (a || b || c) ≡ true
or_first true b c e = refl
or_first false b c e = cc

or_second : (a b c : Bool) → b ≡ true → (a || b || c) ≡ true
or_second true b c e = refl
or_second false true c e = refl
or_second false false c e = cc

or_plain : (a b c : Bool) → (a || c) ≡ true → (a || b || c) ≡ true
or_plain true b c e = refl
or_plain false true c e = refl
or_plain false false c e = e

pub is_named : (cs : List ℕ) → (is_plain_name cs ≡ true) ⊎ (is_path_keyword cs ≡ true) → is_name cs ≡ true
unfolding is_name is_plain_name
is_named cs (inl h) = or_plain (is_ident cs) (is_path_keyword cs) (same_text (codes "Self") cs) h
is_named cs (inr h) = or_second (is_ident cs) (is_path_keyword cs) (same_text (codes "Self") cs) h

name_tail : (c : ℕ) (cs : List ℕ) (spacing : Spacing) (us : List Token) → c ≡ 58 → cs ≡ 58 ∷ [] → Named us
    → Tail (signs c cs spacing ++ us)
name_tail c cs spacing us e f n =
    subst (λ d. Tail (signs d cs spacing ++ us)) (sym e)
    (subst (λ ds. Tail (signs 58 ds spacing ++ us)) (sym f)
    (subst (λ vs. Tail (signs 58 (58 ∷ []) spacing ++ vs)) (sym n.is) record {
      calm = calm_more _ n.rest (ap (λ b. cond b (Some n.rest) None) (is_named n.text n.passes)) n.calm refl;
      no_const = refl;
      no_mut = refl;
    }))

-- :: and <
colon_bang : (us : List Token) → sees (marks "::") us ≡ true → (sees bang us ≡ false)
    × (sees (at "const") us ≡ false) × (sees (at "mut") us ≡ false)
colon_bang (Punct c Joint ∷ us) e =
    subst (λ d. (sees bang (Punct d Joint ∷ us) ≡ false) × (sees (at "const") (Punct d Joint ∷ us) ≡ false)
    × (sees (at "mut") (Punct d Joint ∷ us) ≡ false)) (sym (eqb-true c 58 (if_seen (c == 58) _ e))) (refl, refl, refl)
  where
    if_seen : (b : Bool) (o : Option (List Token)) → seen (cond b o None) ≡ true → b ≡ true
    if_seen true o e = refl
    if_seen false o e = cc
colon_bang (Punct c Apart ∷ us) e = cc
colon_bang _ e = cc

first_part : (o : Option (List Token)) (l : Look) → seen (behind o l) ≡ true → seen o ≡ true
first_part None l e = cc
first_part (Some ts) l e = refl

no_name : (o : Option (List Token)) → seen (behind o (marks "<")) ≡ true → behind o a_name ≡ None
no_name None e = refl
no_name (Some (Ident cs ∷ ts)) e = cc
no_name (Some []) e = cc
no_name (Some (Punct c spacing ∷ ts)) e = refl
no_name (Some _) e = cc

turbofish_tail : (us : List Token) → sees turbofish us ≡ true → Tail us
turbofish_tail us e =
    let a = colon_bang us (first_part (marks "::" us) (marks "<") e) in
    record { calm = calm_end us (no_name (marks "::" us) e) a.0; no_const = a.1; no_mut = a.2 }

-- the names of a path
named : (cs : List ℕ) (us : List Token) → (is_plain_name cs ≡ true) ⊎ (is_path_keyword cs ≡ true) → Tail us
    → Named (Ident cs ∷ us)
named cs us h t = record {
  text = cs;
  rest = us;
  is = refl;
  passes = h;
  calm = t.calm;
  no_const = t.no_const;
  no_mut = t.no_mut;
}

more_tail : (c : ℕ) (cs : List ℕ) (spacing : Spacing) (z : Tree) (ts : List Token) → c ≡ 58 → cs ≡ 58 ∷ []
    → Named (flat z ++ ts) → Tail ((signs c cs spacing ++ flat z) ++ ts)
more_tail c cs spacing z ts e f n =
    subst Tail (sym (append_assoc (signs c cs spacing) (flat z) ts)) (name_tail c cs spacing (flat z ++ ts) e f n)

segments_named : (z : Tree) (ts : List Token) → Derives z (table (Segments InExpression)) ts → End ts
    → Named (flat z ++ ts)
unfolding table
segments_named (First (Pair (AWord cs) (First (Pair (AMark c ms spacing) (Node k z))))) ts d e =
    named cs _ (inr d.1.0)
    (more_tail c ms spacing z ts d.1.1.1.0.0 d.1.1.1.0.1
    (segments_named z ts (subst (λ j. Derives z (table j) ts) d.1.1.1.1.0 d.1.1.1.1.1) e))
segments_named (First (Pair (AWord cs) (First (Pair (AMark c ms spacing) _)))) ts d e = absurd d.1.1.1.1
segments_named (First (Pair (AWord cs) (First (Pair _ y)))) ts d e = absurd d.1.1.1.0
segments_named (First (Pair (AWord cs) (First _))) ts d e = absurd d.1.1.1
segments_named (First (Pair (AWord cs) (Second Nil))) ts d e = named cs ts (inr d.1.0) (end_tail ts e)
segments_named (First (Pair (AWord cs) (Second _))) ts d e = absurd d.1.1.1
segments_named (First (Pair (AWord cs) _)) ts d e = absurd d.1.1
segments_named (First (Pair _ y)) ts d e = absurd d.1.0
segments_named (First _) ts d e = absurd d.1
segments_named (Second (Pair (AWord cs) (First x))) ts d e = named cs _ (inl d.1.0) (turbofish_tail _ d.1.1.0)
segments_named (Second (Pair (AWord cs) (Second (First (Pair (AMark c ms spacing) (Node k z)))))) ts d e =
    named cs _ (inl d.1.0)
    (more_tail c ms spacing z ts d.1.1.1.1.0.0 d.1.1.1.1.0.1
    (segments_named z ts (subst (λ j. Derives z (table j) ts) d.1.1.1.1.1.0 d.1.1.1.1.1.1) e))
segments_named (Second (Pair (AWord cs) (Second (First (Pair (AMark c ms spacing) _))))) ts d e = absurd d.1.1.1.1.1
segments_named (Second (Pair (AWord cs) (Second (First (Pair _ y))))) ts d e = absurd d.1.1.1.1.0
segments_named (Second (Pair (AWord cs) (Second (First _)))) ts d e = absurd d.1.1.1.1
segments_named (Second (Pair (AWord cs) (Second (Second (Second Nil))))) ts d e =
    named cs ts (inl d.1.0) (end_tail ts e)
segments_named (Second (Pair (AWord cs) (Second (Second (Second _))))) ts d e = absurd d.1.1.1.1.1
segments_named (Second (Pair (AWord cs) (Second (Second (First y))))) ts d e = absurd (false≢true d.1.1.1.1.0)
segments_named (Second (Pair (AWord cs) (Second (Second _)))) ts d e = absurd d.1.1.1.1
segments_named (Second (Pair (AWord cs) (Second _))) ts d e = absurd d.1.1.1
segments_named (Second (Pair (AWord cs) _)) ts d e = absurd d.1.1
segments_named (Second (Pair _ y)) ts d e = absurd d.1.0
segments_named (Second _) ts d e = absurd d.1
segments_named _ ts d e = absurd d

-- and of what may begin with < or ::
Begun : List Token → Type 0
Begun us =
    ((i : Spacing) × (vs : List Token) × (us ≡ Punct 60 i ∷ vs))
    ⊎ (((i : Spacing) × (vs : List Token) × (us ≡ Punct 58 Joint ∷ Punct 58 i ∷ vs) × Named vs) ⊎ Named us)

less_begun : (us : List Token) → sees (marks "<") us ≡ true → Begun us
unfolding Begun
less_begun (Punct c i ∷ vs) e = inl (i, vs, ap (λ d. Punct d i ∷ vs) (eqb-true c 60 (if_some (c == 60) e)))
  where
    if_some : (b : Bool) → seen (cond b (Some vs) None) ≡ true → b ≡ true
    if_some true e = refl
    if_some false e = cc
less_begun _ e = cc

root_begun : (c : ℕ) (cs : List ℕ) (i : Spacing) (z : Tree) (ts : List Token) → c ≡ 58 → cs ≡ 58 ∷ []
    → Named (flat z ++ ts) → Begun ((signs c cs i ++ flat z) ++ ts)
unfolding Begun
root_begun c cs i z ts e f n =
    inr (inl (
      i,
      flat z ++ ts,
      append_assoc (signs c cs i) (flat z) ts ∙ ap (λ d. signs d cs i ++ (flat z ++ ts)) e
          ∙ ap (λ ds. signs 58 ds i ++ (flat z ++ ts)) f,
      n,
    ))

path_begun : (x : Tree) (ts : List Token) → Derives x (table (Path InExpression)) ts → End ts → Begun (flat x ++ ts)
unfolding table Begun
path_begun (Pair (First (AMark c cs i)) (Node k z)) ts d e =
    root_begun c cs i z ts d.0.1.0 d.0.1.1 (segments_named z ts (subst (λ j. Derives z (table j) ts) d.1.0 d.1.1) e)
path_begun (Pair (First (AMark c cs i)) _) ts d e = absurd d.1
path_begun (Pair (First _) y) ts d e = absurd d.0.1
path_begun (Pair (Second Nil) (Node k z)) ts d e =
    inr (inr (segments_named z ts (subst (λ j. Derives z (table j) ts) d.1.0 d.1.1) e))
path_begun (Pair (Second Nil) _) ts d e = absurd d.1
path_begun (Pair (Second _) y) ts d e = absurd d.0.1
path_begun (Pair _ y) ts d e = absurd d.0
path_begun _ ts d e = absurd d

any_begun : (x : Tree) (ts : List Token) → Derives x (table (AnyPath InExpression)) ts → End ts
    → Begun (flat x ++ ts)
unfolding table
any_begun (First x) ts d e = less_begun (flat x ++ ts) d.0
any_begun (Second (Node k x)) ts d e = path_begun x ts (subst (λ j. Derives x (table j) ts) d.1.0 d.1.1) e
any_begun (Second _) ts d e = absurd d.1
any_begun _ ts d e = absurd d

begun : (y : Tree) (ts : List Token) → Derives y (table ExprPath) ts → End ts → Begun (flat y ++ ts)
unfolding table
begun (Node k x) ts d e = any_begun x ts (subst (λ j. Derives x (table j) ts) d.0 d.1) e
begun _ ts d e = absurd d

-- the form that they begin
less_front : (p : Position) (i : Spacing) (vs : List Token) → front p (Punct 60 i ∷ vs) ≡ Some ExprPath
unfolding front
less_front Plain Apart vs = refl
less_front InCondition Apart vs = refl
less_front InArm Apart vs = refl
less_front InStatement Apart vs = refl
less_front Plain Joint (Ident cs ∷ vs) = refl
less_front InCondition Joint (Ident cs ∷ vs) = refl
less_front InArm Joint (Ident cs ∷ vs) = refl
less_front InStatement Joint (Ident cs ∷ vs) = refl
less_front Plain Joint _ = refl
less_front InCondition Joint _ = refl
less_front InArm Joint _ = refl
less_front InStatement Joint _ = refl

abbrev pub or_macro : Bool → Option Kind
or_macro b = cond b (Some ExprMacro) (Some ExprPath)

macro_off : (cs : List ℕ) (us : List Token) → is_name cs ≡ true → Calm us
    → seen (macro_call_stands (Ident cs ∷ us)) ≡ false
macro_off cs us h c =
    ap (λ b. seen (behind (behind (cond b (Some us) None) (repeatedly one_more)) bang)) h ∙ c (length us)

pub root_front : (p : Position) (i : Spacing) (cs : List ℕ) (us : List Token) (b : Bool)
    → seen (macro_call_stands (Ident cs ∷ us)) ≡ b
    → front p (Punct 58 Joint ∷ Punct 58 i ∷ Ident cs ∷ us) ≡ or_macro b
unfolding front
root_front Plain i cs us b e = ap or_macro e
root_front InCondition i cs us b e = ap or_macro e
root_front InArm i cs us b e = ap or_macro e
root_front InStatement i cs us b e = ap or_macro e

-- self, super and crate
abbrev IsOneOf : List (List ℕ) → List ℕ → Type 0
IsOneOf [] cs = ⊥
IsOneOf (w ∷ ws) cs = (w ≡ cs) ⊎ IsOneOf ws cs

one_is : (w : List ℕ) (ws : List (List ℕ)) (cs : List ℕ) (b : Bool) → same_text w cs ≡ b
    → (b || is_among ws cs) ≡ true → (is_among ws cs ≡ true → IsOneOf ws cs) → IsOneOf (w ∷ ws) cs
one_is w ws cs true e h f = inl ((bytes_eq-Decides w cs).0 e)
one_is w ws cs false e h f = inr (f h)

one_of_them : (ws : List (List ℕ)) (cs : List ℕ) → is_among ws cs ≡ true → IsOneOf ws cs
one_of_them [] cs h = cc
one_of_them (w ∷ ws) cs h = one_is w ws cs (same_text w cs) refl h (λ i. one_of_them ws cs i)

pub record Keyword (cs : List ℕ) : Type 0 where
  pub front_is : (p : Position) (us : List Token) (b : Bool) → seen (macro_call_stands (Ident cs ∷ us)) ≡ b
      → front p (Ident cs ∷ us) ≡ or_macro b
  pub single : (us : List Token) → sees no_operand (Ident cs ∷ us) ≡ false

self_is : Keyword (codes "self")
unfolding front is_bool is_name is_reserved is_path_keyword
self_is = record { front_is = go; single = λ us. refl }
  where
    go : (p : Position) (us : List Token) (b : Bool) → seen (macro_call_stands (Ident (codes "self") ∷ us)) ≡ b
        → front p (Ident (codes "self") ∷ us) ≡ or_macro b
    go Plain us b e = ap or_macro e
    go InCondition us b e = ap or_macro e
    go InArm us b e = ap or_macro e
    go InStatement us b e = ap or_macro e

super_is : Keyword (codes "super")
unfolding front is_bool is_name is_reserved is_path_keyword
super_is = record { front_is = go; single = λ us. refl }
  where
    go : (p : Position) (us : List Token) (b : Bool) → seen (macro_call_stands (Ident (codes "super") ∷ us)) ≡ b
        → front p (Ident (codes "super") ∷ us) ≡ or_macro b
    go Plain us b e = ap or_macro e
    go InCondition us b e = ap or_macro e
    go InArm us b e = ap or_macro e
    go InStatement us b e = ap or_macro e

crate_is : Keyword (codes "crate")
unfolding front is_bool is_name is_reserved is_path_keyword
crate_is = record { front_is = go; single = λ us. refl }
  where
    go : (p : Position) (us : List Token) (b : Bool) → seen (macro_call_stands (Ident (codes "crate") ∷ us)) ≡ b
        → front p (Ident (codes "crate") ∷ us) ≡ or_macro b
    go Plain us b e = ap or_macro e
    go InCondition us b e = ap or_macro e
    go InArm us b e = ap or_macro e
    go InStatement us b e = ap or_macro e

pub keyword_is : (cs : List ℕ) → is_path_keyword cs ≡ true → Keyword cs
unfolding is_path_keyword
keyword_is cs h = go (one_of_them (codes "self" ∷ codes "super" ∷ codes "crate" ∷ []) cs h)
  where
    go : IsOneOf (codes "self" ∷ codes "super" ∷ codes "crate" ∷ []) cs → Keyword cs
    go (inl e) = subst Keyword e self_is
    go (inr (inl e)) = subst Keyword e super_is
    go (inr (inr (inl e))) = subst Keyword e crate_is
    go (inr (inr (inr e))) = absurd e

named_front : (p : Position) (us : List Token) → Named us → (front p us ≡ Some ExprPath) × (sees no_operand us ≡ false)
named_front p us n =
    subst (λ vs. (front p vs ≡ Some ExprPath) × (sees no_operand vs ≡ false)) (sym n.is) (go n.passes)
  where
    off : seen (macro_call_stands (Ident n.text ∷ n.rest)) ≡ false
    off = macro_off n.text n.rest (is_named n.text n.passes) n.calm

    go : (is_plain_name n.text ≡ true) ⊎ (is_path_keyword n.text ≡ true)
        → (front p (Ident n.text ∷ n.rest) ≡ Some ExprPath) × (sees no_operand (Ident n.text ∷ n.rest) ≡ false)
    go (inl h) = (path_front n.text h n.rest p off, raw_off n.text h n.rest n.no_const n.no_mut)
    go (inr h) = let k = keyword_is n.text h in (k.front_is p n.rest false off, k.single n.rest)

less_single : (i : Spacing) (vs : List Token) → sees no_operand (Punct 60 i ∷ vs) ≡ false
less_single Apart vs = refl
less_single Joint vs = refl

begun_front : (p : Position) (us : List Token) → Begun us → (front p us ≡ Some ExprPath) × (sees no_operand us ≡ false)
unfolding Begun
begun_front p us (inl b) =
    subst (λ vs. (front p vs ≡ Some ExprPath) × (sees no_operand vs ≡ false)) (sym b.2)
    (less_front p b.0 b.1, less_single b.0 b.1)
begun_front p us (inr (inl b)) =
    subst (λ vs. (front p vs ≡ Some ExprPath) × (sees no_operand vs ≡ false))
    (sym (b.2 ∙ ap (λ vs. Punct 58 Joint ∷ Punct 58 b.0 ∷ vs) b.3.is)) (
      root_front p b.0 b.3.text b.3.rest false
          (macro_off b.3.text b.3.rest (is_named b.3.text b.3.passes) b.3.calm),
      refl,
    )
begun_front p us (inr (inr n)) = named_front p us n

pub path_part : (M : List Token → Type 0) → ((ts : List Token) → M ts → End ts) → (y : Tree) → OwnReady ExprPath y
    → flat (normal (kept y)) ≡ flat y → IsFront M ExprPath y
path_part M ends y w n = record {
  begins = λ p ts s e. (begun_front p (flat y ++ ts) (begun y ts (read ts e) (ends ts e))).0;
  read = read;
  held = n;
  single = λ ts e. (begun_front Plain (flat y ++ ts) (begun y ts (read ts e) (ends ts e))).1;
}
  where
    read : (ts : List Token) → M ts → Derives y (table ExprPath) ts
    read ts e =
        let c = colons ts (ends ts e).colon in
        (w ts (ap seen c, (ap (λ o. seen (behind o (marks "<"))) c, tt))).0
