-- The own parts of references, of raw addresses and of break.
use Rattle.std.proofs.Common.{◌≡◌, ℕ, List, [], ◌∷◌, refl, sym, ap, ◌∙◌, subst}
use Rattle.std.specs.Prelude.{Bool, true, false, ◌||◌, cond, Some, codes}
use Rattle.std.proofs.lemmas.Slice.Eq.{bytes_eq-Decides}
use Rattle.std.proofs.lemmas.Bool.{false≢true}
use Rattle.proc_macro2.specs.Token.{Token, Ident, Punct}
use Rattle.rust_leaf.specs.declared.punct.Spacing.{Spacing}
use Rattle.rust_leaf.specs.declared.punct.Spacing.TheVariants.{Alone as Apart}
use Rattle.syn_grammar.specs.Kind.{Position, Plain, InCondition, InArm, InStatement, ExprReference, ExprRawAddr}
use Rattle.rust_leaf.specs.Keywords.{same_text, is_among}
use Rattle.syn_grammar.specs.Tree.{Tree, AWord, AMark, Nil, Pair, First, Second}
use Rattle.syn_grammar.specs.Gram.{mark}
use Rattle.syn_grammar.specs.Look.{sees, ◌then◌, ◌or◌}
use Rattle.syn_grammar.specs.Say.{at, marks}
use Rattle.syn_grammar.specs.Forms.{front}
use Rattle.syn_grammar.specs.Table.{table}
use Rattle.syn_grammar.specs.Derives.{Derives}
use Rattle.laws_binding.proofs.Leads.{is_nil}
use Rattle.laws_reread_expressions.specs.Behind.{no_operand, BeforeOperand}
use Rattle.laws_reread_expressions.specs.Firm.{IsOwn}
use Rattle.laws_reread_expressions.specs.Formed.{IsFront}
use Rattle.laws_reread_expressions.proofs.Signs.{Held}
use Rattle.laws_reread_expressions.proofs.Bools.{or_parts}

-- the first of two parts that are held is held
heads_same : (c : ℕ) (i j : Spacing) (ts us : List Token) → Punct c i ∷ ts ≡ Punct c j ∷ us → i ≡ j
heads_same c i j ts us e = cc

-- a lone mark, and more
lone_apart : (c : ℕ) (x z : Tree) (r : List Token) → Derives x (mark c []) r → Held (Pair x z)
    → x ≡ AMark c [] Apart
lone_apart c (AMark d [] i) z r d' h =
    ap (λ n. AMark n [] i) d'.0 ∙ ap (AMark c []) (sym (heads_same d Apart i _ _ h))
lone_apart c (AMark d (e ∷ es) i) z r d' h = absurd (some_none e es d'.1)
  where
    some_none : (e : ℕ) (es : List ℕ) → e ∷ es ≡ [] → ⊥
    some_none e es f = cc
lone_apart c _ z r d' h = elim d' [ ]

-- a reference
no_raw : (b : Bool) → b ≡ false → cond b (Some ExprRawAddr) (Some ExprReference) ≡ Some ExprReference
no_raw b e = ap (λ c. cond c (Some ExprRawAddr) (Some ExprReference)) e

plain_reference : (p : Position) (ts : List Token) → sees (at "raw" then (at "const" or at "mut")) ts ≡ false
    → front p (Punct 38 Apart ∷ ts) ≡ Some ExprReference
unfolding front
plain_reference Plain ts e = no_raw _ e
plain_reference InCondition ts e = no_raw _ e
plain_reference InArm ts e = no_raw _ e
plain_reference InStatement ts e = no_raw _ e

mut_reference : (p : Position) (ts : List Token) → front p (Punct 38 Apart ∷ Ident (codes "mut") ∷ ts)
    ≡ Some ExprReference
unfolding front
mut_reference Plain ts = refl
mut_reference InCondition ts = refl
mut_reference InArm ts = refl
mut_reference InStatement ts = refl

record Operand (ts : List Token) : Type 0 where
  mut : sees (at "mut") ts ≡ false
  raw : sees (at "raw" then (at "const" or at "mut")) ts ≡ false

operand : (ts : List Token) → sees no_operand ts ≡ false → Operand ts
operand ts e =
    let a = or_parts (marks "->" ts) _ e in
    let b = or_parts (at "mut" ts) _ a.1 in
    record { mut = b.0; raw = b.1 }

-- without mut, and with it
abbrev bare : Tree
bare = Pair (AMark 38 [] Apart) (Second Nil)

bare_front : IsFront (BeforeOperand ExprReference bare) ExprReference bare
unfolding table
bare_front = record {
  begins = λ p ts s m. plain_reference p ts (operand ts m.0).raw;
  read = λ ts m. ((refl, refl), ((operand ts m.0).mut, tt));
  held = refl;
  single = λ ts m. refl;
}

abbrev mutable : Tree
mutable = Pair (AMark 38 [] Apart) (First (AWord (codes "mut")))

mutable_front : IsFront (BeforeOperand ExprReference mutable) ExprReference mutable
unfolding table
mutable_front = record {
  begins = λ p ts s m. mut_reference p ts;
  read = λ ts m. ((refl, refl), (refl, refl));
  held = refl;
  single = λ ts m. refl;
}

pub reference_front : (y : Tree) → IsOwn ExprReference y → IsFront (BeforeOperand ExprReference y) ExprReference y
unfolding table
reference_front (Pair x (Second z)) o =
    let e : Pair x (Second z) ≡ bare =
    ap (λ v. Pair v (Second z)) (lone_apart 38 x (Second z) _ o.0.0 o.1)
    ∙ ap (λ v. Pair (AMark 38 [] Apart) (Second v)) (is_nil z [] o.0.1.1) in
    subst (λ v. IsFront (BeforeOperand ExprReference v) ExprReference v) (sym e) bare_front
reference_front (Pair x (First (AWord cs))) o =
    let e : Pair x (First (AWord cs)) ≡ mutable =
    ap (λ v. Pair v (First (AWord cs))) (lone_apart 38 x (First (AWord cs)) _ o.0.0 o.1)
    ∙ ap (λ w. Pair (AMark 38 [] Apart) (First (AWord w))) (sym ((bytes_eq-Decides (codes "mut") cs).0 o.0.1.1)) in
    subst (λ v. IsFront (BeforeOperand ExprReference v) ExprReference v) (sym e) mutable_front
reference_front (Pair x (First _)) o = elim o.0.1.1 [ ]
reference_front (Pair x _) o = elim o.0.1 [ ]
reference_front _ o = elim o.0 [ ]

-- a raw address
abbrev address : List ℕ → Tree
address w = Pair (AMark 38 [] Apart) (Pair (AWord (codes "raw")) (AWord w))

const_address : (p : Position) (ts : List Token)
    → front p (Punct 38 Apart ∷ Ident (codes "raw") ∷ Ident (codes "const") ∷ ts) ≡ Some ExprRawAddr
unfolding front
const_address Plain ts = refl
const_address InCondition ts = refl
const_address InArm ts = refl
const_address InStatement ts = refl

mut_address : (p : Position) (ts : List Token)
    → front p (Punct 38 Apart ∷ Ident (codes "raw") ∷ Ident (codes "mut") ∷ ts) ≡ Some ExprRawAddr
unfolding front
mut_address Plain ts = refl
mut_address InCondition ts = refl
mut_address InArm ts = refl
mut_address InStatement ts = refl

const_front : (M : List Token → Type 0) → IsFront M ExprRawAddr (address (codes "const"))
unfolding table
const_front M = record {
  begins = λ p ts s m. const_address p ts;
  read = λ ts m. ((refl, refl), (refl, refl));
  held = refl;
  single = λ ts m. refl;
}

mut_front : (M : List Token → Type 0) → IsFront M ExprRawAddr (address (codes "mut"))
unfolding table
mut_front M = record {
  begins = λ p ts s m. mut_address p ts;
  read = λ ts m. ((refl, refl), (refl, refl));
  held = refl;
  single = λ ts m. refl;
}

either : (cs : List ℕ) (P : List ℕ → Type 0) → is_among (codes "const" ∷ codes "mut" ∷ []) cs ≡ true
    → P (codes "const") → P (codes "mut") → P cs
either cs P e t f = go (same_text (codes "const") cs) (same_text (codes "mut") cs) refl refl e
  where
    go : (a b : Bool) → same_text (codes "const") cs ≡ a → same_text (codes "mut") cs ≡ b → (a || (b || false)) ≡ true
        → P cs
    go true b i j e = subst P ((bytes_eq-Decides (codes "const") cs).0 i) t
    go false true i j e = subst P ((bytes_eq-Decides (codes "mut") cs).0 j) f
    go false false i j e = absurd (false≢true e)

pub address_front : (M : List Token → Type 0) (y : Tree) → IsOwn ExprRawAddr y → IsFront M ExprRawAddr y
unfolding table
address_front M (Pair x (Pair (AWord cs) (AWord w))) o =
    let e : Pair x (Pair (AWord cs) (AWord w)) ≡ address w =
    ap (λ v. Pair v (Pair (AWord cs) (AWord w))) (lone_apart 38 x (Pair (AWord cs) (AWord w)) _ o.0.0 o.1)
    ∙ ap (λ v. Pair (AMark 38 [] Apart) (Pair (AWord v) (AWord w)))
    (sym ((bytes_eq-Decides (codes "raw") cs).0 o.0.1.0)) in
    subst (λ v. IsFront M ExprRawAddr v) (sym e)
    (either w (λ v. IsFront M ExprRawAddr (address v)) o.0.1.1 (const_front M) (mut_front M))
address_front M (Pair x (Pair (AWord cs) _)) o = elim o.0.1.1 [ ]
address_front M (Pair x (Pair _ w)) o = elim o.0.1.0 [ ]
address_front M (Pair x _) o = elim o.0.1 [ ]
address_front M _ o = elim o.0 [ ]
