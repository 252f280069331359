-- With which tokens the own part of a form behind an operand begins: with such as no operand begins with, or with such
-- as one does.
use Rattle.std.proofs.Common.{◌≡◌, ℕ, List, [], ◌∷◌, ◌++◌, refl, sym, subst, inl, inr}
use Rattle.std.specs.Prelude.{Bool, true, false, not, ◌⊎◌, Some, cond, codes}
use Rattle.proc_macro2.specs.Token.{Token, Opens, Ident, Punct}
use Rattle.proc_macro2.specs.declared.delimiter.Delimiter.TheVariants.{Parenthesis, Bracket}
use Rattle.rust_leaf.specs.declared.punct.Spacing.{Spacing}
use Rattle.rust_leaf.specs.declared.punct.Spacing.TheVariants.{Alone as Apart, Joint}
use Rattle.syn_grammar.specs.Kind.{Kind, Position, ExprCall, ExprMethodCall, ExprField, ExprAwait, ExprIndex}
use Rattle.syn_grammar.specs.Kind.{ExprTry, ExprCast, ExprRange, ExprRangeClosed, ExprAssign, ExprOr, ExprAnd}
use Rattle.syn_grammar.specs.Kind.{ExprCompare, ExprBitOr, ExprBitXor, ExprBitAnd, ExprShift, ExprSum, ExprProduct}
use Rattle.rust_leaf.specs.Keywords.{same_text}
use Rattle.syn_grammar.specs.Tree.{Tree, AMark, Nil, First, Second, marks, flat}
use Rattle.syn_grammar.specs.Gram.{Gram, mark, never, alt}
use Rattle.syn_grammar.specs.Look.{Look, seen, sees, ◌then◌, no}
use Rattle.syn_grammar.specs.Say.{brace, marks as mark_look}
use Rattle.syn_grammar.specs.Table.{table}
use Rattle.syn_grammar.specs.Derives.{Derives}
use Rattle.syn_grammar.specs.Kept.{kept}
use Rattle.syn_grammar.specs.Normal.{normal_in}
use Rattle.syn_grammar.specs.Forms.{operand_stands, range_ends, back}
use Rattle.std.proofs.lemmas.Slice.Eq.{bytes_eq-Decides}
use Rattle.std.proofs.lemmas.Bool.{false≢true}
use Rattle.laws_binding.proofs.Begun.{Begun, a_literal, a_bang, a_hash, an_and, a_star, a_minus, a_less, a_bar}
use Rattle.laws_binding.proofs.Leads as Leads

-- a < that begins no <=
abbrev pub lone_less : Look
lone_less = no (mark_look "<=") then mark_look "<"

-- of tokens: whether an operand begins there, and a half-open range has an end
pub record Begins (b : Bool) (ts : List Token) : Type 0 where
  pub operand : sees operand_stands ts ≡ b
  pub range : seen (range_ends ts) ≡ not b
  pub no_brace : sees brace ts ≡ false

-- what was read, before what stands behind it, and its normal form
pub data Turn : List Token → List Token → Type 0 where
  equals : {r s : List Token} (i : Spacing) → Turn (Punct 61 i ∷ r) (Punct 61 Apart ∷ s)
  equals_joint : {r s : List Token} (d : ℕ) (i j : Spacing)
      → Turn (Punct 61 Joint ∷ Punct d i ∷ r) (Punct 61 Joint ∷ Punct d j ∷ s)
  plus : {r s : List Token} (i : Spacing) → Turn (Punct 43 i ∷ r) (Punct 43 Apart ∷ s)
  plus_joint : {r s : List Token} (d : ℕ) (i j : Spacing)
      → Turn (Punct 43 Joint ∷ Punct d i ∷ r) (Punct 43 Joint ∷ Punct d j ∷ s)
  slash : {r s : List Token} (i : Spacing) → Turn (Punct 47 i ∷ r) (Punct 47 Apart ∷ s)
  slash_joint : {r s : List Token} (d : ℕ) (i j : Spacing)
      → Turn (Punct 47 Joint ∷ Punct d i ∷ r) (Punct 47 Joint ∷ Punct d j ∷ s)
  percent : {r s : List Token} (i : Spacing) → Turn (Punct 37 i ∷ r) (Punct 37 Apart ∷ s)
  percent_joint : {r s : List Token} (d : ℕ) (i j : Spacing)
      → Turn (Punct 37 Joint ∷ Punct d i ∷ r) (Punct 37 Joint ∷ Punct d j ∷ s)
  caret : {r s : List Token} (i : Spacing) → Turn (Punct 94 i ∷ r) (Punct 94 Apart ∷ s)
  caret_joint : {r s : List Token} (d : ℕ) (i j : Spacing)
      → Turn (Punct 94 Joint ∷ Punct d i ∷ r) (Punct 94 Joint ∷ Punct d j ∷ s)
  greater : {r s : List Token} (i : Spacing) → Turn (Punct 62 i ∷ r) (Punct 62 Apart ∷ s)
  greater_joint : {r s : List Token} (d : ℕ) (i j : Spacing)
      → Turn (Punct 62 Joint ∷ Punct d i ∷ r) (Punct 62 Joint ∷ Punct d j ∷ s)
  question : {r s : List Token} (i : Spacing) → Turn (Punct 63 i ∷ r) (Punct 63 Apart ∷ s)
  question_joint : {r s : List Token} (d : ℕ) (i j : Spacing)
      → Turn (Punct 63 Joint ∷ Punct d i ∷ r) (Punct 63 Joint ∷ Punct d j ∷ s)
  less_equals : {r s : List Token} (i j : Spacing)
      → Turn (Punct 60 Joint ∷ Punct 61 i ∷ r) (Punct 60 Joint ∷ Punct 61 j ∷ s)
  bang_equals : {r s : List Token} (i j : Spacing)
      → Turn (Punct 33 Joint ∷ Punct 61 i ∷ r) (Punct 33 Joint ∷ Punct 61 j ∷ s)
  minus_equals : {r s : List Token} (i j : Spacing)
      → Turn (Punct 45 Joint ∷ Punct 61 i ∷ r) (Punct 45 Joint ∷ Punct 61 j ∷ s)
  star_equals : {r s : List Token} (i j : Spacing)
      → Turn (Punct 42 Joint ∷ Punct 61 i ∷ r) (Punct 42 Joint ∷ Punct 61 j ∷ s)
  and_equals : {r s : List Token} (i j : Spacing)
      → Turn (Punct 38 Joint ∷ Punct 61 i ∷ r) (Punct 38 Joint ∷ Punct 61 j ∷ s)
  bar_equals : {r s : List Token} (i j : Spacing)
      → Turn (Punct 124 Joint ∷ Punct 61 i ∷ r) (Punct 124 Joint ∷ Punct 61 j ∷ s)
  shift_equals : {r s : List Token} (i j : Spacing)
      → Turn (Punct 60 Joint ∷ Punct 60 Joint ∷ Punct 61 i ∷ r) (Punct 60 Joint ∷ Punct 60 Joint ∷ Punct 61 j ∷ s)
  dot : {r s : List Token} (i : Spacing) → Turn (Punct 46 i ∷ r) (Punct 46 Apart ∷ s)
  an_as : {r s : List Token} → Turn (Ident (codes "as") ∷ r) (Ident (codes "as") ∷ s)
  parenthesis : {r s : List Token} → Turn (Opens Parenthesis ∷ r) (Opens Parenthesis ∷ s)
  bracket : {r s : List Token} → Turn (Opens Bracket ∷ r) (Opens Bracket ∷ s)
  dots : {r s : List Token} (i j : Spacing) → Turn (Punct 46 Joint ∷ Punct 46 i ∷ r) (Punct 46 Joint ∷ Punct 46 j ∷ s)
  minus : {r u s : List Token} (i : Spacing) → Begun r u → Turn (Punct 45 i ∷ r) (Punct 45 Apart ∷ s)
  star : {r u s : List Token} (i : Spacing) → Begun r u → Turn (Punct 42 i ∷ r) (Punct 42 Apart ∷ s)
  and : {r u s : List Token} (i : Spacing) → Begun r u → Turn (Punct 38 i ∷ r) (Punct 38 Apart ∷ s)
  bar : {r u s : List Token} (i : Spacing) → Begun r u → Turn (Punct 124 i ∷ r) (Punct 124 Apart ∷ s)
  less : {r u s : List Token} (i : Spacing) (p : Position) → Begun r u → back p (Punct 60 i ∷ r) ≡ Some ExprCompare
      → Turn (Punct 60 i ∷ r) (Punct 60 Apart ∷ s)
  and_and : {r s : List Token} (i : Spacing)
      → Turn (Punct 38 Joint ∷ Punct 38 i ∷ r) (Punct 38 Joint ∷ Punct 38 Apart ∷ s)
  bar_bar : {r s : List Token} (i : Spacing)
      → Turn (Punct 124 Joint ∷ Punct 124 i ∷ r) (Punct 124 Joint ∷ Punct 124 Apart ∷ s)
  less_less : {r u s : List Token} (i : Spacing) → Begun r u
      → Turn (Punct 60 Joint ∷ Punct 60 i ∷ r) (Punct 60 Joint ∷ Punct 60 Apart ∷ s)

-- what stands behind the normal form is not looked at
pub more : (ts us zs : List Token) → Turn ts us → Turn ts (us ++ zs)
more _ _ zs (equals i) = equals i
more _ _ zs (equals_joint d i j) = equals_joint d i j
more _ _ zs (plus i) = plus i
more _ _ zs (plus_joint d i j) = plus_joint d i j
more _ _ zs (slash i) = slash i
more _ _ zs (slash_joint d i j) = slash_joint d i j
more _ _ zs (percent i) = percent i
more _ _ zs (percent_joint d i j) = percent_joint d i j
more _ _ zs (caret i) = caret i
more _ _ zs (caret_joint d i j) = caret_joint d i j
more _ _ zs (greater i) = greater i
more _ _ zs (greater_joint d i j) = greater_joint d i j
more _ _ zs (question i) = question i
more _ _ zs (question_joint d i j) = question_joint d i j
more _ _ zs (less_equals i j) = less_equals i j
more _ _ zs (bang_equals i j) = bang_equals i j
more _ _ zs (minus_equals i j) = minus_equals i j
more _ _ zs (star_equals i j) = star_equals i j
more _ _ zs (and_equals i j) = and_equals i j
more _ _ zs (bar_equals i j) = bar_equals i j
more _ _ zs (shift_equals i j) = shift_equals i j
more _ _ zs (dot i) = dot i
more _ _ zs an_as = an_as
more _ _ zs parenthesis = parenthesis
more _ _ zs bracket = bracket
more _ _ zs (dots i j) = dots i j
more _ _ zs (minus i b) = minus i b
more _ _ zs (star i b) = star i b
more _ _ zs (and i b) = and i b
more _ _ zs (bar i b) = bar i b
more _ _ zs (less i p b e) = less i p b e
more _ _ zs (and_and i) = and_and i
more _ _ zs (bar_bar i) = bar_bar i
more _ _ zs (less_less i b) = less_less i b

-- what a turn says
pub record Facts (ts us : List Token) : Type 0 where
  pub begins : Begins false us ⊎ Begins true ts
  pub no_brace : sees brace us ≡ false
  pub less : (sees lone_less us ≡ false) ⊎ (sees lone_less ts ≡ true)

abbrev ends : {ts us : List Token} → Begins false us → sees lone_less us ≡ false → Facts ts us
ends b l = record { begins = inl b; no_brace = b.no_brace; less = inl l }

minus_begins : (i : Spacing) (r u : List Token) → Begun r u → Begins true (Punct 45 i ∷ r)
minus_begins Apart r u b = record { operand = refl; range = refl; no_brace = refl }
minus_begins Joint _ _ (a_literal cs) = record { operand = refl; range = refl; no_brace = refl }
minus_begins Joint _ _ _ = record { operand = refl; range = refl; no_brace = refl }

star_begins : (i : Spacing) (r u : List Token) → Begun r u → Begins true (Punct 42 i ∷ r)
star_begins Apart r u b = record { operand = refl; range = refl; no_brace = refl }
star_begins Joint _ _ (a_literal cs) = record { operand = refl; range = refl; no_brace = refl }
star_begins Joint _ _ _ = record { operand = refl; range = refl; no_brace = refl }

and_begins : (i : Spacing) (r u : List Token) → Begun r u → Begins true (Punct 38 i ∷ r)
and_begins Apart r u b = record { operand = refl; range = refl; no_brace = refl }
and_begins Joint _ _ (a_literal cs) = record { operand = refl; range = refl; no_brace = refl }
and_begins Joint _ _ _ = record { operand = refl; range = refl; no_brace = refl }

bar_begins : (i : Spacing) (r u : List Token) → Begun r u → Begins true (Punct 124 i ∷ r)
bar_begins Apart r u b = record { operand = refl; range = refl; no_brace = refl }
bar_begins Joint _ _ (a_literal cs) = record { operand = refl; range = refl; no_brace = refl }
bar_begins Joint _ _ _ = record { operand = refl; range = refl; no_brace = refl }

no_compare : (b : Bool) → cond b (Some ExprAssign) (Some ExprShift) ≡ Some ExprCompare → ⊥
no_compare true e = cc
no_compare false e = cc

less_begins : (i : Spacing) (r u : List Token) (p : Position) → Begun r u → back p (Punct 60 i ∷ r) ≡ Some ExprCompare
    → Begins true (Punct 60 i ∷ r)
unfolding back
less_begins Apart r u p b e = record { operand = refl; range = refl; no_brace = refl }
less_begins Joint _ _ p (a_literal cs) e = record { operand = refl; range = refl; no_brace = refl }
less_begins Joint _ _ p (a_bang Apart) e = record { operand = refl; range = refl; no_brace = refl }
less_begins Joint _ _ p (a_bang Joint) e = record { operand = refl; range = refl; no_brace = refl }
less_begins Joint _ _ p (a_hash Apart) e = record { operand = refl; range = refl; no_brace = refl }
less_begins Joint _ _ p (a_hash Joint) e = record { operand = refl; range = refl; no_brace = refl }
less_begins Joint _ _ p (an_and Apart) e = record { operand = refl; range = refl; no_brace = refl }
less_begins Joint _ _ p (an_and Joint) e = record { operand = refl; range = refl; no_brace = refl }
less_begins Joint _ _ p (a_star Apart) e = record { operand = refl; range = refl; no_brace = refl }
less_begins Joint _ _ p (a_star Joint) e = record { operand = refl; range = refl; no_brace = refl }
less_begins Joint _ _ p (a_minus Apart) e = record { operand = refl; range = refl; no_brace = refl }
less_begins Joint _ _ p (a_minus Joint) e = record { operand = refl; range = refl; no_brace = refl }
less_begins Joint _ _ p (a_bar Apart) e = record { operand = refl; range = refl; no_brace = refl }
less_begins Joint _ _ p (a_bar Joint) e = record { operand = refl; range = refl; no_brace = refl }
less_begins Joint _ _ p (a_less Apart) e = record { operand = refl; range = refl; no_brace = refl }
less_begins Joint _ _ p (a_less Joint) e = absurd (no_compare _ e)
less_begins Joint _ _ p _ e = record { operand = refl; range = refl; no_brace = refl }

shift_begins : (i : Spacing) (r u : List Token) → Begun r u → Begins true (Punct 60 Joint ∷ Punct 60 i ∷ r)
shift_begins Apart r u b = record { operand = refl; range = refl; no_brace = refl }
shift_begins Joint _ _ (a_literal cs) = record { operand = refl; range = refl; no_brace = refl }
shift_begins Joint _ _ _ = record { operand = refl; range = refl; no_brace = refl }

less_lone : (i : Spacing) (r u : List Token) → Begun r u → sees lone_less (Punct 60 i ∷ r) ≡ true
less_lone Apart r u b = refl
less_lone Joint _ _ (a_literal cs) = refl
less_lone Joint _ _ _ = refl

pub facts : {ts us : List Token} → Turn ts us → Facts ts us
facts (equals i) = ends (record { operand = refl; range = refl; no_brace = refl }) refl
facts (equals_joint d i j) = ends (record { operand = refl; range = refl; no_brace = refl }) refl
facts (plus i) = ends (record { operand = refl; range = refl; no_brace = refl }) refl
facts (plus_joint d i j) = ends (record { operand = refl; range = refl; no_brace = refl }) refl
facts (slash i) = ends (record { operand = refl; range = refl; no_brace = refl }) refl
facts (slash_joint d i j) = ends (record { operand = refl; range = refl; no_brace = refl }) refl
facts (percent i) = ends (record { operand = refl; range = refl; no_brace = refl }) refl
facts (percent_joint d i j) = ends (record { operand = refl; range = refl; no_brace = refl }) refl
facts (caret i) = ends (record { operand = refl; range = refl; no_brace = refl }) refl
facts (caret_joint d i j) = ends (record { operand = refl; range = refl; no_brace = refl }) refl
facts (greater i) = ends (record { operand = refl; range = refl; no_brace = refl }) refl
facts (greater_joint d i j) = ends (record { operand = refl; range = refl; no_brace = refl }) refl
facts (question i) = ends (record { operand = refl; range = refl; no_brace = refl }) refl
facts (question_joint d i j) = ends (record { operand = refl; range = refl; no_brace = refl }) refl
facts (less_equals i j) = ends (record { operand = refl; range = refl; no_brace = refl }) refl
facts (bang_equals i j) = ends (record { operand = refl; range = refl; no_brace = refl }) refl
facts (minus_equals i j) = ends (record { operand = refl; range = refl; no_brace = refl }) refl
facts (star_equals i j) = ends (record { operand = refl; range = refl; no_brace = refl }) refl
facts (and_equals i j) = ends (record { operand = refl; range = refl; no_brace = refl }) refl
facts (bar_equals i j) = ends (record { operand = refl; range = refl; no_brace = refl }) refl
facts (shift_equals i j) =
    record { begins = inl (record { operand = refl; range = refl; no_brace = refl }); no_brace = refl; less = inr refl }
facts (dot i) = ends (record { operand = refl; range = refl; no_brace = refl }) refl
facts an_as = ends (record { operand = refl; range = refl; no_brace = refl }) refl
facts parenthesis = record
    { begins = inr (record { operand = refl; range = refl; no_brace = refl }); no_brace = refl; less = inl refl }
facts bracket = record {
  begins = inr (record { operand = refl; range = refl; no_brace = refl });
  no_brace = refl;
  less = inl refl;
}
facts (dots i j) = record {
  begins = inr (record { operand = refl; range = refl; no_brace = refl });
  no_brace = refl;
  less = inl refl;
}
facts (minus i b) = record { begins = inr (minus_begins i _ _ b); no_brace = refl; less = inl refl }
facts (star i b) = record { begins = inr (star_begins i _ _ b); no_brace = refl; less = inl refl }
facts (and i b) = record { begins = inr (and_begins i _ _ b); no_brace = refl; less = inl refl }
facts (bar i b) = record { begins = inr (bar_begins i _ _ b); no_brace = refl; less = inl refl }
facts (less i p b e) = record
    { begins = inr (less_begins i _ _ p b e); no_brace = refl; less = inr (less_lone i _ _ b) }
facts (and_and i) = record
    { begins = inr (record { operand = refl; range = refl; no_brace = refl }); no_brace = refl; less = inl refl }
facts (bar_bar i) = record
    { begins = inr (record { operand = refl; range = refl; no_brace = refl }); no_brace = refl; less = inl refl }
facts (less_less i b) = record { begins = inr (shift_begins i _ _ b); no_brace = refl; less = inr refl }

-- the own parts of infix forms: before an operand
pub record Turns (k : Kind) (g : Gram) : Type 0 where
  pub at : (p q : Position) (y : Tree) (r u : List Token) → Derives y g r → Begun r u → back p (flat y ++ r) ≡ Some k
      → Turn (flat y ++ r) (flat (normal_in q (kept y)))

mark_turns : {k : Kind} {c : ℕ} {cs : List ℕ}
    → ((i : Spacing) (r u : List Token) (p : Position) → Begun r u → back p (marks c cs i ++ r) ≡ Some k
    → Turn (marks c cs i ++ r) (marks c cs Apart)) → Turns k (mark c cs)
mark_turns {k} {c} {cs} h = record { at = go }
  where
    go : (p q : Position) (y : Tree) (r u : List Token) → Derives y (mark c cs) r → Begun r u → back p (flat y ++ r)
        ≡ Some k → Turn (flat y ++ r) (flat (normal_in q (kept y)))
    go p q (AMark b bs i) r u d e f =
        (subst (λ n. back p (marks n bs i ++ r) ≡ Some k → Turn (marks n bs i ++ r) (marks n bs Apart)) (sym d.0)
        (subst (λ ns. back p (marks c ns i ++ r) ≡ Some k → Turn (marks c ns i ++ r) (marks c ns Apart)) (sym d.1)
        (h i r u p e))) f
    go p q _ r u d e f = elim d [ ]

alt_turns : {k : Kind} {t : List Token → Bool} {a b : Gram} → Turns k a → Turns k b → Turns k (alt t a b)
alt_turns {k} {t} {a} {b} h i = record { at = go }
  where
    go : (p q : Position) (y : Tree) (r u : List Token) → Derives y (alt t a b) r → Begun r u → back p (flat y ++ r)
        ≡ Some k → Turn (flat y ++ r) (flat (normal_in q (kept y)))
    go p q (First x) r u d e f = h.at p q x r u d.1 e f
    go p q (Second x) r u d e f = i.at p q x r u d.1 e f
    go p q _ r u d e f = elim d [ ]

never_turns : {k : Kind} → Turns k never
never_turns {k} = record { at = go }
  where
    go : (p q : Position) (y : Tree) (r u : List Token) → Derives y never r → Begun r u → back p (flat y ++ r) ≡ Some k
        → Turn (flat y ++ r) (flat (normal_in q (kept y)))
    go p q Nil r u d e f = elim d [ ]
    go p q _ r u d e f = elim d [ ]

abbrev pub is_infix : Kind → Bool
is_infix ExprAssign = true
is_infix ExprOr = true
is_infix ExprAnd = true
is_infix ExprCompare = true
is_infix ExprBitOr = true
is_infix ExprBitXor = true
is_infix ExprBitAnd = true
is_infix ExprShift = true
is_infix ExprSum = true
is_infix ExprProduct = true
is_infix ExprRange = true
is_infix ExprRangeClosed = true
is_infix _ = false

pub infix_turns : (k : Kind) → is_infix k ≡ true → Turns k (table k)
unfolding table
infix_turns ExprAssign h =
    alt_turns (mark_turns (λ i r u p b e. equals i))
    (alt_turns (mark_turns (λ i r u p b e. plus_joint 61 i Apart))
    (alt_turns (mark_turns (λ i r u p b e. minus_equals i Apart))
    (alt_turns (mark_turns (λ i r u p b e. star_equals i Apart))
    (alt_turns (mark_turns (λ i r u p b e. slash_joint 61 i Apart))
    (alt_turns (mark_turns (λ i r u p b e. percent_joint 61 i Apart))
    (alt_turns (mark_turns (λ i r u p b e. caret_joint 61 i Apart))
    (alt_turns (mark_turns (λ i r u p b e. and_equals i Apart))
    (alt_turns (mark_turns (λ i r u p b e. bar_equals i Apart))
    (alt_turns (mark_turns (λ i r u p b e. shift_equals i Apart))
    (alt_turns (mark_turns (λ i r u p b e. greater_joint 62 Joint Joint)) never_turns))))))))))
infix_turns ExprOr h = mark_turns (λ i r u p b e. bar_bar i)
infix_turns ExprAnd h = mark_turns (λ i r u p b e. and_and i)
infix_turns ExprCompare h =
    alt_turns (mark_turns (λ i r u p b e. equals_joint 61 i Apart))
    (alt_turns (mark_turns (λ i r u p b e. less_equals i Apart))
    (alt_turns (mark_turns (λ i r u p b e. bang_equals i Apart))
    (alt_turns (mark_turns (λ i r u p b e. greater_joint 61 i Apart))
    (alt_turns (mark_turns (λ i r u p b e. less i p b e))
    (alt_turns (mark_turns (λ i r u p b e. greater i)) never_turns)))))
infix_turns ExprBitOr h = mark_turns (λ i r u p b e. bar i b)
infix_turns ExprBitXor h = mark_turns (λ i r u p b e. caret i)
infix_turns ExprBitAnd h = mark_turns (λ i r u p b e. and i b)
infix_turns ExprShift h = alt_turns (mark_turns (λ i r u p b e. less_less i b))
    (alt_turns (mark_turns (λ i r u p b e. greater_joint 62 i Apart)) never_turns)
infix_turns ExprSum h = alt_turns (mark_turns (λ i r u p b e. plus i))
    (alt_turns (mark_turns (λ i r u p b e. minus i b)) never_turns)
infix_turns ExprProduct h =
    alt_turns (mark_turns (λ i r u p b e. star i b))
    (alt_turns (mark_turns (λ i r u p b e. slash i)) (alt_turns (mark_turns (λ i r u p b e. percent i)) never_turns))
infix_turns ExprRange h = mark_turns (λ i r u p b e. dots i Apart)
infix_turns ExprRangeClosed h = mark_turns (λ i r u p b e. dots Joint Joint)
infix_turns _ h = absurd (false≢true h)

-- the own parts of forms without an operand behind them
as_turn : (cs : List ℕ) (r : List Token) → same_text (codes "as") cs ≡ true → Turn (Ident cs ∷ r) (Ident cs ∷ [])
as_turn cs r e = subst (λ ds. Turn (Ident ds ∷ r) (Ident ds ∷ [])) ((bytes_eq-Decides (codes "as") cs).0 e) an_as

abbrev pub is_last : Kind → Bool
is_last ExprCall = true
is_last ExprIndex = true
is_last ExprTry = true
is_last ExprCast = true
is_last ExprMethodCall = true
is_last ExprField = true
is_last ExprAwait = true
is_last ExprRange = true
is_last ExprRangeClosed = true
is_last _ = false

pub last_turns : (k : Kind) → is_last k ≡ true → Leads.Leads Turn more (table k)
unfolding table
last_turns ExprCall e = Leads.group_leads Turn more (λ r s. parenthesis)
last_turns ExprIndex e = Leads.group_leads Turn more (λ r s. bracket)
last_turns ExprTry e = Leads.mark_leads Turn more (λ i r. question i)
last_turns ExprCast e = Leads.seq_leads Turn more (Leads.word_leads Turn more as_turn)
last_turns ExprMethodCall e =
    Leads.seq_leads Turn more (Leads.seq_leads Turn more (Leads.mark_leads Turn more (λ i r. dot i)))
last_turns ExprField e = Leads.seq_leads Turn more
    (Leads.seq_leads Turn more (Leads.mark_leads Turn more (λ i r. dot i)))
last_turns ExprAwait e = Leads.seq_leads Turn more
    (Leads.seq_leads Turn more (Leads.mark_leads Turn more (λ i r. dot i)))
last_turns ExprRange e = Leads.mark_leads Turn more (λ i r. dots i Apart)
last_turns ExprRangeClosed e = Leads.mark_leads Turn more (λ i r. dots Joint Joint)
last_turns _ e = absurd (false≢true e)
