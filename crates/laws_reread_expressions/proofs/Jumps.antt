-- The own part of break, with a label or without.
use Rattle.std.proofs.Common.{◌≡◌, ℕ, List, [], ◌∷◌, refl, sym, ap, ◌∙◌, subst}
use Rattle.std.specs.Prelude.{false, Some, codes}
use Rattle.std.proofs.lemmas.Slice.Eq.{bytes_eq-Decides}
use Rattle.proc_macro2.specs.Token.{Token, Ident}
use Rattle.syn_grammar.specs.Kind.{Position, ExprBreak}
use Rattle.syn_grammar.specs.Name.{the_label, same_part}
use Rattle.syn_grammar.specs.Words.{is_bool}
use Rattle.syn_grammar.specs.Tree.{Tree, AWord, ALifetime, Nil, Pair, First, Second, Called}
use Rattle.syn_grammar.specs.Look.{sees, a_lifetime}
use Rattle.syn_grammar.specs.Say.{marks}
use Rattle.syn_grammar.specs.Forms.{front}
use Rattle.syn_grammar.specs.Table.{table}
use Rattle.laws_binding.proofs.Leads.{is_nil}
use Rattle.laws_reread_expressions.specs.Behind.{AtEnd, BeforeOperand}
use Rattle.laws_reread_expressions.specs.Firm.{IsOwn}
use Rattle.laws_reread_expressions.specs.Formed.{IsFront}
use Rattle.laws_reread_expressions.proofs.Names.{end}
use Rattle.laws_reread_expressions.proofs.Signs.{is_never}

abbrev bare : List ℕ → Tree
bare text = Pair (AWord text) (Second Nil)

abbrev labelled : List ℕ → Tree
labelled w = Pair (AWord (codes "break")) (First (Pair (Called the_label (ALifetime w)) (Second Nil)))

break_front : (p : Position) (ts : List Token) → front p (Ident (codes "break") ∷ ts) ≡ Some ExprBreak
unfolding front is_bool
break_front p ts = refl

-- behind which no lifetime stands, or no colon
bare_break : (M : List Token → Type 0) → ((ts : List Token) → M ts → sees a_lifetime ts ≡ false)
    → IsFront M ExprBreak (bare (codes "break"))
unfolding table
bare_break M h = record {
  begins = λ p ts s m. break_front p ts;
  read = λ ts m. (refl, (h ts m, tt));
  held = refl;
  single = λ ts m. refl;
}

labelled_break : (M : List Token → Type 0) (w : List ℕ) → ((ts : List Token) → M ts → sees (marks ":") ts ≡ false)
    → IsFront M ExprBreak (labelled w)
unfolding table
labelled_break M w h = record {
  begins = λ p ts s m. break_front p _;
  read = λ ts m. (refl, (refl, ((refl, tt), (h ts m, tt))));
  held = refl;
  single = λ ts m. refl;
}

-- what is asked of what follows
abbrev Plainly : (Tree → List Token → Type 0) → Type 0
Plainly M =
    ((ts : List Token) → M (bare (codes "break")) ts → sees a_lifetime ts ≡ false)
    × ((w : List ℕ) (ts : List Token) → M (labelled w) ts → sees (marks ":") ts ≡ false)

break_by : (M : Tree → List Token → Type 0) → Plainly M → (y : Tree) → IsOwn ExprBreak y → IsFront (M y) ExprBreak y
unfolding table
break_by M h (Pair (AWord cs) (Second z)) o =
    let e : Pair (AWord cs) (Second z) ≡ bare (codes "break") =
    ap (λ v. Pair (AWord v) (Second z)) (sym ((bytes_eq-Decides (codes "break") cs).0 o.0.0))
    ∙ ap (λ v. Pair (AWord (codes "break")) (Second v)) (is_nil z [] o.0.1.1) in
    subst (λ v. IsFront (M v) ExprBreak v) (sym e) (bare_break (M (bare (codes "break"))) h.0)
break_by M h (Pair (AWord cs) (First (Pair (Called n (ALifetime w)) (Second z)))) o =
    let e : Pair (AWord cs) (First (Pair (Called n (ALifetime w)) (Second z))) ≡ labelled w =
    ap (λ v. Pair (AWord v) (First (Pair (Called n (ALifetime w)) (Second z))))
    (sym ((bytes_eq-Decides (codes "break") cs).0 o.0.0))
    ∙ ap (λ v. Pair (AWord (codes "break")) (First (Pair (Called v (ALifetime w)) (Second z)))) o.0.1.1.0.0
    ∙ ap (λ v. Pair (AWord (codes "break")) (First (Pair (Called the_label (ALifetime w)) (Second v))))
    (is_nil z [] o.0.1.1.1.1) in
    subst (λ v. IsFront (M v) ExprBreak v) (sym e) (labelled_break (M (labelled w)) w (h.1 w))
break_by M h (Pair (AWord cs) (First (Pair (Called n (ALifetime w)) (First z)))) o = absurd (is_never z [] o.0.1.1.1.1)
break_by M h (Pair (AWord cs) (First (Pair (Called n (ALifetime w)) _))) o = elim o.0.1.1.1 [ ]
break_by M h (Pair (AWord cs) (First (Pair (Called n _) z))) o = elim o.0.1.1.0.1 [ ]
break_by M h (Pair (AWord cs) (First (Pair _ z))) o = elim o.0.1.1.0 [ ]
break_by M h (Pair (AWord cs) (First _)) o = elim o.0.1.1 [ ]
break_by M h (Pair (AWord cs) _) o = elim o.0.1 [ ]
break_by M h (Pair _ z) o = elim o.0.0 [ ]
break_by M h _ o = elim o.0 [ ]

label_colon : (w : List ℕ) (ts : List Token) → BeforeOperand ExprBreak (labelled w) ts → sees (marks ":") ts ≡ false
unfolding same_part
label_colon w ts m = m.1

pub break_end : (y : Tree) → IsOwn ExprBreak y → IsFront AtEnd ExprBreak y
break_end y o =
    break_by (λ z ts. AtEnd ts) (λ ts e. (end ts e).lifetime, λ w ts e. (end ts e).colon) y o

pub break_operand : (y : Tree) → IsOwn ExprBreak y → IsFront (BeforeOperand ExprBreak y) ExprBreak y
break_operand y o = break_by (λ z ts. BeforeOperand ExprBreak z ts) (λ ts m. m.1, label_colon) y o
