use Rattle.std.specs.Prelude.{◌≡◌, ℕ, false, refl}
use Rattle.std.proofs.Common.{◌∙◌, ap, subst, sym}
use Rattle.reader_table.specs.Words.{sign_text}
use Rattle.reader_table.specs.Ops.{separator_of}
use Rattle.reader_tree.specs.Forms.{tree_of}
use Rattle.reader_tree.specs.declared.tree.Form.{Form}
use Rattle.reader_tree.specs.declared.tree.Form.TheVariants as forms
use Rattle.syn_expr.proofs.Alternatives.{elements_choice, is_choice, mark_choice, nth_inside, nth_off, turns_choice}
use Rattle.syn_expr.proofs.expr.forms.+nth.Goals as goal

-- a form that is neither of both is no choice
form_choice : (f : Form) → ((n : ℕ) (b : _) → f ≡ forms.First n b → ⊥) → ((n : ℕ) (b : _) → f ≡ forms.Second n b → ⊥)
    → is_choice (tree_of f) ≡ false
form_choice (forms.First n b) d e = absurd (d n b refl)
form_choice (forms.Second n b) d e = absurd (e n b refl)
form_choice (forms.Mark s spacing span) d e = mark_choice (sign_text s) spacing
form_choice (forms.Turns v) d e = turns_choice v.now.each.now
form_choice (forms.Elements l) d e =
    elements_choice (separator_of l.now.separator) l.now.before.now (λ b. b.now) l.now.last
form_choice _ d e = refl

pub returns-in_default : goal.returns-in_default
returns-in_default t c = λ y q.
    nth_off c.args.tree.now c.args.number y
    (subst (λ z. is_choice z ≡ false) c.tree.view_is (form_choice c.tree.inside.form c.in_default.not-First
    c.in_default.not-Second)) q

pub returns-then-depth-number-2 : goal.returns-then-depth-number-2
returns-then-depth-number-2 t c =
    nth_inside c.nth.result c.args.tree.now c.in-Second.depth c.args.number c.in-Second.inner.now c.in-Second.inner.now
    (sym c.tree.view_is ∙ ap tree_of c.in-Second.is) c.if-depth-number-2.true refl c.nth.ensures
