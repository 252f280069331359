-- What stands behind a dot: a name, a number or await.
use Rattle.std.proofs.Common.{◌≡◌, ℕ, List, ◌∷◌, refl, sym, ap, ◌∙◌}
use Rattle.std.specs.Prelude.{Bool, true, false, not, cond, Some, None, codes}
use Rattle.std.proofs.lemmas.Slice.Eq.{bytes_eq-Decides}
use Rattle.proc_macro2.specs.Token.{Token, Ident, Literal, Punct}
use Rattle.rust_leaf.specs.declared.punct.Spacing.TheVariants.{Alone as Apart}
use Rattle.syn_grammar.specs.Kind.{Plain, ExprAwait, ExprField, ExprMethodCall}
use Rattle.syn_grammar.specs.Name.{same_part}
use Rattle.syn_grammar.specs.Words.{is_ident, are_indices, ends_in_dot}
use Rattle.rust_leaf.specs.Keywords.{same_text, is_reserved}
use Rattle.syn_grammar.specs.Look.{Look, seen, sees, behind, ◌or◌}
use Rattle.syn_grammar.specs.Say.{marks, parenthesis}
use Rattle.syn_grammar.specs.Forms.{back}
use Rattle.syn_grammar.specs.Table.{table}
use Rattle.laws_binding.proofs.Sights.{back_same}
use Rattle.laws_reread_expressions.specs.Behind.{BehindOperand}
use Rattle.laws_reread_expressions.specs.Formed.{IsBehind}
use Rattle.laws_reread_expressions.specs.Simple.{lone_await, lone_field, lone_number}
use Rattle.laws_reread_expressions.proofs.Bools.{or_none}
use Rattle.laws_reread_expressions.proofs.Names.{end, colons}

-- await
plain_await : (ts : List Token) → back Plain (Punct 46 Apart ∷ Ident (codes "await") ∷ ts) ≡ Some ExprAwait
unfolding back
plain_await ts = refl

pub await_behind : (M : List Token → Type 0) → IsBehind M ExprAwait lone_await
unfolding table
await_behind M = record {
  goes_on = λ p ts s m. back_same p Plain (Punct 46 Apart ∷ Ident (codes "await") ∷ ts) refl ∙ plain_await ts;
  read = λ ts m. (((refl, refl), (refl, refl)), refl);
  held = refl;
}

-- a name
pub no_await : (cs : List ℕ) → is_ident cs ≡ true → same_text (codes "await") cs ≡ false
unfolding is_reserved
no_await cs h = go (same_text (codes "await") cs) refl
  where
    go : (b : Bool) → same_text (codes "await") cs ≡ b → b ≡ false
    go false f = refl
    go true f = sym h ∙ ap is_ident (sym ((bytes_eq-Decides (codes "await") cs).0 f))

behind_none : (b : Bool) (l : Look) (ts : List Token) → seen (l ts) ≡ false
    → seen (behind (cond b (Some ts) None) l) ≡ false
behind_none true l ts e = e
behind_none false l ts e = refl

field_last : (a b : Bool) → a ≡ false → b ≡ false
    → cond a (Some ExprAwait) (cond b (Some ExprMethodCall) (Some ExprField)) ≡ Some ExprField
field_last a b e f =
    ap (λ c. cond c (Some ExprAwait) (cond b (Some ExprMethodCall) (Some ExprField))) e
    ∙ ap (λ c. cond c (Some ExprMethodCall) (Some ExprField)) f

plain_field : (cs : List ℕ) (ts : List Token) → is_ident cs ≡ true → sees parenthesis ts ≡ false
    → seen (marks "::" ts) ≡ false → back Plain (Punct 46 Apart ∷ Ident cs ∷ ts) ≡ Some ExprField
unfolding back
plain_field cs ts h e f =
    field_last _ _ (ap (λ b. seen (cond b (Some ts) None)) (no_await cs h))
    (behind_none (is_ident cs) (parenthesis or marks "::") ts (or_none (parenthesis ts) (marks "::" ts) e f))

not_true : (b : Bool) → not b ≡ true → b ≡ false
not_true true e = cc
not_true false e = refl

no_call : (cs : List ℕ) (ts : List Token) → BehindOperand ExprField (lone_field cs) ts → sees parenthesis ts ≡ false
unfolding same_part
no_call cs ts m = not_true (sees parenthesis ts) m.1

pub field_behind : (cs : List ℕ) → is_ident cs ≡ true
    → IsBehind (BehindOperand ExprField (lone_field cs)) ExprField (lone_field cs)
unfolding table
field_behind cs h = record {
  goes_on = λ p ts s m. back_same p Plain (Punct 46 Apart ∷ Ident cs ∷ ts) refl
      ∙ plain_field cs ts h (no_call cs ts m) (ap seen (colons ts (end ts m.0).colon));
  read = λ ts m. (((refl, refl), (refl, refl)), (ap (λ b. seen (cond b (Some ts) None)) h, (refl, h)));
  held = refl;
}

-- a number that doesn't end in a dot
plain_number : (cs : List ℕ) (ts : List Token) → ends_in_dot cs ≡ false
    → back Plain (Punct 46 Apart ∷ Literal cs ∷ ts) ≡ Some ExprField
unfolding back
plain_number cs ts e = rw e refl

pub number_behind : (M : List Token → Type 0) (cs : List ℕ) → are_indices cs ≡ true → ends_in_dot cs ≡ false
    → IsBehind M ExprField (lone_number cs)
unfolding table
number_behind M cs h e = record {
  goes_on = λ p ts s m. back_same p Plain (Punct 46 Apart ∷ Literal cs ∷ ts) refl ∙ plain_number cs ts e;
  read = λ ts m. (((refl, refl), (refl, ap (λ b. seen (cond b (Some ts) None)) e)), (refl, (refl, h)));
  held = refl;
}
