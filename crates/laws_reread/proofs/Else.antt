-- An expression that ends neither in a jump or a half-open range without its operand nor in an if is read before else
-- too: normal form is made of it as before nothing, and its last own part ends there.
use Rattle.std.proofs.Common.{◌≡◌, List, [], ◌∷◌, refl, sym, ap, ◌∙◌, subst}
use Rattle.std.specs.Prelude.{Bool, true, false, not, ◌&&◌, ◌||◌, None, codes}
use Rattle.std.proofs.lemmas.Bool.{false≢true}
use Rattle.proc_macro2.specs.Token.{Token, Ident}
use Rattle.syn_grammar.specs.Kind.{Kind, Position, Plain, InCondition, InArm, InStatement, ExprBreak, ExprCast}
use Rattle.syn_grammar.specs.Kind.{ExprPath}
use Rattle.syn_grammar.specs.Tree.{Tree, Whole, Alone, Front, Back, Infix, flat}
use Rattle.syn_grammar.specs.Gram.{operand}
use Rattle.syn_grammar.specs.Look.{sees}
use Rattle.syn_grammar.specs.Say.{at}
use Rattle.syn_grammar.specs.Derives.{Derives}
use Rattle.syn_grammar.specs.Kept.{kept}
use Rattle.syn_grammar.specs.Forms.{back, has_right, inside}
use Rattle.syn_grammar.specs.Normal.{normal, formed, stands_behind}
use Rattle.syn_grammar.specs.Parens.{front_form, infix_form, follow, may_lack, parens_unless}
use Rattle.syn_grammar.specs.Parens.{stands_in, takes_braces, takes_what_follows, with_left}
use Rattle.syn_grammar.proofs.Settled.{Settled}
use Rattle.laws_binding.proofs.Sights.{backs_are}
use Rattle.laws_reread_expressions.specs.Formed.{IsBehind}
use Rattle.laws_reread_expressions.specs.Simple.{is_break}
use Rattle.laws_reread_expressions.proofs.Names.{End}
use Rattle.laws_reread_kinds.specs.After.{After, is_closed, is_if}
use Rattle.laws_reread_kinds.specs.Covered.{has_form_step}
use Rattle.laws_reread_kinds.proofs.Choices.{is_false}
use Rattle.laws_reread_kinds.proofs.Ends.{closed_kept}
use Rattle.laws_reread_kinds.proofs.Fits.{FitsForms, IsFormed, HasOperands}
use Rattle.laws_reread_kinds.proofs.Readies.{OwnReady, Ready}
use Rattle.laws_reread_kinds.specs.Covered.{is_form}
use Rattle.laws_reread_kinds.proofs.Braces.{else_there}
use Rattle.laws_reread.proofs.Casts.{goes_on_as}
use Rattle.laws_reread.proofs.Dots.{field_before_else}
use Rattle.laws_reread.proofs.Held.{stays}
use Rattle.laws_reread.proofs.Owned.{Last, read_before}
use Rattle.laws_reread.proofs.Parts.{Ends, IsCalm, Says, alone_kind, alone_own, back_kind, back_own, before_calm}
use Rattle.laws_reread.proofs.Parts.{fronts_are, lacks, own, owned}
use Rattle.laws_reread.proofs.Settled.{settles}

abbrev IsElse : List Token → Type 0
IsElse ts = (us : List Token) × (ts ≡ Ident (codes "else") ∷ us)

abbrev behind_else : List Token → List Token
behind_else us = Ident (codes "else") ∷ us

-- normal form is made of it as before nothing
same_braces : (p : Position) (k : Kind) (us : List Token)
    → takes_braces p k (behind_else us) ≡ takes_braces p k []
same_braces Plain ExprPath us = refl
same_braces InCondition ExprPath us = refl
same_braces InArm ExprPath us = refl
same_braces InStatement ExprPath us = refl
same_braces p _ us = refl

same_follows : (p : Position) (k : Kind) (us : List Token) → may_lack k ≡ false
    → takes_what_follows p k (behind_else us) ≡ takes_what_follows p k []
same_follows p k us e =
    ap (λ b. (b && has_right p k (behind_else us)) || takes_braces p k (behind_else us)) e ∙ same_braces p k us
    ∙ sym (ap (λ b. (b && has_right p k []) || takes_braces p k []) e)

neither : (a b : Bool) → not (a || b) ≡ true → (a ≡ false) × (b ≡ false)
neither false false e = (refl, refl)
neither false true e = cc e
neither true b e = cc e

formed_else : (x : Tree) (p : Position) (us : List Token) → is_closed x ≡ true
    → formed p (behind_else us) x ≡ formed p [] x
formed_else (Alone k y) p us c =
    ap (λ b. parens_unless (not b) (Alone k (normal y))) (same_follows p k us (neither (may_lack k) (is_if k) c).0)
formed_else (Front k y x) p us c = ap (front_form p k (normal y)) (formed_else x (inside p k) us c)
formed_else (Back l k y) p us c =
    ap (λ b. parens_unless (stands_in p k && not b)
    (Back (with_left p k (normal y) (formed p (follow (flat (normal y))) l)) k (normal y)))
    (same_follows p k us (is_false (may_lack k) c))
formed_else (Infix l k y r) p us c =
    ap (infix_form p (formed p (follow (flat (normal y))) l) k (normal y)) (formed_else r (inside p k) us c)
formed_else _ p us c = refl

-- what its own parts ask for
calm_else : (us : List Token) → IsCalm (behind_else us)
calm_else us = (refl, (refl, (refl, (refl, (refl, (refl, (refl, (refl, (refl, (refl, tt))))))))))

after_else : (k : Kind) (y : Tree) (ts : List Token) → is_form k ≡ true → is_if k ≡ false → IsElse ts → After k y ts
after_else k y ts h e m =
    subst (After k y) (sym m.1)
    (before_calm k y (behind_else m.0) h (calm_else m.0) (λ i. absurd (false≢true (sym e ∙ ap is_if i))))

break_lacks : (k : Kind) → is_break k ≡ true → may_lack k ≡ true
unfolding may_lack
break_lacks ExprBreak e = refl
break_lacks _ e = absurd (false≢true e)

ends_else : (k : Kind) (y : Tree) → is_form k ≡ true → is_closed (Alone k y) ≡ true → Ends IsElse k y
ends_else k y h c =
    let n = neither (may_lack k) (is_if k) c in
    record {
      ends = λ ts m. subst End (sym m.1)
          (record { colon = refl; lifetime = refl; bang = refl; const = refl; mut = refl });
      started = λ e ts m. after_else k y ts h n.1 m;
      jump = λ b. absurd (false≢true (sym n.0 ∙ break_lacks k b));
    }

cast_else : (y : Tree) → OwnReady ExprCast y → flat (normal (kept y)) ≡ flat y → IsBehind IsElse ExprCast y
unfolding has_form_step
cast_else y w n = record {
  goes_on = λ p ts s m. goes_on_as p y ts (w ts (after_else ExprCast y ts refl refl m)).0;
  read = λ ts m. (w ts (after_else ExprCast y ts refl refl m)).0;
  held = n;
}

says_else : Says (λ k y. IsElse)
says_else = record { cast = cast_else; field = field_before_else IsElse (λ ts m. m) }

last_else : (x : Tree) → FitsForms x → HasOperands x → Ready x → (p : Position) (ts : List Token)
    → Settled p ts (kept x) → is_closed x ≡ true → (us : List Token) → Last (behind_else us) x
last_else (Alone k y) h o w p ts s c us =
    let m = alone_kind k o.0.0 (fronts_are o.0.1 k o.0.2 o.0.3) (lacks k o.1) in
    let i = alone_own IsElse k y (ends_else k y o.0.0 c) m o.2 h.1 w (own k y o.0.0 h.1 w s.0) in (
      λ q b. i.begins q (behind_else us) b (us, refl),
      i.read (behind_else us) (us, refl),
      i.single (behind_else us) (us, refl),
    )
last_else (Front k y x) h o w p ts s c us = last_else x h.3 o.2 w.1 (inside p k) ts s.3 c us
last_else (Back l k y) h o w p ts s c us =
    let t : Settled p ts (Back (kept l) k (kept y)) = subst (Settled p ts) (h.3 (kept l)) s in
    let m = back_kind k o.0.0 (backs_are o.0.1 k o.0.2 o.0.3) in
    let i = back_own (λ k y. IsElse) says_else k y m h.1 h.2 h.3 w.1 (own k y o.0.0 h.1 w.1 t.0) in
    (λ q b. i.goes_on q (behind_else us) b (us, refl), i.read (behind_else us) (us, refl))
last_else (Infix l k y r) h o w p ts s c us = last_else r h.4 o.3 w.2 (inside p k) ts s.4 c us
last_else _ h o w p ts s c us = absurd h

none_back : (us : List Token) → back InCondition (behind_else us) ≡ None
unfolding back
none_back us = refl

pub read_before_else : (x : Tree) (ts : List Token) → IsFormed Plain x → FitsForms x → HasOperands x
    → Ready x → is_closed x ≡ true → sees (at "else") ts ≡ true → Derives (Whole x) (operand Plain 0) ts
unfolding stands_behind
read_before_else x ts i f o w c e =
    let m = else_there ts e in
    let us : List Token = behind_else m.0 in
    let s : Settled Plain [] (kept x) = settles (kept x) Plain [] i in
    let r : formed Plain us (kept x) ≡ kept x = formed_else (kept x) Plain m.0 (closed_kept x f ∙ c) ∙ i in
    subst (Derives (Whole x) (operand Plain 0)) (sym m.1)
    (read_before Plain x us (owned x f o w Plain [] s) (stays x f Plain us (settles (kept x) Plain us r))
    (last_else x f o w Plain [] s c m.0) (none_back m.0))
