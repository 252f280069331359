-- Simple expressions are formed.
use Rattle.std.proofs.Common.{◌≡◌, refl, sym, ap, ◌∙◌, subst, inl, inr}
use Rattle.std.specs.Prelude.{Bool, true, false, ◌&&◌, ◌||◌, ◌⊎◌}
use Rattle.std.proofs.lemmas.Bool.{false≢true}
use Rattle.syn_grammar.specs.Kind.{Kind, ExprPath, ExprRawAddr, ExprReference, ExprStruct, ExprAttributed}
use Rattle.syn_grammar.specs.Kind.{ExprAwait, ExprBreak, ExprField}
use Rattle.syn_grammar.specs.Tree.{Tree, Alone, Front, Back, Infix}
use Rattle.syn_grammar.specs.Normal.{normal}
use Rattle.syn_grammar.specs.Parens.{is_struct}
use Rattle.laws_reread_expressions.specs.Behind.{AtEnd, BeforeOperand, BehindOperand, is_attributed}
use Rattle.laws_reread_expressions.specs.Firm.{is_firm_front, is_firm_behind, IsOwn}
use Rattle.laws_reread_expressions.specs.Formed.{IsFront, IsBehind, Formed, is_attributed_form}
use Rattle.laws_reread_expressions.specs.Simple.{IsName, IsDotted, lone_await, lone_field, lone_number, is_break}
use Rattle.laws_reread_expressions.specs.Simple.{is_reference}
use Rattle.laws_reread_expressions.proofs.Jumps.{break_end, break_operand}
use Rattle.laws_reread_expressions.specs.Simple.{IsSimple}
use Rattle.laws_reread_expressions.proofs.Dots.{await_behind, field_behind, number_behind}
use Rattle.syn_grammar.specs.Words.{is_ident, are_indices, ends_in_dot}
use Rattle.laws_reread_expressions.proofs.Names.{name_front}
use Rattle.laws_reread_expressions.proofs.Owns.{front_part, behind_part}
use Rattle.laws_reread_expressions.proofs.Prefixes.{reference_front, address_front}

break_part : (k : Kind) (y : Tree) → is_break k ≡ true → IsOwn k y → IsFront AtEnd k y
break_part ExprBreak y e o = break_end y o
break_part _ y e o = absurd (false≢true e)

pub end_front : (k : Kind) (y : Tree) → (is_firm_front k || is_break k) ≡ true → IsOwn k y → IsFront AtEnd k y
end_front k y e o = go (is_firm_front k) refl e
  where
    go : (b : Bool) → is_firm_front k ≡ b → (b || is_break k) ≡ true → IsFront AtEnd k y
    go true f e = front_part AtEnd k y f o
    go false f e = break_part k y e o

alone_front : (k : Kind) (y : Tree) → (((is_firm_front k || is_break k) ≡ true) × IsOwn k y) ⊎ IsName k y
    → IsFront AtEnd k y
alone_front k y (inl o) = end_front k y o.0 o.1
alone_front k y (inr n) =
    subst (λ j. IsFront AtEnd j y) (sym n.0)
    (subst (λ z. IsFront AtEnd ExprPath z) (sym n.3) (name_front n.1 n.2))

reference_part : (k : Kind) (y : Tree) → (is_break k || is_reference k) ≡ true → IsOwn k y
    → IsFront (BeforeOperand k y) k y
reference_part ExprBreak y e o = break_operand y o
reference_part ExprReference y e o = reference_front y o
reference_part ExprRawAddr y e o = address_front (BeforeOperand ExprRawAddr y) y o
reference_part _ y e o = absurd (false≢true e)

pub prefix_front : (k : Kind) (y : Tree) → (is_firm_front k || is_break k || is_reference k) ≡ true → IsOwn k y
    → IsFront (BeforeOperand k y) k y
prefix_front k y e o = go (is_firm_front k) refl e
  where
    go : (b : Bool) → is_firm_front k ≡ b → (b || is_break k || is_reference k) ≡ true → IsFront (BeforeOperand k y) k y
    go true f e = front_part (BeforeOperand k y) k y f o
    go false f e = reference_part k y e o

pub prefix_plain : (k : Kind) (x : Tree) → (is_firm_front k || is_break k || is_reference k) ≡ true
    → (is_attributed k && is_attributed_form x) ≡ false
prefix_plain ExprAttributed x e = absurd (false≢true e)
prefix_plain _ x e = refl

pub behind_plain : (k : Kind) → is_firm_behind k ≡ true → is_struct k ≡ false
behind_plain ExprStruct e = absurd (false≢true e)
behind_plain _ e = refl

dotted_behind : (k : Kind) (y : Tree) → IsDotted k y → IsBehind (BehindOperand k y) k y
dotted_behind k y (inl a) =
    subst (λ j. IsBehind (BehindOperand j y) j y) (sym a.0)
    (subst (λ z. IsBehind (BehindOperand ExprAwait z) ExprAwait z) (sym a.1)
    (await_behind (BehindOperand ExprAwait lone_await)))
dotted_behind k y (inr f) = subst (λ j. IsBehind (BehindOperand j y) j y) (sym f.0) (go f.2)
  where
    go : ((is_ident f.1 ≡ true) × (y ≡ lone_field f.1))
        ⊎ ((are_indices f.1 ≡ true) × (ends_in_dot f.1 ≡ false) × (y ≡ lone_number f.1))
        → IsBehind (BehindOperand ExprField y) ExprField y
    go (inl a) =
        subst (λ z. IsBehind (BehindOperand ExprField z) ExprField z) (sym a.1) (field_behind f.1 a.0)
    go (inr a) =
        subst (λ z. IsBehind (BehindOperand ExprField z) ExprField z) (sym a.2)
        (number_behind (BehindOperand ExprField (lone_number f.1)) f.1 a.0 a.1)

back_behind : (k : Kind) (y : Tree) → ((is_firm_behind k ≡ true) × IsOwn k y) ⊎ IsDotted k y
    → IsBehind (BehindOperand k y) k y
back_behind k y (inl o) = behind_part (BehindOperand k y) k y o.0 o.1
back_behind k y (inr d) = dotted_behind k y d

dotted_plain : (k : Kind) (y : Tree) → ((is_firm_behind k ≡ true) × IsOwn k y) ⊎ IsDotted k y → is_struct k ≡ false
dotted_plain k y (inl o) = behind_plain k o.0
dotted_plain k y (inr (inl a)) = ap is_struct a.0
dotted_plain k y (inr (inr f)) = ap is_struct f.0

pub simple : (x : Tree) → IsSimple x → Formed x
simple (Alone k y) s = (alone_front k (normal y) s.0, s.1)
simple (Front k y x) s = (prefix_front k (normal y) s.0 s.1, s.2, prefix_plain k x s.0, simple x s.3)
simple (Back l k y) s = (
  back_behind k (normal y) s.0,
  s.1,
  λ t. absurd (false≢true (sym (dotted_plain k (normal y) s.0) ∙ t)),
  simple l s.2,
)
simple (Infix l k y r) s = (
  behind_part (BeforeOperand k (normal y)) k (normal y) s.0 s.1,
  s.2,
  behind_plain k s.0,
  simple l s.3,
  simple r s.4,
)
simple _ s = absurd s
