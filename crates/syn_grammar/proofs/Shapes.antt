-- What one keeps who writes in one pass decides the parentheses.
use Rattle.std.proofs.Common.{◌≡◌, ℕ, ◌≤◌, ◌<◌, List, refl, sym, ap, ◌∙◌, arith}
use Rattle.std.specs.Prelude.{Bool, true, false, not, cond, ◌&&◌, ◌||◌, nat_le, nat_lt, nat_eq, min}
use Rattle.std.proofs.lemmas.Bool.{le-leb, lt-ltb, eqb-true}
use Rattle.std.proofs.lemmas.Bool.Decides.{nat_tests}
use Rattle.proc_macro2.specs.Token.{Token}
use Rattle.syn_grammar.specs.Kind.{Kind, ExprStruct, ExprBreak, ExprReturn, ExprYield, ExprClosure, ExprAssign}
use Rattle.syn_grammar.specs.Kind.{ExprRange, ExprRangeClosed, ExprOr, ExprAnd, ExprLet, ExprCompare, ExprBitOr}
use Rattle.syn_grammar.specs.Kind.{ExprBitXor, ExprBitAnd, ExprShift, ExprSum, ExprProduct, ExprCast, ExprUnary}
use Rattle.syn_grammar.specs.Kind.{ExprRawAddr, ExprReference, ExprAttributed}
use Rattle.syn_grammar.specs.Tree.{Tree, Front, Back, Infix}
use Rattle.syn_grammar.specs.Forms.{level, is_range, takes_postfix, may_be_left, takes, within}
use Rattle.syn_grammar.specs.Parens.{is_ended, is_struct}
use Rattle.syn_grammar.specs.Shape.{lowest, least, cap, is_open, last_ends, ended_by_shape}

takes_lowest : (n m : ℕ) → takes n m ≡ nat_le (lowest n) m
unfolding takes
takes_lowest n m = grind (arith, nat_tests)

below_both : (a m c : ℕ) → (not (nat_le a m) && nat_lt m c) ≡ nat_lt m (min a c)
below_both a m c = grind (arith, nat_tests)

less_both : (m a c : ℕ) → (nat_lt m a && nat_lt m c) ≡ nat_lt m (min a c)
less_both m a c = grind (arith, nat_tests)

at_least_both : (a b c : ℕ) → (nat_le a b && nat_le a c) ≡ nat_le a (min b c)
at_least_both a b c = grind (arith, nat_tests)

-- no level is above 16
level_le : (k : Kind) → level k < 17
unfolding level
level_le ExprBreak = omega arith
level_le ExprReturn = omega arith
level_le ExprYield = omega arith
level_le ExprClosure = omega arith
level_le ExprAssign = omega arith
level_le ExprRange = omega arith
level_le ExprRangeClosed = omega arith
level_le ExprOr = omega arith
level_le ExprAnd = omega arith
level_le ExprLet = omega arith
level_le ExprCompare = omega arith
level_le ExprBitOr = omega arith
level_le ExprBitXor = omega arith
level_le ExprBitAnd = omega arith
level_le ExprShift = omega arith
level_le ExprSum = omega arith
level_le ExprProduct = omega arith
level_le ExprCast = omega arith
level_le ExprUnary = omega arith
level_le ExprRawAddr = omega arith
level_le ExprReference = omega arith
level_le ExprAttributed = omega arith
level_le _ = omega arith

-- right operands
pub right_is : (n : ℕ) (x : Tree) → lowest n ≤ 17 → within n x ≡ nat_le (lowest n) (least x)
right_is n (Back l k y) h =
    ap (λ b. b && within n l) (takes_lowest n (level k)) ∙ ap (λ b. nat_le (lowest n) (level k) && b) (right_is n l h)
    ∙ at_least_both (lowest n) (level k) (least l)
right_is n (Infix l k y r) h =
    ap (λ b. b && within n l) (takes_lowest n (level k)) ∙ ap (λ b. nat_le (lowest n) (level k) && b) (right_is n l h)
    ∙ at_least_both (lowest n) (level k) (least l)
right_is n _ h = sym (le-leb _ _ h)

-- left operands
may_is : (k : Kind) (x : Tree) → is_struct k ≡ false
    → may_be_left k x ≡ cond (nat_eq (level k) 16) (takes_postfix x) (not (is_range x))
may_is ExprStruct x e = cc
may_is _ x e = refl

-- before a postfix form
takes_top : (m : ℕ) → takes m 16 ≡ nat_lt m 16
unfolding takes
takes_top m = grind (arith, nat_tests)

one_open : (a b o l : Bool) → (not (a && b) && (not o && l)) ≡ (not ((a && b) || o) && l)
one_open true true o l = refl
one_open true false o l = refl
one_open false b o l = refl

-- before an infix form or a cast
and_no : (b : Bool) → (b && false) ≡ false
and_no true = refl
and_no false = refl

one_below : (m n : ℕ) (r : Bool) → n < 17 → not (takes m n && not r) ≡ nat_lt n (cond r 17 (lowest m))
unfolding takes
one_below m n true h = ap not (and_no (takes m n)) ∙ sym (lt-ltb n 17 h)
one_below m n false h = grind (arith, nat_tests)

pair_and : (a b l : Bool) → (a && (b && l)) ≡ ((a && b) && l)
pair_and true b l = refl
pair_and false b l = refl

module _ (k : Kind) (ts : List Token) (no_struct : is_struct k ≡ false) where
  open_step : (m : ℕ) (x : Tree) (o l : Bool) → nat_eq (level k) 16 ≡ true → level k ≡ 16
      → (not (takes m (level k) && may_be_left k x) && (not o && l))
      ≡ (not ((nat_lt m 16 && takes_postfix x) || o) && l)
  open_step m x o l e f =
      ap (λ b. not (takes m (level k) && b) && (not o && l))
      (may_is k x no_struct ∙ ap (λ b. cond b (takes_postfix x) (not (is_range x))) e)
      ∙ ap (λ n. not (takes m n && takes_postfix x) && (not o && l)) f
      ∙ ap (λ b. not (b && takes_postfix x) && (not o && l)) (takes_top m)
      ∙ one_open (nat_lt m 16) (takes_postfix x) o l

  opened_is : (x : Tree) → nat_eq (level k) 16 ≡ true → level k ≡ 16
      → is_ended k ts x ≡ (not (is_open x) && last_ends k ts x)
  opened_is (Front j y x) e f =
      ap (λ b. not (takes (level j) (level k) && may_be_left k x) && b) (opened_is x e f)
      ∙ open_step (level j) x (is_open x) (last_ends k ts x) e f
  opened_is (Infix l j y r) e f =
      ap (λ b. not (takes (level j) (level k) && may_be_left k r) && b) (opened_is r e f)
      ∙ open_step (level j) r (is_open r) (last_ends k ts r) e f
  opened_is _ e f = refl

  below_step : (m : ℕ) (x : Tree) (c : ℕ) (l : Bool) → nat_eq (level k) 16 ≡ false
      → (not (takes m (level k) && may_be_left k x) && (nat_lt (level k) c && l))
      ≡ (nat_lt (level k) (min (cond (is_range x) 17 (lowest m)) c) && l)
  below_step m x c l e =
      ap (λ b. not (takes m (level k) && b) && (nat_lt (level k) c && l))
      (may_is k x no_struct ∙ ap (λ b. cond b (takes_postfix x) (not (is_range x))) e)
      ∙ ap (λ b. b && (nat_lt (level k) c && l)) (one_below m (level k) (is_range x) (level_le k))
      ∙ pair_and (nat_lt (level k) (cond (is_range x) 17 (lowest m))) (nat_lt (level k) c) l
      ∙ ap (λ b. b && l) (less_both (level k) (cond (is_range x) 17 (lowest m)) c)

  below_is : (x : Tree) → nat_eq (level k) 16 ≡ false → is_ended k ts x ≡ (nat_lt (level k) (cap x) && last_ends k ts x)
  below_is (Front j y x) e =
      ap (λ b. not (takes (level j) (level k) && may_be_left k x) && b) (below_is x e)
      ∙ below_step (level j) x (cap x) (last_ends k ts x) e
  below_is (Infix l j y r) e =
      ap (λ b. not (takes (level j) (level k) && may_be_left k r) && b) (below_is r e)
      ∙ below_step (level j) r (cap r) (last_ends k ts r) e
  below_is x e = sym (ap (λ b. b && last_ends k ts x) (lt-ltb (level k) 17 (level_le k)))

  pub ended_is : (x : Tree) → is_ended k ts x ≡ ended_by_shape k ts x
  ended_is x = go (nat_eq (level k) 16) refl
    where
      go : (b : Bool) → nat_eq (level k) 16 ≡ b
          → is_ended k ts x ≡ (cond b (not (is_open x)) (nat_lt (level k) (cap x)) && last_ends k ts x)
      go true e = opened_is x e (eqb-true (level k) 16 e)
      go false e = below_is x e
