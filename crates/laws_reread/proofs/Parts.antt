-- The own parts of an expression that fits, and whose parts are read back, are read wherever their forms may stand.
use Rattle.std.proofs.Common.{◌≡◌, ℕ, List, [], ◌∷◌, ◌++◌, refl, sym, ap, ◌∙◌, subst, append_assoc, ⊎_elim, inl, inr}
use Rattle.std.specs.Prelude.{zero, suc, Bool, true, false, not, ◌&&◌, ◌||◌, Some}
use Rattle.std.proofs.lemmas.List.{append-nil}
use Rattle.std.proofs.lemmas.Bool.{false≢true}
use Rattle.proc_macro2.specs.Token.{Token, Opens}
use Rattle.proc_macro2.specs.declared.delimiter.Delimiter.TheVariants.{Parenthesis, Brace}
use Rattle.rust_leaf.specs.declared.punct.Spacing.TheVariants.{Alone as Apart}
use Rattle.syn_grammar.specs.Kind.{Kind, Position, Plain, InExpression, AtType, Expression, ExprLit, ExprPath}
use Rattle.syn_grammar.specs.Kind.{ExprContinue}
use Rattle.syn_grammar.specs.Kind.{ExprStruct, InCondition, InArm, InStatement, ExprParen, ExprGroup, ExprInfer}
use Rattle.syn_grammar.specs.Kind.{ExprUnsafe, ExprTryBlock, ExprCall, ExprMethodCall, ExprField, ExprAwait}
use Rattle.syn_grammar.specs.Kind.{ExprIndex, ExprTry}
use Rattle.syn_grammar.specs.Kind.{ExprUnary, ExprRawAddr}
use Rattle.syn_grammar.specs.Kind.{ExprReference, ExprBreak, ExprReturn, ExprYield, ExprRange, ExprRangeClosed}
use Rattle.syn_grammar.specs.Kind.{ExprAssign, ExprOr, ExprAnd, ExprCompare, ExprBitOr, ExprBitXor, ExprBitAnd}
use Rattle.syn_grammar.specs.Kind.{ExprShift, ExprSum, ExprProduct, ExprMacro, ExprIf, ExprMatch, ExprWhile}
use Rattle.syn_grammar.specs.Kind.{ExprAttributed, ExprCast, ExprClosure, ExprForLoop}
use Rattle.syn_grammar.specs.Kind.{ExprArray, ExprAsync, ExprBlock, ExprConst, ExprLet, ExprLoop, ExprRepeat}
use Rattle.syn_grammar.specs.Tree.{Tree, Alone, Front, Back, Infix, marks, flat}
use Rattle.syn_grammar.specs.Words.{is_ident}
use Rattle.syn_grammar.specs.Look.{a_lifetime, sees}
use Rattle.syn_grammar.specs.Say.{at, marks as a_mark}
use Rattle.syn_grammar.specs.Expressions.{postfix_stands}
use Rattle.syn_grammar.specs.Paths.{arguments_stand, parentheses_stand}
use Rattle.syn_grammar.specs.Ranks.{skips}
use Rattle.syn_grammar.specs.Table.{table}
use Rattle.syn_grammar.specs.Kept.{kept}
use Rattle.syn_grammar.specs.Normal.{normal}
use Rattle.syn_grammar.specs.Forms.{fronts, front, back, level, inside}
use Rattle.syn_grammar.specs.Parens.{may_lack, follow, is_struct, stands_in}
use Rattle.syn_grammar.proofs.Settled.{Settled}
use Rattle.laws_binding.proofs.Begun.{is_front, first_passes}
use Rattle.laws_binding.proofs.Shells.{is_dot}
use Rattle.laws_binding.proofs.Sights.{is_back, backs_are}
use Rattle.laws_reread_expressions.specs.Behind.{AtEnd, BeforeOperand, BehindOperand}
use Rattle.laws_reread_expressions.specs.Firm.{is_firm_front, is_firm_behind, IsOwn}
use Rattle.laws_reread_expressions.specs.Formed.{IsFront, IsBehind, ends_by_itself}
use Rattle.laws_reread_expressions.specs.Formed.{may_lack_operand, may_have_operand}
use Rattle.laws_reread_expressions.specs.Simple.{is_break, is_reference, lone_field}
use Rattle.laws_reread_expressions.proofs.Opened.{fixed_right}
use Rattle.laws_reread_expressions.proofs.Dots.{field_behind}
use Rattle.laws_reread_expressions.proofs.Names.{End, end}
use Rattle.laws_reread_expressions.proofs.Owns.{behind_part, front_part}
use Rattle.laws_reread_expressions.proofs.Simples.{end_front, prefix_front, behind_plain}
use Rattle.laws_reread_kinds.specs.After.{After}
use Rattle.laws_reread_kinds.specs.Sees.{LacksAll}
use Rattle.laws_reread_kinds.specs.Covered.{has_form_step, is_plain_part}
use Rattle.laws_reread_kinds.proofs.Begins.{Begins}
use Rattle.laws_reread_kinds.proofs.Classes.{Class, Sign, TheWord, AnyWord, Quoted, Tick, Opening, Then, IsAt, IsAmong}
use Rattle.laws_reread_kinds.proofs.Classes.{AnyFront, RawFront, of_all}
use Rattle.syn_grammar.proofs.Whole.{and_true}
use Rattle.laws_reread_kinds.proofs.Fits.{Fits, FitsForms, HasOperands, IsFrontKind, IsMeant, IsWhole, MayLack, MayHave}
use Rattle.laws_reread_kinds.proofs.Fits.{flat_kept}
use Rattle.laws_reread_kinds.proofs.Readies.{OwnReady, Ready}
use Rattle.laws_reread_kinds.proofs.Starts.{starts}
use Rattle.syn_grammar.specs.Kind.{ExprTypedClosure}
use Rattle.laws_reread_kinds.specs.Covered.{is_form}
use Rattle.laws_reread.proofs.Casts.{cast_part}
use Rattle.laws_reread.proofs.Closures.{closure_part, typed_part}
use Rattle.laws_reread.proofs.Blocks.{block_part, is_block}
use Rattle.laws_reread.proofs.Dots.{dot_own}
use Rattle.laws_reread.proofs.Macros.{macro_part}
use Rattle.laws_reread.proofs.Operands.{together}
use Rattle.laws_reread.proofs.Owned.{Owned}
use Rattle.laws_reread.proofs.Paths.{path_part}
use Rattle.laws_reread.proofs.Starting.{is_started, started_after, started_part, is_led, led_part}

-- the kinds
pub fronts_are : (p : Position) (k : Kind) (ts : List Token) → front p ts ≡ Some k → is_front k ≡ true
unfolding front
fronts_are p k ts e = first_passes is_front (fronts p) ts k refl e

abbrev is_closure : Kind → Bool
is_closure ExprClosure = true
is_closure k = false

front_kind : (k : Kind) → is_form k ≡ true → is_front k ≡ true → may_have_operand k ≡ true
    → (is_closure k || (is_led k || (is_firm_front k || is_break k || is_reference k))) ≡ true
unfolding has_form_step may_lack level
front_kind ExprAttributed e f h = refl
front_kind ExprUnary e f h = refl
front_kind ExprRawAddr e f h = refl
front_kind ExprReference e f h = refl
front_kind ExprLet e f h = refl
front_kind ExprBreak e f h = refl
front_kind ExprReturn e f h = refl
front_kind ExprYield e f h = refl
front_kind ExprClosure e f h = refl
front_kind ExprRange e f h = refl
front_kind ExprRangeClosed e f h = refl
front_kind ExprArray e f h = absurd (false≢true h)
front_kind ExprAsync e f h = absurd (false≢true h)
front_kind ExprBlock e f h = absurd (false≢true h)
front_kind ExprConst e f h = absurd (false≢true h)
front_kind ExprContinue e f h = absurd (false≢true h)
front_kind ExprForLoop e f h = absurd (false≢true h)
front_kind ExprGroup e f h = absurd (false≢true h)
front_kind ExprIf e f h = absurd (false≢true h)
front_kind ExprInfer e f h = absurd (false≢true h)
front_kind ExprLit e f h = absurd (false≢true h)
front_kind ExprLoop e f h = absurd (false≢true h)
front_kind ExprMacro e f h = absurd (false≢true h)
front_kind ExprMatch e f h = absurd (false≢true h)
front_kind ExprParen e f h = absurd (false≢true h)
front_kind ExprPath e f h = absurd (false≢true h)
front_kind ExprRepeat e f h = absurd (false≢true h)
front_kind ExprTryBlock e f h = absurd (false≢true h)
front_kind ExprTypedClosure e f h = absurd (false≢true h)
front_kind ExprUnsafe e f h = absurd (false≢true h)
front_kind ExprWhile e f h = absurd (false≢true h)
front_kind _ e f h = absurd (false≢true f)

abbrev pub is_path : Kind → Bool
is_path ExprPath = true
is_path k = false

abbrev pub is_macro : Kind → Bool
is_macro ExprMacro = true
is_macro k = false

abbrev pub is_typed : Kind → Bool
is_typed ExprTypedClosure = true
is_typed k = false

pub alone_kind : (k : Kind) → is_form k ≡ true → is_front k ≡ true → may_lack_operand k ≡ true
    → (is_path k || (is_macro k || (is_typed k || (is_started k || (is_block k || (is_firm_front k || is_break k))))))
    ≡ true
unfolding has_form_step may_lack level
alone_kind ExprArray e f h = refl
alone_kind ExprAsync e f h = refl
alone_kind ExprBlock e f h = refl
alone_kind ExprBreak e f h = refl
alone_kind ExprConst e f h = refl
alone_kind ExprContinue e f h = refl
alone_kind ExprForLoop e f h = refl
alone_kind ExprGroup e f h = refl
alone_kind ExprIf e f h = refl
alone_kind ExprInfer e f h = refl
alone_kind ExprLit e f h = refl
alone_kind ExprLoop e f h = refl
alone_kind ExprMacro e f h = refl
alone_kind ExprMatch e f h = refl
alone_kind ExprParen e f h = refl
alone_kind ExprPath e f h = refl
alone_kind ExprRange e f h = refl
alone_kind ExprRepeat e f h = refl
alone_kind ExprReturn e f h = refl
alone_kind ExprTryBlock e f h = refl
alone_kind ExprTypedClosure e f h = refl
alone_kind ExprUnsafe e f h = refl
alone_kind ExprWhile e f h = refl
alone_kind ExprYield e f h = refl
alone_kind ExprAttributed e f h = absurd (false≢true h)
alone_kind ExprUnary e f h = absurd (false≢true h)
alone_kind ExprRawAddr e f h = absurd (false≢true h)
alone_kind ExprReference e f h = absurd (false≢true h)
alone_kind ExprLet e f h = absurd (false≢true h)
alone_kind ExprClosure e f h = absurd (false≢true h)
alone_kind ExprRangeClosed e f h = absurd (false≢true h)
alone_kind _ e f h = absurd (false≢true f)

abbrev pub is_cast : Kind → Bool
is_cast ExprCast = true
is_cast k = false

pub back_kind : (k : Kind) → is_form k ≡ true → is_back k ≡ true
    → (is_struct k || (is_cast k || (is_dot k || is_firm_behind k))) ≡ true
unfolding has_form_step
back_kind ExprAssign e f = refl
back_kind ExprCompare e f = refl
back_kind ExprOr e f = refl
back_kind ExprAnd e f = refl
back_kind ExprShift e f = refl
back_kind ExprBitOr e f = refl
back_kind ExprBitXor e f = refl
back_kind ExprBitAnd e f = refl
back_kind ExprSum e f = refl
back_kind ExprProduct e f = refl
back_kind ExprRangeClosed e f = refl
back_kind ExprRange e f = refl
back_kind ExprCast e f = refl
back_kind ExprStruct e f = refl
back_kind ExprCall e f = refl
back_kind ExprIndex e f = refl
back_kind ExprTry e f = refl
back_kind ExprAwait e f = refl
back_kind ExprMethodCall e f = refl
back_kind ExprField e f = refl
back_kind _ e f = absurd (false≢true f)

infix_kind : (k : Kind) → is_form k ≡ true → is_back k ≡ true → may_have_operand k ≡ true → is_firm_behind k ≡ true
unfolding has_form_step may_lack level
infix_kind ExprAssign e f h = refl
infix_kind ExprCompare e f h = refl
infix_kind ExprOr e f h = refl
infix_kind ExprAnd e f h = refl
infix_kind ExprShift e f h = refl
infix_kind ExprBitOr e f h = refl
infix_kind ExprBitXor e f h = refl
infix_kind ExprBitAnd e f h = refl
infix_kind ExprSum e f h = refl
infix_kind ExprProduct e f h = refl
infix_kind ExprRangeClosed e f h = refl
infix_kind ExprRange e f h = refl
infix_kind ExprCast e f h = absurd (false≢true h)
infix_kind ExprStruct e f h = absurd (false≢true h)
infix_kind ExprCall e f h = absurd (false≢true h)
infix_kind ExprIndex e f h = absurd (false≢true h)
infix_kind ExprTry e f h = absurd (false≢true h)
infix_kind ExprAwait e f h = absurd (false≢true h)
infix_kind ExprMethodCall e f h = absurd (false≢true h)
infix_kind ExprField e f h = absurd (false≢true h)
infix_kind _ e f h = absurd (false≢true f)

-- whether they have an operand behind them
not_false : (b : Bool) → not b ≡ false → b ≡ true
not_false true e = refl
not_false false e = cc

pub lacks : (k : Kind) → MayLack k → may_lack_operand k ≡ true
lacks k h = go (may_lack k) refl
  where
    go : (b : Bool) → may_lack k ≡ b → may_lack_operand k ≡ true
    go true m = ap (λ b. b || ends_by_itself k) m
    go false m =
        ap (λ b. b || ends_by_itself k) m
        ∙ not_false (ends_by_itself k) (sym (fixed_right Plain k [] m) ∙ h)

has_one : (k : Kind) → MayHave k → may_have_operand k ≡ true
has_one k h = go (may_lack k) refl
  where
    go : (b : Bool) → may_lack k ≡ b → may_have_operand k ≡ true
    go true m = ap (λ b. b || not (ends_by_itself k)) m
    go false m =
        ap (λ b. b || not (ends_by_itself k)) m
        ∙ (sym (fixed_right Plain k (Opens Parenthesis ∷ []) m) ∙ h)

-- what may follow an own part: nothing that its looks see
abbrev pub IsCalm : List Token → Type 0
IsCalm s =
    LacksAll (a_mark "::" ∷ arguments_stand InExpression ∷ a_lifetime ∷ at "mut" ∷ a_mark ":" ∷ a_mark "#"
    ∷ postfix_stands ∷ arguments_stand AtType ∷ parentheses_stand AtType ∷ a_mark "->" ∷ []) s

pub before_calm : (k : Kind) (y : Tree) (s : List Token) → is_form k ≡ true → IsCalm s
    → (k ≡ ExprIf → sees (at "else") s ≡ false) → After k y s
unfolding has_form_step
before_calm ExprLit y s e c h = tt
before_calm ExprPath y s e c h = (c.0, (c.1.0, tt))
before_calm ExprContinue y s e c h = (c.1.1.0, tt)
before_calm ExprStruct y s e c h = tt
before_calm ExprParen y s e c h = tt
before_calm ExprArray y s e c h = tt
before_calm ExprRepeat y s e c h = tt
before_calm ExprGroup y s e c h = tt
before_calm ExprInfer y s e c h = tt
before_calm ExprBlock y s e c h = tt
before_calm ExprUnsafe y s e c h = tt
before_calm ExprAsync y s e c h = tt
before_calm ExprConst y s e c h = tt
before_calm ExprTryBlock y s e c h = tt
before_calm ExprLoop y s e c h = tt
before_calm ExprCall y s e c h = tt
before_calm ExprMethodCall y s e c h = tt
before_calm ExprField y s e c h = tt
before_calm ExprAwait y s e c h = tt
before_calm ExprIndex y s e c h = tt
before_calm ExprTry y s e c h = tt
before_calm ExprUnary y s e c h = tt
before_calm ExprRawAddr y s e c h = tt
before_calm ExprReference y s e c h = (c.1.1.1.0, tt)
before_calm ExprLet y s e c h = tt
before_calm ExprBreak y s e c h = (c.1.1.0, (c.1.1.1.1.0, tt))
before_calm ExprReturn y s e c h = tt
before_calm ExprYield y s e c h = tt
before_calm ExprRange y s e c h = tt
before_calm ExprRangeClosed y s e c h = tt
before_calm ExprAssign y s e c h = tt
before_calm ExprOr y s e c h = tt
before_calm ExprAnd y s e c h = tt
before_calm ExprCompare y s e c h = tt
before_calm ExprBitOr y s e c h = tt
before_calm ExprBitXor y s e c h = tt
before_calm ExprBitAnd y s e c h = tt
before_calm ExprShift y s e c h = tt
before_calm ExprSum y s e c h = tt
before_calm ExprProduct y s e c h = tt
before_calm ExprMacro y s e c h = tt
before_calm ExprIf y s e c h = (h refl, tt)
before_calm ExprMatch y s e c h = tt
before_calm ExprWhile y s e c h = tt
before_calm ExprForLoop y s e c h = tt
before_calm ExprAttributed y s e c h = (c.1.1.1.1.1.0, tt)
before_calm ExprCast y s e c h =
    (c.1.1.1.1.1.1.0, (c.0, (c.1.1.1.1.1.1.1.0, (c.1.1.1.1.1.1.1.1.0, (c.1.1.1.1.1.1.1.1.1.0, tt)))))
before_calm ExprClosure y s e c h = tt
before_calm ExprTypedClosure y s e c h = tt
before_calm _ y s e c h = absurd (false≢true e)

before_nothing : (k : Kind) (y : Tree) → is_form k ≡ true → After k y []
before_nothing k y e =
    before_calm k y [] e (refl, (refl, (refl, (refl, (refl, (refl, (refl, (refl, (refl, (refl, tt)))))))))) (λ i. refl)

pub own : (k : Kind) (y : Tree) → is_form k ≡ true → Fits y (table k) → OwnReady k y → normal (kept y) ≡ kept y
    → IsOwn k y
own k y e f w n = ((w [] (before_nothing k y e)).0, ap flat n ∙ flat_kept y (table k) f)

-- the braces of a struct
brace_back : (p : Position) (us : List Token) → stands_in p ExprStruct ≡ true
    → back p (Opens Brace ∷ us) ≡ Some ExprStruct
unfolding back
brace_back Plain us s = refl
brace_back InCondition us s = cc
brace_back InArm us s = refl
brace_back InStatement us s = refl

struct_part : (M : List Token → Type 0) (y : Tree) → OwnReady ExprStruct y → flat (normal (kept y)) ≡ flat y
    → IsBehind M ExprStruct y
unfolding skips
struct_part M y w n = record {
  goes_on = λ p ts s m. of_all (λ us. back p us ≡ Some ExprStruct) (Opening Brace ∷ []) (flat y ++ ts)
      ((λ us. brace_back p us s), tt) (w ts tt).1;
  read = λ ts m. (w ts tt).0;
  held = n;
}

-- By what M says of what stands behind: of a cast and of a field by its name it has to say more.
pub record Says (M : Kind → Tree → List Token → Type 0) : Type 0 where
  pub cast : (y : Tree) → OwnReady ExprCast y → flat (normal (kept y)) ≡ flat y → IsBehind (M ExprCast y) ExprCast y
  pub field : (cs : List ℕ) → is_ident cs ≡ true → IsBehind (M ExprField (lone_field cs)) ExprField (lone_field cs)

last_own : (M : Kind → Tree → List Token → Type 0) → Says M → (k : Kind) (y : Tree)
    → (is_dot k || is_firm_behind k) ≡ true → Fits y (table k) → IsMeant k y → IsWhole k y
    → OwnReady k y → IsOwn k y → IsBehind (M k y) k y
last_own M n k y m f i h w o = go (is_dot k) refl m
  where
    go : (b : Bool) → is_dot k ≡ b → (b || is_firm_behind k) ≡ true → IsBehind (M k y) k y
    go true e m = dot_own M n.field k y e f i h w o.1
    go false e m = behind_part (M k y) k y m o

pub back_own : (M : Kind → Tree → List Token → Type 0) → Says M → (k : Kind) (y : Tree)
    → (is_struct k || (is_cast k || (is_dot k || is_firm_behind k))) ≡ true
    → Fits y (table k) → IsMeant k y → IsWhole k y → OwnReady k y → IsOwn k y → IsBehind (M k y) k y
back_own M n ExprStruct y m f i h w o = struct_part (M ExprStruct y) y w o.1
back_own M n ExprCast y m f i h w o = n.cast y w o.1
back_own M n k y m f i h w o = last_own M n k y m f i h w o

says : Says BehindOperand
says = record { cast = cast_part; field = field_behind }

-- And at the end: of break, and of what goes on there, it has to say more.
pub record Ends (M : List Token → Type 0) (k : Kind) (y : Tree) : Type 0 where
  pub ends : (ts : List Token) → M ts → End ts
  pub started : is_started k ≡ true → (ts : List Token) → M ts → After k y ts
  pub jump : is_break k ≡ true → IsFront M k y

end_own : (M : List Token → Type 0) (k : Kind) (y : Tree) → Ends M k y
    → (is_block k || (is_firm_front k || is_break k)) ≡ true → Fits y (table k)
    → OwnReady k y → IsOwn k y → IsFront M k y
end_own M k y n m f w o = go (is_block k) (is_firm_front k) refl refl m
  where
    go : (b c : Bool) → is_block k ≡ b → is_firm_front k ≡ c → (b || (c || is_break k)) ≡ true → IsFront M k y
    go true c e g m = block_part M k y e f w o.1
    go false true e g m = front_part M k y g o
    go false false e g m = n.jump m

pub alone_own : (M : List Token → Type 0) (k : Kind) (y : Tree) → Ends M k y
    → (is_path k || (is_macro k || (is_typed k || (is_started k || (is_block k || (is_firm_front k || is_break k))))))
    ≡ true → is_plain_part k y ≡ true → Fits y (table k) → OwnReady k y → IsOwn k y → IsFront M k y
alone_own M ExprPath y n m u f w o = path_part M n.ends y w o.1
alone_own M ExprMacro y n m u f w o = macro_part M y f w o.1
alone_own M ExprTypedClosure y n m u f w o = typed_part M y f u w o.1
alone_own M k y n m u f w o = go (is_started k) refl m
  where
    go : (b : Bool) → is_started k ≡ b → (b || (is_block k || (is_firm_front k || is_break k))) ≡ true
        → IsFront M k y
    go true e m = started_part M k y e (n.started e) w o.1
    go false e m = end_own M k y n m f w o

or_right : (a b : Bool) → b ≡ true → (a || b) ≡ true
or_right true b e = refl
or_right false b e = e

at_end : (k : Kind) (y : Tree) → IsOwn k y → Ends AtEnd k y
at_end k y o = record {
  ends = end;
  started = λ e. started_after k y e;
  jump = λ e. end_front k y (or_right (is_firm_front k) (is_break k) e) o;
}

front_own : (k : Kind) (y : Tree)
    → (is_closure k || (is_led k || (is_firm_front k || is_break k || is_reference k))) ≡ true
    → is_plain_part k y ≡ true → Fits y (table k) → OwnReady k y → IsOwn k y → IsFront (BeforeOperand k y) k y
front_own ExprClosure y m u f w o = closure_part y f u w o.1
front_own k y m u f w o = go (is_led k) refl m
  where
    go : (b : Bool) → is_led k ≡ b → (b || (is_firm_front k || is_break k || is_reference k)) ≡ true
        → IsFront (BeforeOperand k y) k y
    go true e m = led_part k y e w o.1
    go false e m = prefix_front k y m o

pub owned : (x : Tree) → FitsForms x → HasOperands x → Ready x → (p : Position) (ts : List Token)
    → Settled p ts (kept x) → Owned x
owned (Alone k y) h o w p ts s =
    let l = lacks k o.1 in
    let m = alone_kind k o.0.0 (fronts_are o.0.1 k o.0.2 o.0.3) l in
    let i = own k y o.0.0 h.1 w s.0 in
    (alone_own AtEnd k y (at_end k y i) m o.2 h.1 w i, l)
owned (Front k y x) h o w p ts s =
    let m = front_kind k o.0.0 (fronts_are o.0.1 k o.0.2 o.0.3) (has_one k o.1) in (
      front_own k y m o.3 h.1 w.0 (own k y o.0.0 h.1 w.0 s.0),
      has_one k o.1,
      together k x o.4,
      owned x h.3 o.2 w.1 (inside p k) ts s.3,
    )
owned (Back l k y) h o w p ts s =
    let t : Settled p ts (Back (kept l) k (kept y)) = subst (Settled p ts) (h.3 (kept l)) s in
    let m = back_kind k o.0.0 (backs_are o.0.1 k o.0.2 o.0.3) in (
      back_own BehindOperand says k y m h.1 h.2 h.3 w.1 (own k y o.0.0 h.1 w.1 t.0),
      lacks k o.1,
      o.3,
      owned l h.4 o.2 w.0 p (follow (flat (kept y))) t.4,
    )
owned (Infix l k y r) h o w p ts s =
    let m = infix_kind k o.0.0 (backs_are o.0.1 k o.0.2 o.0.3) (has_one k o.1) in (
      behind_part (BeforeOperand k y) k y m (own k y o.0.0 h.1 w.1 s.0),
      has_one k o.1,
      behind_plain k m,
      owned l h.3 o.2 w.0 p (follow (flat (kept y))) s.2,
      owned r h.4 o.3 w.2 (inside p k) ts s.4,
    )
owned _ h o w p ts s = absurd h

-- What an expression begins with: where a class stands among others,
abbrev pub IsThe : ℕ → Class → List Class → Type 0
IsThe zero c (d ∷ ds) = c ≡ d
IsThe (suc n) c (d ∷ ds) = IsThe n c ds
IsThe n c [] = ⊥

abbrev AreThe : List ℕ → List Class → List Class → Type 0
AreThe (n ∷ ns) (c ∷ cs) ds = IsThe n c ds × AreThe ns cs ds
AreThe ns [] ds = Unit {0}
AreThe [] (c ∷ cs) ds = ⊥

one_among : (n : ℕ) (c : Class) (ds : List Class) (ts : List Token) → IsThe n c ds → IsAt c ts → IsAmong ds ts
one_among zero c (d ∷ ds) ts e i = inl (subst (λ b. IsAt b ts) e i)
one_among (suc n) c (d ∷ ds) ts e i = inr (one_among n c ds ts e i)
one_among zero c [] ts e i = absurd e
one_among (suc n) c [] ts e i = absurd e

pub among : (ns : List ℕ) (cs ds : List Class) (ts : List Token) → AreThe ns cs ds → IsAmong cs ts → IsAmong ds ts
among (n ∷ ns) (c ∷ cs) ds ts e i =
    ⊎_elim (λ j. one_among n c ds ts e.0 j) (λ j. among ns cs ds ts e.1 j) i
among [] (c ∷ cs) ds ts e i = absurd e
among (n ∷ ns) [] ds ts e i = absurd i
among [] [] ds ts e i = absurd i

-- the same before more, but of a raw item,
abbrev is_firm : Class → Bool
is_firm RawFront = false
is_firm (AnyFront p) = false
is_firm (Then c cs k) = is_firm k
is_firm c = true

abbrev are_firm : List Class → Bool
are_firm [] = true
are_firm (c ∷ cs) = is_firm c && are_firm cs

at_more : (c : Class) (ts us : List Token) → is_firm c ≡ true → IsAt c ts → IsAt c (ts ++ us)
at_more (Sign c cs) ts us f i =
    (i.0 ++ us, ap (λ vs. vs ++ us) i.1 ∙ append_assoc (marks c cs Apart) i.0 us)
at_more (TheWord cs) ts us f i = (i.0 ++ us, ap (λ vs. vs ++ us) i.1)
at_more (AnyWord p) ts us f i = (i.0, i.1 ++ us, i.2, ap (λ vs. vs ++ us) i.3)
at_more (Quoted p) ts us f i = (i.0, i.1 ++ us, i.2, ap (λ vs. vs ++ us) i.3)
at_more Tick ts us f i = (i.0, i.1 ++ us, ap (λ vs. vs ++ us) i.2)
at_more (Opening d) ts us f i = (i.0 ++ us, ap (λ vs. vs ++ us) i.1)
at_more (Then c cs k) ts us f i =
    (i.0 ++ us, ap (λ vs. vs ++ us) i.1 ∙ append_assoc (marks c cs Apart) i.0 us, at_more k i.0 us f i.2)
at_more RawFront ts us f i = cc f
at_more (AnyFront p) ts us f i = cc f

more_among : (cs : List Class) (ts us : List Token) → are_firm cs ≡ true → IsAmong cs ts → IsAmong cs (ts ++ us)
more_among [] ts us f i = absurd i
more_among (c ∷ cs) ts us f i =
    let h = and_true (is_firm c) (are_firm cs) f in
    ⊎_elim (λ j. inl (at_more c ts us h.0 j)) (λ j. inr (more_among cs ts us h.1 j)) i

-- and of each form in front.
form_begins : (k : Kind) (y : Tree) (s : List Token) → is_form k ≡ true → is_front k ≡ true → Begins k y s
    → IsAmong (starts (Expression Plain)) (flat y ++ s)
unfolding has_form_step skips
form_begins ExprLit y s e f b =
    among (1 ∷ 7 ∷ 8 ∷ []) (starts ExprLit) (starts (Expression Plain)) (flat y ++ s) (refl, (refl, (refl, tt))) b
form_begins ExprPath y s e f b =
    among (33 ∷ 41 ∷ 42 ∷ 43 ∷ 39 ∷ 40 ∷ 36 ∷ 37 ∷ 38 ∷ 34 ∷ 35 ∷ []) (starts ExprPath) (starts (Expression Plain))
    (flat y ++ s) (
      refl,
      (refl, (refl, (refl, (refl, (refl, (refl, (refl, (refl, (refl, (refl, tt)))))))))),
    ) b
form_begins ExprContinue y s e f b =
    among (21 ∷ []) (starts ExprContinue) (starts (Expression Plain)) (flat y ++ s) (refl, tt) b
form_begins ExprParen y s e f b =
    among (4 ∷ []) (starts ExprParen) (starts (Expression Plain)) (flat y ++ s) (refl, tt) b
form_begins ExprArray y s e f b =
    among (5 ∷ []) (starts ExprArray) (starts (Expression Plain)) (flat y ++ s) (refl, tt) b
form_begins ExprRepeat y s e f b =
    among (5 ∷ []) (starts ExprRepeat) (starts (Expression Plain)) (flat y ++ s) (refl, tt) b
form_begins ExprBlock y s e f b =
    among (2 ∷ 3 ∷ []) (starts ExprBlock) (starts (Expression Plain)) (flat y ++ s) (refl, (refl, tt)) b
form_begins ExprAsync y s e f b =
    among (15 ∷ []) (starts ExprAsync) (starts (Expression Plain)) (flat y ++ s) (refl, tt) b
form_begins ExprConst y s e f b =
    among (14 ∷ []) (starts ExprConst) (starts (Expression Plain)) (flat y ++ s) (refl, tt) b
form_begins ExprLoop y s e f b =
    among (2 ∷ 9 ∷ []) (starts ExprLoop) (starts (Expression Plain)) (flat y ++ s) (refl, (refl, tt)) b
form_begins ExprLet y s e f b =
    among (25 ∷ []) (starts ExprLet) (starts (Expression Plain)) (flat y ++ s) (refl, tt) b
form_begins ExprGroup y s e f b =
    among (6 ∷ []) (starts ExprGroup) (starts (Expression Plain)) (flat y ++ s) (refl, tt) b
form_begins ExprInfer y s e f b =
    among (17 ∷ []) (starts ExprInfer) (starts (Expression Plain)) (flat y ++ s) (refl, tt) b
form_begins ExprUnsafe y s e f b =
    among (16 ∷ []) (starts ExprUnsafe) (starts (Expression Plain)) (flat y ++ s) (refl, tt) b
form_begins ExprTryBlock y s e f b =
    among (18 ∷ []) (starts ExprTryBlock) (starts (Expression Plain)) (flat y ++ s) (refl, tt) b
form_begins ExprUnary y s e f b =
    among (28 ∷ 29 ∷ 30 ∷ []) (starts ExprUnary) (starts (Expression Plain)) (flat y ++ s) (refl, (refl, (refl, tt))) b
form_begins ExprRawAddr y s e f b =
    among (27 ∷ []) (starts ExprRawAddr) (starts (Expression Plain)) (flat y ++ s) (refl, tt) b
form_begins ExprReference y s e f b =
    among (27 ∷ []) (starts ExprReference) (starts (Expression Plain)) (flat y ++ s) (refl, tt) b
form_begins ExprBreak y s e f b =
    among (22 ∷ []) (starts ExprBreak) (starts (Expression Plain)) (flat y ++ s) (refl, tt) b
form_begins ExprReturn y s e f b =
    among (23 ∷ []) (starts ExprReturn) (starts (Expression Plain)) (flat y ++ s) (refl, tt) b
form_begins ExprYield y s e f b =
    among (24 ∷ []) (starts ExprYield) (starts (Expression Plain)) (flat y ++ s) (refl, tt) b
form_begins ExprRange y s e f b =
    among (32 ∷ []) (starts ExprRange) (starts (Expression Plain)) (flat y ++ s) (refl, tt) b
form_begins ExprRangeClosed y s e f b =
    among (31 ∷ []) (starts ExprRangeClosed) (starts (Expression Plain)) (flat y ++ s) (refl, tt) b
form_begins ExprMacro y s e f b =
    among (41 ∷ 42 ∷ 43 ∷ 39 ∷ 40 ∷ 36 ∷ 37 ∷ 38 ∷ 34 ∷ 35 ∷ []) (starts ExprMacro) (starts (Expression Plain))
    (flat y ++ s) (refl, (refl, (refl, (refl, (refl, (refl, (refl, (refl, (refl, (refl, tt)))))))))) b
form_begins ExprIf y s e f b =
    among (19 ∷ []) (starts ExprIf) (starts (Expression Plain)) (flat y ++ s) (refl, tt) b
form_begins ExprMatch y s e f b =
    among (20 ∷ []) (starts ExprMatch) (starts (Expression Plain)) (flat y ++ s) (refl, tt) b
form_begins ExprWhile y s e f b =
    among (2 ∷ 10 ∷ []) (starts ExprWhile) (starts (Expression Plain)) (flat y ++ s) (refl, (refl, tt)) b
form_begins ExprForLoop y s e f b =
    among (2 ∷ 11 ∷ []) (starts ExprForLoop) (starts (Expression Plain)) (flat y ++ s) (refl, (refl, tt)) b
form_begins ExprAttributed y s e f b =
    among (0 ∷ []) (starts ExprAttributed) (starts (Expression Plain)) (flat y ++ s) (refl, tt) b
form_begins ExprClosure y s e f b =
    among (11 ∷ 14 ∷ 12 ∷ 15 ∷ 13 ∷ 26 ∷ []) (starts ExprClosure) (starts (Expression Plain)) (flat y ++ s)
    (refl, (refl, (refl, (refl, (refl, (refl, tt)))))) b
form_begins ExprTypedClosure y s e f b =
    among (11 ∷ 14 ∷ 12 ∷ 15 ∷ 13 ∷ 26 ∷ []) (starts ExprTypedClosure) (starts (Expression Plain)) (flat y ++ s)
    (refl, (refl, (refl, (refl, (refl, (refl, tt)))))) b
form_begins _ y s e f b = absurd (false≢true f)

own_begins : (k : Kind) (y : Tree) → IsFrontKind k → OwnReady k y → (us : List Token)
    → IsAmong (starts (Expression Plain)) (flat y ++ us)
own_begins k y o w us =
    more_among (starts (Expression Plain)) (flat y) us refl
    (subst (IsAmong (starts (Expression Plain))) (append-nil (flat y))
    (form_begins k y [] o.0 (fronts_are o.1 k o.2 o.3) (w [] (before_nothing k y o.0)).1))

pub begins : (x : Tree) → HasOperands x → Ready x → (s : List Token)
    → IsAmong (starts (Expression Plain)) (flat x ++ s)
begins (Alone k y) o w s = own_begins k y o.0 w s
begins (Front k y x) o w s =
    subst (IsAmong (starts (Expression Plain))) (sym (append_assoc (flat y) (flat x) s))
    (own_begins k y o.0 w.0 (flat x ++ s))
begins (Back l k y) o w s =
    subst (IsAmong (starts (Expression Plain))) (sym (append_assoc (flat l) (flat y) s))
    (begins l o.2 w.0 (flat y ++ s))
begins (Infix l k y r) o w s =
    subst (IsAmong (starts (Expression Plain))) (sym (append_assoc (flat l) (flat y ++ flat r) s))
    (begins l o.2 w.0 ((flat y ++ flat r) ++ s))
begins _ o w s = absurd o
