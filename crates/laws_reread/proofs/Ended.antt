-- A form that ends a statement or an arm by itself is read before whatever begins another expression.
use Rattle.std.proofs.Common.{◌≡◌, List, [], ◌∷◌, ◌++◌, refl, sym, ap, ◌∙◌, inl, inr}
use Rattle.std.specs.Prelude.{ℕ, Bool, true, false, not, ◌&&◌, ◌||◌, ◌⊎◌, cond, Option, Some, None}
use Rattle.std.proofs.lemmas.Bool.{false≢true}
use Rattle.proc_macro2.specs.Token.{Token}
use Rattle.syn_grammar.specs.Kind.{Kind, Position, Plain, InCondition, InArm, InStatement}
use Rattle.syn_grammar.specs.Kind.{ExprAttributed, ExprBlock, ExprConst, ExprIf, ExprLoop, ExprMacro, ExprMatch}
use Rattle.syn_grammar.specs.Kind.{ExprForLoop, ExprLet, ExprTryBlock, ExprUnsafe, ExprWhile}
use Rattle.syn_grammar.specs.Tree.{Tree, Whole, Alone, Front, flat}
use Rattle.syn_grammar.specs.Words.{ends_in_dot}
use Rattle.syn_grammar.specs.Look.{Look, seen, sees, behind, ◌then◌, ◌or◌, no, an_ident, past_literals}
use Rattle.syn_grammar.specs.Say.{at, marks, parenthesis}
use Rattle.syn_grammar.specs.Gram.{operand}
use Rattle.syn_grammar.specs.Table.{table}
use Rattle.syn_grammar.specs.Forms.{Case, form, first_form, backs, back, dot_stands, fronts, front, has_right}
use Rattle.syn_grammar.specs.Forms.{inside, level, takes}
use Rattle.syn_grammar.specs.Forms.{takes_kind, goes_on, may_be_left, stands_left, is_dotted}
use Rattle.syn_grammar.specs.Forms.{ends_there}
use Rattle.syn_grammar.specs.Derives.{Bound, Derives}
use Rattle.syn_grammar.specs.Kept.{kept}
use Rattle.syn_grammar.specs.Normal.{normal}
use Rattle.syn_grammar.specs.Parens.{begins_in}
use Rattle.syn_grammar.proofs.Settled.{Settled}
use Rattle.laws_reread_expressions.specs.Behind.{no_operand, BeforeOperand}
use Rattle.laws_reread_expressions.specs.Firm.{IsOwn}
use Rattle.laws_reread_expressions.specs.Formed.{IsFront}
use Rattle.laws_reread_expressions.proofs.Owns.{front_part}
use Rattle.laws_reread_kinds.specs.Sees.{LacksAll}
use Rattle.laws_reread_kinds.proofs.Classes.{◌&◌}
use Rattle.laws_reread_kinds.proofs.Fits.{Fits, FitsForms, flat_kept, HasOperands}
use Rattle.laws_reread_kinds.proofs.Readies.{OwnReady, Ready}
use Rattle.laws_reread_kinds.specs.Covered.{has_form_step}
use Rattle.laws_reread_kinds.specs.Covered.{is_form}
use Rattle.laws_reread.proofs.Blocks.{block_part}
use Rattle.laws_reread.proofs.Macros.{macro_part}
use Rattle.laws_reread.proofs.Parts.{own}
use Rattle.laws_reread_expressions.proofs.Near.{all_within}
use Rattle.laws_reread.proofs.Starting.{started_part, led_part}
use Rattle.laws_reread.proofs.Wholes.{others}

-- neither . nor ? nor else
abbrev pub Ended : List Token → Type 0
Ended s = LacksAll ((no (marks "..") then marks ".") ∷ marks "?" ∷ at "else" ∷ []) s

-- so no dotted form stands there
Off : List Case → List Token → Type 0
Off [] ts = Unit {0}
Off (form k l ∷ cases) ts = ((is_dotted k ≡ false) ⊎ (seen (l ts) ≡ false)) × Off cases ts

same_dotted : (j k : Kind) → Some j ≡ Some k → is_dotted j ≡ false → is_dotted k ≡ false
same_dotted j k e h = cc

first_off : (cases : List Case) (ts : List Token) (k : Kind) → Off cases ts → first_form cases ts ≡ Some k
    → is_dotted k ≡ false
unfolding Off
first_off [] ts k o e = cc
first_off (form j l ∷ cases) ts k o e = go (seen (l ts)) refl o.0 (λ f. first_off cases ts k o.1 f) e
  where
    go : (b : Bool) → seen (l ts) ≡ b → (is_dotted j ≡ false) ⊎ (seen (l ts) ≡ false)
        → (first_form cases ts ≡ Some k → is_dotted k ≡ false)
        → cond b (Some j) (first_form cases ts) ≡ Some k → is_dotted k ≡ false
    go true i (inl h) f e = same_dotted j k e h
    go true i (inr h) f e = absurd (false≢true (sym h ∙ i))
    go false i h f e = f e

two_off : (o : Option (List Token)) (l m : Look) → seen (behind o l) ≡ false → seen (behind o (l then m)) ≡ false
two_off None l m e = refl
two_off (Some ts) l m e = go (l ts) e
  where
    go : (o : Option (List Token)) → seen o ≡ false → seen (behind o m) ≡ false
    go None e = refl
    go (Some us) e = cc

one_off : (o : Option (List Token)) (l : Look) → seen o ≡ false → seen (behind o l) ≡ false
one_off None l e = refl
one_off (Some ts) l e = cc

none_dotted : (p : Position) (ts : List Token) (k : Kind) → Ended ts → back p ts ≡ Some k → is_dotted k ≡ false
unfolding back Off
none_dotted p ts k e b = first_off (backs p) ts k offs b
  where
    dots : seen ((no (marks "..") then marks "." then past_literals ends_in_dot) ts) ≡ false
    dots = two_off (no (marks "..") ts) (marks ".") (past_literals ends_in_dot) e.0

    offs : Off (backs p) ts
    offs =
        inl refl & inl refl & inl refl & inl refl & inl refl & inl refl & inl refl & inl refl & inl refl & inl refl
        & inl refl & inl refl & inl refl & inl refl & inl refl & inl refl & inl refl & inl refl & inr e.1.0
        & inr (one_off (dot_stands ts) (at "await") dots)
        & inr (one_off (dot_stands ts) (an_ident then (parenthesis or marks "::")) dots) & inr dots & tt

no_and : (a b c : Bool) → c ≡ false → (a && (b && c)) ≡ false
no_and true true c e = e
no_and true false c e = refl
no_and false b c e = refl

none_goes : (p : Position) (n : ℕ) (x : Tree) (ts : List Token) → ends_there p x ≡ true → Ended ts
    → goes_on p n x ts ≡ false
unfolding stands_left
none_goes p n x ts h e = go (back p ts) refl
  where
    go : (o : Option Kind) → back p ts ≡ o → takes_kind p n x o ≡ false
    go None i = refl
    go (Some k) i =
        no_and (takes n (level k)) (may_be_left k x) (not (ends_there p x) || is_dotted k)
        (ap (λ b. not b || is_dotted k) h ∙ none_dotted p ts k e i)

-- the kinds of these forms, whose own parts are read there
abbrev is_ender : Kind → Bool
is_ender ExprIf = true
is_ender ExprWhile = true
is_ender ExprForLoop = true
is_ender ExprLoop = true
is_ender ExprMatch = true
is_ender ExprTryBlock = true
is_ender ExprUnsafe = true
is_ender ExprConst = true
is_ender ExprBlock = true
is_ender ExprMacro = true
is_ender k = false

ender : (p : Position) (k : Kind) (y : Tree) → is_form k ≡ true → ends_there p (Alone k y) ≡ true → is_ender k ≡ true
unfolding has_form_step
ender InArm ExprIf y h e = refl
ender InArm ExprWhile y h e = refl
ender InArm ExprForLoop y h e = refl
ender InArm ExprLoop y h e = refl
ender InArm ExprMatch y h e = refl
ender InArm ExprTryBlock y h e = refl
ender InArm ExprUnsafe y h e = refl
ender InArm ExprConst y h e = refl
ender InArm ExprBlock y h e = refl
ender InArm _ y h e = absurd (false≢true e)
ender InStatement ExprIf y h e = refl
ender InStatement ExprWhile y h e = refl
ender InStatement ExprForLoop y h e = refl
ender InStatement ExprLoop y h e = refl
ender InStatement ExprMatch y h e = refl
ender InStatement ExprTryBlock y h e = refl
ender InStatement ExprUnsafe y h e = refl
ender InStatement ExprConst y h e = refl
ender InStatement ExprBlock y h e = refl
ender InStatement ExprMacro y h e = refl
ender InStatement _ y h e = absurd (false≢true e)
ender Plain k y h e = absurd (false≢true e)
ender InCondition k y h e = absurd (false≢true e)

ended_own : (k : Kind) (y : Tree) → is_ender k ≡ true → Fits y (table k) → OwnReady k y → IsOwn k y → IsFront Ended k y
ended_own ExprIf y e f w o = started_part Ended ExprIf y refl (λ ts m. (m.1.1.0, tt)) w o.1
ended_own ExprMatch y e f w o = started_part Ended ExprMatch y refl (λ ts m. tt) w o.1
ended_own ExprWhile y e f w o = block_part Ended ExprWhile y refl f w o.1
ended_own ExprForLoop y e f w o = block_part Ended ExprForLoop y refl f w o.1
ended_own ExprLoop y e f w o = block_part Ended ExprLoop y refl f w o.1
ended_own ExprConst y e f w o = block_part Ended ExprConst y refl f w o.1
ended_own ExprBlock y e f w o = block_part Ended ExprBlock y refl f w o.1
ended_own ExprTryBlock y e f w o = front_part Ended ExprTryBlock y refl o
ended_own ExprUnsafe y e f w o = front_part Ended ExprUnsafe y refl o
ended_own ExprMacro y e f w o = macro_part Ended y f w o.1
ended_own _ y e f w o = absurd (false≢true e)

no_right : (p : Position) (k : Kind) (ts : List Token) → is_ender k ≡ true → has_right p k ts ≡ false
unfolding has_right level
no_right p ExprIf ts e = refl
no_right p ExprMatch ts e = refl
no_right p ExprWhile ts e = refl
no_right p ExprForLoop ts e = refl
no_right p ExprLoop ts e = refl
no_right p ExprConst ts e = refl
no_right p ExprBlock ts e = refl
no_right p ExprTryBlock ts e = refl
no_right p ExprUnsafe ts e = refl
no_right p ExprMacro ts e = refl
no_right p _ ts e = absurd (false≢true e)

-- where it begins, no attribute does
no_hash : (p : Position) (k : Kind) (ts : List Token) → is_ender k ≡ true → front p ts ≡ Some k
    → sees (marks "#") ts ≡ false
unfolding front
no_hash p k ts e f = go (sees (marks "#") ts) refl
  where
    other : (k : Kind) → is_ender k ≡ true → Some ExprAttributed ≡ Some k → ⊥
    other ExprAttributed e f = cc
    other _ e f = cc

    go : (b : Bool) → sees (marks "#") ts ≡ b → b ≡ false
    go false i = refl
    go true i =
        absurd (other k e
        (sym (ap (λ b. cond b (Some ExprAttributed) (first_form (others (fronts p)) ts)) i) ∙ f))

ender_begins : (p : Position) (k : Kind) → is_ender k ≡ true → begins_in p k ≡ true
ender_begins InStatement ExprLet e = cc
ender_begins InStatement _ e = refl
ender_begins Plain k e = refl
ender_begins InCondition k e = refl
ender_begins InArm k e = refl

-- a form by itself
record Ending (p : Position) (k : Kind) (y : Tree) (s : List Token) : Type 0 where
  bound : Bound p (Alone k y) s
  single : sees no_operand (flat y ++ s) ≡ false
  plain : sees (marks "#") (flat y ++ s) ≡ false

alone_ended : (k : Kind) (y : Tree) → FitsForms (Alone k y) → is_form k ≡ true → OwnReady k y
    → normal (kept y) ≡ kept y → (p : Position) → ends_there p (Alone k y) ≡ true → (s : List Token) → Ended s
    → Ending p k y s
alone_ended k y f o w n p h s e =
    let m = ender p k y o h in
    let i = ended_own k y m f.1 w (own k y o f.1 w n) in
    let b = i.begins p s (ender_begins p k m) e in
    record {
      bound = (b, i.read s e, no_right p k s m);
      single = i.single s e;
      plain = no_hash p k (flat y ++ s) m b;
    }

-- behind attributes
attributed_ends : (p : Position) (y x : Tree) → ends_there p (Front ExprAttributed y x) ≡ true
    → ends_there p x ≡ true
attributed_ends InArm y x e = e
attributed_ends InStatement y x e = e
attributed_ends Plain y x e = cc
attributed_ends InCondition y x e = cc

abbrev IsEnding : Tree → Type 0
IsEnding (Alone k y) = Unit {0}
IsEnding (Front ExprAttributed y x) = IsEnding x
IsEnding x = ⊥

is_ending : (p : Position) (x : Tree) → ends_there p x ≡ true → IsEnding x
is_ending InArm (Alone k y) e = tt
is_ending InArm (Front ExprAttributed y x) e = is_ending InArm x e
is_ending InArm _ e = absurd (false≢true e)
is_ending InStatement (Alone k y) e = tt
is_ending InStatement (Front ExprAttributed y x) e = is_ending InStatement x e
is_ending InStatement _ e = absurd (false≢true e)
is_ending Plain x e = absurd (false≢true e)
is_ending InCondition x e = absurd (false≢true e)

ended_bound : (x : Tree) → IsEnding x → FitsForms x → HasOperands x → Ready x → (p : Position)
    (ts : List Token) → Settled p ts (kept x) → ends_there p x ≡ true → (s : List Token) → Ended s → Bound p x s
unfolding has_right level inside
ended_bound (Alone k y) i f o w p ts t h s e = (alone_ended k y f o.0.0 w t.0 p h s e).bound
ended_bound (Front ExprAttributed y (Alone k z)) i f o w p ts t h s e =
    let g = attributed_ends p y (Alone k z) h in
    let r = alone_ended k z f.3 o.2.0.0 w.1 t.3.0 p g s e in
    let j = led_part ExprAttributed y refl w.0 (ap flat t.0 ∙ flat_kept y (table ExprAttributed) f.1) in
    let b : BeforeOperand ExprAttributed y (flat z ++ s) = (r.single, refl, r.plain) in (
      j.begins p (flat z ++ s) t.1 b,
      j.read (flat z ++ s) b,
      refl,
      (refl, none_goes p 15 (Alone k z) s g e),
      r.bound,
    )
ended_bound (Front ExprAttributed y (Front ExprAttributed z x)) i f o w p ts t h s e = absurd (false≢true o.4)
ended_bound (Front ExprAttributed y _) i f o w p ts t h s e = absurd i
ended_bound _ i f o w p ts t h s e = absurd i

pub read_ended : (x : Tree) → FitsForms x → HasOperands x → Ready x → (p : Position) (ts : List Token)
    → Settled p ts (kept x) → ends_there p x ≡ true → (s : List Token) → Ended s → Derives (Whole x) (operand p 0) s
read_ended x f o w p ts t h s e = (
  (all_within x, none_goes p 0 x s h e),
  ended_bound x (is_ending p x h) f o w p ts t h s e,
)
