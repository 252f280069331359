-- Own parts whose first token tells their form: those of continue, if, match and let, and attributes.
use Rattle.std.proofs.Common.{◌≡◌, List, [], ◌∷◌, ◌++◌, refl}
use Rattle.std.specs.Prelude.{Bool, true, false, Some, codes}
use Rattle.std.proofs.lemmas.Bool.{false≢true}
use Rattle.proc_macro2.specs.Token.{Token, Ident}
use Rattle.proc_macro2.specs.declared.delimiter.Delimiter.TheVariants.{Bracket}
use Rattle.syn_grammar.specs.Kind.{Kind, Position, Plain, InCondition, InArm, InStatement, ExprAttributed}
use Rattle.syn_grammar.specs.Kind.{ExprContinue, ExprIf, ExprLet, ExprMatch}
use Rattle.syn_grammar.specs.Words.{is_bool}
use Rattle.rust_leaf.specs.Keywords.{is_reserved}
use Rattle.syn_grammar.specs.Tree.{Tree, flat}
use Rattle.syn_grammar.specs.Look.{sees, a_lifetime}
use Rattle.syn_grammar.specs.Say.{at, marks}
use Rattle.syn_grammar.specs.Derives.{Derives}
use Rattle.syn_grammar.specs.Ranks.{skips}
use Rattle.syn_grammar.specs.Table.{table}
use Rattle.syn_grammar.specs.Kept.{kept}
use Rattle.syn_grammar.specs.Normal.{normal}
use Rattle.syn_grammar.specs.Forms.{front}
use Rattle.syn_grammar.specs.Parens.{begins_in}
use Rattle.laws_reread_expressions.specs.Behind.{no_operand, AtEnd, BeforeOperand}
use Rattle.laws_reread_expressions.specs.Formed.{IsFront}
use Rattle.laws_reread_expressions.proofs.Bools.{or_parts}
use Rattle.laws_reread_expressions.proofs.Names.{end}
use Rattle.laws_reread_kinds.specs.After.{After}
use Rattle.laws_reread_kinds.proofs.Classes.{Class, Then, TheWord, Opening, IsAmong, OfAll, of_all}
use Rattle.laws_reread_kinds.proofs.Readies.{OwnReady}

abbrev Starts : Kind → List Token → Type 0
Starts k us = ((p : Position) → begins_in p k ≡ true → front p us ≡ Some k) × (sees no_operand us ≡ false)

begun_part : (M : List Token → Type 0) (k : Kind) (y : Tree) (cs : List Class)
    → ((ts : List Token) → M ts → Derives y (table k) ts × IsAmong cs (flat y ++ ts)) → OfAll (Starts k) cs
    → flat (normal (kept y)) ≡ flat y → IsFront M k y
begun_part M k y cs read h n = record {
  begins = λ p ts s m. (of_all (Starts k) cs (flat y ++ ts) h (read ts m).1).0 p s;
  read = λ ts m. (read ts m).0;
  held = n;
  single = λ ts m. (of_all (Starts k) cs (flat y ++ ts) h (read ts m).1).1;
}

pub no_arrow : (ts : List Token) → AtEnd ts → (sees (marks "->") ts ≡ false) × (sees (at "else") ts ≡ false)
no_arrow ts e =
    let a = or_parts (marks ":" ts) _ e in
    let b = or_parts _ _ a.1 in
    let c = or_parts (marks "->" ts) _ b.1 in
    (c.0, (or_parts (at "else" ts) _ (or_parts (a_lifetime ts) _ c.1).1).0)

-- at the end of an operand
abbrev pub is_started : Kind → Bool
is_started ExprContinue = true
is_started ExprIf = true
is_started ExprMatch = true
is_started k = false

pub started_part : (M : List Token → Type 0) (k : Kind) (y : Tree) → is_started k ≡ true
    → ((ts : List Token) → M ts → After k y ts) → OwnReady k y → flat (normal (kept y)) ≡ flat y → IsFront M k y
unfolding skips front is_bool is_reserved
started_part M ExprContinue y e a w n =
    begun_part M ExprContinue y (TheWord (codes "continue") ∷ []) (λ ts m. w ts (a ts m))
    (λ us. (λ p s. refl, refl), tt) n
started_part M ExprIf y e a w n =
    begun_part M ExprIf y (TheWord (codes "if") ∷ []) (λ ts m. w ts (a ts m)) (λ us. (λ p s. refl, refl), tt) n
started_part M ExprMatch y e a w n =
    begun_part M ExprMatch y (TheWord (codes "match") ∷ []) (λ ts m. w ts (a ts m)) (λ us. (λ p s. refl, refl), tt) n
started_part M _ y e a w n = absurd (false≢true e)

pub started_after : (k : Kind) (y : Tree) → is_started k ≡ true → (ts : List Token) → AtEnd ts → After k y ts
started_after ExprContinue y e ts m = ((end ts m).lifetime, tt)
started_after ExprIf y e ts m = ((no_arrow ts m).1, tt)
started_after ExprMatch y e ts m = tt
started_after _ y e ts m = absurd (false≢true e)

-- and before one
abbrev pub is_led : Kind → Bool
is_led ExprAttributed = true
is_led ExprLet = true
is_led k = false

let_front : (p : Position) (us : List Token) → begins_in p ExprLet ≡ true
    → front p (Ident (codes "let") ∷ us) ≡ Some ExprLet
unfolding front is_bool is_reserved
let_front Plain us s = refl
let_front InCondition us s = refl
let_front InArm us s = refl
let_front InStatement us s = absurd (false≢true s)

pub led_part : (k : Kind) (y : Tree) → is_led k ≡ true → OwnReady k y → flat (normal (kept y)) ≡ flat y
    → IsFront (BeforeOperand k y) k y
unfolding skips front
led_part ExprAttributed y e w n =
    begun_part (BeforeOperand ExprAttributed y) ExprAttributed y (Then 35 [] (Opening Bracket) ∷ [])
    (λ ts m. w ts (m.2, tt)) (λ us. (λ p s. refl, refl), tt) n
led_part ExprLet y e w n =
    begun_part (BeforeOperand ExprLet y) ExprLet y (TheWord (codes "let") ∷ []) (λ ts m. w ts tt)
    (λ us. (λ p s. let_front p us s, refl), tt) n
led_part _ y e w n = absurd (false≢true e)
