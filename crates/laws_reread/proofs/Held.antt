-- What a syntax tree holds of an expression that fits binds as the expression does: so if what is held is settled,
-- each operand of the expression itself stays as it stands.
use Rattle.std.proofs.Common.{◌≡◌, List, refl, sym, ap, ◌∙◌, subst}
use Rattle.std.specs.Prelude.{ℕ, Bool, true, false, not, ◌&&◌, ◌||◌, cond, nat_eq, Option, Some, None}
use Rattle.std.proofs.lemmas.Bool.{false≢true}
use Rattle.proc_macro2.specs.Token.{Token}
use Rattle.syn_grammar.specs.Kind.{Kind, Position, Plain, InCondition, InArm, InStatement, AMacro, Delimited}
use Rattle.syn_grammar.specs.Kind.{ExprMacro, ExprPath, ExprStruct, ExprCall, ExprField, ExprCast, ExprAttributed}
use Rattle.syn_grammar.specs.Kind.{ExprBreak}
use Rattle.syn_grammar.specs.Name.{Part, the_label, the_name, same_part}
use Rattle.syn_grammar.specs.Tree.{Tree, AWord, ALiteral, AMark, ALifetime, Raw, Nil, Pair, First, Second, End}
use Rattle.syn_grammar.specs.Tree.{Again, Final, More, Group, Dropped, Called, Node, Whole, Alone, Front, Back}
use Rattle.syn_grammar.specs.Tree.{Infix, Verbatim, flat}
use Rattle.syn_grammar.specs.Gram.{Gram, word, literal, mark, lifetime, raw, nothing, seq, alt, star, many, group}
use Rattle.syn_grammar.specs.Gram.{judged, dropped, called, ref, operand}
use Rattle.syn_grammar.specs.Look.{sees, ◌then◌, no, a_lifetime}
use Rattle.syn_grammar.specs.Say.{marks}
use Rattle.syn_grammar.specs.Part.{or_else, found, is_some, has}
use Rattle.syn_grammar.specs.Table.{table}
use Rattle.syn_grammar.specs.Kept.{held, kept}
use Rattle.syn_grammar.specs.Forms.{has_right, level, inside, kind_of, is_range, takes_postfix, is_path_form}
use Rattle.syn_grammar.specs.Forms.{may_be_left, is_block_like, is_brace_macro, ends_there, is_dotted, chains, takes}
use Rattle.syn_grammar.specs.Forms.{within}
use Rattle.syn_grammar.specs.Parens.{may_lack, is_label, is_attributed_range, stays_right, ends_in_name, ends_before}
use Rattle.syn_grammar.specs.Parens.{is_ended, is_struct, stays_left, follow}
use Rattle.syn_grammar.proofs.Settled.{Settled}
use Rattle.laws_binding.proofs.Stays.{Stays}
use Rattle.laws_reread_kinds.proofs.Ends.{block_kept}
use Rattle.laws_reread_kinds.proofs.Fits.{Fits, FitsForms, flat_kept, flat_forms}

-- an own part has the parts that what is held of it has
or_some : (o p : Option Tree) → is_some (or_else o p) ≡ (is_some o || is_some p)
or_some None p = refl
or_some (Some x) p = refl

if_some : (b : Bool) (x y : Tree) → is_some (cond b (Some x) None) ≡ is_some (cond b (Some y) None)
if_some true x y = refl
if_some false x y = refl

has_kept : (n : Part) (x : Tree) (g : Gram) → Fits x g → has n (kept x) ≡ has n x
has_kept n (AWord cs) (word p) h = refl
has_kept n (ALiteral cs) (literal p) h = refl
has_kept n (AMark c cs spacing) (mark d ds) h = refl
has_kept n (ALifetime cs) lifetime h = refl
has_kept n (Raw ts) raw h = refl
has_kept n Nil nothing h = refl
has_kept n (Pair x y) (seq a b) h =
    or_some (found n (kept x)) (found n (kept y)) ∙ ap (λ c. c || has n (kept y)) (has_kept n x a h.0)
    ∙ ap (λ c. has n x || c) (has_kept n y b h.1) ∙ sym (or_some (found n x) (found n y))
has_kept n (First x) (alt t a b) h = has_kept n x a h.1
has_kept n (Second x) (alt t a b) h = has_kept n x b h.1
has_kept n End (star t g) h = refl
has_kept n (Again x y) (star t g) h = refl
has_kept n End (many e c g) h = refl
has_kept n (Final x) (many e c g) h = refl
has_kept n (More x m spacing y) (many e c g) h = refl
has_kept n (Group d x) (group e g) h = has_kept n x g h.1
has_kept n (First x) (judged v g) h = has_kept n x g h.1
has_kept n (Verbatim x) (judged v g) h = refl
has_kept n (Dropped x) (dropped g) h = refl
has_kept n (Called m x) (called l g) h = if_some (same_part m n) (kept x) x
has_kept n (Node k x) (ref l) h = refl
has_kept n (Whole x) (operand p m) h = refl
has_kept n _ _ h = absurd h

-- what binds an operand
kind_kept : (x : Tree) → FitsForms x → kind_of (kept x) ≡ kind_of x
kind_kept (Alone k y) h = refl
kind_kept (Front k y x) h = refl
kind_kept (Back l k y) h = ap kind_of (h.3 (kept l))
kind_kept (Infix l k y r) h = refl
kind_kept _ h = absurd h

range_kept : (x : Tree) → FitsForms x → is_range (kept x) ≡ is_range x
range_kept (Alone k y) h = refl
range_kept (Front ExprAttributed y x) h = range_kept x h.3
range_kept (Front _ y x) h = refl
range_kept (Back l k y) h = ap is_range (h.3 (kept l))
range_kept (Infix l k y r) h = refl
range_kept _ h = absurd h

pub path_kept : (x : Tree) → FitsForms x → is_path_form (kept x) ≡ is_path_form x
path_kept (Alone ExprPath y) h = refl
path_kept (Alone _ y) h = refl
path_kept (Front k y x) h = refl
path_kept (Back l k y) h = ap is_path_form (h.3 (kept l))
path_kept (Infix l k y r) h = refl
path_kept _ h = absurd h

may_kept : (k : Kind) (x : Tree) → FitsForms x → may_be_left k (kept x) ≡ may_be_left k x
may_kept ExprStruct x h = path_kept x h
may_kept k x h =
    ap (λ j. cond (nat_eq (level k) 16) (nat_eq (level j) 16 || nat_eq (level j) 1) (not (is_range (kept x))))
    (kind_kept x h)
    ∙ ap (λ b. cond (nat_eq (level k) 16) (takes_postfix x) (not b)) (range_kept x h)

chains_kept : (k : Kind) (x : Tree) → FitsForms x → chains (kept x) k ≡ chains x k
unfolding chains
chains_kept k x h = ap (λ j. nat_eq (level k) 7 && nat_eq (level j) 7) (kind_kept x h)

within_kept : (n : ℕ) (x : Tree) → FitsForms x → within n (kept x) ≡ within n x
within_kept n (Alone k y) h = refl
within_kept n (Front k y x) h = refl
within_kept n (Back l k y) h =
    ap (within n) (h.3 (kept l)) ∙ ap (λ b. takes n (level k) && b) (within_kept n l h.4)
within_kept n (Infix l k y r) h = ap (λ b. takes n (level k) && b) (within_kept n l h.3)
within_kept n _ h = absurd h

-- a form that ends there
macro_kept : (x : Tree) → is_brace_macro x ≡ true → is_brace_macro (kept x) ≡ true
unfolding held
macro_kept (Front ExprAttributed y x) e = macro_kept x e
macro_kept (Alone ExprMacro (Node AMacro (Pair p (Pair s (Node Delimited (Second (First g))))))) e = refl
macro_kept _ e = absurd (false≢true e)

or_off : (a b c d : Bool) → a ≡ c → (d ≡ true → b ≡ true) → (a || b) ≡ false → (c || d) ≡ false
or_off true b c d f h e = cc
or_off false true c d f h e = cc
or_off false false true d f h e = cc
or_off false false false true f h e = absurd (false≢true (h refl))
or_off false false false false f h e = refl

ends_kept : (p : Position) (x : Tree) → FitsForms x → ends_there p (kept x) ≡ false → ends_there p x ≡ false
ends_kept Plain x h e = refl
ends_kept InCondition x h e = refl
ends_kept InArm x h e = sym (block_kept x h) ∙ e
ends_kept InStatement x h e =
    or_off (is_block_like (kept x)) (is_brace_macro (kept x)) (is_block_like x) (is_brace_macro x) (block_kept x h)
    (macro_kept x) e

-- an operand is ended
before_kept : (k : Kind) (ts : List Token) (j : Kind) (y : Tree) → Fits y (table j)
    → ends_before k ts j (kept y) ≡ ends_before k ts j y
before_kept k ts ExprCast y h =
    ap (λ us. not (nat_eq (level k) 16 || (ends_in_name us && sees (no (marks "<=") then marks "<") ts)))
    (flat_kept y (table ExprCast) h)
before_kept ExprCall ts ExprField y h = ap not (has_kept the_name y (table ExprField) h)
before_kept _ ts ExprField y h = refl
before_kept k ts _ y h = refl

ended_kept : (k : Kind) (ts : List Token) (x : Tree) → FitsForms x → is_ended k ts (kept x) ≡ is_ended k ts x
ended_kept k ts (Alone j y) h = refl
ended_kept k ts (Front j y x) h =
    ap (λ b. not (takes (level j) (level k) && b) && is_ended k ts (kept x)) (may_kept k x h.3)
    ∙ ap (λ b. not (takes (level j) (level k) && may_be_left k x) && b) (ended_kept k ts x h.3)
ended_kept k ts (Back l j y) h = ap (is_ended k ts) (h.3 (kept l)) ∙ before_kept k ts j y h.1
ended_kept k ts (Infix l j y r) h =
    ap (λ b. not (takes (level j) (level k) && b) && is_ended k ts (kept r)) (may_kept k r h.4)
    ∙ ap (λ b. not (takes (level j) (level k) && may_be_left k r) && b) (ended_kept k ts r h.4)
ended_kept k ts _ h = absurd h

-- an operand stays
label_kept : (k : Kind) (y : Tree) (ts : List Token) → Fits y (table k) → is_label k (kept y) ts ≡ is_label k y ts
label_kept ExprBreak y ts h =
    ap (λ b. cond b (sees (marks ":") ts) (sees a_lifetime ts)) (has_kept the_label y (table ExprBreak) h)
label_kept _ y ts h = refl

attributed_kept : (k : Kind) (x : Tree) → FitsForms x → is_attributed_range k (kept x) ≡ is_attributed_range k x
attributed_kept ExprAttributed x h = range_kept x h
attributed_kept _ x h = refl

right_kept : (p : Position) (k : Kind) (y x : Tree) → Fits y (table k) → FitsForms x
    → stays_right p k (kept y) (kept x) ≡ stays_right p k y x
right_kept p k y x f h =
    ap (λ b. b && ((not (may_lack k) || (has_right p k (flat (kept x)) && not (is_label k (kept y) (flat (kept x)))))
    && not (is_attributed_range k (kept x)))) (within_kept (level k) x h)
    ∙ ap (λ ts. within (level k) x && ((not (may_lack k) || (has_right p k ts && not (is_label k (kept y) ts)))
    && not (is_attributed_range k (kept x)))) (flat_forms x h)
    ∙ ap (λ b. within (level k) x && ((not (may_lack k) || (has_right p k (flat x) && not b))
    && not (is_attributed_range k (kept x)))) (label_kept k y (flat x) f)
    ∙ ap (λ b. within (level k) x
    && ((not (may_lack k) || (has_right p k (flat x) && not (is_label k y (flat x)))) && not b)) (attributed_kept k x h)

left_joined : (s a b c d e f : Bool) → (b ≡ false → c ≡ false) → (s || ((a && (not b || d)) && (not e && f))) ≡ true
    → (s || ((a && (not c || d)) && (not e && f))) ≡ true
left_joined true a b c d e f h i = refl
left_joined false a true c true e f h i = go c i
  where
    go : (c : Bool) → ((a && true) && (not e && f)) ≡ true → ((a && (not c || true)) && (not e && f)) ≡ true
    go true i = i
    go false i = i
left_joined false true true c false e f h i = cc
left_joined false false true c false e f h i = cc
left_joined false a false c d e f h i = ap (λ g. (a && (not g || d)) && (not e && f)) (h refl) ∙ i

left_kept : (p : Position) (k : Kind) (y l : Tree) → Fits y (table k) → FitsForms l
    → stays_left p k (kept y) (kept l) ≡ true → stays_left p k y l ≡ true
left_kept p k y l f h e =
    left_joined (is_struct k) (may_be_left k l) (ends_there p (kept l)) (ends_there p l) (is_dotted k) (chains l k)
    (is_ended k (flat y) l) (ends_kept p l h)
    (sym (ap (λ b. is_struct k || ((b && (not (ends_there p (kept l)) || is_dotted k))
    && (not (chains (kept l) k) && is_ended k (flat (kept y)) (kept l)))) (may_kept k l h)
    ∙ ap (λ b. is_struct k || ((may_be_left k l && (not (ends_there p (kept l)) || is_dotted k))
    && (not b && is_ended k (flat (kept y)) (kept l)))) (chains_kept k l h)
    ∙ ap (λ b. is_struct k || ((may_be_left k l && (not (ends_there p (kept l)) || is_dotted k))
    && (not (chains l k) && b))) (ended_kept k (flat (kept y)) l h)
    ∙ ap (λ ts. is_struct k || ((may_be_left k l && (not (ends_there p (kept l)) || is_dotted k))
    && (not (chains l k) && is_ended k ts l))) (flat_kept y (table k) f)) ∙ e)

pub stays : (x : Tree) → FitsForms x → (p : Position) (ts : List Token) → Settled p ts (kept x) → Stays p ts x
stays (Alone k y) h p ts s = s.1
stays (Front k y x) h p ts s =
    (s.1, sym (right_kept p k y x h.1 h.3) ∙ s.2, stays x h.3 (inside p k) ts s.3)
stays (Back l k y) h p ts s =
    let t : Settled p ts (Back (kept l) k (kept y)) = subst (Settled p ts) (h.3 (kept l)) s in (
      t.1,
      t.2,
      left_kept p k y l h.1 h.4 t.3,
      subst (λ us. Stays p (follow us) l) (flat_kept y (table k) h.1) (stays l h.4 p (follow (flat (kept y))) t.4),
    )
stays (Infix l k y r) h p ts s = (
  left_kept p k y l h.1 h.3 s.1,
  subst (λ us. Stays p (follow us) l) (flat_kept y (table k) h.1) (stays l h.3 p (follow (flat (kept y))) s.2),
  sym (right_kept p k y r h.1 h.4) ∙ s.3,
  stays r h.4 (inside p k) ts s.4,
)
stays _ h p ts s = absurd h
