-- Operands that stand one left of the other, and what is written in front of the innermost of them, and behind it.
use Rattle.std.specs.Prelude.{◌≡◌, ◌<◌, ℕ, ◌+◌, Bool, true, false, cond, nat_eq, List, [], ◌∷◌, ◌++◌, Option, Some}
use Rattle.std.specs.Prelude.{None, map, refl}
use Rattle.std.proofs.Common.{ap, ◌∙◌, sym, arith, append_assoc, length, take, get_or}
use Rattle.std.proofs.lemmas.List.{append-nil, map-append, take_more}
use denote.Bor.{Bor}
use Rattle.reader_table.specs.Ops.{separator_of}
use Rattle.reader_table.specs.Words.{sign_text}
use Rattle.reader_table.specs.declared.kind.Kind as g
use Rattle.reader_tree.specs.declared.tree.Between.{Between}
use Rattle.reader_tree.specs.declared.tree.Both.{Both}
use Rattle.reader_tree.specs.declared.tree.Form.{Form}
use Rattle.reader_tree.specs.declared.tree.Form.TheVariants as forms
use Rattle.reader_tree.specs.Forms.{tree_of}
use Rattle.reader_tree.proofs.Shapes.{single_elements, single_first, single_mark, single_turns}
use Rattle.proc_macro2.specs.Token.{Token, Opens, Closes}
use Rattle.proc_macro2.specs.declared.delimiter.Delimiter.TheVariants.{Parenthesis}
use Rattle.syn_grammar.specs.Forms.{level}
use Rattle.syn_grammar.specs.Kind.{Kind, ExprCast}
use Rattle.syn_grammar.specs.Tree as t
use Rattle.syn_grammar.specs.Tree.{Tree}
use Rattle.reader_tree.specs.declared.tree.Tree.TheDeep.{size-Tree}
use Rattle.reader_tree.proofs.Sizes.{tree_size}
use Rattle.laws_ranges.specs.Shelled.{enclosed_if, goes_in, is_lone_range}
use Rattle.writer_rules.specs.Laid.{behind_laid, given_laid, laid}
use Rattle.writer_rules.specs.Operands.{back_of, giving_of, infix_of}
use Rattle.writer_rules.proofs.Operands.{back_is, giving_below, infix_is}
use Rattle.writer_rules.proofs.SeenForms.{same_pair, some_none}
use Rattle.writer_read.specs.Chains.{behind_left, behind_lefts, left_of, next_of, passed_laid, single_left}
use Rattle.writer_read.specs.declared.chain.Lefts.{Lefts}
use Rattle.writer_read.specs.declared.chain.Lefts.TheVariants as lefts
use Rattle.writer_read.proofs.Expressing.{enclosed_parts}

-- the parenthesis that opens before an operand
abbrev pub opens : Kind → Tree → List Token
opens k l = cond (goes_in k l) (Opens Parenthesis ∷ []) []

abbrev pub closes : Kind → Tree → List Token
closes k l = cond (goes_in k l) (Closes Parenthesis ∷ []) []

-- a left operand, by whatever is written of it, in its parentheses, before the rest
left_parts : (body : Tree → List Token) (rest : List Token) (j k : Kind) (m l : Tree) → (k ≡ j) × (l ≡ m)
    → enclosed_if (goes_in j m) (body m) ++ rest ≡ opens k l ++ (body l ++ (closes j m ++ rest))
left_parts body rest j k m l s =
    ap (λ ts. ts ++ rest) (sym (enclosed_parts (goes_in j m) (body m)))
    ∙ append_assoc (opens j m) (body m ++ closes j m) rest
    ∙ ap (λ ts. opens j m ++ ts) (append_assoc (body m) (closes j m) rest)
    ∙ ap (λ i. opens i m ++ (body m ++ (closes j m ++ rest))) (sym s.0)
    ∙ ap (λ z. opens k z ++ (body z ++ (closes j m ++ rest))) (sym s.1)

left_laid : (x : Tree) (k : Kind) (l : Tree) → Some (k, l) ≡ left_of x
    → laid x ≡ opens k l ++ (laid l ++ behind_left x)
left_laid (t.Infix m j y r) k l e = left_parts laid (laid y ++ laid r) j k m l (same_pair k j l m e)
left_laid (t.Back m j y) k l e = left_parts laid (behind_laid j y) j k m l (same_pair k j l m e)
left_laid x k l e = absurd (some_none (k, l) e)

-- forms of which none has an operand before it
pub left_off : (f : Form) → ((k : g.Kind) (x : Bor (Between Tree)) → f ≡ forms.Infix k x → ⊥)
    → ((k : g.Kind) (x : Bor (Both Tree)) → f ≡ forms.Back k x → ⊥) → None ≡ left_of (tree_of f)
left_off (forms.Mark s spacing span) h i = sym (ap single_left (single_mark (sign_text s) spacing))
left_off (forms.First n x) h i = sym (ap single_left (single_first n x.now))
left_off (forms.Turns v) h i = sym (ap single_left (single_turns v.now.each.now))
left_off (forms.Elements x) h i = sym (ap single_left
    (single_elements (separator_of x.now.separator) x.now.before.now (λ b. b.now) x.now.last))
left_off (forms.Infix k x) h i = absurd (h k x refl)
left_off (forms.Back k x) h i = absurd (i k x refl)
left_off f h i = refl

pub left_below : (x : Tree) (k : Kind) (l : Tree) → Some (k, l) ≡ left_of x → size-Tree l < size-Tree x
left_below (t.Infix m j y r) k l e =
    let s = same_pair k j l m e in
    omega (arith, tree_size l, tree_size (t.Infix m j y r), ap size-Tree s.1, tree_size m)
left_below (t.Back m j y) k l e =
    let s = same_pair k j l m e in
    omega (arith, tree_size l, tree_size (t.Back m j y), ap size-Tree s.1, tree_size m)
left_below x k l e = absurd (some_none (k, l) e)

-- attributes that are given to the leftmost operand
given_next : (ts : List Token) (x : Tree) (k : Kind) (l : Tree) → Some (k, l) ≡ giving_of x
    → given_laid ts (laid x) x ≡ opens k l ++ (given_laid ts (laid l) l ++ behind_left x)
given_next ts (t.Infix m j y r) k l e = by (nat_eq (level j) 3) e
  where
    by : (b : Bool) → ◌≡◌ {A = Option (Kind × Tree)} (Some (k, l)) (cond b None (Some (j, m)))
        → cond b (ts ++ enclosed_if true (laid (t.Infix m j y r)))
        (enclosed_if (goes_in j m) (given_laid ts (laid m) m) ++ (laid y ++ laid r))
        ≡ opens k l ++ (given_laid ts (laid l) l ++ behind_left (t.Infix m j y r))
    by true f = absurd (some_none (k, l) f)
    by false f = left_parts (λ z. given_laid ts (laid z) z) (laid y ++ laid r) j k m l (same_pair k j l m f)
given_next ts (t.Back m ExprCast y) k l e =
    left_parts (λ z. given_laid ts (laid z) z) (laid y) ExprCast k m l (same_pair k ExprCast l m e)
given_next ts x k l e = absurd (some_none (k, l) e)

given_none : (ts : List Token) (x : Tree) → None ≡ giving_of x
    → given_laid ts (laid x) x ≡ ts ++ enclosed_if (is_lone_range x) (laid x)
given_none ts (t.Infix m j y r) e = by (nat_eq (level j) 3) e
  where
    by : (b : Bool) → ◌≡◌ {A = Option (Kind × Tree)} None (cond b None (Some (j, m)))
        → cond b (ts ++ enclosed_if true (laid (t.Infix m j y r)))
        (enclosed_if (goes_in j m) (given_laid ts (laid m) m) ++ (laid y ++ laid r))
        ≡ ts ++ enclosed_if b (laid (t.Infix m j y r))
    by true f = refl
    by false f = absurd (some_none (j, m) (sym f))
given_none ts (t.Back m ExprCast y) e = absurd (some_none (ExprCast, m) (sym e))
given_none ts x e = refl

-- a left operand that is passed
next_laid : (w : Lefts) (x : Tree) (k : Kind) (l : Tree) → Some (k, l) ≡ next_of w x
    → passed_laid w x ≡ opens k l ++ (passed_laid w l ++ behind_left x)
next_laid lefts.All x k l e = left_laid x k l e
next_laid (lefts.Given a) x k l e = given_next (laid a.now) x k l e

pub next_below : (w : Lefts) (x : Tree) (k : Kind) (l : Tree) → Some (k, l) ≡ next_of w x → size-Tree l < size-Tree x
next_below lefts.All x k l e = left_below x k l e
next_below (lefts.Given a) x k l e = giving_below x k l e

-- what stands behind a form's left operand
pub behind_infix : (x : Tree) (k : Kind) (l y r : Tree) → Some (k, l, y, r) ≡ infix_of x
    → cond (goes_in k l) (Closes Parenthesis ∷ []) [] ++ (laid y ++ laid r) ≡ behind_left x
behind_infix x k l y r e = ap behind_left (sym (infix_is x k l y r e))

pub behind_back : (x : Tree) (k : Kind) (l y : Tree) → Some (k, l, y) ≡ back_of x
    → cond (goes_in k l) (Closes Parenthesis ∷ []) [] ++ behind_laid k y ≡ behind_left x
behind_back x k l y e = ap behind_left (sym (back_is x k l y e))

pub behind_none : (x : Tree) → None ≡ infix_of x → None ≡ back_of x → [] ≡ behind_left x
behind_none (t.Infix l k y r) e f = cc
behind_none (t.Back l k y) e f = cc
behind_none x e f = refl

pub ruleset behinds = (behind_infix, behind_back, behind_none, append_assoc, append-nil)

-- one more form, whose left operand is the innermost
pub behind_more : (xs : List Tree) (x : Tree) → behind_lefts (xs ++ x ∷ []) ≡ behind_left x ++ behind_lefts xs
behind_more [] x = sym (append-nil (behind_left x))
behind_more (y ∷ ys) x =
    ap (λ ts. ts ++ behind_left y) (behind_more ys x)
    ∙ append_assoc (behind_left x) (behind_lefts ys) (behind_left y)

-- a step inwards, and a step back outwards
pub step_in : (w : Lefts) (old new all : List Token) (k : Kind) (l x : Tree) (xs : List Tree)
    → Some (k, l) ≡ next_of w x → new ≡ old ++ opens k l → old ++ (passed_laid w x ++ behind_lefts xs) ≡ all
    → new ++ (passed_laid w l ++ behind_lefts (xs ++ x ∷ [])) ≡ all
step_in w old new all k l x xs e put h =
    let p : List Token = passed_laid w l in
    let b : List Token = behind_left x in
    let bs : List Token = behind_lefts xs in
    let inside : opens k l ++ (p ++ (b ++ bs)) ≡ passed_laid w x ++ bs =
    ap (λ ts. opens k l ++ ts) (sym (append_assoc p b bs))
    ∙ sym (append_assoc (opens k l) (p ++ b) bs) ∙ ap (λ ts. ts ++ bs) (sym (next_laid w x k l e)) in
    ap (λ ts. new ++ (p ++ ts)) (behind_more xs x) ∙ ap (λ ts. ts ++ (p ++ (b ++ bs))) put
    ∙ append_assoc old (opens k l) (p ++ (b ++ bs)) ∙ ap (λ ts. old ++ ts) inside ∙ h

pub step_out : (old new all : List Token) (x : Tree) (xs : List Tree) → new ≡ old ++ behind_left x
    → old ++ behind_lefts (xs ++ x ∷ []) ≡ all → new ++ behind_lefts xs ≡ all
step_out old new all x xs put h =
    ap (λ ts. ts ++ behind_lefts xs) put ∙ append_assoc old (behind_left x) (behind_lefts xs)
    ∙ ap (λ ts. old ++ ts) (sym (behind_more xs x)) ∙ h

-- the leftmost operand behind its attributes, and what stands behind it
pub given_put : (old one two three new ts bs all : List Token) (x : Tree) → None ≡ giving_of x
    → one ++ (given_laid ts (laid x) x ++ bs) ≡ old ++ (all ++ []) → two ≡ one ++ ts
    → three ≡ two ++ enclosed_if (is_lone_range x) (laid x) → new ≡ three ++ bs → new ≡ old ++ all
given_put old one two three new ts bs all x last fronts attributes operand rest =
    let e : List Token = enclosed_if (is_lone_range x) (laid x) in
    rest ∙ ap (λ us. us ++ bs) (operand ∙ ap (λ us. us ++ e) attributes ∙ append_assoc one ts e)
    ∙ append_assoc one (ts ++ e) bs ∙ ap (λ us. one ++ (us ++ bs)) (sym (given_none ts x last))
    ∙ fronts ∙ ap (λ us. old ++ us) (append-nil all)

-- the last of the forms that are left
pub forms_more : (xs : List (Bor Tree)) (n i : ℕ) (x : Bor Tree) → n ≡ i + 1 → i < length xs → x ≡ get_or xs i x
    → map (λ y. y.now) (take n xs) ≡ map (λ y. y.now) (take i xs) ++ x.now ∷ []
forms_more xs n i x e below is =
    ap (λ k. map (λ (y : Bor Tree). y.now) (take k xs)) e
    ∙ ap (map (λ (y : Bor Tree). y.now)) (take_more xs i x below ∙ ap (λ y. take i xs ++ y ∷ []) (sym is))
    ∙ map-append (λ (y : Bor Tree). y.now) (take i xs) (x ∷ [])
