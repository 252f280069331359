-- The tokens of a tree, by its form.
use Rattle.std.specs.Prelude.{◌<◌, ◌+◌, ℕ, OnOk, Result, Some, None, drop, get_or, length}
use Rattle.std.proofs.Common.{◌≡◌, List, [], ◌∷◌, ◌++◌, refl, sym, ap, ◌∙◌, append_assoc}
use Rattle.std.proofs.lemmas.List.{append-nil}
use Rattle.std.proofs.lemmas.Result.{on_ok_weaker}
use Rattle.proc_macro2.specs.Token.{Token, Punct}
use Rattle.syn_grammar.specs.Kind.{Kind}
use Rattle.syn_grammar.specs.Tree as t
use Rattle.syn_grammar.specs.Tree.{Tree, flat}
use Rattle.reader_tree.specs.declared.tree.Element.{Element}
use Rattle.reader_tree.specs.Forms.{elements}
use Rattle.reader_tree.proofs.Flat.{flat_seconds, flat_elements}
use Rattle.writer_rules.specs.Operands.{back_of, infix_of}
use Rattle.writer_rules.proofs.Operands.{back_is, infix_is}
use Rattle.writer_rules.proofs.Putting.{loop_next}
use Rattle.writer_rules.proofs.SeenForms.{same_pair, some_none}
use Rattle.writer_read.specs.Chains.{behind_lefts_read, behind_read, left_of}

pub ruleset forms = (flat_seconds, flat_elements, append_assoc, append-nil)

-- what stands behind a form's left operand
pub behind_infix : (x : Tree) (k : Kind) (l y r : Tree) → Some (k, l, y, r) ≡ infix_of x
    → flat y ++ flat r ≡ behind_read x
behind_infix x k l y r e = ap behind_read (sym (infix_is x k l y r e))

pub behind_back : (x : Tree) (k : Kind) (l y : Tree) → Some (k, l, y) ≡ back_of x → flat y ≡ behind_read x
behind_back x k l y e = ap behind_read (sym (back_is x k l y e))

pub behind_none : (x : Tree) → None ≡ infix_of x → None ≡ back_of x → [] ≡ behind_read x
behind_none (t.Infix l k y r) e f = cc
behind_none (t.Back l k y) e f = cc
behind_none x e f = refl

pub ruleset behinds = (behind_infix, behind_back, behind_none, append_assoc, append-nil)

-- one more form, whose left operand is the innermost
pub behind_more : (xs : List Tree) (x : Tree) → behind_lefts_read (xs ++ x ∷ []) ≡ behind_read x ++ behind_lefts_read xs
behind_more [] x = sym (append-nil (behind_read x))
behind_more (y ∷ ys) x =
    ap (λ ts. ts ++ behind_read y) (behind_more ys x)
    ∙ append_assoc (behind_read x) (behind_lefts_read ys) (behind_read y)

-- a form is its left operand, and what stands behind that
left_flat : (x : Tree) (k : Kind) (l : Tree) → Some (k, l) ≡ left_of x → flat x ≡ flat l ++ behind_read x
left_flat (t.Infix m j y r) k l e =
    ap (λ z. flat z ++ (flat y ++ flat r)) (sym (same_pair k j l m e).1)
left_flat (t.Back m j y) k l e = ap (λ z. flat z ++ flat y) (sym (same_pair k j l m e).1)
left_flat x k l e = absurd (some_none (k, l) e)

-- a step inwards, and a step back outwards
pub left_in : (x : Tree) (k : Kind) (l : Tree) (xs : List Tree) (all : List Token) → Some (k, l) ≡ left_of x
    → flat x ++ behind_lefts_read xs ≡ all → flat l ++ behind_lefts_read (xs ++ x ∷ []) ≡ all
left_in x k l xs all e h =
    ap (λ ts. flat l ++ ts) (behind_more xs x) ∙ sym (append_assoc (flat l) (behind_read x) (behind_lefts_read xs))
    ∙ ap (λ ts. ts ++ behind_lefts_read xs) (sym (left_flat x k l e)) ∙ h

pub left_out : (old new all : List Token) (x : Tree) (xs : List Tree) → new ≡ old ++ behind_read x
    → old ++ behind_lefts_read (xs ++ x ∷ []) ≡ all → new ++ behind_lefts_read xs ≡ all
left_out old new all x xs put h =
    ap (λ ts. ts ++ behind_lefts_read xs) put ∙ append_assoc old (behind_read x) (behind_lefts_read xs)
    ∙ ap (λ ts. old ++ ts) (sym (behind_more xs x)) ∙ h

-- of a tree that is left these tokens are put, which are those of its form
pub read_put : (x y : Tree) (old new all ts : List Token) → x ≡ y → ts ≡ flat y → old ++ flat x ≡ all
    → new ≡ old ++ ts → new ≡ all
read_put x y old new all ts is form left put = put ∙ ap (λ us. old ++ us) (form ∙ ap flat (sym is)) ∙ left

pub put_read : {T E : Type 0} (r : Result T E) (x y : Tree) (old new all ts : List Token) → x ≡ y → ts ≡ flat y
    → old ++ flat x ≡ all → OnOk r (new ≡ old ++ ts) → OnOk r (new ≡ all)
put_read r x y old new all ts is form left = on_ok_weaker r (read_put x y old new all ts is form left)

-- of a tree that is left another is left, behind the tokens that are put
pub rest_read : (x y z : Tree) (old new all ts : List Token) → x ≡ y → flat y ≡ ts ++ flat z → old ++ flat x ≡ all
    → new ≡ old ++ ts → new ++ flat z ≡ all
rest_read x y z old new all ts is form left put =
    ap (λ us. us ++ flat z) put ∙ append_assoc old ts (flat z)
    ∙ ap (λ us. old ++ us) (sym (ap flat is ∙ form)) ∙ left

-- of a tree that is left another is left, which has all of its tokens
pub other_read : (x y z : Tree) (old all : List Token) → x ≡ y → flat y ≡ flat z → old ++ flat x ≡ all
    → old ++ flat z ≡ all
other_read x y z old all is same left = ap (λ us. old ++ us) (sym (ap flat is ∙ same)) ∙ left

-- what is put of an innermost operand, and of the forms that it stands in
pub lefts_put : {T E : Type 0} (r : Result T E) (x y : Tree) (old two new bs cs : List Token)
    → flat y ++ bs ≡ flat x ++ [] → two ≡ old ++ flat y → cs ≡ bs → OnOk r (new ≡ two ++ cs)
    → OnOk r (new ≡ old ++ flat x)
lefts_put r x y old two new bs cs inner put same =
    on_ok_weaker r (λ e. e ∙ ap (λ us. two ++ us) same ∙ ap (λ us. us ++ bs) put ∙ append_assoc old (flat y) bs
    ∙ ap (λ us. old ++ us) (inner ∙ append-nil (flat x)))

-- one more element is put, with the mark behind it
pub element_next : (c : ℕ) (es : List Element) (i : ℕ) (x : Element) (old one new all : List Token) → i < length es
    → x ≡ get_or es i x → old ++ flat (elements c (drop i es) t.End) ≡ all → one ≡ old ++ flat x.tree
    → new ≡ one ++ Punct c x.spacing ∷ [] → new ++ flat (elements c (drop (i + 1) es) t.End) ≡ all
element_next c es i x old one new all h e left put mark =
    loop_next (λ ds. flat (elements c ds t.End)) es i x old new all (flat x.tree ++ Punct c x.spacing ∷ []) h e
    (sym (append_assoc (flat x.tree) (Punct c x.spacing ∷ []) (flat (elements c (drop (i + 1) es) t.End)))) left
    (mark ∙ ap (λ ts. ts ++ Punct c x.spacing ∷ []) put ∙ append_assoc old (flat x.tree) (Punct c x.spacing ∷ []))
