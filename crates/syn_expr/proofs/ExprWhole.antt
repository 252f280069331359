-- The form of an expression, and which one it is, of trees that are of none too.
use Rattle.std.specs.Prelude.{◌≡◌, ◌≢◌, Bool, true, false, ℕ, zero, suc, List, [], ◌∷◌, length, Option}
use Rattle.std.specs.Prelude.{Some, None, refl}
use Rattle.std.proofs.Common.{subst}
use Rattle.proc_macro2.specs.declared.delimiter.Delimiter.{Delimiter}
use Rattle.rust_leaf.specs.declared.punct.Spacing.{Spacing}
use Rattle.syn_grammar.specs.Kind as k
use Rattle.syn_grammar.specs.Kind.{Kind, Position, Expression}
use Rattle.syn_grammar.specs.Tree as t
use Rattle.syn_grammar.specs.Tree.{Tree, Node, Whole}
use Rattle.syn_grammar.specs.Forms.{form_of}
use Rattle.reader_tree.specs.declared.tree.Element.{Element}
use Rattle.reader_tree.specs.Forms.{mark_of, seconds, turns, elements, ending}
use Rattle.reader_tree.specs.Shapes.{node_of, whole_of}
use Rattle.syn_expr.specs.ExprForms.{IsAlone}
use Rattle.syn_part.specs.Kept.{IsFirst}
use Rattle.syn_expr.specs.ExprWhole.{IsParen, is_final, is_first, is_lone, which}

abbrev pub or_whole : Option Tree → Tree → Tree
or_whole None x = x
or_whole (Some z) x = z

-- by the kind and the inside of a node
abbrev pub form_by : Option (Kind × Tree) → Tree → Tree
form_by (Some (Expression p, y)) x = or_whole (whole_of y) x
form_by _ x = x

pub form_is : (x : Tree) → form_of x ≡ form_by (node_of x) x
form_is (Node (Expression p) (Whole x)) = refl
form_is _ = refl

-- one element and no mark

pub first_lone : (n : ℕ) (x : Tree) → is_lone (seconds n (t.First x)) ≡ false
first_lone zero x = refl
first_lone (suc n) x = refl

pub mark_lone : (cs : List ℕ) (spacing : Spacing) → is_lone (mark_of cs spacing) ≡ false
mark_lone [] spacing = refl
mark_lone (c ∷ cs) spacing = refl

pub turns_lone : (xs : List Tree) → is_lone (turns xs) ≡ false
turns_lone [] = refl
turns_lone (x ∷ xs) = refl

pub elements_lone : {A : Type 0} (c : ℕ) (es : List Element) (f : A → Tree) (o : Option A)
    → is_lone (elements c es (ending f o)) ≡ false
elements_lone c [] f None = refl
elements_lone c [] f (Some x) = refl
elements_lone c (e ∷ es) f o = refl

pub ruleset lone = (first_lone, mark_lone, turns_lone, elements_lone)

pub first_final : (n : ℕ) (x : Tree) → is_final (seconds n (t.First x)) ≡ false
first_final zero x = refl
first_final (suc n) x = refl

pub mark_final : (cs : List ℕ) (spacing : Spacing) → is_final (mark_of cs spacing) ≡ false
mark_final [] spacing = refl
mark_final (c ∷ cs) spacing = refl

pub turns_final : (xs : List Tree) → is_final (turns xs) ≡ false
turns_final [] = refl
turns_final (x ∷ xs) = refl

pub several_final : (c : ℕ) (es : List Element) (x : Tree) → length es ≢ 0
    → is_final (elements c es (t.Final x)) ≡ false
several_final c [] x e = absurd (e refl)
several_final c (y ∷ es) x e = refl

pub ended_final : (c : ℕ) (es : List Element) → is_final (elements c es t.End) ≡ false
ended_final c [] = refl
ended_final c (y ∷ es) = refl

pub ruleset finals = (first_final, mark_final, turns_final, several_final, ended_final)

pub no_first : (x : Tree) → (IsFirst x → ⊥) → is_first x ≡ false
no_first (t.First y) d = absurd (d tt)
no_first _ d = refl

-- none of these is a form

pub first_which : (n : ℕ) (x : Tree) → which (seconds n (t.First x)) ≡ None
first_which zero x = refl
first_which (suc n) x = refl

pub mark_which : (cs : List ℕ) (spacing : Spacing) → which (mark_of cs spacing) ≡ None
mark_which [] spacing = refl
mark_which (c ∷ cs) spacing = refl

pub turns_which : (xs : List Tree) → which (turns xs) ≡ None
turns_which [] = refl
turns_which (x ∷ xs) = refl

pub elements_which : {A : Type 0} (c : ℕ) (es : List Element) (f : A → Tree) (o : Option A)
    → which (elements c es (ending f o)) ≡ None
elements_which c [] f None = refl
elements_which c [] f (Some x) = refl
elements_which c (e ∷ es) f o = refl

pub ruleset no_forms = (first_which, mark_which, turns_which, elements_which)

-- what stands in parentheses

pub paren_alone : (b : Bool) (x : Tree) → IsParen b x → IsAlone x k.ExprParen
paren_alone b (t.Alone k.ExprParen y) h = (refl, h.1)
paren_alone b _ h = absurd h

pub no_paren : (x y : Tree) (d : Delimiter) → x ≡ t.Alone k.ExprParen (t.Group d y)
    → ((z : Tree) → y ≡ t.Final z → ⊥) → IsParen true x → ⊥
no_paren x y d e f h = lone_final d y (subst (λ z. IsParen true z) e h).0 f
  where
    lone_final : (d : Delimiter) (y : Tree) → is_lone (t.Group d y) ≡ true → ((z : Tree) → y ≡ t.Final z → ⊥) → ⊥
    lone_final d (t.Final z) e f = f z refl
    lone_final d _ e f = cc

pub no_tuple : (x y z : Tree) (d : Delimiter) → x ≡ t.Alone k.ExprParen (t.Group d y) → y ≡ t.Final z
    → IsParen false x → ⊥
no_tuple x y z d e f h =
    let i : is_lone (t.Group d (t.Final z)) ≡ false =
    subst (λ w. is_lone (t.Group d w) ≡ false) f (subst (λ w. IsParen false w) e h).0 in cc

pub ruleset parens = (paren_alone, no_paren, no_tuple)
