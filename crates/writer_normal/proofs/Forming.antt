-- Trees in normal form, by their forms.
use Rattle.std.specs.Prelude.{◌≡◌, ℕ, zero, suc, List, [], ◌∷◌, Option, Some, None, map, refl}
use Rattle.std.proofs.Common.{ap, ◌∙◌, sym}
use Rattle.proc_macro2.specs.Token.{Token}
use Rattle.rust_leaf.specs.declared.punct.Spacing.{Spacing}
use Rattle.rust_leaf.specs.declared.punct.Spacing.TheVariants.{Alone as Apart}
use Rattle.syn_grammar.specs.Kind.{Kind, Position, Plain}
use Rattle.syn_grammar.specs.Forms.{inside}
use Rattle.syn_grammar.specs.Normal.{formed, normal_in}
use Rattle.syn_grammar.specs.Parens as p
use Rattle.syn_grammar.specs.Parens.{follow}
use Rattle.syn_grammar.specs.Tree as t
use Rattle.syn_grammar.specs.Tree.{Tree, flat}
use Rattle.reader_tree.specs.declared.tree.Element.{Element}
use Rattle.reader_tree.specs.Forms.{mark_of, seconds, turns, elements, ending}
use Rattle.writer_normal.specs.Parted.{element_in}

-- a mark, and a choice
pub normal_mark : (q : Position) (cs : List ℕ) (spacing : Spacing) → normal_in q (mark_of cs spacing) ≡ mark_of cs Apart
normal_mark q [] spacing = refl
normal_mark q (c ∷ cs) spacing = refl

pub normal_seconds : (q : Position) (n : ℕ) (x : Tree) → normal_in q (seconds n x) ≡ seconds n (normal_in q x)
normal_seconds q zero x = refl
normal_seconds q (suc n) x = ap t.Second (normal_seconds q n x)

pub ruleset forms = (normal_mark, normal_seconds)

-- elements
normal_elements : (q : Position) (c : ℕ) (es : List Element) (y : Tree)
    → normal_in q (elements c es y) ≡ elements c (map (element_in q) es) (normal_in q y)
normal_elements q c [] y = refl
normal_elements q c (e ∷ es) y = ap (t.More (normal_in q e.tree) c Apart) (normal_elements q c es y)

pub list_none : (q : Position) (c : ℕ) (es ds : List Element) → ds ≡ map (element_in q) es
    → elements c ds t.End ≡ normal_in q (elements c es t.End)
list_none q c es ds e = ap (λ xs. elements c xs t.End) e ∙ sym (normal_elements q c es t.End)

pub list_some : (q : Position) (c : ℕ) (es ds : List Element) (x y : Tree) → ds ≡ map (element_in q) es
    → y ≡ normal_in q x → elements c ds (t.Final y) ≡ normal_in q (elements c es (t.Final x))
list_some q c es ds x y e f =
    ap (λ xs. elements c xs (t.Final y)) e ∙ ap (λ z. elements c (map (element_in q) es) (t.Final z)) f
    ∙ sym (normal_elements q c es (t.Final x))

-- forms of expressions
pub alone_formed : (q : Position) (ts : List Token) (k : Kind) (y own x : Tree) → own ≡ normal_in Plain y
    → x ≡ p.alone q ts k own → x ≡ formed q ts (t.Alone k y)
alone_formed q ts k y own x e f = f ∙ ap (p.alone q ts k) e

pub front_formed : (q : Position) (ts : List Token) (k : Kind) (y z own operand x : Tree) (r : Position)
    → own ≡ normal_in Plain y → r ≡ inside q k → operand ≡ formed r ts z → x ≡ p.front_form q k own operand
    → x ≡ formed q ts (t.Front k y z)
front_formed q ts k y z own operand x r e f g h =
    h ∙ ap (λ o. p.front_form q k o operand) e ∙ ap (p.front_form q k (normal_in Plain y))
    (g ∙ ap (λ s. formed s ts z) f)

pub back_formed : (q : Position) (ts : List Token) (k : Kind) (y l own operand x : Tree) → own ≡ normal_in Plain y
    → operand ≡ formed q (follow (flat own)) l → x ≡ p.back_form q ts operand k own → x ≡ formed q ts (t.Back l k y)
back_formed q ts k y l own operand x e f g =
    g ∙ ap (λ z. p.back_form q ts z k own) f ∙ ap (λ o. p.back_form q ts (formed q (follow (flat o)) l) k o) e

pub infix_formed : (q : Position) (ts : List Token) (k : Kind) (l y z left own right x : Tree) (r : Position)
    → own ≡ normal_in Plain y → left ≡ formed q (follow (flat own)) l → r ≡ inside q k → right ≡ formed r ts z
    → x ≡ p.infix_form q left k own right → x ≡ formed q ts (t.Infix l k y z)
infix_formed q ts k l y z left own right x r e f g h i =
    i ∙ ap (λ v. p.infix_form q v k own right) f
    ∙ ap (p.infix_form q (formed q (follow (flat own)) l) k own) (h ∙ ap (λ s. formed s ts z) g)
    ∙ ap (λ o. p.infix_form q (formed q (follow (flat o)) l) k o (formed (inside q k) ts z)) e

-- what is no form
pub formed_first : (q : Position) (ts : List Token) (n : ℕ) (x : Tree)
    → formed q ts (seconds n (t.First x)) ≡ seconds n (t.First x)
formed_first q ts zero x = refl
formed_first q ts (suc n) x = refl

pub formed_mark : (q : Position) (ts : List Token) (cs : List ℕ) (spacing : Spacing)
    → formed q ts (mark_of cs spacing) ≡ mark_of cs spacing
formed_mark q ts [] spacing = refl
formed_mark q ts (c ∷ cs) spacing = refl

pub formed_turns : (q : Position) (ts : List Token) (xs : List Tree) → formed q ts (turns xs) ≡ turns xs
formed_turns q ts [] = refl
formed_turns q ts (x ∷ xs) = refl

pub formed_elements : {A : Type 0} (q : Position) (ts : List Token) (c : ℕ) (es : List Element) (f : A → Tree)
    (o : Option A) → formed q ts (elements c es (ending f o)) ≡ elements c es (ending f o)
formed_elements q ts c [] f None = refl
formed_elements q ts c [] f (Some y) = refl
formed_elements q ts c (e ∷ es) f o = refl

pub ruleset unformed = (formed_first, formed_mark, formed_turns, formed_elements)
