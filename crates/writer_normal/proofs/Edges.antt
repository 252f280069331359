-- What stands on the edges of what is no form with an operand there.
use Rattle.std.specs.Prelude.{◌≡◌, ℕ, zero, suc, Bool, true, false, not, ◌&&◌, ◌||◌, List, [], ◌∷◌}
use Rattle.std.specs.Prelude.{Option, Some, None, refl}
use Rattle.std.proofs.Common.{ap, ◌∙◌, sym}
use Rattle.proc_macro2.specs.Token.{Token}
use Rattle.rust_leaf.specs.declared.punct.Spacing.{Spacing}
use Rattle.syn_grammar.specs.Kind.{Kind, Position}
use Rattle.syn_grammar.specs.Tree as t
use Rattle.syn_grammar.specs.Tree.{Tree, flat}
use Rattle.syn_grammar.specs.Forms.{chains, stands_left, within}
use Rattle.syn_grammar.specs.Parens.{is_ended, is_struct, stays_left}
use Rattle.reader_tree.specs.declared.tree.Element.{Element}
use Rattle.reader_tree.specs.Forms.{mark_of, seconds, turns, elements, ending}

pub within_first : (m : ℕ) (n : ℕ) (x : Tree) → within m (seconds n (t.First x)) ≡ true
within_first m zero x = refl
within_first m (suc n) x = refl

pub within_mark : (m : ℕ) (cs : List ℕ) (spacing : Spacing) → within m (mark_of cs spacing) ≡ true
within_mark m [] spacing = refl
within_mark m (c ∷ cs) spacing = refl

pub within_turns : (m : ℕ) (xs : List Tree) → within m (turns xs) ≡ true
within_turns m [] = refl
within_turns m (x ∷ xs) = refl

pub within_elements : {A : Type 0} (m : ℕ) (c : ℕ) (es : List Element) (f : A → Tree) (o : Option A)
    → within m (elements c es (ending f o)) ≡ true
within_elements m c [] f None = refl
within_elements m c [] f (Some y) = refl
within_elements m c (e ∷ es) f o = refl

pub ruleset lefts = (within_first, within_mark, within_turns, within_elements)

pub ended_first : (k : Kind) (ts : List Token) (n : ℕ) (x : Tree) → is_ended k ts (seconds n (t.First x)) ≡ true
ended_first k ts zero x = refl
ended_first k ts (suc n) x = refl

pub ended_mark : (k : Kind) (ts : List Token) (cs : List ℕ) (spacing : Spacing)
    → is_ended k ts (mark_of cs spacing) ≡ true
ended_mark k ts [] spacing = refl
ended_mark k ts (c ∷ cs) spacing = refl

pub ended_turns : (k : Kind) (ts : List Token) (xs : List Tree) → is_ended k ts (turns xs) ≡ true
ended_turns k ts [] = refl
ended_turns k ts (x ∷ xs) = refl

pub ended_elements : {A : Type 0} (k : Kind) (ts : List Token) (c : ℕ) (es : List Element) (f : A → Tree) (o : Option A)
    → is_ended k ts (elements c es (ending f o)) ≡ true
ended_elements k ts c [] f None = refl
ended_elements k ts c [] f (Some y) = refl
ended_elements k ts c (e ∷ es) f o = refl

pub ruleset rights = (ended_first, ended_mark, ended_turns, ended_elements)

-- an operand before a form
left_is : (q : Position) (k : Kind) (y l : Tree) → stays_left q k y l
    ≡ (is_struct k || (stands_left q l k && (not (chains l k) && is_ended k (flat y) l)))
unfolding stands_left
left_is q k y l = refl

pub stays_not : (q : Position) (k : Kind) (y l : Tree) → is_struct k ≡ false → stands_left q l k ≡ false
    → false ≡ stays_left q k y l
stays_not q k y l s e =
    sym (left_is q k y l
    ∙ ap (λ b. b || (stands_left q l k && (not (chains l k) && is_ended k (flat y) l))) s
    ∙ ap (λ b. b && (not (chains l k) && is_ended k (flat y) l)) e)

pub stays_chained : (q : Position) (k : Kind) (y l : Tree) → is_struct k ≡ false → stands_left q l k ≡ true
    → chains l k ≡ true → false ≡ stays_left q k y l
stays_chained q k y l s e f =
    sym (left_is q k y l
    ∙ ap (λ b. b || (stands_left q l k && (not (chains l k) && is_ended k (flat y) l))) s
    ∙ ap (λ b. b && (not (chains l k) && is_ended k (flat y) l)) e
    ∙ ap (λ b. not b && is_ended k (flat y) l) f)

pub stays_ended : (q : Position) (k : Kind) (y l : Tree) (b : Bool) → is_struct k ≡ false → stands_left q l k ≡ true
    → chains l k ≡ false → b ≡ is_ended k (flat y) l → b ≡ stays_left q k y l
stays_ended q k y l b s e f h =
    h ∙ sym (left_is q k y l
    ∙ ap (λ v. v || (stands_left q l k && (not (chains l k) && is_ended k (flat y) l))) s
    ∙ ap (λ v. v && (not (chains l k) && is_ended k (flat y) l)) e
    ∙ ap (λ v. not v && is_ended k (flat y) l) f)
