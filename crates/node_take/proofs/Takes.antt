-- A tree that a form is has the shape of entries of few kinds alone: a choice of a choice's, a mark of a
-- mark's, turns
-- and lists of those that say again and again.
use Rattle.std.specs.Prelude.{◌≡◌, ◌≢◌, ℕ, zero, suc, Bool, true, false, List, [], ◌∷◌}
use Rattle.std.specs.Prelude.{Option, Some, None, length}
use Rattle.std.specs.Prelude.{refl}
use Rattle.std.proofs.Common.{ap}
use Rattle.rust_leaf.specs.declared.punct.Spacing.{Spacing}
use Rattle.proc_macro2.specs.Token.{Token}
use Rattle.syn_grammar.specs.Kind.{Kind}
use Rattle.syn_grammar.specs.Gram.{Gram, mark, nothing, never, alt, star, many}
use Rattle.syn_grammar.specs.Gram.{judged}
use Rattle.syn_grammar.specs.Tree as t
use Rattle.syn_grammar.specs.Tree.{Tree}
use Rattle.reader_tree.specs.declared.tree.Element.{Element}
use Rattle.reader_tree.specs.Forms.{mark_of, seconds, turns, elements, ending, tree_of}
use Rattle.reader_tree.specs.declared.tree.Form.{Form}
use Rattle.reader_tree.specs.declared.tree.Form.TheVariants as forms
use Rattle.reader_table.specs.Words.{sign_text}
use Rattle.reader_table.specs.Ops.{separator_of}
use Rattle.syn_grammar.specs.Gram.{Verdict, Keep, AsRaw}
use Rattle.syn_grammar.specs.Types.{kept_if}
use Rattle.node_shapes.specs.Shape.{IsShaped, AreForms}
use Rattle.node_take.specs.Seqs.{may_choose}

abbrev pub may_mark : Gram → Bool
may_mark (mark c cs) = true
may_mark nothing = true
may_mark _ = false

abbrev pub may_repeat : Gram → Bool
may_repeat (star t g) = true
may_repeat (many e c g) = true
may_repeat _ = false

pub shaped_first : (n : ℕ) (x : Tree) (g : Gram) → IsShaped (seconds n (t.First x)) g → may_choose g ≡ true
shaped_first n x (alt t a b) h = refl
shaped_first n x (judged v g) h = refl
shaped_first zero x _ h = absurd h
shaped_first (suc n) x _ h = absurd h

pub shaped_second : (x : Tree) (g : Gram) → IsShaped (t.Second x) g → may_choose g ≡ true
shaped_second x (alt t a b) h = refl
shaped_second x (judged v g) h = refl
shaped_second x _ h = absurd h

pub not_both : (b : Bool) → b ≡ true → b ≡ false → ⊥
not_both true e d = cc
not_both false e d = cc

pub shaped_mark : (cs : List ℕ) (spacing : Spacing) (g : Gram) → IsShaped (mark_of cs spacing) g
    → may_mark g ≡ true
shaped_mark cs spacing (mark c ds) h = refl
shaped_mark cs spacing nothing h = refl
shaped_mark [] spacing _ h = absurd h
shaped_mark (c ∷ cs) spacing _ h = absurd h

pub shaped_turns : (xs : List Tree) (g : Gram) → IsShaped (turns xs) g → may_repeat g ≡ true
shaped_turns xs (star t g) h = refl
shaped_turns xs (many e c g) h = refl
shaped_turns [] _ h = absurd h
shaped_turns (x ∷ xs) _ h = absurd h

pub shaped_elements : {A : Type 0} (c : ℕ) (es : List Element) (f : A → Tree) (o : Option A) (g : Gram)
    → IsShaped (elements c es (ending f o)) g → may_repeat g ≡ true
shaped_elements c es f o (star t g) h = refl
shaped_elements c es f o (many e d g) h = refl
shaped_elements c [] f None _ h = absurd h
shaped_elements c [] f (Some y) _ h = absurd h
shaped_elements c (e ∷ es) f o _ h = absurd h

-- of two of which the second is no choice again
pub first_chosen : (n : ℕ) (x : Tree) (test : List Token → Bool) (a b : Gram) → n ≢ 0
    → may_choose b ≡ false
    → IsShaped (seconds n (t.First x)) (alt test a b) → ⊥
first_chosen zero x test a b d e h = absurd (d refl)
first_chosen (suc n) x test a b d e h = not_both (may_choose b) (shaped_first n x b h) e

pub second_chosen : (n : ℕ) (x : Tree) (test : List Token → Bool) (a b : Gram) → n ≢ 0
    → may_choose b ≡ false
    → IsShaped (t.Second (seconds n x)) (alt test a b) → ⊥
second_chosen zero x test a b d e h = absurd (d refl)
second_chosen (suc n) x test a b d e h = not_both (may_choose b) (shaped_second (seconds n x) b h) e

-- turns, at least one, are no list
pub turns_listed : (xs : List Tree) (e : List Token → Bool) (c : ℕ) (g : Gram) → length xs ≢ 0
    → IsShaped (turns xs) (many e c g) → ⊥
turns_listed [] e c g d h = absurd (d refl)
turns_listed (x ∷ xs) e c g d h = absurd h

-- a list, of at least one element, is no turns
pub list_turned : {A : Type 0} (c : ℕ) (es : List Element) (f : A → Tree) (o : Option A) (e : List Token → Bool)
    (g : Gram)
    → length es ≢ 0 → IsShaped (elements c es (ending f o)) (star e g) → ⊥
list_turned c [] f o e g d h = absurd (d refl)
list_turned c (x ∷ es) f o e g d h = absurd h

pub last_turned : (c : ℕ) (es : List Element) (x : Tree) (e : List Token → Bool) (g : Gram)
    → IsShaped (elements c es (t.Final x)) (star e g) → ⊥
last_turned c [] x e g h = absurd h
last_turned c (y ∷ es) x e g h = absurd h

-- a form that is none is none of them
elements_turned : {A : Type 0} (c : ℕ) (es : List Element) (f : A → Tree) (o : Option A) (e : List Token
    → Bool) (g : Gram)
    → IsShaped (elements c es (ending f o)) (star e g) → elements c es (ending f o) ≡ t.End
elements_turned c [] f None e g h = refl
elements_turned c [] f (Some x) e g h = absurd h
elements_turned c (x ∷ es) f o e g h = absurd h

star_marked : (cs : List ℕ) (spacing : Spacing) (e : List Token → Bool) (g : Gram)
    → IsShaped (mark_of cs spacing) (star e g)
    → mark_of cs spacing ≡ t.End
star_marked cs spacing e g h = cc (shaped_mark cs spacing (star e g) h)

star_chosen : (n : ℕ) (x : Tree) (e : List Token → Bool) (g : Gram)
    → IsShaped (seconds n (t.First x)) (star e g)
    → seconds n (t.First x) ≡ t.End
star_chosen n x e g h = cc (shaped_first n x (star e g) h)

pub no_turns_form : (f : Form) → ((v : _) → f ≡ forms.Turns v → ⊥) → (e : List Token → Bool) (g : Gram)
    → IsShaped (tree_of f) (star e g) → tree_of f ≡ t.End
no_turns_form (forms.Turns v) d e g h = absurd (d v refl)
no_turns_form (forms.Elements l) d e g h =
    elements_turned (separator_of l.now.separator) l.now.before.now (λ b. b.now) l.now.last e g h
no_turns_form (forms.First n x) d e g h = star_chosen n x.now e g h
no_turns_form (forms.Mark s spacing span) d e g h = star_marked (sign_text s) spacing e g h
no_turns_form forms.End d e g h = refl
no_turns_form _ d e g h = absurd h

-- the separator is the entry's
pub same_separator : (c d : ℕ) (es : List Element) (y : Tree) (e : List Token → Bool) (g : Gram)
    → IsShaped (elements c es y) (many e d g) → elements c es y ≡ elements d es y
same_separator c d [] y e g h = refl
same_separator c d (x ∷ es) y e g h = ap (λ m. elements m (x ∷ es) y) h.0

-- what is kept or refused is not kept as tokens
pub judged_kept : (b : Bool) → kept_if b ≡ AsRaw → ⊥
judged_kept true e = cc
judged_kept false e = cc

pub verbatim_kept : (v : Tree → Bool) (x : Tree) (g : Gram)
    → IsShaped (t.Verbatim x) (judged (λ y. kept_if (v y)) g) → ⊥
verbatim_kept v x g h = judged_kept (v x) h.0

pub second_kept : (n : ℕ) (x : Tree) (v : Tree → Verdict) (g : Gram)
    → IsShaped (t.Second (seconds n x)) (judged v g) → ⊥
second_kept n x v g h = absurd h

pub first_kept : (n : ℕ) (x : Tree) (v : Tree → Verdict) (g : Gram) → n ≢ 0
    → IsShaped (seconds n (t.First x)) (judged v g) → ⊥
first_kept zero x v g d h = absurd (d refl)
first_kept (suc n) x v g d h = absurd h

pub ruleset takes = (shaped_first, shaped_mark, shaped_turns, shaped_elements)

pub ruleset judges = (verbatim_kept, second_kept, first_kept)

pub ruleset lists = (
  shaped_first,
  shaped_mark,
  shaped_turns,
  shaped_elements,
  turns_listed,
  list_turned,
  last_turned,
  same_separator,
)

-- nothing has the shape of what is read nowhere
pub shaped_never : (x : Tree) → IsShaped x never → ⊥
shaped_never t.Nil h = absurd h
shaped_never _ h = absurd h

-- none of these is a form of an expression
pub forms_first : (n : ℕ) (x : Tree) → AreForms (seconds n (t.First x)) → ⊥
forms_first zero x h = absurd h
forms_first (suc n) x h = absurd h

pub forms_mark : (cs : List ℕ) (spacing : Spacing) → AreForms (mark_of cs spacing) → ⊥
forms_mark [] spacing h = absurd h
forms_mark (c ∷ cs) spacing h = absurd h

pub forms_turns : (xs : List Tree) → AreForms (turns xs) → ⊥
forms_turns [] h = absurd h
forms_turns (x ∷ xs) h = absurd h

pub forms_elements : {A : Type 0} (c : ℕ) (es : List Element) (f : A → Tree) (o : Option A)
    → AreForms (elements c es (ending f o)) → ⊥
forms_elements c [] f None h = absurd h
forms_elements c [] f (Some x) h = absurd h
forms_elements c (e ∷ es) f o h = absurd h

pub ruleset expressions = (forms_first, forms_mark, forms_turns, forms_elements)
