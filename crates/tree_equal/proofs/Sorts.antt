-- What a tree is made of, by its form: trees of two sorts differ.
use Rattle.std.specs.Prelude.{◌≡◌, ◌↔◌, ℕ, zero, suc, IsTrue, false, List, [], ◌∷◌, Option, Some, None, refl}
use Rattle.std.proofs.Common.{ap, sym, true≢false, ◌∙◌}
use Rattle.rust_leaf.specs.declared.punct.Spacing.{Spacing}
use Rattle.syn_grammar.specs.Tree as t
use Rattle.syn_grammar.specs.Tree.{Tree}
use Rattle.reader_table.specs.Ops.{separator_of}
use Rattle.reader_table.specs.Words.{sign_text}
use Rattle.reader_table.specs.declared.word.Sign.{Sign}
use Rattle.reader_table.specs.declared.word.Sign.TheVariants as signs
use Rattle.reader_tree.specs.declared.tree.Element.{Element}
use Rattle.reader_tree.specs.declared.tree.Form.{Form}
use Rattle.reader_tree.specs.declared.tree.Form.TheVariants as forms
use Rattle.reader_tree.specs.Forms.{elements, ending, mark_of, seconds, tree_of, turns}

pub data Sort : Type 0 where
  AWord ALiteral AMark ALifetime ARaw ANil APair AChoice AList AGroup ADropped ACalled AVerbatim AHidden : Sort
  ANode AWhole AAlone AFront ABack AInfix : Sort

abbrev pub sort : Tree → Sort
sort (t.AWord cs) = AWord
sort (t.ALiteral cs) = ALiteral
sort (t.AMark c cs spacing) = AMark
sort (t.ALifetime cs) = ALifetime
sort (t.Raw ts) = ARaw
sort t.Nil = ANil
sort (t.Pair x y) = APair
sort (t.First x) = AChoice
sort (t.Second x) = AChoice
sort t.End = AList
sort (t.Again x y) = AList
sort (t.Final x) = AList
sort (t.More x c spacing y) = AList
sort (t.Group d x) = AGroup
sort (t.Dropped x) = ADropped
sort (t.Called n x) = ACalled
sort (t.Verbatim x) = AVerbatim
sort (t.Hidden x) = AHidden
sort (t.Node k x) = ANode
sort (t.Whole x) = AWhole
sort (t.Alone k y) = AAlone
sort (t.Front k y x) = AFront
sort (t.Back l k y) = ABack
sort (t.Infix l k y r) = AInfix

abbrev pub form_sort : Form → Sort
form_sort (forms.Word i) = AWord
form_sort (forms.Literal l) = ALiteral
form_sort (forms.Mark s spacing span) = AMark
form_sort (forms.Lifetime l) = ALifetime
form_sort (forms.Raw es) = ARaw
form_sort forms.Nil = ANil
form_sort (forms.Pair b) = APair
form_sort (forms.First n x) = AChoice
form_sort (forms.Second n x) = AChoice
form_sort forms.End = AList
form_sort (forms.Turns v) = AList
form_sort (forms.Elements e) = AList
form_sort (forms.Group d g) = AGroup
form_sort (forms.Dropped x) = ADropped
form_sort (forms.Called n x) = ACalled
form_sort (forms.Verbatim x) = AVerbatim
form_sort (forms.Node k x) = ANode
form_sort (forms.Whole x) = AWhole
form_sort (forms.Alone k x) = AAlone
form_sort (forms.Front k b) = AFront
form_sort (forms.Back k b) = ABack
form_sort (forms.Infix k b) = AInfix

pub sort_mark : (s : Sign) (spacing : Spacing) → sort (mark_of (sign_text s) spacing) ≡ AMark
sort_mark signs.Not spacing = refl
sort_mark s spacing = refl

pub sort_first : (n : ℕ) (x : Tree) → sort (seconds n (t.First x)) ≡ AChoice
sort_first zero x = refl
sort_first (suc n) x = refl

pub sort_turns : (xs : List Tree) → sort (turns xs) ≡ AList
sort_turns [] = refl
sort_turns (x ∷ xs) = refl

pub sort_elements : {A : Type 0} (c : ℕ) (es : List Element) (f : A → Tree) (o : Option A)
    → sort (elements c es (ending f o)) ≡ AList
sort_elements c [] f None = refl
sort_elements c [] f (Some y) = refl
sort_elements c (e ∷ es) f o = refl

pub sorted : (f : Form) → sort (tree_of f) ≡ form_sort f
sorted (forms.Mark s spacing span) = sort_mark s spacing
sorted (forms.First n x) = sort_first n x.now
sorted (forms.Turns v) = sort_turns v.now.each.now
sorted (forms.Elements e) = sort_elements (separator_of e.now.separator) e.now.before.now (λ b. b.now) e.now.last
sorted f = refl

-- a tree of another sort
pub apart : (f : Form) (a b : Tree) (s : Sort) → tree_of f ≡ b → sort a ≡ s → (form_sort f ≡ s → ⊥) → a ≡ b → ⊥
apart f a b s v e h d = h (sym (sorted f) ∙ ap sort (v ∙ sym d) ∙ e)

pub not_one : {P : Type 0} → (P → ⊥) → IsTrue false ↔ P
not_one h = (λ e. absurd (true≢false (sym e)), λ p. absurd (h p))

pub no_word : (f : Form) → ((i : _) → f ≡ forms.Word i → ⊥) → form_sort f ≡ AWord → ⊥
no_word (forms.Word i) h e = h i refl
no_word f h e = cc

pub no_literal : (f : Form) → ((l : _) → f ≡ forms.Literal l → ⊥) → form_sort f ≡ ALiteral → ⊥
no_literal (forms.Literal l) h e = h l refl
no_literal f h e = cc

pub no_mark : (f : Form) → ((s : _) (spacing : _) (span : _) → f ≡ forms.Mark s spacing span → ⊥) → form_sort f ≡ AMark
    → ⊥
no_mark (forms.Mark s spacing span) h e = h s spacing span refl
no_mark f h e = cc

pub no_lifetime : (f : Form) → ((l : _) → f ≡ forms.Lifetime l → ⊥) → form_sort f ≡ ALifetime → ⊥
no_lifetime (forms.Lifetime l) h e = h l refl
no_lifetime f h e = cc

pub no_raw : (f : Form) → ((es : _) → f ≡ forms.Raw es → ⊥) → form_sort f ≡ ARaw → ⊥
no_raw (forms.Raw es) h e = h es refl
no_raw f h e = cc

pub no_nil : (f : Form) → (f ≡ forms.Nil → ⊥) → form_sort f ≡ ANil → ⊥
no_nil forms.Nil h e = h refl
no_nil f h e = cc

pub no_pair : (f : Form) → ((b : _) → f ≡ forms.Pair b → ⊥) → form_sort f ≡ APair → ⊥
no_pair (forms.Pair b) h e = h b refl
no_pair f h e = cc

pub no_group : (f : Form) → ((d : _) (g : _) → f ≡ forms.Group d g → ⊥) → form_sort f ≡ AGroup → ⊥
no_group (forms.Group d g) h e = h d g refl
no_group f h e = cc

pub no_dropped : (f : Form) → ((x : _) → f ≡ forms.Dropped x → ⊥) → form_sort f ≡ ADropped → ⊥
no_dropped (forms.Dropped x) h e = h x refl
no_dropped f h e = cc

pub no_called : (f : Form) → ((n : _) (x : _) → f ≡ forms.Called n x → ⊥) → form_sort f ≡ ACalled → ⊥
no_called (forms.Called n x) h e = h n x refl
no_called f h e = cc

pub no_verbatim : (f : Form) → ((x : _) → f ≡ forms.Verbatim x → ⊥) → form_sort f ≡ AVerbatim → ⊥
no_verbatim (forms.Verbatim x) h e = h x refl
no_verbatim f h e = cc

pub no_node : (f : Form) → ((k : _) (x : _) → f ≡ forms.Node k x → ⊥) → form_sort f ≡ ANode → ⊥
no_node (forms.Node k x) h e = h k x refl
no_node f h e = cc

pub no_whole : (f : Form) → ((x : _) → f ≡ forms.Whole x → ⊥) → form_sort f ≡ AWhole → ⊥
no_whole (forms.Whole x) h e = h x refl
no_whole f h e = cc

pub no_alone : (f : Form) → ((k : _) (x : _) → f ≡ forms.Alone k x → ⊥) → form_sort f ≡ AAlone → ⊥
no_alone (forms.Alone k x) h e = h k x refl
no_alone f h e = cc

pub no_front : (f : Form) → ((k : _) (b : _) → f ≡ forms.Front k b → ⊥) → form_sort f ≡ AFront → ⊥
no_front (forms.Front k b) h e = h k b refl
no_front f h e = cc

pub no_back : (f : Form) → ((k : _) (b : _) → f ≡ forms.Back k b → ⊥) → form_sort f ≡ ABack → ⊥
no_back (forms.Back k b) h e = h k b refl
no_back f h e = cc

pub no_infix : (f : Form) → ((k : _) (b : _) → f ≡ forms.Infix k b → ⊥) → form_sort f ≡ AInfix → ⊥
no_infix (forms.Infix k b) h e = h k b refl
no_infix f h e = cc

pub no_choice : (f : Form) → ((n : _) (x : _) → f ≡ forms.First n x → ⊥) → ((n : _) (x : _) → f ≡ forms.Second n x → ⊥)
    → form_sort f ≡ AChoice → ⊥
no_choice (forms.First n x) h i e = h n x refl
no_choice (forms.Second n x) h i e = i n x refl
no_choice f h i e = cc

pub no_list : (f : Form) → (f ≡ forms.End → ⊥) → ((v : _) → f ≡ forms.Turns v → ⊥)
    → ((l : _) → f ≡ forms.Elements l → ⊥)
    → form_sort f ≡ AList → ⊥
no_list forms.End g h i e = g refl
no_list (forms.Turns v) g h i e = h v refl
no_list (forms.Elements l) g h i e = i l refl
no_list f g h i e = cc
