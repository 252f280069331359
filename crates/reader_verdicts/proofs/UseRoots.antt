-- Whether a tree of a use has a root, by its form.
use Rattle.std.specs.Prelude.{◌≡◌, ◌≢◌, ◌-◌, ℕ, zero, suc, Bool, true, false, ◌||◌, List, [], ◌∷◌, Option, Some, None}
use Rattle.std.specs.Prelude.{refl}
use Rattle.std.specs.List.{list_any}
use Rattle.std.proofs.Common.{ap, ◌∙◌, sym, arith}
use Rattle.rust_leaf.specs.declared.punct.Spacing.{Spacing}
use Rattle.reader_table.specs.Kinds.{kind_of as named}
use Rattle.reader_table.specs.declared.kind.Kind as g
use Rattle.reader_table.specs.declared.kind.Kind.TheVariants as kinds
use Rattle.syn_grammar.specs.Kind.{UseTop, UseRooted}
use Rattle.syn_grammar.specs.Tree as t
use Rattle.syn_grammar.specs.Tree.{Tree, Node}
use Rattle.syn_grammar.specs.Verdicts.{has_root, root_inside}
use Rattle.reader_tree.specs.declared.tree.Element.{Element}
use Rattle.reader_tree.specs.declared.tree.Enclosed.{Enclosed}
use Rattle.reader_tree.specs.declared.tree.Form.{Form}
use Rattle.reader_tree.specs.declared.tree.Form.TheVariants as forms
use Rattle.reader_tree.specs.declared.tree.Separated.{Separated}
use Rattle.reader_tree.specs.Forms.{mark_of, seconds, tree_of, turns, elements, ending}
use Rattle.reader_table.specs.Ops.{separator_of}
use Rattle.reader_table.specs.Words.{sign_text}
use Rattle.proc_macro2.specs.declared.delimiter.Delimiter.{Delimiter}
use denote.Ref.{Bor}

or_assoc : (a b c : Bool) → (a || (b || c)) ≡ ((a || b) || c)
or_assoc true b c = refl
or_assoc false b c = refl

pub or_false : (a : Bool) → a ≡ (a || false)
or_false true = refl
or_false false = refl

pub root_first : (n : ℕ) (x : Tree) → has_root (seconds n (t.First x)) ≡ false
root_first zero x = refl
root_first (suc n) x = refl

pub root_mark : (cs : List ℕ) (spacing : Spacing) → has_root (mark_of cs spacing) ≡ false
root_mark [] spacing = refl
root_mark (c ∷ cs) spacing = refl

pub root_turns : (xs : List Tree) → has_root (turns xs) ≡ false
root_turns [] = refl
root_turns (x ∷ xs) = refl

pub root_elements : (c : ℕ) (es : List Element) (y : Tree)
    → has_root (elements c es y) ≡ (list_any (λ e. has_root e.tree) es || has_root y)
root_elements c [] y = refl
root_elements c (e ∷ es) y = ap (λ b. has_root e.tree || b) (root_elements c es y)
    ∙ or_assoc (has_root e.tree) (list_any (λ e. has_root e.tree) es) (has_root y)

node_root : (k : g.Kind) (x : Tree) → (k ≡ kinds.UseTop → ⊥) → (k ≡ kinds.UseRooted → ⊥)
    → false ≡ has_root (Node (named k) x)
node_root kinds.UseTop x h i = absurd (h refl)
node_root kinds.UseRooted x h i = absurd (i refl)
node_root k x h i = refl

-- a node of another kind has none
pub root_off : (k : g.Kind) (x y : Tree) → y ≡ Node (named k) x → (k ≡ kinds.UseTop → ⊥) → (k ≡ kinds.UseRooted → ⊥)
    → false ≡ has_root y
root_off k x y e h i = node_root k x h i ∙ ap has_root (sym e)

pub ruleset roots = (root_first, root_mark, root_turns, root_elements, or_false)

pub seconds_more : (n : ℕ) (x : Tree) → n ≢ 0 → seconds n x ≡ t.Second (seconds (n - 1) x)
seconds_more zero x h = absurd (h refl)
seconds_more (suc n) x h = let e : suc n - 1 ≡ n = omega arith in rw e refl

pub top_mark : (cs : List ℕ) (spacing : Spacing) → has_root (Node UseTop (mark_of cs spacing)) ≡ false
top_mark [] spacing = refl
top_mark (c ∷ cs) spacing = refl

pub top_turns : (xs : List Tree) → has_root (Node UseTop (turns xs)) ≡ false
top_turns [] = refl
top_turns (x ∷ xs) = refl

pub top_elements : {A : Type 0} (c : ℕ) (es : List Element) (f : A → Tree) (o : Option A)
    → has_root (Node UseTop (elements c es (ending f o))) ≡ false
top_elements c [] f None = refl
top_elements c [] f (Some y) = refl
top_elements c (e ∷ es) f o = refl

pub ruleset tops = (seconds_more, root_first, top_mark, top_turns, top_elements)

pub rooted_mark : (cs : List ℕ) (spacing : Spacing) → has_root (Node UseRooted (mark_of cs spacing)) ≡ false
rooted_mark [] spacing = refl
rooted_mark (c ∷ cs) spacing = refl

pub rooted_turns : (xs : List Tree) → has_root (Node UseRooted (turns xs)) ≡ false
rooted_turns [] = refl
rooted_turns (x ∷ xs) = refl

pub rooted_elements : {A : Type 0} (c : ℕ) (es : List Element) (f : A → Tree) (o : Option A)
    → has_root (Node UseRooted (elements c es (ending f o))) ≡ false
rooted_elements c [] f None = refl
rooted_elements c [] f (Some y) = refl
rooted_elements c (e ∷ es) f o = refl

pub ruleset braces = (seconds_more, rooted_mark, rooted_turns, rooted_elements)

pub inside_mark : (cs : List ℕ) (spacing : Spacing) → root_inside (Node UseTop (mark_of cs spacing)) ≡ false
inside_mark [] spacing = refl
inside_mark (c ∷ cs) spacing = refl

pub inside_turns : (xs : List Tree) → root_inside (Node UseTop (turns xs)) ≡ false
inside_turns [] = refl
inside_turns (x ∷ xs) = refl

pub inside_elements : {A : Type 0} (c : ℕ) (es : List Element) (f : A → Tree) (o : Option A)
    → root_inside (Node UseTop (elements c es (ending f o))) ≡ false
inside_elements c [] f None = refl
inside_elements c [] f (Some y) = refl
inside_elements c (e ∷ es) f o = refl

pub ruleset seconds_roots = (seconds_more, root_first, inside_mark, inside_turns, inside_elements)

-- forms of which none has a root, but for those that are left out
pub no_root : (f : Form) → ((k : g.Kind) (x : Bor Tree) → f ≡ forms.Node k x → ⊥)
    → ((d : Delimiter) (x : Bor Enclosed) → f ≡ forms.Group d x → ⊥) → ((x : Bor Separated) → f ≡ forms.Elements x → ⊥)
    → false ≡ has_root (tree_of f)
no_root (forms.Mark s spacing span) h i j = sym (root_mark (sign_text s) spacing)
no_root (forms.First n x) h i j = sym (root_first n x.now)
no_root (forms.Turns v) h i j = sym (root_turns v.now.each.now)
no_root (forms.Node k x) h i j = absurd (h k x refl)
no_root (forms.Group d x) h i j = absurd (i d x refl)
no_root (forms.Elements x) h i j = absurd (j x refl)
no_root f h i j = refl

pub no_top : (f : Form) → ((n : ℕ) (x : Bor Tree) → f ≡ forms.First n x → ⊥)
    → ((n : ℕ) (x : Bor Tree) → f ≡ forms.Second n x → ⊥) → false ≡ has_root (Node UseTop (tree_of f))
no_top (forms.Mark s spacing span) h i = sym (top_mark (sign_text s) spacing)
no_top (forms.Turns v) h i = sym (top_turns v.now.each.now)
no_top (forms.Elements x) h i = sym (top_elements (separator_of x.now.separator) x.now.before.now (λ b. b.now)
    x.now.last)
no_top (forms.First n x) h i = absurd (h n x refl)
no_top (forms.Second n x) h i = absurd (i n x refl)
no_top f h i = refl

pub no_rooted : (f : Form) → ((n : ℕ) (x : Bor Tree) → f ≡ forms.First n x → ⊥)
    → false ≡ has_root (Node UseRooted (tree_of f))
no_rooted (forms.Mark s spacing span) h = sym (rooted_mark (sign_text s) spacing)
no_rooted (forms.Turns v) h = sym (rooted_turns v.now.each.now)
no_rooted (forms.Elements x) h = sym (rooted_elements (separator_of x.now.separator) x.now.before.now (λ b. b.now)
    x.now.last)
no_rooted (forms.First n x) h = absurd (h n x refl)
no_rooted f h = refl
