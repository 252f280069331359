-- What is made of a kind's parts, by their form.
use Rattle.std.specs.Prelude.{◌≡◌, ℕ, zero, suc, true, false, cond, List, [], ◌∷◌, Option, Some, None, refl}
use Rattle.std.proofs.Common.{ap, ◌∙◌, sym}
use Rattle.rust_leaf.specs.declared.punct.Spacing.{Spacing}
use Rattle.syn_grammar.specs.Kind.{Where, ImplGenerics}
use Rattle.syn_grammar.specs.Name.{Part}
use Rattle.syn_grammar.specs.Part.{changed}
use Rattle.syn_grammar.specs.Tidy.{is_absent, is_bare_generics, is_lifetime_argument, moved, without_generics}
use Rattle.syn_grammar.specs.Tree as t
use Rattle.syn_grammar.specs.Tree.{Tree}
use Rattle.reader_table.specs.Kinds.{kind_of}
use Rattle.reader_table.specs.declared.kind.Kind as g
use Rattle.reader_table.specs.declared.kind.Kind.TheVariants as kinds
use Rattle.reader_table.specs.declared.kind.Place.{Place}
use Rattle.reader_tree.specs.declared.tree.Element.{Element}
use Rattle.reader_tree.specs.Forms.{mark_of, seconds, turns, elements, ending}
use Rattle.reader_tree.specs.Shapes.{first_of, is_second, node_of, pair_of}
use Rattle.writer_rules.proofs.SeenForms.{first_is, node_is, pair_is}
use Rattle.writer_normal.specs.Changes.{emptied, ordered}

-- a where clause that is not there
absent_second : (n : Part) (y : Tree) → is_second y ≡ is_absent (t.Called n (t.Node Where y))
absent_second n (t.Second y) = refl
absent_second n y = refl

pub absent_where : (n : Part) (x y : Tree) → Some (Where, y) ≡ node_of x → is_second y ≡ is_absent (t.Called n x)
absent_where n x y e = absent_second n y ∙ ap (λ z. is_absent (t.Called n z)) (sym (node_is x Where y e))

pub absent_none : (n : Part) (x : Tree) → None ≡ node_of x → false ≡ is_absent (t.Called n x)
absent_none n (t.Node k y) e = cc
absent_none n x e = refl

absent_off : (n : Part) (k : g.Kind) (y : Tree) → (k ≡ kinds.Where → ⊥)
    → false ≡ is_absent (t.Called n (t.Node (kind_of k) y))
absent_off n kinds.Where y h = absurd (h refl)
absent_off n k y h = refl

pub absent_other : (n : Part) (x : Tree) (k : g.Kind) (y : Tree) → Some (kind_of k, y) ≡ node_of x
    → (k ≡ kinds.Where → ⊥) → false ≡ is_absent (t.Called n x)
absent_other n x k y e h =
    absent_off n k y h ∙ ap (λ z. is_absent (t.Called n z)) (sym (node_is x (kind_of k) y e))

pub absent_first : (n : ℕ) (x : Tree) → is_absent (seconds n (t.First x)) ≡ false
absent_first zero x = refl
absent_first (suc n) x = refl

pub absent_mark : (cs : List ℕ) (spacing : Spacing) → is_absent (mark_of cs spacing) ≡ false
absent_mark [] spacing = refl
absent_mark (c ∷ cs) spacing = refl

pub absent_turns : (xs : List Tree) → is_absent (turns xs) ≡ false
absent_turns [] = refl
absent_turns (x ∷ xs) = refl

pub absent_elements : {A : Type 0} (c : ℕ) (es : List Element) (f : A → Tree) (o : Option A)
    → is_absent (elements c es (ending f o)) ≡ false
absent_elements c [] f None = refl
absent_elements c [] f (Some y) = refl
absent_elements c (e ∷ es) f o = refl

pub ruleset absents = (absent_first, absent_mark, absent_turns, absent_elements)

pub ruleset clauses = (absent_where, absent_none)

-- a clause before a definition
pub moved_none : (x : Tree) → None ≡ first_of x → x ≡ moved x
moved_none (t.First y) e = cc
moved_none x e = refl

single_moved : (y : Tree) → None ≡ pair_of y → t.First y ≡ moved (t.First y)
single_moved (t.Pair a b) e = cc
single_moved y e = refl

pub moved_single : (x y : Tree) → Some y ≡ first_of x → None ≡ pair_of y → x ≡ moved x
moved_single x y e h =
    let is : x ≡ t.First y = first_is x y e in is ∙ single_moved y h ∙ ap moved (sym is)

both_is : (x y w d : Tree) → Some y ≡ first_of x → Some (w, d) ≡ pair_of y → x ≡ t.First (t.Pair w d)
both_is x y w d e h = first_is x y e ∙ ap t.First (pair_is y w d h)

pub moved_stays : (x y w d : Tree) → Some y ≡ first_of x → Some (w, d) ≡ pair_of y → is_absent w ≡ false → x ≡ moved x
moved_stays x y w d e h f =
    let is : x ≡ t.First (t.Pair w d) = both_is x y w d e h in
    is ∙ sym (ap (λ b. cond b (t.Second (t.Pair d w)) (t.First (t.Pair w d))) f) ∙ ap moved (sym is)

pub moved_behind : (x y w d : Tree) → Some y ≡ first_of x → Some (w, d) ≡ pair_of y → is_absent w ≡ true
    → t.Second (t.Pair d w) ≡ moved x
moved_behind x y w d e h f =
    sym (ap (λ b. cond b (t.Second (t.Pair d w)) (t.First (t.Pair w d))) f)
    ∙ ap moved (sym (both_is x y w d e h))

pub ruleset moves = (moved_none, moved_single, moved_stays, moved_behind)

-- the generics of an impl
pub generics_here : (x y z : Tree) → Some (ImplGenerics, y) ≡ node_of x
    → z ≡ cond (is_bare_generics y) (t.Second t.Nil) y → t.Node ImplGenerics z ≡ without_generics x
generics_here x y z e h = ap (t.Node ImplGenerics) h ∙ ap without_generics (sym (node_is x ImplGenerics y e))

generics_off : (k : g.Kind) (y : Tree) → (k ≡ kinds.ImplGenerics → ⊥)
    → t.Node (kind_of k) y ≡ without_generics (t.Node (kind_of k) y)
generics_off kinds.ImplGenerics y h = absurd (h refl)
generics_off k y h = refl

pub generics_other : (x : Tree) (k : g.Kind) (y : Tree) → Some (kind_of k, y) ≡ node_of x
    → (k ≡ kinds.ImplGenerics → ⊥) → x ≡ without_generics x
generics_other x k y e h =
    let is : x ≡ t.Node (kind_of k) y = node_is x (kind_of k) y e in
    is ∙ generics_off k y h ∙ ap without_generics (sym is)

pub generics_none : (x : Tree) → None ≡ node_of x → x ≡ without_generics x
generics_none (t.Node k y) e = cc
generics_none x e = refl

pub ruleset generics = (generics_here, generics_none)

-- a part that is changed
pub changed_seconds : (n : Part) (f : Tree → Tree) (m : ℕ) (x : Tree)
    → changed n f (seconds m x) ≡ seconds m (changed n f x)
changed_seconds n f zero x = refl
changed_seconds n f (suc m) x = ap t.Second (changed_seconds n f m x)

pub changed_mark : (n : Part) (f : Tree → Tree) (cs : List ℕ) (spacing : Spacing)
    → changed n f (mark_of cs spacing) ≡ mark_of cs spacing
changed_mark n f [] spacing = refl
changed_mark n f (c ∷ cs) spacing = refl

pub changed_turns : (n : Part) (f : Tree → Tree) (xs : List Tree) → changed n f (turns xs) ≡ turns xs
changed_turns n f [] = refl
changed_turns n f (x ∷ xs) = refl

pub changed_elements : {A : Type 0} (n : Part) (f : Tree → Tree) (c : ℕ) (es : List Element) (g : A → Tree)
    (o : Option A)
    → changed n f (elements c es (ending g o)) ≡ elements c es (ending g o)
changed_elements n f c [] g None = refl
changed_elements n f c [] g (Some y) = refl
changed_elements n f c (e ∷ es) g o = refl

pub ruleset changes = (changed_seconds, changed_mark, changed_turns, changed_elements)

-- an argument of another kind
pub argument_off : (k : g.Kind) (x : Tree) → (k ≡ kinds.AnArgument → ⊥)
    → false ≡ is_lifetime_argument (t.Node (kind_of k) x)
argument_off kinds.AnArgument x h = absurd (h refl)
argument_off k x h = refl

-- kinds of which nothing is removed, and of which nothing comes first
pub emptied_off : (k : g.Kind) (x : Tree) → (k ≡ kinds.Where → ⊥) → (k ≡ kinds.Generics → ⊥)
    → (k ≡ kinds.BoundsColon → ⊥) → (k ≡ kinds.LifetimeColon → ⊥) → (k ≡ kinds.AnImpl → ⊥)
    → x ≡ emptied (kind_of k) x
emptied_off kinds.Where x a b c d e = absurd (a refl)
emptied_off kinds.Generics x a b c d e = absurd (b refl)
emptied_off kinds.BoundsColon x a b c d e = absurd (c refl)
emptied_off kinds.LifetimeColon x a b c d e = absurd (d refl)
emptied_off kinds.AnImpl x a b c d e = absurd (e refl)
emptied_off k x a b c d e = refl

pub ordered_off : (k : g.Kind) (x : Tree) → (k ≡ kinds.GenericParams → ⊥) → (k ≡ kinds.Arguments → ⊥)
    → ((p : Place) → k ≡ kinds.ATypeAlias p → ⊥) → x ≡ ordered (kind_of k) x
ordered_off kinds.GenericParams x a b c = absurd (a refl)
ordered_off kinds.Arguments x a b c = absurd (b refl)
ordered_off (kinds.ATypeAlias p) x a b c = absurd (c p refl)
ordered_off k x a b c = refl
