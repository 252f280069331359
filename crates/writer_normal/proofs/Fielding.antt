-- Forms behind a dot, by their form.
use Rattle.std.specs.Prelude.{◌≡◌, ℕ, zero, suc, Bool, true, false, List, [], ◌∷◌, Option, Some, None, refl}
use Rattle.std.proofs.Common.{ap, ◌∙◌, sym, subst}
use Rattle.std.proofs.lemmas.Bool.{false≢true}
use Rattle.rust_leaf.specs.declared.punct.Spacing.{Spacing}
use Rattle.syn_grammar.specs.Kept.{dotted, fields_in_front, index_fields, last_fields}
use Rattle.syn_grammar.specs.Kind.{Kind, ExprField, ExprMethodCall, ExprAwait}
use Rattle.syn_grammar.specs.Name.{the_indices, the_value}
use Rattle.syn_grammar.specs.Words.{indices}
use Rattle.syn_grammar.specs.Tree as t
use Rattle.syn_grammar.specs.Tree.{Tree}
use Rattle.reader_tree.specs.declared.tree.Element.{Element}
use Rattle.reader_tree.specs.Forms.{mark_of, seconds, turns, elements, ending}
use Rattle.writer_rules.specs.Seen.{text_of_literal}
use Rattle.writer_rules.specs.Way.{dotted_of, is_dotted, last_text}
use Rattle.writer_rules.proofs.SeenForms.{some_none}
use Rattle.writer_rules.proofs.WayForms.{dotted_is}

-- numbers in front
pub fronts_none : (l : Tree) (xs : List Tree) → xs ≡ [] → l ≡ fields_in_front l (turns xs)
fronts_none l xs e = ap (λ zs. fields_in_front l (turns zs)) (sym e)

stop : (l x y : Tree) → None ≡ text_of_literal x → l ≡ fields_in_front l (t.Again x y)
stop l (t.ALiteral cs) y e = absurd (some_none cs (sym e))
stop l x y e = refl

pub fronts_stop : (l x : Tree) (xs ys : List Tree) → xs ≡ x ∷ ys → None ≡ text_of_literal x
    → l ≡ fields_in_front l (turns xs)
fronts_stop l x xs ys e h = stop l x (turns ys) h ∙ ap (λ zs. fields_in_front l (turns zs)) (sym e)

more : (l x y : Tree) (cs : List ℕ) → Some cs ≡ text_of_literal x
    → fields_in_front (index_fields l (indices cs)) y ≡ fields_in_front l (t.Again x y)
more l (t.ALiteral ds) y cs e = let s : cs ≡ ds = cc in ap (λ es. fields_in_front (index_fields l (indices es)) y) s
more l x y cs e = absurd (some_none cs e)

pub fronts_more : (l m x z : Tree) (xs ys : List Tree) (cs : List ℕ) → xs ≡ x ∷ ys → Some cs ≡ text_of_literal x
    → m ≡ index_fields l (indices cs) → z ≡ fields_in_front m (turns ys) → z ≡ fields_in_front l (turns xs)
fronts_more l m x z xs ys cs e h i j =
    j ∙ ap (λ v. fields_in_front v (turns ys)) i ∙ more l x (turns ys) cs h
    ∙ ap (λ zs. fields_in_front l (turns zs)) (sym e)

pub fronts_first : (l : Tree) (n : ℕ) (x : Tree) → fields_in_front l (seconds n (t.First x)) ≡ l
fronts_first l zero x = refl
fronts_first l (suc n) x = refl

pub fronts_mark : (l : Tree) (cs : List ℕ) (spacing : Spacing) → fields_in_front l (mark_of cs spacing) ≡ l
fronts_mark l [] spacing = refl
fronts_mark l (c ∷ cs) spacing = refl

pub fronts_elements : {A : Type 0} (l : Tree) (c : ℕ) (es : List Element) (f : A → Tree) (o : Option A)
    → fields_in_front l (elements c es (ending f o)) ≡ l
fronts_elements l c [] f None = refl
fronts_elements l c [] f (Some y) = refl
fronts_elements l c (e ∷ es) f o = refl

pub ruleset fronts = (fronts_none, fronts_stop, fronts_more, fronts_first, fronts_mark, fronts_elements)

-- the last
pub last_number : (l : Tree) (k : Kind) (d z : Tree) (cs : List ℕ) → Some cs ≡ last_text k z
    → index_fields l (indices cs) ≡ last_fields l k d z
last_number l ExprField d (t.Second (t.Called the_value (t.ALiteral ds))) cs e =
    let s : cs ≡ ds = cc in ap (λ es. index_fields l (indices es)) s
last_number l k d z cs e = absurd (some_none cs e)

pub last_other : (l : Tree) (k : Kind) (d z : Tree) → None ≡ last_text k z
    → t.Back l k (t.Pair (t.Pair d (t.Called the_indices t.End)) z) ≡ last_fields l k d z
last_other l ExprField d (t.Second (t.Called the_value (t.ALiteral ds))) e = absurd (some_none ds (sym e))
last_other l k d z e = refl

pub ruleset lasts = (last_number, last_other)

-- all
dot_by : (M : Kind → Type 0) → M ExprField → M ExprMethodCall → M ExprAwait → (k : Kind) → is_dotted k ≡ true → M k
dot_by M a b c ExprField e = a
dot_by M a b c ExprMethodCall e = b
dot_by M a b c ExprAwait e = c
dot_by M a b c k e = absurd (false≢true e)

pub form_plain : (l : Tree) (k : Kind) (y : Tree) → is_dotted k ≡ false → t.Back l k y ≡ dotted l k y
form_plain l ExprField y e = absurd (false≢true (sym e))
form_plain l ExprMethodCall y e = absurd (false≢true (sym e))
form_plain l ExprAwait y e = absurd (false≢true (sym e))
form_plain l k y e = refl

field_plain : (l y : Tree) → None ≡ dotted_of y → t.Back l ExprField y ≡ dotted l ExprField y
field_plain l (t.Pair (t.Pair d (t.Called the_indices x)) z) e = absurd (some_none (d, x, z) (sym e))
field_plain l y e = refl

call_plain : (l y : Tree) → None ≡ dotted_of y → t.Back l ExprMethodCall y ≡ dotted l ExprMethodCall y
call_plain l (t.Pair (t.Pair d (t.Called the_indices x)) z) e = absurd (some_none (d, x, z) (sym e))
call_plain l y e = refl

await_plain : (l y : Tree) → None ≡ dotted_of y → t.Back l ExprAwait y ≡ dotted l ExprAwait y
await_plain l (t.Pair (t.Pair d (t.Called the_indices x)) z) e = absurd (some_none (d, x, z) (sym e))
await_plain l y e = refl

pub form_none : (l : Tree) (k : Kind) (y : Tree) → is_dotted k ≡ true → None ≡ dotted_of y
    → t.Back l k y ≡ dotted l k y
form_none l k y e h =
    dot_by (λ j. t.Back l j y ≡ dotted l j y) (field_plain l y h) (call_plain l y h) (await_plain l y h) k e

pub form_dotted : (l : Tree) (k : Kind) (y d x z : Tree) → is_dotted k ≡ true → Some (d, x, z) ≡ dotted_of y
    → last_fields (fields_in_front l x) k d z ≡ dotted l k y
form_dotted l k y d x z e h =
    subst (λ v. last_fields (fields_in_front l x) k d z ≡ dotted l k v) (sym (dotted_is y d x z h))
    (dot_by (λ j. last_fields (fields_in_front l x) j d z
    ≡ dotted l j (t.Pair (t.Pair d (t.Called the_indices x)) z)) refl refl refl k e)

pub ruleset forms = (form_plain, form_none, form_dotted)
