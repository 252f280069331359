-- Where the last mark of a tree is set apart its parts are the same, or are set apart themselves, so that the verdicts
-- over items say the same: none looks at how a mark is spaced.
use Rattle.std.proofs.Common.{◌≡◌, refl, ap, ◌∙◌}
use Rattle.std.specs.Prelude.{Bool, true, false, not, ◌&&◌, ◌||◌, Option, Some, None, cond}
use Rattle.syn_grammar.specs.Kind.{Place, InFile, InForeign, InTrait, InImpl, AType, AnyPath, AFunction, AStatic}
use Rattle.syn_grammar.specs.Kind.{AConst, ATypeAlias, AnImpl, AUse, UseTop, UseRooted, Visibility, Generics, Where}
use Rattle.syn_grammar.specs.Kind.{BoundsColon}
use Rattle.syn_grammar.specs.Name.{Part, same_part, the_visibility, the_pub, the_item, the_default, the_const}
use Rattle.syn_grammar.specs.Name.{the_generics, the_parameters, the_where, the_clause, the_bounds, the_type, the_value}
use Rattle.syn_grammar.specs.Name.{the_body, the_first, the_self, the_path, the_equals, the_safety, the_auto}
use Rattle.syn_grammar.specs.Name.{the_polarity}
use Rattle.syn_grammar.specs.Tree.{Tree, Pair, First, Second, Called, Node}
use Rattle.syn_grammar.specs.Part.{found, or_else, is_some, or_nil, has, the, choice}
use Rattle.syn_grammar.specs.Gram.{Verdict}
use Rattle.syn_grammar.specs.Types.{kept_if}
use Rattle.syn_grammar.specs.Items.{is_impl, is_trait}
use Rattle.syn_grammar.specs.Verdicts.{is_public, is_generic, is_where, is_bounded, raw_if, refused_if, is_defined}
use Rattle.syn_grammar.specs.Verdicts.{has_bounds, is_path, is_path_type, impl_is_raw, const_is_raw, has_root}
use Rattle.syn_grammar.specs.Verdicts.{root_inside, form_in_file, form_in_foreign, form_in_trait, form_in_impl, marked}
use Rattle.syn_grammar.specs.Verdicts.{form_in, item_verdict}
use Rattle.laws_items.specs.Apart.{set_apart}

-- it says the same of a tree and of that with its last mark set apart
abbrev pub SaysSame : {A : Type 0} → (Tree → A) → Type 0
SaysSame f = (x : Tree) → f (set_apart x) ≡ f x

-- a part of both
data OfBoth : Option Tree → Option Tree → Type 0 where
  same : (o : Option Tree) → OfBoth o o
  moved : (x : Tree) → OfBoth (Some (set_apart x)) (Some x)

either_found : (o u v : Option Tree) → OfBoth u v → OfBoth (or_else o u) (or_else o v)
either_found None u v h = h
either_found (Some x) u v h = same (Some x)

part_found : (b : Bool) (x : Tree) → OfBoth (cond b (Some (set_apart x)) None) (cond b (Some x) None)
part_found true x = moved x
part_found false x = same None

found_apart : (n : Part) (x : Tree) → OfBoth (found n (set_apart x)) (found n x)
found_apart n (Called m x) = part_found (same_part m n) x
found_apart n (Pair x y) = either_found (found n x) (found n (set_apart y)) (found n y) (found_apart n y)
found_apart n (First x) = found_apart n x
found_apart n (Second x) = found_apart n x
found_apart n x = same _

some_same : (u v : Option Tree) → OfBoth u v → is_some u ≡ is_some v
some_same _ _ (same o) = refl
some_same _ _ (moved x) = refl

pub has_same : (n : Part) → SaysSame (has n)
has_same n x = some_same (found n (set_apart x)) (found n x) (found_apart n x)

part_same : {A : Type 0} (f : Tree → A) → SaysSame f → (u v : Option Tree) → OfBoth u v → f (or_nil u) ≡ f (or_nil v)
part_same f h _ _ (same o) = refl
part_same f h _ _ (moved x) = h x

pub the_same : {A : Type 0} (n : Part) (f : Tree → A) → SaysSame f → SaysSame (λ x. f (the n x))
the_same n f h x = part_same f h (found n (set_apart x)) (found n x) (found_apart n x)

-- what was chosen is set apart in it
pub choice_apart : (x : Tree) → choice (set_apart x) ≡ set_apart (choice x)
choice_apart (First x) = choice_apart x
choice_apart (Second x) = choice_apart x
choice_apart _ = refl

pub choice_same : {A : Type 0} (f : Tree → A) → SaysSame f → SaysSame (λ x. f (choice x))
choice_same f h x = ap f (choice_apart x) ∙ h (choice x)

-- what kinds hold
public_same : SaysSame is_public
public_same (Node Visibility x) = has_same the_pub x
public_same _ = refl

generic_same : SaysSame is_generic
generic_same (Node Generics x) = has_same the_parameters x
generic_same _ = refl

where_same : SaysSame is_where
where_same (Node Where x) = has_same the_clause x
where_same _ = refl

bounded_same : SaysSame is_bounded
bounded_same (Node BoundsColon x) = has_same the_bounds x
bounded_same _ = refl

path_same : SaysSame is_path
path_same (Node (AnyPath s) (Second x)) = refl
path_same _ = refl

path_type_same : SaysSame is_path_type
path_type_same (Node (AType p) x) = choice_same is_path path_same x
path_type_same _ = refl

root_same : SaysSame has_root
root_same (Node UseTop (First x)) = refl
root_same (Node UseTop (Second x)) = root_same x
root_same (Node UseRooted (First x)) = root_same x
root_same _ = refl

inside_same : SaysSame root_inside
inside_same (Node UseTop (Second x)) = root_same x
inside_same _ = refl

-- bounds of a type alias, and its definition
bounds_same : SaysSame has_bounds
bounds_same x = the_same the_bounds is_bounded bounded_same x

defined_same : SaysSame is_defined
defined_same x = the_same the_value (has the_type) (has_same the_type) x

-- constants and impls that are raw
const_same : (b : Bool) → SaysSame (const_is_raw b)
const_same b x =
    ap (λ v. (b && not v) || (is_generic (the the_generics (set_apart x)) || is_where (the the_where (set_apart x))))
    (has_same the_value x)
    ∙ ap (λ g. (b && not (has the_value x)) || (g || is_where (the the_where (set_apart x))))
    (the_same the_generics is_generic generic_same x)
    ∙ ap (λ w. (b && not (has the_value x)) || (is_generic (the the_generics x) || w))
    (the_same the_where is_where where_same x)

impl_same : SaysSame impl_is_raw
impl_same x =
    ap (λ c. c || (has the_self (set_apart x) && not (is_path_type (the the_first (set_apart x)))))
    (has_same the_const x)
    ∙ ap (λ s. has the_const x || (s && not (is_path_type (the the_first (set_apart x))))) (has_same the_self x)
    ∙ ap (λ p. has the_const x || (has the_self x && not p)) (the_same the_first is_path_type path_type_same x)

-- items in each place
alias_raw : (x : Tree)
    → raw_if (has_bounds (set_apart x) || not (is_defined (set_apart x))) ≡ raw_if (has_bounds x || not (is_defined x))
alias_raw x =
    ap (λ b. raw_if (b || not (is_defined (set_apart x)))) (bounds_same x)
    ∙ ap (λ d. raw_if (has_bounds x || not d)) (defined_same x)

static_in_file : Bool → Bool → Verdict
static_in_file t v = refused_if (not t && not v) (raw_if (not (t && v)))

impl_in_file : Bool → Bool → Bool → Bool → Verdict
impl_in_file v c d r = refused_if (v && not (c && not d)) (raw_if r)

file_same : (v : Bool) → SaysSame (form_in_file v)
unfolding static_in_file impl_in_file
file_same v (Node (AFunction p) x) = ap (λ b. raw_if (not b)) (has_same the_body x)
file_same v (Node AStatic x) =
    ap (λ t. static_in_file t (has the_value (set_apart x))) (has_same the_type x)
    ∙ ap (static_in_file (has the_type x)) (has_same the_value x)
file_same v (Node AConst x) = ap raw_if (const_same true x)
file_same v (Node (ATypeAlias p) x) = alias_raw x
file_same v (Node AUse x) = ap raw_if (the_same the_path root_inside inside_same x)
file_same v (Node AnImpl x) =
    ap (λ c. impl_in_file v c (has the_default (set_apart x)) (impl_is_raw (set_apart x))) (has_same the_const x)
    ∙ ap (λ d. impl_in_file v (has the_const x) d (impl_is_raw (set_apart x))) (has_same the_default x)
    ∙ ap (impl_in_file v (has the_const x) (has the_default x)) (impl_same x)
file_same v _ = refl

foreign_same : (v : Bool) → SaysSame (form_in_foreign v)
foreign_same v (Node (AFunction p) x) = ap raw_if (has_same the_body x)
foreign_same v (Node AStatic x) =
    ap (λ t. refused_if (not t) (raw_if (has the_value (set_apart x)))) (has_same the_type x)
    ∙ ap (λ b. refused_if (not (has the_type x)) (raw_if b)) (has_same the_value x)
foreign_same v (Node (ATypeAlias p) x) =
    ap (λ b. raw_if (b || is_defined (set_apart x))) (bounds_same x)
    ∙ ap (λ d. raw_if (has_bounds x || d)) (defined_same x)
foreign_same v _ = refl

trait_item_same : (v : Bool) → SaysSame (form_in_trait v)
trait_item_same v (Node AConst x) = ap (λ b. raw_if (v || b)) (const_same false x)
trait_item_same v _ = refl

impl_item_same : (v : Bool) → SaysSame (form_in_impl v)
impl_item_same v (Node (AFunction p) x) = ap (λ b. raw_if (not b)) (has_same the_body x)
impl_item_same v (Node AConst x) = ap raw_if (const_same true x)
impl_item_same v (Node (ATypeAlias p) x) = alias_raw x
impl_item_same v _ = refl

form_same : (p : Place) (v : Bool) → SaysSame (form_in p v)
form_same InFile v x = file_same v x
form_same InForeign v x = foreign_same v x
form_same InTrait v x = trait_item_same v x
form_same InImpl v x = impl_item_same v x

-- by visibility and default
visibility_same : SaysSame (λ x. is_public (the the_visibility x))
visibility_same x = the_same the_visibility is_public public_same x

either_same : (x : Tree) → (is_public (the the_visibility (set_apart x)) || has the_default (set_apart x))
    ≡ (is_public (the the_visibility x) || has the_default x)
either_same x =
    ap (λ b. b || has the_default (set_apart x)) (visibility_same x)
    ∙ ap (λ b. is_public (the the_visibility x) || b) (has_same the_default x)

marked_same : (p : Place) → SaysSame (marked p)
marked_same InFile x = visibility_same x
marked_same InForeign x = visibility_same x
marked_same InTrait x = either_same x
marked_same InImpl x = either_same x

pub verdict_same : (p : Place) → SaysSame (item_verdict p)
verdict_same p x =
    ap (λ b. form_in p b (choice (the the_item (set_apart x)))) (marked_same p x)
    ∙ the_same the_item (λ z. form_in p (marked p x) (choice z))
    (λ z. choice_same (form_in p (marked p x)) (form_same p (marked p x)) z) x

-- A trait that is an alias has a =, and an impl with ! a trait.
pub alias_same : SaysSame (λ x. kept_if (not (has the_equals x)))
alias_same x = ap (λ b. kept_if (not b)) (has_same the_equals x)

pub trait_same : SaysSame (λ x. kept_if (is_trait x))
trait_same x =
    ap (λ e. kept_if (not (e && (has the_safety (set_apart x) || has the_auto (set_apart x))))) (has_same the_equals x)
    ∙ ap (λ s. kept_if (not (has the_equals x && (s || has the_auto (set_apart x))))) (has_same the_safety x)
    ∙ ap (λ a. kept_if (not (has the_equals x && (has the_safety x || a)))) (has_same the_auto x)

pub polarity_same : SaysSame (λ x. kept_if (is_impl x))
polarity_same x =
    ap (λ p. kept_if (not p || has the_self (set_apart x))) (has_same the_polarity x)
    ∙ ap (λ s. kept_if (not (has the_polarity x) || s)) (has_same the_self x)
