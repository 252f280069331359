-- The default of a constant parameter is held as an expression.
use Rattle.std.proofs.Common.{◌≡◌, [], ◌∷◌, ◌++◌, refl, ap, ◌∙◌}
use Rattle.std.specs.Prelude.{Bool, true, false, cond}
use Rattle.std.proofs.lemmas.List.{append-nil}
use Rattle.proc_macro2.specs.Token.{Opens, Closes}
use Rattle.syn_grammar.specs.Kind.{ConstParam, Plain}
use Rattle.syn_grammar.specs.Name.{same_part, the_value}
use Rattle.syn_grammar.specs.Tree.{Tree, Pair, First, Second, Group, Called, flat}
use Rattle.syn_grammar.specs.Part.{changed}
use Rattle.syn_grammar.specs.Table.{table}
use Rattle.syn_grammar.specs.Kept.{constant_default, held, kept}
use Rattle.syn_grammar.specs.Parens.{may_lack}
use Rattle.syn_grammar.specs.Normal.{passed, place_of, stands_behind, normal_in}
use Rattle.laws_reread_kinds.specs.Covered.{has_step}
use Rattle.laws_reread_kinds.proofs.Printed.{KindLaw, simple_law}
use Rattle.laws_reread_kinds.proofs.Tidied.{held_law}

default_normal : (z : Tree) → constant_default (normal_in Plain z) ≡ normal_in Plain (constant_default z)
unfolding passed stands_behind may_lack
default_normal (First x) = refl
default_normal (Second (First x)) = refl
default_normal (Second (Second x)) = refl
default_normal _ = refl

default_flat : (z : Tree) → flat (constant_default z) ≡ flat z
default_flat (First x) = refl
default_flat (Second (First x)) = refl
default_flat (Second (Second x)) = append-nil (flat x)
default_flat _ = refl

param_normal : (v : Tree)
    → changed the_value constant_default (normal_in Plain v) ≡ normal_in Plain (changed the_value constant_default v)
unfolding same_part place_of
param_normal (Called the_value x) = ap (Called the_value) (default_normal x)
param_normal (Pair x y) =
    ap (λ z. Pair z (changed the_value constant_default (normal_in Plain y))) (param_normal x)
    ∙ ap (Pair (normal_in Plain (changed the_value constant_default x))) (param_normal y)
param_normal (First x) = ap First (param_normal x)
param_normal (Second x) = ap Second (param_normal x)
param_normal (Group d x) = ap (Group d) (param_normal x)
param_normal _ = refl

flat_if : (b : Bool) (x : Tree) → flat (cond b (constant_default x) x) ≡ flat x
flat_if true x = default_flat x
flat_if false x = refl

param_flat : (v : Tree) → flat (changed the_value constant_default v) ≡ flat v
param_flat (Called n x) = flat_if (same_part n the_value) x
param_flat (Pair x y) =
    ap (λ us. us ++ flat (changed the_value constant_default y)) (param_flat x) ∙ ap (λ us. flat x ++ us) (param_flat y)
param_flat (First x) = param_flat x
param_flat (Second x) = param_flat x
param_flat (Group d x) = ap (λ us. Opens d ∷ us ++ Closes d ∷ []) (param_flat x)
param_flat _ = refl

pub law_const_param : KindLaw ConstParam
unfolding has_step held passed place_of table
law_const_param =
    held_law ConstParam refl (λ x. tt) (λ q. refl) (λ q. refl) (λ x. refl) param_normal
    (simple_law Plain (table ConstParam) refl)
    (λ w f. record { tree = w; fits = f; printed = param_flat (kept w); kept_is = refl })
