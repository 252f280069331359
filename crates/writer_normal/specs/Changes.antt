-- What is changed in a kind's parts.
use Rattle.std.specs.Prelude.{Bool, cond, List, [], ◌∷◌}
use Rattle.syn_grammar.specs.Kind.{Kind, Where, Generics, BoundsColon, LifetimeColon, GenericParams, Arguments, AnImpl}
use Rattle.syn_grammar.specs.Kind.{ATypeAlias}
use Rattle.syn_grammar.specs.Kept.{constant_default, not_last}
use Rattle.syn_grammar.specs.Name.{the_arguments, the_value}
use Rattle.syn_grammar.specs.Part.{changed}
use Rattle.syn_grammar.specs.Tree.{Tree}
use Rattle.syn_grammar.specs.Tidy.{is_bare_colon, is_bare_generics, is_bare_where, is_lifetime_argument, removed_if}
use Rattle.syn_grammar.specs.Tidy.{is_lifetime_param, lifetimes_first, moved, tidy_impl, without_generics}
use Rattle.reader_tree.specs.declared.tree.Element.{Element}
use Rattle.writer_normal.specs.declared.lifetime.Which.{Which}
use Rattle.writer_normal.specs.declared.lifetime.Which.TheVariants as which
use Rattle.writer_normal.specs.declared.tidy.Change.{Change}
use Rattle.writer_normal.specs.declared.tidy.Change.TheVariants as change

-- which elements are lifetimes
abbrev pub passes : Which → Tree → Bool
passes which.Params x = is_lifetime_param x
passes which.Arguments x = is_lifetime_argument x

-- of elements that a mark follows those that pass, and those that don't
abbrev pub those_in : (Tree → Bool) → List Element → List Element
those_in p [] = []
those_in p (e ∷ es) = cond (p e.tree) (e ∷ those_in p es) (those_in p es)

abbrev pub others_in : (Tree → Bool) → List Element → List Element
others_in p [] = []
others_in p (e ∷ es) = cond (p e.tree) (others_in p es) (e ∷ others_in p es)

-- what is made of a part
abbrev pub change_of : Change → Tree → Tree
change_of change.Moved x = moved x
change_of change.Generics x = without_generics x
change_of change.Last x = not_last x
change_of change.Default x = constant_default x

-- the parts of arguments, lifetimes first
abbrev pub arguments_first : Tree → Tree
arguments_first x = changed the_arguments (lifetimes_first is_lifetime_argument) x

-- What normal form makes of a kind's parts (`tidy` in syn_grammar's `Tidy`), in two: what of them is removed, which is
-- seen before their normal form is made, and what of their normal form comes first.
abbrev pub emptied : Kind → Tree → Tree
emptied Where x = removed_if is_bare_where x
emptied Generics x = removed_if is_bare_generics x
emptied BoundsColon x = removed_if is_bare_colon x
emptied LifetimeColon x = removed_if is_bare_colon x
emptied AnImpl x = tidy_impl x
emptied k x = x

abbrev pub ordered : Kind → Tree → Tree
ordered GenericParams x = lifetimes_first is_lifetime_param x
ordered Arguments x = arguments_first x
ordered (ATypeAlias p) x = changed the_value moved x
ordered k x = x
