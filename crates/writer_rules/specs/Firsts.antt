-- Lifetimes come first among parameters and arguments: the tokens of such a list.
use Rattle.std.specs.Prelude.{Bool, true, false, cond, not, ◌||◌, List, [], ◌∷◌, ◌++◌}
use Rattle.proc_macro2.specs.Token.{Token, Punct}
use Rattle.rust_leaf.specs.declared.punct.Spacing.TheVariants.{Alone as Apart}
use Rattle.syn_grammar.specs.Kind.{Position}
use Rattle.syn_grammar.specs.Tree.{Tree, End, Final, More}
use Rattle.writer_rules.specs.Said.{said}

-- Some element does not pass.
abbrev pub has_other : (Tree → Bool) → Tree → Bool
has_other q (More x c spacing y) = not (q x) || has_other q y
has_other q (Final x) = not (q x)
has_other q End = false
has_other q _ = true

-- The elements that pass, each with the comma that it held; the last one gets one where others follow.
abbrev pub those_said : Position → (Tree → Bool) → Bool → Tree → List Token
those_said p q others (More x c spacing y) =
    cond (q x) (said p x ++ Punct c Apart ∷ those_said p q others y) (those_said p q others y)
those_said p q others (Final x) = cond (q x) (said p x ++ cond others (Punct 44 Apart ∷ []) []) []
those_said p q others _ = []

-- The elements that don't.
abbrev pub others_said : Position → (Tree → Bool) → Tree → List Token
others_said p q (More x c spacing y) =
    cond (q x) (others_said p q y) (said p x ++ Punct c Apart ∷ others_said p q y)
others_said p q (Final x) = cond (q x) [] (said p x)
others_said p q x = said p x

abbrev pub firsts_said : Position → (Tree → Bool) → Tree → List Token
firsts_said p q x = those_said p q (has_other q x) x ++ others_said p q x
