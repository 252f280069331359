-- A stream is longer than the streams of its groups: the proof that the type owes, which a ghost item may cite
-- from here alone. No definition rests on it.
use Rattle.std.specs.Prelude.{◌≤◌, List, [], ◌∷◌, length, None, Some}
use Rattle.std.proofs.Common.{arith, length-append}
use denote.Param.Weighed.{most}
use Rattle.proc_macro2.specs.Token.{Opens, Closes}
use Rattle.proc_macro2.specs.declared.tree.TokenTree.{TokenTree}
use Rattle.proc_macro2.specs.declared.tree.TokenTree.TheVariants as tree
use Rattle.proc_macro2.specs.declared.tree.TokenStream.TheDeep.{deep-TokenTree, deep-TokenStream}
use Rattle.proc_macro2.specs.declared.tree.TokenStream.TheInside.{Inside}
use Rattle.proc_macro2.specs.declared.tree.TokenStream.TheShapes.{weighed-TokenStream-shared}
use Rattle.proc_macro2.specs.Flat.{held_tokens, spanned, trees_tokens, tree_tokens}

deep_le : (t : TokenTree) → deep-TokenTree t ≤ length (tree_tokens t)
deep_le (tree.Group g) = omega
    (arith, length-append (spanned (Opens g.delimiter) g.span ∷ g.stream) (spanned (Closes g.delimiter) g.span ∷ []))
deep_le (tree.Ident i) = omega arith
deep_le (tree.Punct p) = omega arith
deep_le (tree.Literal l) = omega arith

most_le : (ts : List TokenTree) → most deep-TokenTree ts ≤ length (trees_tokens ts)
most_le [] = omega arith
most_le (t ∷ ts) = omega (arith, most_le ts, deep_le t, length-append (tree_tokens t) (trees_tokens ts))

pub falls : (s : Inside) → deep-TokenStream s ≤ length (held_tokens s.shared)
falls s =
    let below :
    weighed-TokenStream-shared.weight TokenTree deep-TokenTree s.shared ≤ length (held_tokens s.shared) =
    elim s.shared as (λ o. weighed-TokenStream-shared.weight TokenTree deep-TokenTree o ≤ length (held_tokens o))
    [ None ↦ omega arith | Some trees ↦ omega (arith, most_le trees.value.items) ] in omega (arith, below)
