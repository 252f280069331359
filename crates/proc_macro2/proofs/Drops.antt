-- What is left to be dropped becomes less.
use Rattle.std.proofs.Common.{◌≡◌, ◌≤◌, ◌+◌, ◌*◌, List, [], ◌∷◌, ◌++◌, length, arith, length-append}
use Rattle.std.specs.Prelude.{Bool, true, false, if◌then◌else◌}
use denote.Param.Weighed.{most}
use Rattle.proc_macro2.specs.Token.{Opens, Closes}
use Rattle.proc_macro2.specs.Flat.{spanned, tree_tokens, trees_tokens}
use Rattle.proc_macro2.specs.declared.tree.Group.{Group}
use Rattle.proc_macro2.specs.declared.tree.TokenTree.{TokenTree}
use Rattle.proc_macro2.specs.declared.tree.TokenTree.TheVariants as tree
use Rattle.proc_macro2.specs.declared.tree.TokenStream.TheDeep.{size-TokenTree}

pub group_length : (g : Group) → length (tree_tokens (tree.Group g)) ≡ 2 + length g.stream
group_length g = omega
    (arith, length-append (spanned (Opens g.delimiter) g.span ∷ g.stream) (spanned (Closes g.delimiter) g.span ∷ []))

-- a drop of trees counts no more steps than they have tokens
tree_size : (t : TokenTree) → size-TokenTree t ≤ 3 * length (tree_tokens t) + 2
tree_size (tree.Group g) = omega (arith, group_length g)
tree_size (tree.Ident i) = omega arith
tree_size (tree.Punct p) = omega arith
tree_size (tree.Literal l) = omega arith

pub trees_size : (ts : List TokenTree) → most size-TokenTree ts ≤ 3 * length (trees_tokens ts) + 2
trees_size [] = omega arith
trees_size (t ∷ ts) = omega (arith, trees_size ts, tree_size t, length-append (tree_tokens t) (trees_tokens ts))

-- the last tree
pub last_length : (ts : List TokenTree) (t : TokenTree)
    → length (trees_tokens (ts ++ t ∷ [])) ≡ length (trees_tokens ts) + length (tree_tokens t)
last_length [] t = omega (arith, length-append (tree_tokens t) [])
last_length (u ∷ ts) t = omega (
  arith,
  last_length ts t,
  length-append (tree_tokens u) (trees_tokens (ts ++ t ∷ [])),
  length-append (tree_tokens u) (trees_tokens ts),
)

-- the trees of a group behind others
pub joined_length : (ts us : List TokenTree)
    → length (trees_tokens (ts ++ us)) ≡ length (trees_tokens ts) + length (trees_tokens us)
joined_length [] us = omega arith
joined_length (t ∷ ts) us = omega (
  arith,
  joined_length ts us,
  length-append (tree_tokens t) (trees_tokens (ts ++ us)),
  length-append (tree_tokens t) (trees_tokens ts),
)

-- what is left of a list that was to be appended is no more than it was
pub left_length : (appended : Bool) (ts : List TokenTree)
    → length (trees_tokens (if appended then [] else ts)) ≤ length (trees_tokens ts)
left_length true ts = omega arith
left_length false ts = omega arith

pub ruleset dropping = (trees_size, last_length, joined_length, group_length, left_length)
