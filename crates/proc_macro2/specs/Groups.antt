-- Groups: which of them are open after some tokens.
use Rattle.std.specs.Prelude.{◌≡◌, Bool, true, false, cond, List, [], ◌∷◌, Option, Some, None, option_and_then}
use Rattle.proc_macro2.specs.declared.delimiter.Delimiter.TheVariants as delimiter
use Rattle.proc_macro2.specs.Token.{Delimiter, Token, Opens, Closes, Ident, Literal, Punct, Spanned}
use Rattle.proc_macro2.specs.declared.tree.TokenTree.{TokenTree}
use Rattle.proc_macro2.specs.declared.tree.TokenTree.TheVariants as tree

-- two delimiters are one
abbrev pub same_delimiter : Delimiter → Delimiter → Bool
same_delimiter delimiter.Parenthesis delimiter.Parenthesis = true
same_delimiter delimiter.Brace delimiter.Brace = true
same_delimiter delimiter.Bracket delimiter.Bracket = true
same_delimiter delimiter.None delimiter.None = true
same_delimiter _ _ = false

-- behind a closing token: it closes the innermost group, or nothing
abbrev pub groups_closed : List Delimiter → Delimiter → Option (List Delimiter)
groups_closed [] d = None
groups_closed (e ∷ es) d = cond (same_delimiter e d) (Some es) None

-- the groups that are open behind one more token, the innermost first; none where it closes nothing
abbrev pub groups_behind : List Delimiter → Token → Option (List Delimiter)
groups_behind ds (Opens d) = Some (d ∷ ds)
groups_behind ds (Closes d) = groups_closed ds d
groups_behind ds (Ident cs) = Some ds
groups_behind ds (Literal cs) = Some ds
groups_behind ds (Punct c spacing) = Some ds

-- and behind all of some tokens
abbrev pub groups_open : List Delimiter → List Spanned → Option (List Delimiter)
groups_open ds [] = Some ds
groups_open ds (s ∷ ss) = option_and_then (λ es. groups_open es ss) (groups_behind ds s.token)

-- each group is closed by its own token
abbrev pub IsMatched : List Spanned → Type 0
IsMatched ts = groups_open [] ts ≡ Some []

-- the stream of each group among some trees is matched, as that of each group that the crate makes is
abbrev pub GroupsAreMatched : List TokenTree → Type 0
GroupsAreMatched [] = Unit {0}
GroupsAreMatched (tree.Group g ∷ ts) = IsMatched g.stream × GroupsAreMatched ts
GroupsAreMatched (tree.Ident i ∷ ts) = GroupsAreMatched ts
GroupsAreMatched (tree.Punct p ∷ ts) = GroupsAreMatched ts
GroupsAreMatched (tree.Literal l ∷ ts) = GroupsAreMatched ts
