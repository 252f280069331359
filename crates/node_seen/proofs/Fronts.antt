-- Tokens in which each group is closed by its own mark, and what stands in front of such tokens.
use Rattle.std.proofs.Common.{◌≡◌, ◌∙◌, List, [], ◌∷◌, ◌++◌, refl, sym, ap}
use Rattle.std.specs.Prelude.{Bool, true, false, cond, Option, Some, None}
use Rattle.rust_map.specs.declared.span.Span.{Span}
use Rattle.proc_macro2.specs.declared.delimiter.Delimiter.{Delimiter}
use Rattle.proc_macro2.specs.Flat.{spanned}
use Rattle.proc_macro2.specs.Groups.{IsMatched, groups_behind, groups_open, same_delimiter}
use Rattle.proc_macro2.specs.Token.{Token, Opens, Closes, Ident, Literal, Punct, Spanned}
use Rattle.proc_macro2.proofs.GroupLemmas.{after, none_some, some_same}

-- groups that are open around leave the rest as it is
behind_around : (ds es fs : List Delimiter) (t : Token) → groups_behind ds t ≡ Some es
    → groups_behind (ds ++ fs) t ≡ Some (es ++ fs)
behind_around ds es fs (Opens d) e = ap (λ x. Some (x ++ fs)) (some_same e)
behind_around [] es fs (Closes d) e = absurd (none_some e)
behind_around (c ∷ ds) es fs (Closes d) e = closes (same_delimiter c d) e
  where
    closes : (b : Bool) → cond b (Some ds) None ≡ Some es → cond b (Some (ds ++ fs)) None ≡ Some (es ++ fs)
    closes true h = ap (λ x. Some (x ++ fs)) (some_same h)
    closes false h = absurd (none_some h)
behind_around ds es fs (Ident cs) e = ap (λ x. Some (x ++ fs)) (some_same e)
behind_around ds es fs (Literal cs) e = ap (λ x. Some (x ++ fs)) (some_same e)
behind_around ds es fs (Punct c spacing) e = ap (λ x. Some (x ++ fs)) (some_same e)

open_around : (ds es fs : List Delimiter) (ss : List Spanned) → groups_open ds ss ≡ Some es
    → groups_open (ds ++ fs) ss ≡ Some (es ++ fs)
open_around ds es fs [] e = ap (λ x. Some (x ++ fs)) (some_same e)
open_around ds es fs (s ∷ ss) e = past (λ hs. open_around hs es fs ss) (groups_behind ds s.token) refl e
  where
    past : ((hs : List Delimiter) → groups_open hs ss ≡ Some es → groups_open (hs ++ fs) ss ≡ Some (es ++ fs))
        → (o : Option (List Delimiter)) → groups_behind ds s.token ≡ o → after o ss ≡ Some es
        → groups_open (ds ++ fs) (s ∷ ss) ≡ Some (es ++ fs)
    past more None p h = absurd (none_some h)
    past more (Some hs) p h = ap (λ o. after o ss) (behind_around ds hs fs s.token p) ∙ more hs h

-- what is open between the first of some tokens and the others
record Between (ds es : List Delimiter) (a b : List Spanned) : Type 0 where
  pub opened : List Delimiter
  pub front : groups_open ds a ≡ Some opened
  pub behind : groups_open opened b ≡ Some es

between : (ds es : List Delimiter) (a b : List Spanned) → groups_open ds (a ++ b) ≡ Some es → Between ds es a b
between ds es [] b e = record { opened = ds; front = refl; behind = e }
between ds es (s ∷ a) b e = past (λ fs. between fs es a b) (groups_behind ds s.token) refl e
  where
    past : ((fs : List Delimiter) → groups_open fs (a ++ b) ≡ Some es → Between fs es a b)
        → (o : Option (List Delimiter)) → groups_behind ds s.token ≡ o → after o (a ++ b) ≡ Some es
        → Between ds es (s ∷ a) b
    past more None p h = absurd (none_some h)
    past more (Some fs) p h =
        let rest = more fs h in
        record { opened = rest.opened; front = ap (λ o. after o a) p ∙ rest.front; behind = rest.behind }

-- what stands before such tokens among such tokens is such tokens
pub front_matched : (a b : List Spanned) → IsMatched (a ++ b) → IsMatched b → IsMatched a
front_matched a b m n =
    let parts = between [] [] a b m in
    let none : parts.opened ≡ [] = some_same (sym (open_around [] [] parts.opened b n) ∙ parts.behind) in
    parts.front ∙ ap Some none

-- no group ends within its inside
pub opened_unmatched : (d : Delimiter) (s : Span) (a b : List Spanned) → IsMatched (a ++ b)
    → IsMatched (spanned (Opens d) s ∷ a) → ⊥
opened_unmatched d s a b m n =
    let parts = between [] [] a b m in
    some_open parts.opened (some_same (sym (open_around [] parts.opened (d ∷ []) a parts.front) ∙ n))
  where
    some_open : (ds : List Delimiter) → ds ++ d ∷ [] ≡ [] → ⊥
    some_open [] e = cc
    some_open (c ∷ ds) e = cc
