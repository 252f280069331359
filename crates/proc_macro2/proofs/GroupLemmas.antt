-- Groups of tokens that stand one behind the other.
use Rattle.std.proofs.Common.{◌≡◌, ◌≢◌, List, [], ◌∷◌, ◌++◌, Option, Some, None, option_and_then, Bool, true, false}
use Rattle.std.proofs.Common.{cond, refl, ap, ◌∙◌, not}
use Rattle.proc_macro2.specs.declared.delimiter.Delimiter.TheVariants as delimiter
use Rattle.rust_map.specs.declared.span.Span.{Span}
use Rattle.proc_macro2.specs.declared.tree.TokenTree.{TokenTree}
use Rattle.proc_macro2.specs.declared.tree.TokenTree.TheVariants as tree
use Rattle.proc_macro2.specs.Token.{Delimiter, Token, Opens, Closes, Ident, Literal, Punct, Spanned, plain}
use Rattle.proc_macro2.specs.Groups.{same_delimiter, groups_behind, groups_open, IsMatched, GroupsAreMatched}
use Rattle.proc_macro2.specs.Flat.{spanned, tree_tokens, trees_tokens}
use Rattle.proc_macro2.specs.Printed.{closes_brace, is_hugged, opens_brace, text, space}
use Rattle.proc_macro2.specs.Shown.{hugs_last, last, front, back}
use Rattle.proc_macro2.proofs.Texts.{IsWhole, plain_append, whole_append, group_text}

pub none_some : {X : Type 0} {x : X} → None ≡ Some x → ⊥
none_some e = cc

pub some_same : {X : Type 0} {x y : X} → Some x ≡ Some y → x ≡ y
some_same e = cc

-- the groups that are open behind more tokens, if any may be
abbrev pub after : Option (List Delimiter) → List Spanned → Option (List Delimiter)
after o ss = option_and_then (λ ds. groups_open ds ss) o

pub open_append : (ds es : List Delimiter) (ss ts : List Spanned) → groups_open ds ss ≡ Some es
    → groups_open ds (ss ++ ts) ≡ groups_open es ts
open_append ds es [] ts e = ap (λ x. groups_open x ts) (some_same e)
open_append ds es (s ∷ ss) ts e = past (λ fs. open_append fs es ss ts) (groups_behind ds s.token) e
  where
    past : ((fs : List Delimiter) → groups_open fs ss ≡ Some es → groups_open fs (ss ++ ts) ≡ groups_open es ts)
        → (o : Option (List Delimiter)) →
        after o ss ≡ Some es → after o (ss ++ ts) ≡ groups_open es ts
    past more None h = absurd (none_some h)
    past more (Some fs) h = more fs h

-- groups that are open around leave the rest as it is
behind_around : (ds es fs : List Delimiter) (t : Token) → groups_behind ds t ≡ Some es
    → groups_behind (ds ++ fs) t ≡ Some (es ++ fs)
behind_around ds es fs (Opens d) e = ap (λ x. Some (x ++ fs)) (some_same e)
behind_around [] es fs (Closes d) e = absurd (none_some e)
behind_around (c ∷ ds) es fs (Closes d) e = closes (same_delimiter c d) e
  where
    closes : (b : Bool) → cond b (Some ds) None ≡ Some es → cond b (Some (ds ++ fs)) None ≡ Some (es ++ fs)
    closes true h = ap (λ x. Some (x ++ fs)) (some_same h)
    closes false h = absurd (none_some h)
behind_around ds es fs (Ident cs) e = ap (λ x. Some (x ++ fs)) (some_same e)
behind_around ds es fs (Literal cs) e = ap (λ x. Some (x ++ fs)) (some_same e)
behind_around ds es fs (Punct c spacing) e = ap (λ x. Some (x ++ fs)) (some_same e)

open_around : (ds es fs : List Delimiter) (ss : List Spanned) → groups_open ds ss ≡ Some es
    → groups_open (ds ++ fs) ss ≡ Some (es ++ fs)
open_around ds es fs [] e = ap (λ x. Some (x ++ fs)) (some_same e)
open_around ds es fs (s ∷ ss) e = past (λ hs. open_around hs es fs ss) (groups_behind ds s.token) refl e
  where
    past : ((hs : List Delimiter) → groups_open hs ss ≡ Some es → groups_open (hs ++ fs) ss ≡ Some (es ++ fs))
        → (o : Option (List Delimiter)) → groups_behind ds s.token ≡ o →
        after o ss ≡ Some es → groups_open (ds ++ fs) (s ∷ ss) ≡ Some (es ++ fs)
    past more None p h = absurd (none_some h)
    past more (Some hs) p h = ap (λ o. after o ss) (behind_around ds hs fs s.token p) ∙ more hs h

pub matched_append : (ss ts : List Spanned) → IsMatched ss → IsMatched ts → IsMatched (ss ++ ts)
matched_append ss ts m n = open_append [] [] ss ts m ∙ n

same_self : (d : Delimiter) → same_delimiter d d ≡ true
same_self delimiter.Parenthesis = refl
same_self delimiter.Brace = refl
same_self delimiter.Bracket = refl
same_self delimiter.None = refl

pub matched_group : (d : Delimiter) (span : Span) (ss : List Spanned) → IsMatched ss
    → IsMatched (spanned (Opens d) span ∷ ss ++ spanned (Closes d) span ∷ [])
matched_group d span ss m =
    open_append (d ∷ []) (d ∷ []) ss (spanned (Closes d) span ∷ []) (open_around [] [] (d ∷ []) ss m)
    ∙ ap (λ b. after (cond b (Some []) None) []) (same_self d)

pub matched_trees : (ts : List TokenTree) → GroupsAreMatched ts → IsMatched (trees_tokens ts)
matched_trees [] m = refl
matched_trees (tree.Group g ∷ ts) m =
    matched_append (tree_tokens (tree.Group g)) (trees_tokens ts) (matched_group g.delimiter g.span g.stream m.0)
    (matched_trees ts m.1)
matched_trees (tree.Ident i ∷ ts) m = matched_trees ts m
matched_trees (tree.Punct p ∷ ts) m = matched_trees ts m
matched_trees (tree.Literal l ∷ ts) m = matched_trees ts m

-- matched tokens begin with no closing token
first_opens : (t : Token) (ss : List Spanned) (s : Spanned) → s.token ≡ t → IsMatched (s ∷ ss)
    → (closes_brace t ≡ false) × (is_hugged t ≡ false)
first_opens (Opens d) ss s e m = (refl, refl)
first_opens (Closes d) ss s e m = absurd (none_some (rw e at m))
first_opens (Ident cs) ss s e m = (refl, refl)
first_opens (Literal cs) ss s e m = (refl, refl)
first_opens (Punct c spacing) ss s e m = (refl, refl)

-- and end with no opening one
last_closes : (ds : List Delimiter) (s : Spanned) (ss : List Spanned) → groups_open ds (s ∷ ss) ≡ Some []
    → opens_brace (last s.token (plain ss)) ≡ false
last_closes ds s [] e = alone s.token (past (groups_behind ds s.token) e)
  where
    past : (o : Option (List Delimiter)) → after o [] ≡ Some [] → o ≡ Some []
    past None h = absurd (none_some h)
    past (Some hs) h = h

    alone : (t : Token) → groups_behind ds t ≡ Some [] → opens_brace t ≡ false
    alone (Opens d) h = cc
    alone (Closes d) h = refl
    alone (Ident cs) h = refl
    alone (Literal cs) h = refl
    alone (Punct c spacing) h = refl
last_closes ds s (t ∷ ts) e = past (λ hs. last_closes hs t ts) (groups_behind ds s.token) e
  where
    past : ((hs : List Delimiter) → groups_open hs (t ∷ ts) ≡ Some [] → opens_brace (last t.token (plain ts)) ≡ false)
        → (o : Option (List Delimiter)) →
        after o (t ∷ ts) ≡ Some [] → opens_brace (last t.token (plain ts)) ≡ false
    past more None h = absurd (none_some h)
    past more (Some hs) h = more hs h

matched_whole : (s : Spanned) (ss : List Spanned) → IsMatched (s ∷ ss) → IsWhole s.token (plain ss)
matched_whole s ss m = record {
  opens = (first_opens s.token ss s refl m).0;
  free = (first_opens s.token ss s refl m).1;
  closes = last_closes [] s ss m;
}

pub joined_text : (ss ts : List Spanned) → IsMatched ss → IsMatched ts → ts ≢ []
    → text (plain (ss ++ ts)) ≡ text (plain ss) ++ (space (not (hugs_last (plain ss))) ++ text (plain ts))
joined_text ss [] m n some = absurd (some refl)
joined_text [] (t ∷ ts) m n some = refl
joined_text (s ∷ ss) (t ∷ ts) m n some = ap text (plain_append (s ∷ ss) (t ∷ ts))
    ∙ whole_append s.token t.token (plain ss) (plain ts) (matched_whole s ss m) (matched_whole t ts n)

pub matched_text : (d : Delimiter) (ss : List Spanned) → IsMatched ss → ss ≢ []
    → text (Opens d ∷ plain ss ++ Closes d ∷ []) ≡ front d ++ (text (plain ss) ++ back d)
matched_text d [] m some = absurd (some refl)
matched_text d (s ∷ ss) m some = group_text d s.token (plain ss) (matched_whole s ss m)
