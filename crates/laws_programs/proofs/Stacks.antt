-- Groups: which are open behind some tokens.
use Rattle.std.proofs.Common.{◌≡◌, ℕ, List, [], ◌∷◌, ◌++◌, length, refl, ap, ◌∙◌, append_assoc}
use Rattle.std.specs.Prelude.{Bool, true, false, cond, Option, Some, None, option_and_then}
use Rattle.proc_macro2.specs.declared.delimiter.Delimiter.{Delimiter}
use Rattle.proc_macro2.specs.Groups.{same_delimiter, groups_behind, groups_open}
use Rattle.proc_macro2.specs.Token.{Token, Opens, Closes, Ident, Literal, Punct, Spanned, plain}
use Rattle.rust_leaf.specs.declared.punct.Spacing.{Spacing}
use Rattle.rust_leaf.specs.declared.punct.Spacing.TheVariants.{Joint}
use Rattle.syn_grammar.specs.Gram.{closes_all}
use Rattle.syn_grammar.specs.Normal.{apart}
use Rattle.syn_grammar.specs.Tree.{marks}
use Rattle.syn_grammar.proofs.Splits.{delimiter_same}

-- of tokens without their places
abbrev pub opened : List Delimiter → List Token → Option (List Delimiter)
opened ds [] = Some ds
opened ds (t ∷ ts) = option_and_then (λ es. opened es ts) (groups_behind ds t)

same_then : (f g : List Delimiter → Option (List Delimiter)) → ((es : List Delimiter) → f es ≡ g es)
    → (o : Option (List Delimiter)) → option_and_then f o ≡ option_and_then g o
same_then f g h None = refl
same_then f g h (Some es) = h es

pub opened_plain : (ds : List Delimiter) (ss : List Spanned) → groups_open ds ss ≡ opened ds (plain ss)
opened_plain ds [] = refl
opened_plain ds (s ∷ ss) =
    same_then (λ es. groups_open es ss) (λ es. opened es (plain ss)) (λ es. opened_plain es ss)
    (groups_behind ds s.token)

-- the groups that open among the tokens close there, each by its own token
pub record IsMatching (xs : List Token) : Type 0 where
  pub by : (ds : List Delimiter) (ts : List Token) → opened ds (xs ++ ts) ≡ opened ds ts

pub matching_none : IsMatching []
matching_none = record { by = λ ds ts. refl }

pub matching_both : (xs ys : List Token) → IsMatching xs → IsMatching ys → IsMatching (xs ++ ys)
matching_both xs ys a b = record {
  by = λ ds ts. ap (opened ds) (append_assoc xs ys ts) ∙ a.by ds (ys ++ ts) ∙ b.by ds ts;
}

pub matching_word : (cs : List ℕ) → IsMatching (Ident cs ∷ [])
matching_word cs = record { by = λ ds ts. refl }

pub matching_literal : (cs : List ℕ) → IsMatching (Literal cs ∷ [])
matching_literal cs = record { by = λ ds ts. refl }

pub matching_mark : (c : ℕ) (spacing : Spacing) → IsMatching (Punct c spacing ∷ [])
matching_mark c spacing = record { by = λ ds ts. refl }

pub matching_marks : (c : ℕ) (cs : List ℕ) (spacing : Spacing) → IsMatching (marks c cs spacing)
matching_marks c [] spacing = matching_mark c spacing
matching_marks c (d ∷ ds) spacing =
    matching_both (Punct c Joint ∷ []) (marks d ds spacing) (matching_mark c Joint) (matching_marks d ds spacing)

-- a group's own closing token
closed_own : (d : Delimiter) (ds : List Delimiter) (ts : List Token) → opened (d ∷ ds) (Closes d ∷ ts) ≡ opened ds ts
closed_own d ds ts = ap (λ b. option_and_then (λ es. opened es ts) (cond b (Some ds) None)) (delimiter_same d)

pub matching_group : (d : Delimiter) (xs : List Token) → IsMatching xs → IsMatching (Opens d ∷ xs ++ Closes d ∷ [])
matching_group d xs a = record {
  by = λ ds ts.
      ap (opened (d ∷ ds)) (append_assoc xs (Closes d ∷ []) ts) ∙ a.by (d ∷ ds) (Closes d ∷ ts) ∙ closed_own d ds ts;
}

-- the last mark set apart
same_groups : (ts us : List Token) (ds : List Delimiter) → opened ds (apart ts ++ us) ≡ opened ds (ts ++ us)
same_groups [] us ds = refl
same_groups (Punct c spacing ∷ []) us ds = refl
same_groups (Punct c spacing ∷ t ∷ ts) us ds = same_groups (t ∷ ts) us ds
same_groups (Opens d ∷ ts) us ds = same_groups ts us (d ∷ ds)
same_groups (Closes d ∷ ts) us ds =
    same_then (λ es. opened es (apart ts ++ us)) (λ es. opened es (ts ++ us)) (λ es. same_groups ts us es)
    (groups_behind ds (Closes d))
same_groups (Ident cs ∷ ts) us ds = same_groups ts us ds
same_groups (Literal cs ∷ ts) us ds = same_groups ts us ds

pub matching_apart : (ts : List Token) → IsMatching ts → IsMatching (apart ts)
matching_apart ts a = record { by = λ ds us. same_groups ts us ds ∙ a.by ds us }

-- a token that closes the innermost group closes it also where others are open outside
chosen : (b : Bool) (f g : List Delimiter → Option (List Delimiter)) (ds cs es : List Delimiter)
    (o : Option (List Delimiter)) → (f ds ≡ Some es → g cs ≡ o)
    → option_and_then f (cond b (Some ds) None) ≡ Some es → option_and_then g (cond b (Some cs) None) ≡ o
chosen true f g ds cs es o h e = h e
chosen false f g ds cs es o h e = cc

-- tokens that close no more than they open, and all of that, among others whose groups match
above : (ns ds es : List Delimiter) (xs ts : List Token) → closes_all (length ns) xs ≡ true
    → opened (ns ++ ds) (xs ++ ts) ≡ Some es → (cs : List Delimiter) (us : List Token)
    → opened (ns ++ cs) (xs ++ us) ≡ opened cs us
above [] ds es [] ts h e cs us = refl
above (n ∷ ns) ds es [] ts h e cs us = cc
above ns ds es (Opens d ∷ xs) ts h e cs us = above (d ∷ ns) ds es xs ts h e cs us
above ns ds es (Ident text ∷ xs) ts h e cs us = above ns ds es xs ts h e cs us
above ns ds es (Literal text ∷ xs) ts h e cs us = above ns ds es xs ts h e cs us
above ns ds es (Punct c spacing ∷ xs) ts h e cs us = above ns ds es xs ts h e cs us
above [] ds es (Closes d ∷ xs) ts h e cs us = cc
above (n ∷ ns) ds es (Closes d ∷ xs) ts h e cs us =
    chosen (same_delimiter n d) (λ fs. opened fs (xs ++ ts)) (λ fs. opened fs (xs ++ us)) (ns ++ ds) (ns ++ cs) es
    (opened cs us) (λ f. above ns ds es xs ts h f cs us) e

pub matching_balanced : (ds es : List Delimiter) (xs ts : List Token) → closes_all 0 xs ≡ true
    → opened ds (xs ++ ts) ≡ Some es → IsMatching xs
matching_balanced ds es xs ts h e = record { by = λ cs us. above [] ds es xs ts h e cs us }
