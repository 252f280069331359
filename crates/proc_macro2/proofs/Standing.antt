-- Tokens that may stand before others: what stands behind them counts by its first token alone.
use Rattle.std.proofs.Common.{◌≡◌, List, [], ◌∷◌, ◌++◌, Bool, true, false, IsTrue, ◌&&◌, refl, sym, ap, ◌∙◌}
use Rattle.std.proofs.Common.{append_assoc}
use Rattle.std.proofs.lemmas.List.{append-nil}
use Rattle.proc_macro2.specs.Token.{Delimiter, Token, Opens, Closes, Ident, Literal, Punct, Alone, Joint, plain}
use Rattle.proc_macro2.specs.Flat.{tree_tokens, trees_tokens, group_tokens}
use Rattle.proc_macro2.specs.Spacing.{IsWellSpaced, may_stand, is_visible}
use Rattle.proc_macro2.specs.Stands.{all_stand}
use Rattle.proc_macro2.specs.declared.tree.Group.{Group}
use Rattle.proc_macro2.specs.declared.tree.TokenTree.{TokenTree}
use Rattle.proc_macro2.specs.declared.tree.TokenTree.TheVariants as tree
use Rattle.proc_macro2.proofs.Texts.{group_plain, plain_append}

-- the first token behind one decides
may_first : (t u : Token) (us vs : List Token) → may_stand t (u ∷ us) ≡ may_stand t (u ∷ vs)
may_first (Opens d) u us vs = refl
may_first (Closes d) u us vs = refl
may_first (Ident cs) u us vs = refl
may_first (Literal cs) u us vs = refl
may_first (Punct c Alone) u us vs = refl
may_first (Punct c Joint) (Opens d) us vs = refl
may_first (Punct c Joint) (Closes d) us vs = refl
may_first (Punct c Joint) (Ident cs) us vs = refl
may_first (Punct c Joint) (Literal cs) us vs = refl
may_first (Punct c Joint) (Punct d spacing) us vs = refl

-- a closing token is as the end
may_close : (t : Token) (d : Delimiter) (us : List Token) → may_stand t (Closes d ∷ us) ≡ may_stand t []
may_close (Opens e) d us = refl
may_close (Closes e) d us = refl
may_close (Ident cs) d us = refl
may_close (Literal cs) d us = refl
may_close (Punct c Alone) d us = refl
may_close (Punct c Joint) d us = refl

stand_first : (ts : List Token) (u : Token) (us vs : List Token) → all_stand ts (u ∷ us) ≡ all_stand ts (u ∷ vs)
stand_first [] u us vs = refl
stand_first (t ∷ []) u us vs = ap (λ b. b && true) (may_first t u us vs)
stand_first (t ∷ s ∷ ts) u us vs = rw (may_first t s (ts ++ u ∷ us) (ts ++ u ∷ vs), stand_first (s ∷ ts) u us vs) refl

stand_close : (ts : List Token) (d : Delimiter) (us : List Token) → all_stand ts (Closes d ∷ us) ≡ all_stand ts []
stand_close [] d us = refl
stand_close (t ∷ []) d us = ap (λ b. b && true) (may_close t d us)
stand_close (t ∷ s ∷ ts) d us = rw (may_first t s (ts ++ Closes d ∷ us) (ts ++ []), stand_close (s ∷ ts) d us) refl

and_assoc : (a b c : Bool) → (a && (b && c)) ≡ ((a && b) && c)
and_assoc true b c = refl
and_assoc false b c = refl

pub and_true : (b : Bool) → (b && true) ≡ b
and_true true = refl
and_true false = refl

stand_append : (ss ts us : List Token) → all_stand (ss ++ ts) us ≡ (all_stand ss (ts ++ us) && all_stand ts us)
stand_append [] ts us = refl
stand_append (s ∷ ss) ts us =
    ap (λ r. may_stand s r && all_stand (ss ++ ts) us) (append_assoc ss ts us)
    ∙ ap (λ b. may_stand s (ss ++ (ts ++ us)) && b) (stand_append ss ts us)
    ∙ and_assoc (may_stand s (ss ++ (ts ++ us))) (all_stand ss (ts ++ us)) (all_stand ts us)

-- a group: its delimiter is printed, and its inside may stand before the end
pub stand_group : (g : Group) (us : List Token)
    → all_stand (plain (group_tokens g)) us ≡ (is_visible g.delimiter && all_stand (plain g.stream) [])
stand_group g us =
    ap (λ ts. all_stand ts us) (group_plain g)
    ∙ ap (λ b. is_visible g.delimiter && b)
    (stand_append (plain g.stream) (Closes g.delimiter ∷ []) us
    ∙ ap (λ b. b && (is_visible g.delimiter && true)) (stand_close (plain g.stream) g.delimiter us))
    ∙ once (is_visible g.delimiter) (all_stand (plain g.stream) [])
  where
    once : (v s : Bool) → (v && (s && (v && true))) ≡ (v && s)
    once true s = and_true s
    once false s = refl

-- of what stands behind, the first tree decides
stand_tree : (ts : List Token) (y : TokenTree) (us : List Token)
    → all_stand ts (plain (tree_tokens y) ++ us) ≡ all_stand ts (plain (tree_tokens y))
stand_tree ts (tree.Group g) us = stand_first ts (Opens g.delimiter) _ _
stand_tree ts (tree.Ident i) us = stand_first ts _ _ _
stand_tree ts (tree.Punct p) us = stand_first ts _ _ _
stand_tree ts (tree.Literal l) us = stand_first ts _ _ _

-- trees: the first one stands before the next one, or before the end, and the others stand
pub stand_last : (x : TokenTree) → all_stand (plain (trees_tokens (x ∷ []))) [] ≡ all_stand (plain (tree_tokens x)) []
stand_last x = ap (λ r. all_stand (plain r) []) (append-nil (tree_tokens x))

pub stand_next : (x y : TokenTree) (ts : List TokenTree) →
    all_stand (plain (trees_tokens (x ∷ y ∷ ts))) []
    ≡ (all_stand (plain (tree_tokens x)) (plain (tree_tokens y)) && all_stand (plain (trees_tokens (y ∷ ts))) [])
stand_next x y ts =
    let rest = plain (trees_tokens (y ∷ ts)) in
    ap (λ r. all_stand r []) (plain_append (tree_tokens x) (trees_tokens (y ∷ ts)))
    ∙ stand_append (plain (tree_tokens x)) rest []
    ∙ ap (λ r. all_stand (plain (tree_tokens x)) r && all_stand rest [])
    (append-nil rest ∙ plain_append (tree_tokens y) (trees_tokens ts))
    ∙ ap (λ b. b && all_stand rest []) (stand_tree (plain (tree_tokens x)) y (plain (trees_tokens ts)))

-- all of some tokens stand just where they are well spaced
both : (a b : Bool) → IsTrue (a && b) → IsTrue a × IsTrue b
both true b h = (refl, h)
both false b h = cc

joint : (a b : Bool) → IsTrue a → IsTrue b → IsTrue (a && b)
joint true b h k = k
joint false b h k = cc

pub spaced_stand : (ts : List Token) → IsTrue (all_stand ts []) → IsWellSpaced ts
spaced_stand [] h = tt
spaced_stand (t ∷ ts) h =
    let p = both (may_stand t (ts ++ [])) (all_stand ts []) h in
    (sym (ap (may_stand t) (append-nil ts)) ∙ p.0, spaced_stand ts p.1)

pub stand_spaced : (ts : List Token) → IsWellSpaced ts → IsTrue (all_stand ts [])
stand_spaced [] h = refl
stand_spaced (t ∷ ts) h = joint (may_stand t (ts ++ [])) (all_stand ts []) (ap (may_stand t) (append-nil ts) ∙ h.0)
    (stand_spaced ts h.1)
