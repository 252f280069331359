-- With its ranges behind attributes in parentheses, an expression begins as it did or with a parenthesis.
use Rattle.std.proofs.Common.{◌≡◌, ℕ, List, [], ◌∷◌, ◌++◌, refl, sym, ap, ◌∙◌, append_assoc, subst, inl, inr}
use Rattle.std.specs.Prelude.{Bool, true, false, cond, ◌||◌, ◌⊎◌, Some, None}
use Rattle.proc_macro2.specs.Token.{Token, Opens, Closes}
use Rattle.proc_macro2.specs.declared.delimiter.Delimiter.TheVariants.{Parenthesis}
use Rattle.syn_grammar.specs.Kind.{Kind, Position, ExprField}
use Rattle.syn_grammar.specs.Name.{the_indices, the_value}
use Rattle.syn_grammar.specs.Words.{plain_decimal}
use Rattle.syn_grammar.specs.Tree.{Tree, ALiteral, Pair, Second, End, Called, Alone, Front, Back, Infix, flat}
use Rattle.syn_grammar.specs.Table.{table}
use Rattle.syn_grammar.specs.Derives.{Derives, Bound}
use Rattle.syn_grammar.specs.Kept.{lone_dot, index_field, dotted, kept}
use Rattle.syn_grammar.specs.Normal.{normal}
use Rattle.laws_binding.proofs.Begun.{Begun, a_word, a_literal, an_opening, more, begun}
use Rattle.proc_macro2.specs.Groups.{same_delimiter}
use Rattle.syn_grammar.specs.Look.{sees, seen}
use Rattle.syn_grammar.specs.Say.{parenthesis}
use Rattle.laws_ranges.specs.Opens.{opens}
use Rattle.laws_ranges.proofs.InKept.{opens_kept}
use Rattle.laws_binding.proofs.Leads as Leads
use Rattle.laws_binding.proofs.Shells.{is_dot, undotted, behind_dot, dotted_has, dotted_own}
use Rattle.laws_ranges.specs.Shelled.{goes_in, parens_if, shelled}

pub record Opened (us : List Token) : Type 0 where
  pub others : List Token
  pub is : us ≡ Opens Parenthesis ∷ others

abbrev pub Starts : List Token → List Token → Type 0
Starts ts us = Begun ts us ⊎ Opened us

-- by whether it opens
abbrev pub StartsBy : Bool → List Token → List Token → Type 0
StartsBy true ts us = Opened us
StartsBy false ts us = Begun ts us

starts_more : (b : Bool) (ts us zs : List Token) → StartsBy b ts us → StartsBy b ts (us ++ zs)
starts_more false ts us zs b = more ts us zs b
starts_more true ts us zs o = record { others = o.others ++ zs; is = ap (λ u. u ++ zs) o.is }

starts_if : (c b : Bool) (ts : List Token) (x : Tree) → StartsBy b ts (flat x)
    → StartsBy (c || b) ts (flat (parens_if c x))
starts_if true b ts x s = record { others = flat x ++ Closes Parenthesis ∷ []; is = refl }
starts_if false b ts x s = s

pub starts : (b : Bool) (ts us : List Token) → StartsBy b ts us → Starts ts us
starts false ts us b = inl b
starts true ts us o = inr o

abbrev Here : List Token → Tree → Type 0
Here ts m = StartsBy (opens m) ts (flat (shelled m))

starts_back : (ts : List Token) (m : Tree) (j : Kind) (y : Tree) → Here ts m → Here ts (Back m j y)
starts_back ts m j y s =
    starts_more (goes_in j m || opens m) ts (flat (parens_if (goes_in j m) (shelled m))) (flat (normal y))
    (starts_if (goes_in j m) (opens m) ts (shelled m) s)

starts_index : (ts : List Token) (m : Tree) (cs : List ℕ) → Here ts m → Here ts (index_field m cs)
starts_index ts m cs s =
    starts_back ts m ExprField
    (Pair (Pair lone_dot (Called the_indices End)) (Second (Called the_value (ALiteral (plain_decimal cs))))) s

starts_dotted : (ts : List Token) (l : Tree) (k : Kind) (y : Tree) (r : List Token) → Derives y (table k) r
    → Here ts (kept l) → Here ts (dotted (kept l) k (kept y))
starts_dotted ts l k y r d s = go (is_dot k) refl
  where
    go : (b : Bool) → is_dot k ≡ b → Here ts (dotted (kept l) k (kept y))
    go false e = subst (Here ts) (sym (undotted (kept l) k (kept y) e)) (starts_back ts (kept l) k (kept y) s)
    go true e =
        let o = dotted_own k y r e d in
        subst (λ v. Here ts (dotted (kept l) k v)) (sym o.is)
        (dotted_has (λ j v. Here ts v) (Here ts) o.back (starts_index ts) (starts_index ts)
        (λ j m f q. starts_back ts m j (behind_dot End o.back) q) k (kept l) o.front e s)

pub all_start : (x : Tree) (p : Position) (rest : List Token) → Bound p x rest
    → StartsBy (opens (kept x)) (flat x ++ rest) (flat (shelled (kept x)))
all_start (Alone k y) p rest d = begun p k y rest _ d.0 d.1
all_start (Front k y x) p rest d =
    Leads.front_leads Begun more y x rest _ _ (begun p k y (flat x ++ rest) _ d.0 d.1)
all_start (Back l k y) p rest d =
    starts_dotted (flat (Back l k y) ++ rest) l k y rest d.1
    (subst (λ ts. Here ts (kept l)) (sym (append_assoc (flat l) (flat y) rest))
    (all_start l p (flat y ++ rest) d.4))
all_start (Infix l k y r) p rest d =
    let e = append_assoc (flat l) (flat y ++ flat r) rest
    ∙ ap (λ ts. flat l ++ ts) (append_assoc (flat y) (flat r) rest) in
    subst (λ ts. Here ts (Infix (kept l) k (kept y) (kept r))) (sym e)
    (starts_more (goes_in k (kept l) || opens (kept l)) (flat l ++ (flat y ++ (flat r ++ rest)))
    (flat (parens_if (goes_in k (kept l)) (shelled (kept l))))
    (flat (normal (kept y)) ++ flat (shelled (kept r)))
    (starts_if (goes_in k (kept l)) (opens (kept l)) (flat l ++ (flat y ++ (flat r ++ rest))) (shelled (kept l))
    (all_start l p (flat y ++ (flat r ++ rest)) d.4)))
all_start _ p rest d = elim d [ ]

-- whether a parenthesis stands first
seen_cond : (b : Bool) (r s : List Token) → seen (cond b (Some r) None) ≡ seen (cond b (Some s) None)
seen_cond true r s = refl
seen_cond false r s = refl

pub paren_begun : (ts us : List Token) → Begun ts us → sees parenthesis us ≡ sees parenthesis ts
paren_begun _ _ (an_opening {r = r} {s = s} d) = seen_cond (same_delimiter d Parenthesis) s r
paren_begun _ _ (a_word cs e) = refl
paren_begun _ _ (a_literal cs) = refl
paren_begun _ _ _ = refl

paren_by : (b : Bool) (ts us : List Token) → StartsBy b ts us → sees parenthesis us ≡ (b || sees parenthesis ts)
paren_by false ts us b = paren_begun ts us b
paren_by true ts us o = ap (sees parenthesis) o.is

pub paren_first : (x : Tree) (p : Position) (rest zs : List Token) → Bound p x rest
    → sees parenthesis (flat (shelled (kept x)) ++ zs) ≡ (opens x || sees parenthesis (flat x ++ rest))
paren_first x p rest zs d =
    paren_by (opens (kept x)) (flat x ++ rest) (flat (shelled (kept x)) ++ zs)
    (starts_more (opens (kept x)) (flat x ++ rest) (flat (shelled (kept x))) zs (all_start x p rest d))
    ∙ ap (λ b. b || sees parenthesis (flat x ++ rest)) (opens_kept x p rest d)
