-- Whether a look of several steps sees what it wants, by the first tokens.
use Rattle.std.proofs.Common.{◌≡◌, List, [], ◌∷◌, refl, sym, ap, ◌∙◌}
use Rattle.std.specs.Prelude.{Bool, true, false, ◌||◌, cond, Option, Some, None, codes}
use Rattle.proc_macro2.specs.Token.{Token, Opens, Closes, Ident, Literal, Punct}
use Rattle.syn_grammar.specs.Look.{Look, ◌then◌, ◌or◌, behind, first_seen, no, one_of, seen, sees}
use Rattle.syn_grammar.specs.Say.{at}
use Rattle.rust_leaf.specs.Keywords.{same_text}
use Rattle.reader_lookahead.specs.Words.{pointer_words}

-- nothing where it may see nothing
pub none : (l : Look) (ts : List Token) → l ts ≡ None → false ≡ sees l ts
none l ts h = ap seen (sym h)

-- the one or the other
pub either : (a b : Look) (ts : List Token) → true ≡ sees a ts → true ≡ sees (a or b) ts
either a b ts h = by (a ts) h
  where
    by : (o : Option (List Token)) → true ≡ seen o → true ≡ seen (first_seen o (b ts))
    by None h = cc h
    by (Some us) h = refl

pub neither : (a b : Look) (ts : List Token) (c : Bool) → false ≡ sees a ts → c ≡ sees b ts → c ≡ sees (a or b) ts
neither a b ts c h g = by (a ts) h
  where
    by : (o : Option (List Token)) → false ≡ seen o → c ≡ seen (first_seen o (b ts))
    by None h = g
    by (Some us) h = cc h

-- the one and then the other
pub then_none : (a b : Look) (ts : List Token) → None ≡ a ts → false ≡ sees (a then b) ts
then_none a b ts h = ap (λ o. seen (behind o b)) h

pub then_fails : (a b : Look) (ts : List Token) → false ≡ sees a ts → false ≡ sees (a then b) ts
then_fails a b ts h = by (a ts) h
  where
    by : (o : Option (List Token)) → false ≡ seen o → false ≡ seen (behind o b)
    by None h = refl
    by (Some us) h = cc h

pub then_so : (a b : Look) (ts us : List Token) (c : Bool) → Some us ≡ a ts → c ≡ sees b us → c ≡ sees (a then b) ts
then_so a b ts us c h g = g ∙ ap (λ o. seen (behind o b)) h

-- what is not there, and then the other
pub not_behind : (a b : Look) (ts : List Token) → true ≡ sees a ts → false ≡ sees (no a then b) ts
not_behind a b ts h = ap (λ x. seen (behind (cond x None (Some ts)) b)) h

pub behind_none : (a b : Look) (ts : List Token) → false ≡ sees b ts → false ≡ sees (no a then b) ts
behind_none a b ts h = by (sees a ts)
  where
    by : (x : Bool) → false ≡ seen (behind (cond x None (Some ts)) b)
    by true = refl
    by false = h

pub behind_so : (a b : Look) (ts : List Token) (c : Bool) → false ≡ sees a ts → c ≡ sees b ts
    → c ≡ sees (no a then b) ts
behind_so a b ts c h g = g ∙ ap (λ x. seen (behind (cond x None (Some ts)) b)) h

-- the other or the one
pub second : (a b : Look) (ts : List Token) → true ≡ sees b ts → true ≡ sees (a or b) ts
second a b ts h = by (a ts)
  where
    by : (o : Option (List Token)) → true ≡ seen (first_seen o (b ts))
    by None = h
    by (Some us) = refl

pub no_second : (a b : Look) (ts : List Token) (c : Bool) → false ≡ sees b ts → c ≡ sees a ts → c ≡ sees (a or b) ts
no_second a b ts c h g = by (a ts) g
  where
    by : (o : Option (List Token)) → c ≡ seen o → c ≡ seen (first_seen o (b ts))
    by None g = g ∙ h
    by (Some us) g = g

-- one of the words that begin a function pointer
pub pointer : (ts : List Token) (b : Bool) → b ≡ sees (one_of pointer_words) ts
    → b ≡ sees (at "for" or at "unsafe" or at "extern" or at "fn") ts
pointer ts b h = h ∙ step ts
  where
    by : (us : List Token) (p q r s : Bool) → seen (cond (p || (q || (r || (s || false)))) (Some us) None)
        ≡ seen (first_seen (cond p (Some us) None) (first_seen (cond q (Some us) None)
        (first_seen (cond r (Some us) None) (cond s (Some us) None))))
    by us true q r s = refl
    by us false true r s = refl
    by us false false true s = refl
    by us false false false true = refl
    by us false false false false = refl

    step : (ts : List Token) → sees (one_of pointer_words) ts
        ≡ sees (at "for" or at "unsafe" or at "extern" or at "fn") ts
    step [] = refl
    step (Opens d ∷ ts) = refl
    step (Closes d ∷ ts) = refl
    step (Literal w ∷ ts) = refl
    step (Punct d s ∷ ts) = refl
    step (Ident w ∷ us) =
        by us (same_text (codes "for") w) (same_text (codes "unsafe") w) (same_text (codes "extern") w)
        (same_text (codes "fn") w)

-- where it sees the first word alone
pub alone : (l : Look) (ts us : List Token) → l ts ≡ Some us → true ≡ sees l ts
alone l ts us h = ap seen (sym h)

pub ruleset is_repeated_laws = (then_none, then_so)

pub ruleset is_less_laws = (not_behind, behind_none, behind_so)

pub ruleset is_bound_laws = (either, neither)
