-- Small facts that several proofs share: of booleans, and of what one look or another sees.
use Rattle.std.proofs.Common.{◌≡◌, ℕ, List, ◌∷◌, refl, sym, ap, ◌∙◌, inl, inr}
use Rattle.std.specs.Prelude.{Bool, true, false, ◌⊎◌, ◌&&◌, ◌||◌, not, cond, Option, Some, None}
use Rattle.std.proofs.lemmas.Slice.Eq.{bytes_eq-Decides}
use Rattle.proc_macro2.specs.Token.{Token, Ident}
use Rattle.rust_leaf.specs.Keywords.{same_text}
use Rattle.syn_grammar.specs.Look.{first_seen, seen, sees, the_word}
use Rattle.laws_reread_kinds.specs.Sees.{Lacks}

-- booleans
pub both_true : (a b : Bool) → (a && b) ≡ true → (a ≡ true) × (b ≡ true)
both_true true b e = (refl, e)
both_true false b e = cc

pub is_false : (b : Bool) → not b ≡ true → b ≡ false
is_false false e = refl
is_false true e = cc

pub both_same : (a b c d : Bool) → a ≡ c → b ≡ d → (a && b) ≡ (c && d)
both_same a b c d e f = ap (λ x. x && b) e ∙ ap (λ x. c && x) f

pub or_same : (a b c d : Bool) → a ≡ c → b ≡ d → (a || b) ≡ (c || d)
or_same a b c d e f = ap (λ x. x || b) e ∙ ap (λ x. c || x) f

-- one, or not the other
pub either_or : (a b : Bool) → (a || not b) ≡ true → (a ≡ true) ⊎ (b ≡ false)
either_or true b e = inl refl
either_or false false e = inr refl
either_or false true e = cc

pub either_same : (a b c d : Bool) → a ≡ c → b ≡ d → (a || not b) ≡ (c || not d)
either_same a b c d e f = or_same a (not b) c (not d) e (ap not f)

-- one look or another
pub none_of : (o p : Option (List Token)) → seen o ≡ false → seen p ≡ false → seen (first_seen o p) ≡ false
none_of None p e f = f
none_of (Some us) p e f = e

pub first_of : (o p : Option (List Token)) → seen o ≡ true → seen (first_seen o p) ≡ true
first_of (Some us) p e = refl
first_of None p e = cc

pub second_seen : (o p : Option (List Token)) → seen p ≡ true → seen (first_seen o p) ≡ true
second_seen (Some us) p e = refl
second_seen None p e = e

pub first_lacks : (o p : Option (List Token)) → seen (first_seen o p) ≡ false → seen o ≡ false
first_lacks None p e = refl
first_lacks (Some us) p e = e

pub second_lacks : (o p q : Option (List Token)) → seen (first_seen o (first_seen p q)) ≡ false → seen p ≡ false
second_lacks None None q e = refl
second_lacks None (Some us) q e = e
second_lacks (Some us) p q e = cc

pub third_lacks : (o p q : Option (List Token)) → seen (first_seen o (first_seen p q)) ≡ false → seen q ≡ false
third_lacks None None q e = e
third_lacks None (Some us) q e = cc
third_lacks (Some us) p q e = cc

-- where another word stands
pub other_word : (v w : List ℕ) (ts : List Token) → same_text v w ≡ false → sees (the_word w) ts ≡ true
    → Lacks (the_word v) ts
other_word v w (Ident cs ∷ us) n e = go (same_text w cs) refl
  where
    go : (b : Bool) → same_text w cs ≡ b → seen (cond (same_text v cs) (Some us) None) ≡ false
    go true i =
        let f : w ≡ cs = (bytes_eq-Decides w cs).0 i in
        ap (λ b. seen (cond b (Some us) None)) (ap (same_text v) (sym f) ∙ n)
    go false i =
        let f : false ≡ true = sym (ap (λ b. seen (cond b (Some us) None)) i) ∙ e in
        cc f
other_word v w _ n e = refl
