-- What may follow an expression, by what the looks see, may follow one that is read back.
use Rattle.std.proofs.Common.{◌≡◌, List, [], ◌∷◌, refl, sym, subst, ⊎_elim, inl, inr}
use Rattle.std.specs.Prelude.{Bool, true, false, ◌==◌, ◌⊎◌, cond, Option, Some, None}
use Rattle.std.proofs.lemmas.Bool.{eqb-true}
use Rattle.proc_macro2.specs.Token.{Token, Ident, Punct}
use Rattle.rust_leaf.specs.declared.punct.Spacing.{Spacing}
use Rattle.rust_leaf.specs.declared.punct.Spacing.TheVariants.{Alone as Apart, Joint}
use Rattle.syn_grammar.specs.Kind.{Position, Plain, InCondition, InArm, InStatement, Expression}
use Rattle.syn_grammar.specs.Look.{seen, sees, the_end, first_seen}
use Rattle.syn_grammar.specs.Say.{marks, brace}
use Rattle.syn_grammar.specs.Forms.{back}
use Rattle.laws_reread_kinds.specs.After.{behind}
use Rattle.laws_reread_kinds.specs.Sees.{LacksAll}
use Rattle.laws_reread_expressions.specs.Behind.{MayFollow}

-- a comma, a semicolon and =>
comma_calm : (spacing : Spacing) (ts : List Token) → MayFollow Plain (Punct 44 spacing ∷ ts)
unfolding back
comma_calm Apart ts = (refl, refl, refl, refl)
comma_calm Joint (Ident cs ∷ ts) = (refl, refl, refl, refl)
comma_calm Joint _ = (refl, refl, refl, refl)

semicolon_calm : (spacing : Spacing) (ts : List Token) → MayFollow Plain (Punct 59 spacing ∷ ts)
unfolding back
semicolon_calm Apart ts = (refl, refl, refl, refl)
semicolon_calm Joint (Ident cs ∷ ts) = (refl, refl, refl, refl)
semicolon_calm Joint _ = (refl, refl, refl, refl)

arrow_calm : (spacing : Spacing) (ts : List Token) → MayFollow Plain (Punct 61 Joint ∷ Punct 62 spacing ∷ ts)
unfolding back
arrow_calm spacing ts = (refl, refl, refl, refl)

-- what is seen there
if_seen : (b : Bool) (ts : List Token) → seen (cond b (Some ts) None) ≡ true → b ≡ true
if_seen true ts e = refl
if_seen false ts e = cc

end_follows : (s : List Token) → sees the_end s ≡ true → MayFollow Plain s
unfolding back
end_follows [] e = (refl, refl, refl, refl)
end_follows (t ∷ ts) e = cc

comma_follows : (s : List Token) → sees (marks ",") s ≡ true → MayFollow Plain s
comma_follows (Punct c spacing ∷ ts) e =
    subst (λ d. MayFollow Plain (Punct d spacing ∷ ts)) (sym (eqb-true c 44 (if_seen (c == 44) ts e)))
    (comma_calm spacing ts)
comma_follows _ e = cc

semicolon_follows : (s : List Token) → sees (marks ";") s ≡ true → MayFollow Plain s
semicolon_follows (Punct c spacing ∷ ts) e =
    subst (λ d. MayFollow Plain (Punct d spacing ∷ ts)) (sym (eqb-true c 59 (if_seen (c == 59) ts e)))
    (semicolon_calm spacing ts)
semicolon_follows _ e = cc

greater_follows : (s : List Token) → sees (marks ">") s ≡ true → MayFollow Plain (Punct 61 Joint ∷ s)
greater_follows (Punct c spacing ∷ ts) e =
    subst (λ d. MayFollow Plain (Punct 61 Joint ∷ Punct d spacing ∷ ts))
    (sym (eqb-true c 62 (if_seen (c == 62) ts e))) (arrow_calm spacing ts)
greater_follows _ e = cc

if_both : (b : Bool) (o : Option (List Token)) → seen (cond b o None) ≡ true → (b ≡ true) × (seen o ≡ true)
if_both true o e = (refl, e)
if_both false o e = cc

arrow_follows : (s : List Token) → sees (marks "=>") s ≡ true → MayFollow Plain s
arrow_follows (Punct c Joint ∷ ts) e =
    let a = if_both (c == 61) (marks ">" ts) e in
    subst (λ d. MayFollow Plain (Punct d Joint ∷ ts)) (sym (eqb-true c 61 a.0)) (greater_follows ts a.1)
arrow_follows (Punct c Apart ∷ ts) e = cc
arrow_follows _ e = cc

-- one of these
is_seen : (o : Option (List Token)) (s : List Token) → seen (cond (seen o) None (Some s)) ≡ false → seen o ≡ true
is_seen None s e = cc
is_seen (Some ts) s e = refl

or_seen : (o p : Option (List Token)) → seen (first_seen o p) ≡ true → (seen o ≡ true) ⊎ (seen p ≡ true)
or_seen None p e = inr e
or_seen (Some ts) p e = inl refl

plain_follows : (s : List Token) → LacksAll (behind (Expression Plain)) s → MayFollow Plain s
plain_follows s a =
    ⊎_elim (end_follows s)
    (λ h. ⊎_elim (comma_follows s)
    (λ i. ⊎_elim (semicolon_follows s) (arrow_follows s) (or_seen (marks ";" s) (marks "=>" s) i))
    (or_seen (marks "," s) _ h)) (or_seen (the_end s) _ (is_seen _ s a.0))

pub may_follow : (p : Position) (s : List Token) → LacksAll (behind (Expression p)) s → MayFollow p s
may_follow Plain s a = plain_follows s a
may_follow InCondition s a = is_seen (brace s) s a.0
may_follow InArm s a =
    ⊎_elim (end_follows s) (comma_follows s) (or_seen (the_end s) (marks "," s) (is_seen _ s a.0))
may_follow InStatement s a =
    ⊎_elim (end_follows s) (semicolon_follows s) (or_seen (the_end s) (marks ";" s) (is_seen _ s a.0))
