-- Punctuations at tokens.
use Rattle.std.proofs.Common.{◌≡◌, ℕ, List, [], ◌∷◌, refl, sym, ap, ◌∙◌}
use Rattle.std.specs.Prelude.{Bool, true, false, ◌==◌, cond, Some, None}
use Rattle.rust_leaf.specs.declared.punct.Spacing.{Spacing}
use Rattle.rust_leaf.specs.declared.punct.Spacing.TheVariants.{Alone, Joint}
use Rattle.proc_macro2.specs.Token.{Token, Opens, Closes, Ident, Literal, Punct}
use Rattle.syn_grammar.specs.Look.{a_lifetime, past_marks, the_mark}
use Rattle.reader_tokens.specs.Marks.{no_mark, no_word}

-- where no mark stands no punctuation does
pub none_marked : (c : ℕ) (cs : List ℕ) (ts : List Token) → no_mark ts → past_marks c cs ts ≡ None
none_marked c [] [] h = refl
none_marked c (d ∷ ds) [] h = refl
none_marked c [] (Opens e ∷ ts) h = refl
none_marked c (d ∷ ds) (Opens e ∷ ts) h = refl
none_marked c [] (Closes e ∷ ts) h = refl
none_marked c (d ∷ ds) (Closes e ∷ ts) h = refl
none_marked c [] (Ident e ∷ ts) h = refl
none_marked c (d ∷ ds) (Ident e ∷ ts) h = refl
none_marked c [] (Literal e ∷ ts) h = refl
none_marked c (d ∷ ds) (Literal e ∷ ts) h = refl
none_marked c cs (Punct e spacing ∷ ts) h = absurd h

pub none_signed : (cs : List ℕ) (ts : List Token) → no_mark ts → None ≡ the_mark cs ts
none_signed [] ts h = refl
none_signed (c ∷ cs) ts h = sym (none_marked c cs ts h)

-- another mark stands there
pub other_mark : (c d : ℕ) (cs : List ℕ) (spacing : Spacing) (ts us : List Token) (b : Bool)
    → ts ≡ Punct d spacing ∷ us → b ≡ (d == c) → b ≡ false → None ≡ past_marks c cs ts
other_mark c d cs spacing ts us b e f g = step cs spacing (sym f ∙ g) ∙ ap (past_marks c cs) (sym e)
  where
    step : (cs : List ℕ) (spacing : Spacing) → (d == c) ≡ false → None ≡ past_marks c cs (Punct d spacing ∷ us)
    step [] spacing h = ap (λ x. cond x (Some us) None) (sym h)
    step (k ∷ ks) Joint h = ap (λ x. cond x (past_marks k ks us) None) (sym h)
    step (k ∷ ks) Alone h = refl

-- the last one does
pub last_mark : (c d : ℕ) (cs : List ℕ) (spacing : Spacing) (ts us : List Token) (b : Bool) → cs ≡ []
    → ts ≡ Punct d spacing ∷ us → b ≡ (d == c) → b ≡ true → Some us ≡ past_marks c cs ts
last_mark c d cs spacing ts us b n e f g =
    ap (λ x. cond x (Some us) None) (sym (sym f ∙ g)) ∙ ap (past_marks c []) (sym e)
    ∙ ap (λ x. past_marks c x ts) (sym n)

-- another follows it
pub joint_mark : (c d k : ℕ) (cs ks : List ℕ) (ts us : List Token) (b : Bool) → cs ≡ k ∷ ks
    → ts ≡ Punct d Joint ∷ us → b ≡ (d == c) → b ≡ true → past_marks k ks us ≡ past_marks c cs ts
joint_mark c d k cs ks ts us b n e f g =
    ap (λ x. cond x (past_marks k ks us) None) (sym (sym f ∙ g)) ∙ ap (past_marks c (k ∷ ks)) (sym e)
    ∙ ap (λ x. past_marks c x ts) (sym n)

-- none does
pub lone_mark : (c d k : ℕ) (cs ks : List ℕ) (ts us : List Token) → cs ≡ k ∷ ks → ts ≡ Punct d Alone ∷ us
    → None ≡ past_marks c cs ts
lone_mark c d k cs ks ts us n e = ap (past_marks c (k ∷ ks)) (sym e) ∙ ap (λ x. past_marks c x ts) (sym n)

-- no lifetime: no mark, another, a lone one, and no word behind it
pub no_lifetime : (ts : List Token) → no_mark ts → None ≡ a_lifetime ts
no_lifetime [] h = refl
no_lifetime (Opens e ∷ ts) h = refl
no_lifetime (Closes e ∷ ts) h = refl
no_lifetime (Ident e ∷ ts) h = refl
no_lifetime (Literal e ∷ ts) h = refl
no_lifetime (Punct e spacing ∷ ts) h = absurd h

pub no_apostrophe : (d : ℕ) (spacing : Spacing) (ts us : List Token) (b : Bool) → ts ≡ Punct d spacing ∷ us
    → b ≡ (d == 39) → b ≡ false → None ≡ a_lifetime ts
no_apostrophe d spacing ts us b e f g = step spacing us (sym f ∙ g) ∙ ap a_lifetime (sym e)
  where
    step : (spacing : Spacing) (us : List Token) → (d == 39) ≡ false → None ≡ a_lifetime (Punct d spacing ∷ us)
    step Alone us h = refl
    step Joint [] h = refl
    step Joint (Opens x ∷ us) h = refl
    step Joint (Closes x ∷ us) h = refl
    step Joint (Literal x ∷ us) h = refl
    step Joint (Punct x y ∷ us) h = refl
    step Joint (Ident cs ∷ us) h = ap (λ x. cond x (Some us) None) (sym h)

pub lone_apostrophe : (d : ℕ) (ts us : List Token) → ts ≡ Punct d Alone ∷ us → None ≡ a_lifetime ts
lone_apostrophe d ts us e = ap a_lifetime (sym e)

pub no_word_behind : (d : ℕ) (ts us : List Token) → ts ≡ Punct d Joint ∷ us → no_word us → None ≡ a_lifetime ts
no_word_behind d ts us e h = step us h ∙ ap a_lifetime (sym e)
  where
    step : (us : List Token) → no_word us → None ≡ a_lifetime (Punct d Joint ∷ us)
    step [] h = refl
    step (Opens x ∷ us) h = refl
    step (Closes x ∷ us) h = refl
    step (Literal x ∷ us) h = refl
    step (Punct x y ∷ us) h = refl
    step (Ident cs ∷ us) h = absurd h

pub is_lifetime : (d : ℕ) (ts us vs : List Token) (cs : List ℕ) (b : Bool) → ts ≡ Punct d Joint ∷ us
    → us ≡ Ident cs ∷ vs → b ≡ (d == 39) → b ≡ true → Some vs ≡ a_lifetime ts
is_lifetime d ts us vs cs b e h f g =
    ap (λ x. cond x (Some vs) None) (sym (sym f ∙ g)) ∙ ap (λ x. a_lifetime (Punct d Joint ∷ x)) (sym h)
    ∙ ap a_lifetime (sym e)

pub ruleset past_laws = (none_marked, other_mark, last_mark, joint_mark, lone_mark)

pub ruleset lifetime_laws = (no_lifetime, no_apostrophe, lone_apostrophe, no_word_behind, is_lifetime)
