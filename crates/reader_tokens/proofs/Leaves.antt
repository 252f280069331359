-- Words and literals that stand first.
use Rattle.std.proofs.Common.{◌≡◌, ℕ, List, [], ◌∷◌, refl, sym, ap, ◌∙◌}
use Rattle.std.specs.Prelude.{Bool, true, false, cond, Option, Some, None}
use Rattle.proc_macro2.specs.Token.{Token, Opens, Closes, Ident, Literal, Punct}
use Rattle.syn_grammar.specs.Look.{a_quoted, a_word, past_literals}
use Rattle.reader_tokens.specs.Marks.{no_literal, no_word}

pub none_word : (p : List ℕ → Bool) (ts : List Token) → no_word ts → None ≡ a_word p ts
none_word p [] h = refl
none_word p (Opens e ∷ ts) h = refl
none_word p (Closes e ∷ ts) h = refl
none_word p (Ident e ∷ ts) h = absurd h
none_word p (Literal e ∷ ts) h = refl
none_word p (Punct e spacing ∷ ts) h = refl

-- by whether its text passes
pub word_so : (p : List ℕ → Bool) (cs : List ℕ) (ts us : List Token) (b : Bool) → ts ≡ Ident cs ∷ us → b ≡ p cs
    → cond b (Some us) None ≡ a_word p ts
word_so p cs ts us b h f = ap (λ x. cond x (Some us) None) f ∙ ap (a_word p) (sym h)

pub none_quoted : (p : List ℕ → Bool) (ts : List Token) → no_literal ts → None ≡ a_quoted p ts
none_quoted p [] h = refl
none_quoted p (Opens e ∷ ts) h = refl
none_quoted p (Closes e ∷ ts) h = refl
none_quoted p (Ident e ∷ ts) h = refl
none_quoted p (Literal e ∷ ts) h = absurd h
none_quoted p (Punct e spacing ∷ ts) h = refl

pub quoted_so : (p : List ℕ → Bool) (cs : List ℕ) (ts us : List Token) (b : Bool) → ts ≡ Literal cs ∷ us → b ≡ p cs
    → cond b (Some us) None ≡ a_quoted p ts
quoted_so p cs ts us b h f = ap (λ x. cond x (Some us) None) f ∙ ap (a_quoted p) (sym h)

-- as far as they go: by whether one stands first
past_by : (p : List ℕ → Bool) (cs : List ℕ) (ts : List Token) (b : Bool) (us : List Token)
    → Some us ≡ cond b (Some ts) None
    → cond b (past_literals p ts) (Some (Literal cs ∷ ts)) ≡ past_literals p us
past_by p cs ts true us e = ap (unsome p) (sym e)
  where
    unsome : (List ℕ → Bool) → Option (List Token) → Option (List Token)
    unsome p None = None
    unsome p (Some vs) = past_literals p vs
past_by p cs ts false us e = cc

past_first : (p : List ℕ → Bool) (ts us : List Token) → Some us ≡ a_quoted p ts
    → past_literals p ts ≡ past_literals p us
past_first p [] us e = cc
past_first p (Opens d ∷ ts) us e = cc
past_first p (Closes d ∷ ts) us e = cc
past_first p (Ident cs ∷ ts) us e = cc
past_first p (Punct c spacing ∷ ts) us e = cc
past_first p (Literal cs ∷ ts) us e = past_by p cs ts (p cs) us e

pub past_more : (p : List ℕ → Bool) (ts us : List Token) (whole : Option (List Token)) → Some us ≡ a_quoted p ts
    → past_literals p ts ≡ whole → past_literals p us ≡ whole
past_more p ts us whole e w = sym (past_first p ts us e) ∙ w

none_by : (p : List ℕ → Bool) (cs : List ℕ) (ts : List Token) (b : Bool) → None ≡ cond b (Some ts) None
    → cond b (past_literals p ts) (Some (Literal cs ∷ ts)) ≡ Some (Literal cs ∷ ts)
none_by p cs ts true e = cc
none_by p cs ts false e = refl

none_past : (p : List ℕ → Bool) (ts : List Token) → None ≡ a_quoted p ts → past_literals p ts ≡ Some ts
none_past p [] e = refl
none_past p (Opens d ∷ ts) e = refl
none_past p (Closes d ∷ ts) e = refl
none_past p (Ident cs ∷ ts) e = refl
none_past p (Punct c spacing ∷ ts) e = refl
none_past p (Literal cs ∷ ts) e = none_by p cs ts (p cs) e

pub past_stop : (p : List ℕ → Bool) (ts : List Token) (whole : Option (List Token)) → None ≡ a_quoted p ts
    → past_literals p ts ≡ whole → Some ts ≡ whole
past_stop p ts whole e w = sym (none_past p ts e) ∙ w
