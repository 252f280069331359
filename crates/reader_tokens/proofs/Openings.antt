-- Groups at tokens.
use Rattle.std.proofs.Common.{◌≡◌, List, [], ◌∷◌, refl, sym, ap, ◌∙◌}
use Rattle.std.specs.Prelude.{Bool, true, false, cond, Some, None}
use Rattle.proc_macro2.specs.declared.delimiter.Delimiter.{Delimiter}
use Rattle.proc_macro2.specs.Groups.{same_delimiter}
use Rattle.proc_macro2.specs.Token.{Token, Opens, Closes, Ident, Literal, Punct}
use Rattle.syn_grammar.specs.Look.{a_group, behind, opening, opens, past_closing}
use Rattle.reader_tokens.specs.Groups.{no_opening}

pub none_opens : (d : Delimiter) (ts : List Token) → no_opening ts → None ≡ opens d ts
none_opens d [] h = refl
none_opens d (Opens e ∷ ts) h = absurd h
none_opens d (Closes e ∷ ts) h = refl
none_opens d (Ident e ∷ ts) h = refl
none_opens d (Literal e ∷ ts) h = refl
none_opens d (Punct e spacing ∷ ts) h = refl

-- by whether the delimiter is that one
pub opens_so : (d e : Delimiter) (ts us : List Token) (b : Bool) → ts ≡ Opens e ∷ us → b ≡ same_delimiter e d
    → cond b (Some us) None ≡ opens d ts
opens_so d e ts us b h f = ap (λ x. cond x (Some us) None) f ∙ ap (opens d) (sym h)

pub no_group : (d : Delimiter) (ts : List Token) → no_opening ts → None ≡ a_group d ts
no_group d ts h = ap (λ x. behind x (past_closing 0)) (none_opens d ts h)

pub group_so : (d e : Delimiter) (ts us vs : List Token) (b : Bool) → ts ≡ Opens e ∷ us → b ≡ same_delimiter e d
    → past_closing 0 us ≡ Some vs → cond b (Some vs) None ≡ a_group d ts
group_so d e ts us vs b h f p = by b f ∙ ap (λ x. behind x (past_closing 0)) (opens_so d e ts us b h f)
  where
    by : (b : Bool) → b ≡ same_delimiter e d → cond b (Some vs) None ≡ behind (cond b (Some us) None) (past_closing 0)
    by true g = sym p
    by false g = refl

pub none_opening : (ts : List Token) → no_opening ts → None ≡ opening ts
none_opening [] h = refl
none_opening (Opens e ∷ ts) h = absurd h
none_opening (Closes e ∷ ts) h = refl
none_opening (Ident e ∷ ts) h = refl
none_opening (Literal e ∷ ts) h = refl
none_opening (Punct e spacing ∷ ts) h = refl

pub is_opening : (e : Delimiter) (ts us : List Token) → ts ≡ Opens e ∷ us → Some us ≡ opening ts
is_opening e ts us h = ap opening (sym h)

pub ruleset whole_laws = (no_group, group_so)
