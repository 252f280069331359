-- What is seen at the first tokens: whether a group in parentheses stands first.
use Rattle.std.specs.Prelude.{◌≡◌, Bool, true, false, cond, List, [], ◌∷◌, Some, None, refl}
use Rattle.std.proofs.Common.{ap, ◌∙◌, sym}
use Rattle.proc_macro2.specs.Token.{Token, Opens}
use Rattle.proc_macro2.specs.Groups.{same_delimiter}
use Rattle.proc_macro2.specs.declared.delimiter.Delimiter.{Delimiter}
use Rattle.proc_macro2.specs.declared.delimiter.Delimiter.TheVariants.{Parenthesis}
use Rattle.syn_grammar.specs.Look.{seen, sees}
use Rattle.syn_grammar.specs.Say.{parenthesis}
use Rattle.writer_built.specs.Begins.{front3}

sees_one : (d : Delimiter) (ts : List Token) → sees parenthesis (Opens d ∷ ts) ≡ sees parenthesis (Opens d ∷ [])
sees_one d ts = by (same_delimiter d Parenthesis)
  where
    by : (b : Bool) → seen (cond b (Some ts) None) ≡ seen (cond b (Some []) None)
    by true = refl
    by false = refl

pub sees_first : (x : Token) (ts : List Token) → sees parenthesis (x ∷ ts) ≡ sees parenthesis (x ∷ [])
sees_first (Opens d) ts = sees_one d ts
sees_first x ts = refl

pub none_so : (ts : List Token) → [] ≡ front3 ts → false ≡ sees parenthesis ts
none_so [] e = refl
none_so (a ∷ []) e = cc
none_so (a ∷ b ∷ []) e = cc
none_so (a ∷ b ∷ c ∷ ts) e = cc

pub some_so : (b : Bool) (x : Token) (hs ts : List Token) → b ≡ sees parenthesis (x ∷ []) → x ∷ hs ≡ front3 ts
    → b ≡ sees parenthesis ts
some_so b x hs [] e f = cc
some_so b x hs (a ∷ []) e f =
    let h : x ≡ a = cc in e ∙ ap (λ y. sees parenthesis (y ∷ [])) h
some_so b x hs (a ∷ c ∷ []) e f =
    let h : x ≡ a = cc in e ∙ ap (λ y. sees parenthesis (y ∷ [])) h ∙ sym (sees_first a (c ∷ []))
some_so b x hs (a ∷ c ∷ d ∷ ts) e f =
    let h : x ≡ a = cc in e ∙ ap (λ y. sees parenthesis (y ∷ [])) h ∙ sym (sees_first a (c ∷ d ∷ ts))

pub ruleset parenthesis_so = (none_so, some_so)
