-- Punctuations that are read, and how their last marks are spaced.
use denote.Ref.{Bor}
use Rattle.std.proofs.Common.{◌≡◌, ℕ, List, [], ◌∷◌, length, refl, sym, ap, ◌∙◌}
use Rattle.std.specs.Prelude.{Bool, true, false, ◌==◌, cond}
use Rattle.std.proofs.lemmas.Bool.{eqb-true}
use Rattle.rust_leaf.specs.declared.punct.Punct as Puncts
use Rattle.rust_leaf.specs.declared.punct.Spacing.{Spacing}
use Rattle.rust_leaf.specs.declared.punct.Spacing.TheVariants.{Alone, Joint}
use Rattle.proc_macro2.specs.Token.{Token, Opens, Closes, Ident, Literal, Punct}
use Rattle.syn_grammar.specs.Gram.{punct}
use Rattle.syn_grammar.specs.Run.{Call, Got, Out, Refused, interp, mark_at, mark_onto, wrap}
use Rattle.syn_grammar.specs.Tree.{AMark}
use Rattle.syn_buffer.specs.Entries.{is_whole}
use Rattle.syn_buffer.specs.declared.entry.Entry.{Entry}
use Rattle.syn_buffer.specs.declared.entry.Entry.TheVariants as entry
use Rattle.reader_tree.specs.Forms.{mark_of}
use Rattle.reader_tokens.specs.Marks.{no_mark}

-- behind a mark entries stay whole
pub whole_behind : (p : Bor Puncts.Punct) (at es : List Entry) → at ≡ entry.Punct p ∷ es → is_whole at ≡ true
    → is_whole es ≡ true
whole_behind p at es e h = sym (ap is_whole e) ∙ h

-- where no mark stands none is read
pub none_spaced : (c : ℕ) (cs : List ℕ) (ts : List Token) → no_mark ts → mark_at c cs ts ≡ Refused
unfolding mark_at
none_spaced c [] [] h = refl
none_spaced c (d ∷ ds) [] h = refl
none_spaced c [] (Opens e ∷ ts) h = refl
none_spaced c (d ∷ ds) (Opens e ∷ ts) h = refl
none_spaced c [] (Closes e ∷ ts) h = refl
none_spaced c (d ∷ ds) (Closes e ∷ ts) h = refl
none_spaced c [] (Ident e ∷ ts) h = refl
none_spaced c (d ∷ ds) (Ident e ∷ ts) h = refl
none_spaced c [] (Literal e ∷ ts) h = refl
none_spaced c (d ∷ ds) (Literal e ∷ ts) h = refl
none_spaced c cs (Punct e spacing ∷ ts) h = absurd h

-- another mark stands there
pub other_spaced : (c d : ℕ) (cs : List ℕ) (spacing : Spacing) (ts us : List Token) (b : Bool)
    → ts ≡ Punct d spacing ∷ us → b ≡ (d == c) → b ≡ false → mark_at c cs ts ≡ Refused
unfolding mark_at
other_spaced c d cs spacing ts us b e f g = ap (mark_at c cs) e ∙ step cs spacing (sym f ∙ g)
  where
    step : (cs : List ℕ) (spacing : Spacing) → (d == c) ≡ false → mark_at c cs (Punct d spacing ∷ us) ≡ Refused
    step [] spacing h = ap (λ x. cond x (Got (AMark d [] spacing) us) Refused) h
    step (k ∷ ks) Joint h = ap (λ x. cond x (wrap (mark_onto d) (mark_at k ks us)) Refused) h
    step (k ∷ ks) Alone h = refl

-- the last one does
pub last_spaced : (c d : ℕ) (cs : List ℕ) (spacing s : Spacing) (ts us : List Token) (b : Bool)
    → length cs ≡ 0 → ts ≡ Punct d spacing ∷ us → b ≡ (d == c) → b ≡ true → s ≡ spacing → mark_at c cs ts
    ≡ Got (AMark c cs s) us
unfolding mark_at
last_spaced c d (k ∷ ks) spacing s ts us b n e f g h = cc
last_spaced c d [] spacing s ts us b n e f g h =
    ap (mark_at c []) e
    ∙ ap (λ x. cond x (Got (AMark d [] spacing) us) Refused) (sym f ∙ g)
    ∙ ap (λ x. Got (AMark x [] spacing) us) (eqb-true d c (sym f ∙ g))
    ∙ ap (λ x. Got (AMark c [] x) us) (sym h)

-- another follows it, which is read, or isn't
joint : (c d k : ℕ) (cs ks : List ℕ) (ts us : List Token) (b : Bool) → cs ≡ k ∷ ks → ts ≡ Punct d Joint ∷ us
    → b ≡ (d == c) → b ≡ true → mark_at c cs ts ≡ wrap (mark_onto c) (mark_at k ks us)
unfolding mark_at
joint c d k cs ks ts us b n e f g =
    ap (λ x. mark_at c x ts) n ∙ ap (mark_at c (k ∷ ks)) e
    ∙ ap (λ x. cond x (wrap (mark_onto d) (mark_at k ks us)) Refused) (sym f ∙ g)
    ∙ ap (λ x. wrap (mark_onto x) (mark_at k ks us)) (eqb-true d c (sym f ∙ g))

pub joint_spaced : (c d k : ℕ) (cs ks : List ℕ) (spacing : Spacing) (ts us vs : List Token) (b : Bool) → cs ≡ k ∷ ks
    → ts ≡ Punct d Joint ∷ us → b ≡ (d == c) → b ≡ true → mark_at k ks us ≡ Got (AMark k ks spacing) vs
    → mark_at c cs ts ≡ Got (AMark c cs spacing) vs
joint_spaced c d k cs ks spacing ts us vs b n e f g h =
    joint c d k cs ks ts us b n e f g ∙ ap (wrap (mark_onto c)) h
    ∙ ap (λ x. Got (AMark c x spacing) vs) (sym n)

pub joint_refused : (c d k : ℕ) (cs ks : List ℕ) (ts us : List Token) (b : Bool) → cs ≡ k ∷ ks
    → ts ≡ Punct d Joint ∷ us → b ≡ (d == c) → b ≡ true → mark_at k ks us ≡ Refused → mark_at c cs ts ≡ Refused
joint_refused c d k cs ks ts us b n e f g h =
    joint c d k cs ks ts us b n e f g ∙ ap (wrap (mark_onto c)) h

-- none does
pub lone_spaced : (c d k : ℕ) (cs ks : List ℕ) (ts us : List Token) → cs ≡ k ∷ ks → ts ≡ Punct d Alone ∷ us
    → mark_at c cs ts ≡ Refused
unfolding mark_at
lone_spaced c d k cs ks ts us n e = ap (λ x. mark_at c x ts) n ∙ ap (mark_at c (k ∷ ks)) e

-- the punctuation of a text
pub empty_sign : (text : List ℕ) (call : Call → List Token → Out) (ts : List Token) → text ≡ []
    → interp call (punct text) ts ≡ Refused
empty_sign text call ts e = ap (λ x. interp call (punct x) ts) e

pub no_sign : (text : List ℕ) (c : ℕ) (cs : List ℕ) (call : Call → List Token → Out) (ts : List Token)
    → text ≡ c ∷ cs → no_mark ts → interp call (punct text) ts ≡ Refused
no_sign text c cs call ts e h = ap (λ x. interp call (punct x) ts) e ∙ none_spaced c cs ts h

pub sign_refused : (text : List ℕ) (c : ℕ) (cs : List ℕ) (call : Call → List Token → Out) (ts : List Token)
    → text ≡ c ∷ cs → mark_at c cs ts ≡ Refused → interp call (punct text) ts ≡ Refused
sign_refused text c cs call ts e h = ap (λ x. interp call (punct x) ts) e ∙ h

pub sign_spaced : (text : List ℕ) (c : ℕ) (cs : List ℕ) (spacing : Spacing) (call : Call → List Token → Out)
    (ts us : List Token) → text ≡ c ∷ cs → mark_at c cs ts ≡ Got (AMark c cs spacing) us
    → interp call (punct text) ts ≡ Got (mark_of text spacing) us
sign_spaced text c cs spacing call ts us e h =
    ap (λ x. interp call (punct x) ts) e ∙ h ∙ ap (λ x. Got (mark_of x spacing) us) (sym e)

pub ruleset spaced_laws = (none_spaced, other_spaced, joint_spaced, joint_refused, lone_spaced)

pub ruleset marks_laws = (empty_sign, no_sign, sign_refused, sign_spaced)
