-- Leaves are read as the entries of the grammar have them.
use Rattle.std.proofs.Common.{◌≡◌, ℕ, List, [], ◌∷◌, refl, ap, ◌∙◌}
use Rattle.std.proofs.lemmas.Bool.{eq-eqb}
use Rattle.std.specs.Prelude.{Bool, true, false, not, cond, ◌==◌, ◌&&◌}
use Rattle.rust_leaf.specs.Keywords.{is_reserved}
use Rattle.rust_map.specs.declared.span.Span.{Span}
use Rattle.rust_leaf.specs.declared.punct.Spacing.{Spacing}
use Rattle.rust_leaf.specs.declared.punct.Spacing.TheVariants.{Joint, Alone as Apart}
use Rattle.proc_macro2.specs.Flat.{spanned}
use Rattle.proc_macro2.specs.Token.{Token, Spanned, Opens, Closes, Ident, Literal, Punct, plain}
use Rattle.syn_kinds.specs.Stands.{marks_stand, ident_stands}
use Rattle.syn_peek.specs.Marks.{ReadsMarks}
use Rattle.syn_grammar.specs.Gram.{punct}
use Rattle.syn_grammar.specs.Keeps.{keeps, mark_kept}
use Rattle.syn_grammar.specs.Kept.{kept}
use Rattle.syn_grammar.specs.Run.{Out, Refused, Got, wrap, word_at, mark_at, mark_onto}
use Rattle.syn_grammar.specs.Say.{ident}
use Rattle.syn_grammar.specs.Tree.{AWord, AMark}
use Rattle.syn_grammar.specs.Words.{is_ident}
use Rattle.laws_lists.specs.Leaves.{marks_tree}

-- names
pub ident_read : (cs : List ℕ) (s : Span) (ts us : List Spanned) → ts ≡ spanned (Ident cs) s ∷ us
    → is_reserved cs ≡ false → keeps ident (plain ts) ≡ Got (AWord cs) (plain us)
unfolding word_at
ident_read cs s ts us e r =
    ap (λ vs. keeps ident (plain vs)) e
    ∙ ap (λ b. cond (not b) (Got (AWord cs) (plain us)) Refused) r

no_ident : (ts : List Token) → ident_stands ts ≡ false → word_at is_ident ts ≡ Refused
unfolding word_at
no_ident [] e = refl
no_ident (Ident ds ∷ ts) e = ap (λ b. cond b (Got (AWord ds) ts) Refused) e
no_ident (Opens d ∷ ts) e = refl
no_ident (Closes d ∷ ts) e = refl
no_ident (Literal ds ∷ ts) e = refl
no_ident (Punct c spacing ∷ ts) e = refl

pub ident_none : (ts : List Spanned) → ident_stands (plain ts) ≡ false → keeps ident (plain ts) ≡ Refused
ident_none ts e = no_ident (plain ts) e

-- punctuations: each mark but the last is joint
marks_at : (c : ℕ) (cs : List ℕ) (spans : List Span) (ts us : List Spanned) → ReadsMarks (c ∷ cs) spans ts us
    → (spacing : Spacing) × (mark_at c cs (plain ts) ≡ Got (AMark c cs spacing) (plain us))
unfolding mark_at
marks_at c [] [] ts us r = absurd r
marks_at c [] (s ∷ []) ts us r = (
  r.0,
  ap (λ vs. mark_at c [] (plain vs)) r.1
      ∙ ap (λ b. cond b (Got (AMark c [] r.0) (plain us)) Refused) (eq-eqb c c refl),
)
marks_at c [] (s ∷ t ∷ ss) ts us r = absurd r
marks_at c (d ∷ cs) [] ts us r = absurd r
marks_at c (d ∷ cs) (s ∷ ss) ts us r =
    let (spacing, h) = marks_at d cs ss r.0 us r.2 in (
      spacing,
      ap (λ vs. mark_at c (d ∷ cs) (plain vs)) r.1
          ∙ ap (λ b. cond b (wrap (mark_onto c) (mark_at d cs (plain r.0))) Refused) (eq-eqb c c refl)
          ∙ ap (wrap (mark_onto c)) h,
    )

pub marks_read : (cs : List ℕ) (spans : List Span) (ts us : List Spanned) → ReadsMarks cs spans ts us
    → keeps (punct cs) (plain ts) ≡ Got (marks_tree cs) (plain us)
unfolding mark_kept
marks_read [] spans ts us r = absurd r
marks_read (c ∷ cs) spans ts us r = ap (wrap kept) (marks_at c cs spans ts us r).1

by_mark : (v : Bool) (f : Out → Out) (w : Bool) (o : Out) → (w ≡ false → o ≡ Refused) → ((v && true) && w) ≡ false
    → cond v (f o) Refused ≡ cond v (f Refused) Refused
by_mark true f w o h e = ap f (h e)
by_mark false f w o h e = refl

cond_refused : (v : Bool) → cond v Refused Refused ≡ Refused
cond_refused true = refl
cond_refused false = refl

no_marks : (c : ℕ) (cs : List ℕ) (ts : List Token) → marks_stand (c ∷ cs) ts ≡ false → mark_at c cs ts ≡ Refused
unfolding mark_at
no_marks c [] [] e = refl
no_marks c [] (Punct d spacing ∷ ts) e = ap (λ b. cond b (Got (AMark d [] spacing) ts) Refused) e
no_marks c [] (Opens d ∷ ts) e = refl
no_marks c [] (Closes d ∷ ts) e = refl
no_marks c [] (Ident ds ∷ ts) e = refl
no_marks c [] (Literal ds ∷ ts) e = refl
no_marks c (d ∷ cs) [] e = refl
no_marks c (d ∷ cs) (Punct b Apart ∷ ts) e = refl
no_marks c (d ∷ cs) (Punct b Joint ∷ ts) e =
    by_mark (b == c) (wrap (mark_onto b)) (marks_stand (d ∷ cs) ts) (mark_at d cs ts) (no_marks d cs ts) e
    ∙ cond_refused (b == c)
no_marks c (d ∷ cs) (Opens b ∷ ts) e = refl
no_marks c (d ∷ cs) (Closes b ∷ ts) e = refl
no_marks c (d ∷ cs) (Ident ds ∷ ts) e = refl
no_marks c (d ∷ cs) (Literal ds ∷ ts) e = refl

pub marks_none : (cs : List ℕ) (ts : List Spanned) → marks_stand cs (plain ts) ≡ false
    → keeps (punct cs) (plain ts) ≡ Refused
unfolding mark_kept
marks_none [] ts e = refl
marks_none (c ∷ cs) ts e = ap (wrap kept) (no_marks c cs (plain ts) e)
