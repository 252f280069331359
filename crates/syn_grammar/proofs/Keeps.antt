-- What is read and kept, part by part.
use Rattle.std.proofs.Common.{◌≡◌, ℕ, List, [], ◌∷◌, refl, ap, ◌∙◌, sym}
use Rattle.std.specs.Prelude.{Bool, true, false, cond, ◌==◌}
use Rattle.proc_macro2.specs.declared.delimiter.Delimiter.{Delimiter}
use Rattle.proc_macro2.specs.Groups.{same_delimiter}
use Rattle.proc_macro2.specs.Token.{Token, Opens, Closes, Ident, Literal, Punct}
use Rattle.rust_leaf.specs.declared.punct.Spacing.TheVariants.{Joint, Alone as Apart}
use Rattle.syn_grammar.specs.Tree.{Tree, Nil, Pair, First, Second, Dropped, Called, Whole}
use Rattle.syn_grammar.specs.Gram.{Gram, word, literal, mark, lifetime, raw, nothing, never, seq, alt, star, many}
use Rattle.syn_grammar.specs.Gram.{group, judged, dropped, called, ref, operand, is_balanced}
use Rattle.syn_grammar.specs.Kept.{kept}
use Rattle.syn_grammar.specs.Keeps.{keeps, mark_kept, checked, opened, ended, in_group}
use Rattle.syn_grammar.specs.Run.{Out, Late, Refused, Got, ◌>>=◌, wrap, word_at, literal_at, mark_at, lifetime_at}
use Rattle.syn_grammar.specs.Run.{raw_at, Split, Unclosed, Inside, split, whole, within, group_at, interp, reads}

-- what is kept of a choice, of a sequence, of each leaf, of a group
kept_cond : (b : Bool) (o p : Out) → wrap kept (cond b o p) ≡ cond b (wrap kept o) (wrap kept p)
kept_cond true o p = refl
kept_cond false o p = refl

pub kept_wrap : (f g : Tree → Tree) → ((x : Tree) → kept (f x) ≡ g (kept x)) → (o : Out)
    → wrap kept (wrap f o) ≡ wrap g (wrap kept o)
kept_wrap f g h Late = refl
kept_wrap f g h Refused = refl
kept_wrap f g h (Got x r) = ap (λ y. Got y r) (h x)

kept_pair : (o : Out) (f g : List Token → Out) → ((us : List Token) → wrap kept (f us) ≡ g us)
    → wrap kept (o >>= λ x us. f us >>= λ y vs. Got (Pair x y) vs)
    ≡ (wrap kept o >>= λ x us. g us >>= λ y vs. Got (Pair x y) vs)
kept_pair Late f g h = refl
kept_pair Refused f g h = refl
kept_pair (Got x us) f g h = kept_wrap (Pair x) (Pair (kept x)) (λ y. refl) (f us) ∙ ap (wrap (Pair (kept x))) (h us)

word_kept : (p : List ℕ → Bool) (ts : List Token) → wrap kept (word_at p ts) ≡ word_at p ts
unfolding word_at
word_kept p [] = refl
word_kept p (Ident cs ∷ ts) = kept_cond (p cs) _ _
word_kept p (Punct d spacing ∷ ts) = refl
word_kept p (Opens d ∷ ts) = refl
word_kept p (Closes d ∷ ts) = refl
word_kept p (Literal cs ∷ ts) = refl

literal_kept : (p : List ℕ → Bool) (ts : List Token) → wrap kept (literal_at p ts) ≡ literal_at p ts
unfolding literal_at
literal_kept p [] = refl
literal_kept p (Literal cs ∷ ts) = kept_cond (p cs) _ _
literal_kept p (Punct d spacing ∷ ts) = refl
literal_kept p (Opens d ∷ ts) = refl
literal_kept p (Closes d ∷ ts) = refl
literal_kept p (Ident cs ∷ ts) = refl

lifetime_kept : (ts : List Token) → wrap kept (lifetime_at ts) ≡ lifetime_at ts
unfolding lifetime_at
lifetime_kept [] = refl
lifetime_kept (Punct c Joint ∷ Ident cs ∷ ts) = kept_cond (c == 39) _ _
lifetime_kept (Punct c Joint ∷ []) = refl
lifetime_kept (Punct c Joint ∷ Punct d s ∷ ts) = refl
lifetime_kept (Punct c Joint ∷ Opens d ∷ ts) = refl
lifetime_kept (Punct c Joint ∷ Closes d ∷ ts) = refl
lifetime_kept (Punct c Joint ∷ Literal d ∷ ts) = refl
lifetime_kept (Punct c Apart ∷ ts) = refl
lifetime_kept (Opens d ∷ ts) = refl
lifetime_kept (Closes d ∷ ts) = refl
lifetime_kept (Ident cs ∷ ts) = refl
lifetime_kept (Literal cs ∷ ts) = refl

raw_kept : (ts : List Token) → wrap kept (raw_at ts) ≡ raw_at ts
unfolding raw_at
raw_kept ts = kept_cond (is_balanced ts) _ _

whole_kept : (d : Delimiter) (r : List Token) (o : Out) → wrap kept (whole d r o) ≡ whole d r (wrap kept o)
whole_kept d r Late = refl
whole_kept d r Refused = refl
whole_kept d r (Got x []) = refl
whole_kept d r (Got x (t ∷ ts)) = refl

same_in : (e d : Delimiter) (f : List Token → Out) (s : Split) → in_group d f (checked d s) ≡ within d f s
unfolding in_group ended
same_in e d f Unclosed = refl
same_in e d f (Inside ts c rest) = by_same (same_delimiter c d)
  where
    by_same : (b : Bool) → in_group d f (cond b (Inside ts d rest) Unclosed) ≡ cond b (whole d rest (f ts)) Refused
    by_same true = refl
    by_same false = refl

in_kept : (d : Delimiter) (f g : List Token → Out) → ((us : List Token) → wrap kept (f us) ≡ g us) → (s : Split)
    → wrap kept (within d f s) ≡ within d g s
in_kept d f g h Unclosed = refl
in_kept d f g h (Inside ts e rest) =
    kept_cond (same_delimiter e d) _ _ ∙ ap (λ o. cond (same_delimiter e d) o Refused) (whole_kept d rest (f ts)
    ∙ ap (whole d rest) (h ts))

opened_is : (b : Bool) (d : Delimiter) (g : List Token → Out) (s : Split)
    → cond b (within d g s) Refused ≡ in_group d g (cond b (checked d s) Unclosed)
unfolding in_group
opened_is true d g s = sym (same_in d d g s)
opened_is false d g s = refl

group_kept : (d : Delimiter) (f g : List Token → Out) → ((us : List Token) → wrap kept (f us) ≡ g us)
    → (ts : List Token) → wrap kept (group_at d f ts) ≡ in_group d g (opened d ts)
unfolding group_at opened in_group
group_kept d f g h [] = refl
group_kept d f g h (Opens c ∷ ts) =
    kept_cond (same_delimiter c d) _ _
    ∙ ap (λ o. cond (same_delimiter c d) o Refused) (in_kept d f g h (split 0 ts))
    ∙ opened_is (same_delimiter c d) d g (split 0 ts)
group_kept d f g h (Closes c ∷ ts) = refl
group_kept d f g h (Ident cs ∷ ts) = refl
group_kept d f g h (Literal cs ∷ ts) = refl
group_kept d f g h (Punct c spacing ∷ ts) = refl

dropped_kept : (o : Out) → wrap kept (wrap Dropped o) ≡ (o >>= λ x us. Got Nil us)
dropped_kept Late = refl
dropped_kept Refused = refl
dropped_kept (Got x r) = refl

marked : (c : ℕ) (cs : List ℕ) (ts : List Token) → wrap kept (mark_at c cs ts) ≡ mark_kept c cs ts
unfolding mark_kept
marked c cs ts = refl

-- an entry is read and kept part by part
pub kept_interp : (g : Gram) (ts : List Token) → wrap kept (interp reads g ts) ≡ keeps g ts
kept_interp (word p) ts = word_kept p ts
kept_interp (literal p) ts = literal_kept p ts
kept_interp (mark c cs) ts = marked c cs ts
kept_interp lifetime ts = lifetime_kept ts
kept_interp raw ts = raw_kept ts
kept_interp nothing ts = refl
kept_interp never ts = refl
kept_interp (seq a b) ts =
    kept_pair (interp reads a ts) (interp reads b) (keeps b) (kept_interp b)
    ∙ ap (λ o. o >>= λ x us. keeps b us >>= λ y vs. Got (Pair x y) vs) (kept_interp a ts)
kept_interp (alt t a b) ts =
    kept_cond (t ts) _ _
    ∙ ap (λ o. cond (t ts) o (wrap kept (wrap Second (interp reads b ts)))) (kept_wrap First First
    (λ x. refl) (interp reads a ts) ∙ ap (wrap First) (kept_interp a ts))
    ∙ ap (cond (t ts) (wrap First (keeps a ts))) (kept_wrap Second Second (λ x. refl) (interp reads b ts)
    ∙ ap (wrap Second) (kept_interp b ts))
kept_interp (star t g) ts = refl
kept_interp (many e c g) ts = refl
kept_interp (group d g) ts = group_kept d (interp reads g) (keeps g) (kept_interp g) ts
kept_interp (judged v g) ts = refl
kept_interp (dropped g) ts = dropped_kept (interp reads g ts)
kept_interp (called n g) ts = kept_wrap (Called n) (Called n) (λ x. refl) (interp reads g ts)
    ∙ ap (wrap (Called n)) (kept_interp g ts)
kept_interp (ref k) ts = refl
kept_interp (operand p n) ts = kept_wrap Whole Whole (λ x. refl) _

pub refused_kept : (o : Out) → wrap kept o ≡ Refused → o ≡ Refused
refused_kept Late e = cc
refused_kept Refused e = e
refused_kept (Got x r) e = cc

pub got_kept : (o : Out) (y : Tree) (r : List Token) → wrap kept o ≡ Got y r → (x : Tree) × (o ≡ Got x r) × (kept x ≡ y)
got_kept Late y r e = cc
got_kept Refused y r e = cc
got_kept (Got x s) y r e =
    let h : s ≡ r = cc in
    (x, ap (Got x) h, cc)
