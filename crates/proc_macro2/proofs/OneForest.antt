-- A stream is determined by where its tokens stand.
use Rattle.std.proofs.Common.{◌≡◌, ℕ, ◌+◌, ◌-◌, List, [], ◌∷◌, refl, sym, ap, ap₂, ◌∙◌, subst, map}
use Rattle.std.specs.Prelude.{Bool, true, false, cond, nat_lt}
use Rattle.rust_map.specs.Spans.{span_from, first_of, last_of}
use Rattle.rust_map.specs.declared.span.Span.{Span}
use Rattle.rust_lex.proofs.OneCover.{one_cover}
use Rattle.proc_macro2.specs.Token.{Token, Opens, Closes, Ident, Literal, Punct, Spanned}
use Rattle.proc_macro2.specs.Flat.{spanned}
use Rattle.proc_macro2.specs.Pieces.{edge, edged, tokens_of}
use Rattle.proc_macro2.specs.Forest.{ArePaired, IsForest}

abbrev It : Type 0 → Type 0
It A = A

-- the first character of a span begins where it does, and the last ends where it does
pub start_kept : (s : Span) → (first_of s).start ≡ s.start
start_kept s = here (nat_lt s.start s.end)
  where
    here : (b : Bool) → (cond b (span_from s.start (s.start + 1)) s).start ≡ s.start
    here true = refl
    here false = refl

pub end_kept : (s : Span) → (last_of s).«end» ≡ s.«end»
end_kept s = here (nat_lt s.start s.end)
  where
    here : (b : Bool) → (cond b (span_from (s.end - 1) s.end) s).«end» ≡ s.«end»
    here true = refl
    here false = refl

pub same_start : (a b : Span) → first_of a ≡ first_of b → a.start ≡ b.start
same_start a b e = sym (start_kept a) ∙ ap (λ s. s.start) e ∙ start_kept b

pub same_end : (a b : Span) → last_of a ≡ last_of b → a.«end» ≡ b.«end»
same_end a b e = sym (end_kept a) ∙ ap (λ s. s.«end») e ∙ end_kept b

pub same_span : (a b : Span) → a.start ≡ b.start → a.«end» ≡ b.«end» → a ≡ b
same_span a b s e = ap₂ span_from s e

abbrev starts : List Span → List ℕ
starts ss = map (λ s. s.start) ss

-- two streams of the same tokens, and the spans of the groups that were open before them
pub record AreOne (ts us : List Spanned) (xs ys : List Span) : Type 0 where
  pub tokens : ts ≡ us
  pub spans : xs ≡ ys

abbrev Rest : Span → List Span → List Spanned → Token → Type 0
Rest a xs ss (Opens d) = ArePaired (a ∷ xs) ss
Rest a [] ss (Closes d) = ⊥
Rest a (x ∷ xs) ss (Closes d) = (x ≡ a) × ArePaired xs ss
Rest a xs ss (Ident cs) = ArePaired xs ss
Rest a xs ss (Literal cs) = ArePaired xs ss
Rest a xs ss (Punct c spacing) = ArePaired xs ss

rest_of : (s : Spanned) (xs : List Span) (ss : List Spanned) → ArePaired xs (s ∷ ss) → Rest s.span xs ss s.token
rest_of s xs ss h = by s.token h
  where
    by : (t : Token) → It (elim t [
      | Opens d ↦ ArePaired (s.span ∷ xs) ss
      | Closes d ↦ elim xs [ [] ↦ ⊥ | y ∷ ys ↦ (y ≡ s.span) × ArePaired ys ss ]
      | Ident cs ↦ ArePaired xs ss
      | Literal cs ↦ ArePaired xs ss
      | Punct c spacing ↦ ArePaired xs ss
    ]) → Rest s.span xs ss t
    by (Opens d) q = q
    by (Closes d) q = closes xs q
      where
        closes : (zs : List Span) → It (elim zs [ [] ↦ ⊥ | y ∷ ys ↦ (y ≡ s.span) × ArePaired ys ss ])
            → Rest s.span zs ss (Closes d)
        closes [] p = p
        closes (z ∷ zs) p = p
    by (Ident cs) q = q
    by (Literal cs) q = q
    by (Punct c spacing) q = q

-- one more token
one_more : (t : Token) (a b : Span) (xs ys : List Span) (ss us : List Spanned)
    → ((vs ws : List Span) → ArePaired vs ss → ArePaired ws us → starts vs ≡ starts ws → AreOne ss us vs ws) →
    Rest a xs ss t → Rest b ys us t → edge t a ≡ edge t b → starts xs ≡ starts ys
    → AreOne (spanned t a ∷ ss) (spanned t b ∷ us) xs ys
one_more (Opens d) a b xs ys ss us more h k e s =
    let one = more (a ∷ xs) (b ∷ ys) h k (ap₂ (λ x y. x ∷ y) (same_start a b e) s) in
    let spans = one.spans in
    let same : a ≡ b = cc in
    let others : xs ≡ ys = cc in
    record { tokens = ap₂ (λ x y. spanned (Opens d) x ∷ y) same one.tokens; spans = others }
one_more (Closes d) a b [] ys ss us more h k e s = elim h [ ]
one_more (Closes d) a b (x ∷ xs) [] ss us more h k e s = elim k [ ]
one_more (Closes d) a b (x ∷ xs) (y ∷ ys) ss us more h k e s =
    let first : x.start ≡ y.start = cc in
    let tails : starts xs ≡ starts ys = cc in
    let one = more xs ys h.1 k.1 tails in
    let same : a ≡ b = same_span a b (ap (λ z. z.start) (sym h.0) ∙ first ∙ ap (λ z. z.start) k.0) (same_end a b e) in
    record {
      tokens = ap₂ (λ v w. spanned (Closes d) v ∷ w) same one.tokens;
      spans = ap₂ (λ v w. v ∷ w) (h.0 ∙ same ∙ sym k.0) one.spans;
    }
one_more (Ident cs) a b xs ys ss us more h k e s = let one =
    more xs ys h k s in record { tokens = ap₂ (λ v w. spanned (Ident cs) v ∷ w) e one.tokens; spans = one.spans }
one_more (Literal cs) a b xs ys ss us more h k e s = let one =
    more xs ys h k s in record { tokens = ap₂ (λ v w. spanned (Literal cs) v ∷ w) e one.tokens; spans = one.spans }
one_more (Punct c spacing) a b xs ys ss us more h k e s = let one =
    more xs ys h k s in record { tokens = ap₂ (λ v w. spanned (Punct c spacing) v ∷ w) e one.tokens; spans = one.spans }

one_stream : (ts us : List Spanned) (xs ys : List Span) → ArePaired xs ts → ArePaired ys us
    → map edged ts ≡ map edged us → starts xs ≡ starts ys → AreOne ts us xs ys
one_stream [] [] xs ys h k e s = record { tokens = refl; spans = h ∙ sym k }
one_stream [] (u ∷ us) xs ys h k e s = cc
one_stream (t ∷ ts) [] xs ys h k e s = cc
one_stream (t ∷ ts) (u ∷ us) xs ys h k e s =
    let heads : edged t ≡ edged u = cc in
    let tails : map edged ts ≡ map edged us = cc in
    let token : t.token ≡ u.token = ap (λ x. x.token) heads in
    let place : edge t.token t.span ≡ edge u.token u.span = ap (λ x. x.span) heads in
    let there : edge t.token t.span ≡ edge t.token u.span = place ∙ ap (λ x. edge x u.span) (sym token) in
    let one = one_more t.token t.span u.span xs ys ts us (λ vs ws p q r. one_stream ts us vs ws p q tails r)
    (rest_of t xs ts h) (subst (λ x. Rest u.span ys us x) (sym token) (rest_of u ys us k)) there s in
    record { tokens = one.tokens ∙ ap (λ x. spanned x u.span ∷ us) token; spans = one.spans }

pub one_forest : (base : ℕ) (text : List ℕ) (ts us : List Spanned) → IsForest base text ts → IsForest base text us
    → ts ≡ us
one_forest base text ts us f g =
    let same : map edged ts ≡ map edged us = sym f.tokens_are
    ∙ ap (tokens_of base) (one_cover text f.pieces g.pieces f.cover g.cover) ∙ g.tokens_are in
    (one_stream ts us [] [] f.paired g.paired same refl).tokens
