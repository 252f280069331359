-- Where the tokens of a text's forest stand in a map that the text was put into.
use Rattle.std.proofs.Common.{◌≡◌, ℕ, zero, suc, ◌+◌, ◌-◌, ◌<◌, ◌≤◌, List, [], ◌∷◌, ◌++◌, length, map, refl, sym, ap}
use Rattle.std.proofs.Common.{◌∙◌, ⊎_elim, inl, inr, arith}
use Rattle.std.specs.Prelude.{Bool, true, false, ◌&&◌, ◌||◌, ◌⊎◌, nat_lt, if◌then◌else◌, Option, Some, None, slice_get}
use Rattle.std.specs.Option.{option_map, option_map_or}
use Rattle.std.specs.List.{list_any}
use Rattle.std.proofs.lemmas.Bool.{eqb-true, ltb-true, ltb-false}
use Rattle.rust_map.specs.Answers.{start_place, no_place}
use Rattle.rust_map.specs.Places.{place_of}
use Rattle.rust_map.specs.Sources.{Sources, Spot, is_held, spot, next_position, next_span, next_spot, with_text}
use Rattle.rust_map.specs.Spans.{first_of, span_from}
use Rattle.rust_map.specs.declared.span.Span.{Span}
use Rattle.proc_macro2.proofs.Lies.{AllLie, Lies, spot_of}
use Rattle.rust_lex.specs.Cover.{onto}
use Rattle.rust_lex.specs.Piece.{Piece}
use Rattle.proc_macro2.specs.Token.{Token, Opens, Closes, Ident, Literal, Punct, Spanned}
use Rattle.proc_macro2.specs.Pieces.{edge, edged, edged_at, span_at}
use Rattle.proc_macro2.proofs.Followed.{tokens_before, tokens_onto}
use Rattle.laws_programs.specs.Faults.{begins_at, token_place}
use Rattle.canon.specs.Places.{begins_with, span_place}

-- tokens that begin so many positions behind others
abbrev pub AreBehind : ℕ → List Spanned → List Spanned → Type 0
AreBehind base [] [] = Unit {0}
AreBehind base [] (t ∷ ts) = ⊥
AreBehind base (s ∷ ss) [] = ⊥
AreBehind base (s ∷ ss) (t ∷ ts) = (s.span.start ≡ base + t.span.start) × AreBehind base ss ts

both_behind : (base : ℕ) (ss ts us vs : List Spanned) → AreBehind base ss ts → AreBehind base us vs →
    AreBehind base (ss ++ us) (ts ++ vs)
both_behind base [] [] us vs a b = b
both_behind base [] (t ∷ ts) us vs a b = absurd a
both_behind base (s ∷ ss) [] us vs a b = absurd a
both_behind base (s ∷ ss) (t ∷ ts) us vs a b = (a.0, both_behind base ss ts us vs a.1 b)

first_start : (p n : ℕ) (b : Bool) → (if b then span_from p (p + 1) else span_from p (p + n)).start ≡ p
first_start p n true = refl
first_start p n false = refl

last_start : (p n : ℕ) (b : Bool) → (b ≡ true → p < p + n) → (b ≡ false → p + n ≤ p) →
    (if b then span_from (p + n - 1) (p + n) else span_from p (p + n)).start ≡ p + (n - 1)
last_start p n true t f = let some : p < p + n = t refl in omega arith
last_start p n false t f = let none : p + n ≤ p = f refl in omega arith

edge_behind : (base p q n : ℕ) (t : Token) → p ≡ base + q → (edge t (span_at p n)).start ≡
    base + (edge t (span_at q n)).start
edge_behind base p q n (Opens d) e = first_start p n (nat_lt p (p + n)) ∙ e
    ∙ ap (λ k. base + k) (sym (first_start q n (nat_lt q (q + n))))
edge_behind base p q n (Closes d) e =
    let there : (edge (Closes d) (span_at p n)).start ≡ p + (n - 1) = last_start p n (nat_lt p (p + n))
    (λ h. ltb-true p (p + n) h) (λ h. ltb-false p (p + n) h) in
    let here : (edge (Closes d) (span_at q n)).start ≡ q + (n - 1) = last_start q n (nat_lt q (q + n))
    (λ h. ltb-true q (q + n) h) (λ h. ltb-false q (q + n) h) in
    there ∙ omega arith ∙ ap (λ k. base + k) (sym here)
edge_behind base p q n (Ident cs) e = e
edge_behind base p q n (Literal cs) e = e
edge_behind base p q n (Punct c spacing) e = e

edges_behind : (base p q n : ℕ) (ts : List Token) → p ≡ base + q →
    AreBehind base (edged_at (span_at p n) ts) (edged_at (span_at q n) ts)
edges_behind base p q n [] e = tt
edges_behind base p q n (t ∷ ts) e = (edge_behind base p q n t e, edges_behind base p q n ts e)

-- the tokens of pieces that stand so many positions further on
pub tokens_behind : (base p q : ℕ) (ps : List Piece) (rest : List ℕ) → p ≡ base + q →
    AreBehind base (tokens_onto p ps rest) (tokens_onto q ps rest)
tokens_behind base p q [] rest e = tt
tokens_behind base p q (x ∷ ps) rest e =
    let ts : List Token = tokens_before x.kind x.chars (onto ps rest) in
    let n : ℕ = length x.chars in
    both_behind base (edged_at (span_at p n) ts) (edged_at (span_at q n) ts) (tokens_onto (p + n) ps rest)
    (tokens_onto (q + n) ps rest)
    (edges_behind base p q n ts e)
    (tokens_behind base (p + n) (q + n) ps rest (omega arith))

and_true : (a b : Bool) → (a && b) ≡ true → (a ≡ true) × (b ≡ true)
and_true true b e = (refl, e)
and_true false b e = cc

or_true : (a b : Bool) → (a || b) ≡ true → (a ≡ true) ⊎ (b ≡ true)
or_true true b e = inl refl
or_true false b e = inr e

-- the first character of a span lies where the span does, and begins where it does
first_part : (low high : ℕ) (x : Span) → Lies low high x → Lies low high (first_of x) × ((first_of x).start ≡ x.start)
first_part low high x l = go (nat_lt x.start x.end) (λ e. ltb-true x.start x.end e)
  where
    go : (b : Bool) → (b ≡ true → x.start < x.end) →
        Lies low high (if b then span_from x.start (x.start + 1) else x)
        × ((if b then span_from x.start (x.start + 1) else x).start ≡ x.start)
    go true h =
        let some : x.start < x.end = h refl in
        (record { starts = l.starts; ordered = omega arith; ends = omega (arith, l.ends) }, refl)
    go false h = (l, refl)

-- the text was put into the map
module _ (sources : Sources) (text : List ℕ) (there : spot (with_text sources text) (next_span sources text) ≡
    Some (next_spot sources text)) where
  abbrev pub grown : Sources
  grown = with_text sources text

  abbrev pub base : ℕ
  base = next_position sources

  pub place_span : (span : Span) (n : ℕ) → Lies base (base + length text) span → span.start ≡ base + n →
      start_place grown span ≡ place_of text n
  place_span span n l e =
      ap (λ o. option_map_or (λ (s : Spot). place_of s.text s.from) o no_place) (spot_of sources text there span l)
      ∙ ap (place_of text) (omega arith)

  -- a span begins where a token does whose first character it begins with
  same_start : (first : Span) (s t : Spanned) → Lies base (base + length text) (edged s).span →
      (edged s).span.start ≡ base + (edged t).span.start → begins_with first s ≡ true →
      start_place grown first ≡ begins_at text t
  same_start first s t l b e =
      let x : Span = (edged s).span in
      let (f, g) = first_part base (base + length text) x l in
      let both = and_true _ _ e in
      let start : (first_of x).start ≡ first.start = eqb-true _ _ both.0 in
      let end : (first_of x).end ≡ first.end = eqb-true _ _ both.1 in
      let there : Lies base (base + length text) first = record {
        starts = omega (arith, f.starts);
        ordered = omega (arith, f.ordered);
        ends = omega (arith, f.ends);
      } in
      place_span first (edged t).span.start there (omega (arith, start, g, b))

  -- one of some tokens begins with it
  begun : (first : Span) (ss ts : List Spanned) → AllLie base (base + length text) (map edged ss) →
      AreBehind base (map edged ss) (map edged ts) → list_any (begins_with first) ss ≡ true →
      (i : ℕ) × (Some (start_place grown first) ≡ option_map (begins_at text) (slice_get ts i))
  begun first [] ts l b e = cc
  begun first (s ∷ ss) [] l b e = absurd b
  begun first (s ∷ ss) (t ∷ ts) l b e =
      ⊎_elim
      (λ h. (zero, ap Some (same_start first s t l.0 b.0 h)))
      (λ h. let (i, f) = begun first ss ts l.1 b.1 h in (suc i, f))
      (or_true (begins_with first s) (list_any (begins_with first) ss) e)

  -- the place of a fault is that of a token of the text, or none
  pub placed : (span : Span) (ss ts : List Spanned) → AllLie base (base + length text) (map edged ss) →
      AreBehind base (map edged ss) (map edged ts) → (index : Option ℕ) ×
      (span_place grown span ss ≡ token_place text ts index)
  placed span ss ts l b =
      go (is_held grown (first_of span)) (list_any (begins_with (first_of span)) ss) refl
    where
      go : (held any : Bool) → list_any (begins_with (first_of span)) ss ≡ any → (index : Option ℕ) ×
          ((if held && any then Some (start_place grown (first_of span)) else None) ≡ token_place text ts index)
      go true true e = let (i, f) = begun (first_of span) ss ts l b e in (Some i, f)
      go true false e = (None, refl)
      go false any e = (None, refl)
