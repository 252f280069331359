-- The first tokens of a stream, where it is known of what pieces its tokens are.
use Rattle.std.proofs.Common.{◌≡◌, ℕ, Bool, true, false, List, [], ◌∷◌, ◌++◌, map, sym, ap, ◌∙◌, subst, cond, Some}
use Rattle.rust_lex.specs.declared.piece.DocKind.{DocKind}
use Rattle.rust_map.specs.Spans.{first_of, last_of}
use Rattle.rust_map.specs.declared.span.Span.{Span}
use Rattle.rust_leaf.specs.Escaped.{string_text}
use Rattle.std.specs.Prelude.{codes}
use Rattle.proc_macro2.specs.Flat.{spanned}
use Rattle.proc_macro2.specs.Forest.{ArePaired}
use Rattle.proc_macro2.specs.Groups.{groups_open}
use Rattle.proc_macro2.specs.Pieces.{all_at, doc_group, doc_marks, edge, edged, edged_at, is_inner}
use Rattle.proc_macro2.specs.declared.delimiter.Delimiter.TheVariants.{Bracket}
use Rattle.proc_macro2.specs.declared.delimiter.Delimiter.{Delimiter}
use Rattle.proc_macro2.specs.Token.{Token, Opens, Closes, Ident, Literal, Punct, Spanned}
use Rattle.rust_leaf.specs.declared.punct.Spacing.TheVariants.{Alone}
use Rattle.proc_macro2.proofs.OneForest.{same_end, same_span, same_start}

-- tokens that stand where the stream's do, which closes the groups with these spans and delimiters
pub record IsStream (tokens : List Spanned) (xs : List Span) (ds : List Delimiter)
    (stream : List Spanned) : Type 0 where
  pub tokens_are : tokens ≡ map edged stream
  pub paired : ArePaired xs stream
  pub opened : groups_open ds stream ≡ Some []

pub record First (t : Token) (place : Span) (rest : List Spanned) (xs : List Span) (ds : List Delimiter)
    (stream : List Spanned) : Type 0 where
  pub span : Span
  pub others : List Spanned
  pub is : stream ≡ spanned t span ∷ others
  pub placed : edge t span ≡ place
  pub rest_are : rest ≡ map edged others
  pub paired : ArePaired xs (spanned t span ∷ others)
  pub opened : groups_open ds (spanned t span ∷ others) ≡ Some []

pub first : (t : Token) (place : Span) (rest : List Spanned) (xs : List Span) (ds : List Delimiter)
    (stream : List Spanned) → IsStream (spanned t place ∷ rest) xs ds stream → First t place rest xs ds stream
first t place rest xs ds [] r = let e : spanned t place ∷ rest ≡ [] = r.tokens_are in cc
first t place rest xs ds (s ∷ ss) r =
    let e : spanned t place ∷ rest ≡ edged s ∷ map edged ss = r.tokens_are in
    let heads : spanned t place ≡ edged s = cc in
    let tails : rest ≡ map edged ss = cc in
    let token : s.token ≡ t = sym (ap (λ x. x.token) heads) in
    let is : s ∷ ss ≡ spanned t s.span ∷ ss = ap (λ u. spanned u s.span ∷ ss) token in
    record {
      span = s.span;
      others = ss;
      is = is;
      placed = subst (λ u. edge u s.span ≡ place) token (sym (ap (λ x. x.span) heads));
      rest_are = tails;
      paired = subst (λ l. ArePaired xs l) is r.paired;
      opened = subst (λ l. groups_open ds l ≡ Some []) is r.opened;
    }

-- the stream begins with tokens that carry one span
pub record Begins (ts : List Token) (span : Span) (rest : List Spanned) (xs : List Span) (ds : List Delimiter)
    (stream : List Spanned) : Type 0 where
  pub others : List Spanned
  pub is : stream ≡ all_at span ts ++ others
  pub reading : IsStream rest xs ds others

-- a token of one character or more, that neither opens nor closes a group
abbrev pub IsSingle : Token → Type 0
IsSingle (Opens d) = ⊥
IsSingle (Closes d) = ⊥
IsSingle (Ident cs) = Unit {0}
IsSingle (Literal cs) = Unit {0}
IsSingle (Punct c spacing) = Unit {0}

pub single : (t : Token) (span : Span) (rest : List Spanned) (xs : List Span) (ds : List Delimiter)
    (stream : List Spanned) → IsSingle t → IsStream (spanned t (edge t span) ∷ rest) xs ds stream →
    Begins (t ∷ []) span rest xs ds stream
single (Opens d) span rest xs ds stream s r = elim s [ ]
single (Closes d) span rest xs ds stream s r = elim s [ ]
single (Ident cs) span rest xs ds stream s r =
    let f = first (Ident cs) span rest xs ds stream r in
    record {
      others = f.others;
      is = f.is ∙ ap (λ p. spanned (Ident cs) p ∷ f.others) f.placed;
      reading = record { tokens_are = f.rest_are; paired = f.paired; opened = f.opened };
    }
single (Literal cs) span rest xs ds stream s r =
    let f = first (Literal cs) span rest xs ds stream r in
    record {
      others = f.others;
      is = f.is ∙ ap (λ p. spanned (Literal cs) p ∷ f.others) f.placed;
      reading = record { tokens_are = f.rest_are; paired = f.paired; opened = f.opened };
    }
single (Punct c spacing) span rest xs ds stream s r =
    let f = first (Punct c spacing) span rest xs ds stream r in
    record {
      others = f.others;
      is = f.is ∙ ap (λ p. spanned (Punct c spacing) p ∷ f.others) f.placed;
      reading = record { tokens_are = f.rest_are; paired = f.paired; opened = f.opened };
    }

-- one more before others
more : (t : Token) (ts : List Token) (span : Span) (between rest : List Spanned) (xs : List Span) (ds : List Delimiter)
    (stream : List Spanned) → IsSingle t → IsStream (spanned t (edge t span) ∷ between) xs ds stream →
    ((others : List Spanned) → IsStream between xs ds others → Begins ts span rest xs ds others) →
    Begins (t ∷ ts) span rest xs ds stream
more t ts span between rest xs ds stream s r on =
    let f = single t span between xs ds stream s r in
    let g = on f.others f.reading in
    record { others = g.others; is = f.is ∙ ap (λ l. spanned t span ∷ l) g.is; reading = g.reading }

-- the group of a doc's attribute carries the doc's span too
attribute : (text : List ℕ) (span : Span) (rest : List Spanned) (xs : List Span) (ds : List Delimiter)
    (stream : List Spanned) → IsStream (edged_at span (doc_group text) ++ rest) xs ds stream →
    Begins (doc_group text) span rest xs ds stream
attribute text span rest xs ds stream r =
    let ident = Ident (codes "doc") in
    let punct = Punct 61 Alone in
    let literal = Literal (string_text text) in
    let last = spanned (Closes Bracket) (last_of span) ∷ rest in
    let o = first (Opens Bracket) (first_of span) _ xs ds stream r in
    let w = single ident span (spanned punct span ∷ spanned literal span ∷ last) (o.span ∷ xs)
    (Bracket ∷ ds) o.others tt (record { tokens_are = o.rest_are; paired = o.paired; opened = o.opened }) in
    let e = single punct span (spanned literal span ∷ last) (o.span ∷ xs) (Bracket ∷ ds) w.others tt w.reading in
    let q = single literal span last (o.span ∷ xs) (Bracket ∷ ds) e.others tt e.reading in
    let c = first (Closes Bracket) (last_of span) rest (o.span ∷ xs) (Bracket ∷ ds) q.others q.reading in
    let start = same_start o.span span o.placed in
    let same : o.span ≡ span = same_span o.span span start (ap (λ s. s.«end») c.paired.0
    ∙ same_end c.span span c.placed) in
    let inner : o.others ≡ spanned ident span ∷ spanned punct span ∷ spanned literal span ∷ spanned
    (Closes Bracket) span ∷ c.others =
    w.is ∙ ap (λ l. spanned ident span ∷ l) (e.is ∙ ap (λ l. spanned punct span ∷ l) (q.is
    ∙ ap (λ l. spanned literal span ∷ l) (c.is ∙ ap (λ s. spanned (Closes Bracket) s ∷ c.others) (sym c.paired.0
    ∙ same)))) in
    record {
      others = c.others;
      is = o.is ∙ ap (λ s. spanned (Opens Bracket) s ∷ o.others) same
          ∙ ap (λ l. spanned (Opens Bracket) span ∷ l) inner;
      reading = record { tokens_are = c.rest_are; paired = c.paired.1; opened = c.opened };
    }

abbrev before : List ℕ → Bool → List Token
before text inner = cond inner (Punct 35 Alone ∷ Punct 33 Alone ∷ []) (Punct 35 Alone ∷ []) ++ doc_group text

pub doc_tokens : (kind : DocKind) (text : List ℕ) (span : Span) (rest : List Spanned) (xs : List Span)
    (ds : List Delimiter) (stream : List Spanned) →
    IsStream (edged_at span (doc_marks kind ++ doc_group text) ++ rest) xs ds stream →
    Begins (doc_marks kind ++ doc_group text) span rest xs ds stream
doc_tokens kind text span rest xs ds stream r = marks (is_inner kind) r
  where
    group : (others : List Spanned) → IsStream (edged_at span (doc_group text) ++ rest) xs ds others →
        Begins (doc_group text) span rest xs ds others
    group others r = attribute text span rest xs ds others r

    marks : (inner : Bool) → IsStream (edged_at span (before text inner) ++ rest) xs ds stream →
        Begins (before text inner) span rest xs ds stream
    marks true r = more (Punct 35 Alone) (Punct 33 Alone ∷ doc_group text) span _ rest xs ds stream tt r
        (λ others r. more (Punct 33 Alone) (doc_group text) span _ rest xs ds others tt r group)
    marks false r = more (Punct 35 Alone) (doc_group text) span _ rest xs ds stream tt r group
