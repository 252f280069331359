-- The tokens of a forest stand in the text where they are written, in their order.
use Rattle.std.proofs.Common.{◌≡◌, ℕ, ◌+◌, ◌-◌, ◌≤◌, Bool, true, false, cond, List, [], ◌∷◌, ◌++◌, length, map, refl}
use Rattle.std.proofs.Common.{sym, ap, ◌∙◌, subst, inl, inr, arith, append_assoc, length-append, Some, None}
use Rattle.std.proofs.Common.{option_and_then}
use Rattle.std.specs.Prelude.{nat_lt}
use Rattle.std.specs.List.{All, AllPairs, Contains}
use Rattle.std.proofs.lemmas.Bool.{ltb-true}
use Rattle.std.proofs.lemmas.List.{append-nil}
use Rattle.std.proofs.lemmas.List.Elements.{All-append, All-cons, All-contains_itself, All-head, All-map, All-nil}
use Rattle.std.proofs.lemmas.List.Elements.{All-tail, All-weaker}
use Rattle.std.proofs.lemmas.List.Kept.{AllPairs-cons}
use Rattle.rust_lex.specs.Comment.{IsDoc}
use Rattle.rust_lex.specs.Cover.{AreFit, AreFitFront, onto}
use Rattle.rust_lex.specs.Piece as piece
use Rattle.rust_lex.specs.Piece.{Fits, FitsFront, Piece}
use Rattle.rust_lex.specs.Scan.{is_joint}
use Rattle.rust_lex.specs.declared.group_marks.GroupMarks.{GroupMarks}
use Rattle.rust_lex.specs.declared.group_marks.GroupMarks.TheVariants as lex
use Rattle.rust_lex.specs.declared.piece.PieceKind.{PieceKind}
use Rattle.rust_lex.specs.declared.piece.PieceKind.TheVariants.{FrontMark, White, Comment, Doc, Open, Close, Mark}
use Rattle.rust_lex.specs.declared.piece.PieceKind.TheVariants as kinds
use Rattle.rust_map.specs.Answers.{source_of}
use Rattle.rust_map.specs.Sources.{Sources, next_position, with_text}
use Rattle.rust_map.specs.Spans.{first_of, last_of, span_from}
use Rattle.rust_map.specs.declared.span.Span.{Span}
use Rattle.proc_macro2.specs.Flat.{spanned}
use Rattle.proc_macro2.specs.Forest.{IsForest}
use Rattle.proc_macro2.specs.Groups.{groups_open, same_delimiter}
use Rattle.proc_macro2.specs.Pieces.{all_at, delimiter_of, doc_group, doc_marks, doc_text, edge, edged, head}
use Rattle.proc_macro2.specs.Pieces.{spacing_of, span_at}
use Rattle.proc_macro2.proofs.Followed.{tokens_onto, forest_tokens}
use Rattle.proc_macro2.specs.Printed.{closing, opening}
use Rattle.proc_macro2.specs.declared.delimiter.Delimiter.{Delimiter}
use Rattle.proc_macro2.specs.Token.{Token, Opens, Closes, Ident, Literal, Punct, Spanned}
use Rattle.proc_macro2.proofs.OneForest.{same_end, same_span, same_start}
use Rattle.proc_macro2.proofs.Total.{same_true}
use Rattle.laws_lexer.specs.Place.{IsBehind, IsFound, IsOfDoc, IsWritten, own_span}
use Rattle.laws_lexer.proofs.Begun.{AreBegun, AreEnded, IsBegun, IsEnded, begun_on, ended_back}
use Rattle.laws_lexer.proofs.FirstTokens.{First, IsSingle, IsStream, doc_tokens, first, single}
use Rattle.laws_lexer.proofs.SourceTexts.{found_at}

-- what is said of the tokens that stand behind the front of a text
record Stands (m : Sources) (text front : List ℕ) (xs : List Span) (ds : List Delimiter)
    (stream : List Spanned) : Type 0 where
  found : All (IsFound (with_text m text)) stream
  behind : All (λ s. next_position m + length front ≤ (own_span s).start) stream
  ordered : AllPairs (IsBehind (with_text m text)) stream
  ended : AreEnded (next_position m) text front xs ds

later : (n : ℕ) (front cs : List ℕ) (stream : List Spanned) →
    All (λ s. n + length (front ++ cs) ≤ (own_span s).start) stream →
    All (λ s. n + length front ≤ (own_span s).start) stream
later n front cs stream h = All-weaker (λ s. n + length (front ++ cs) ≤ (own_span s).start)
    (λ s. n + length front ≤ (own_span s).start) (λ s l. let k = length-append front cs in omega arith) stream h

-- characters that are no token
gap : (m : Sources) (text front cs : List ℕ) (xs : List Span) (ds : List Delimiter) (stream : List Spanned) →
    Stands m text (front ++ cs) xs ds stream → Stands m text front xs ds stream
gap m text front cs xs ds stream w = record {
  found = w.found;
  behind = later (next_position m) front cs stream w.behind;
  ordered = w.ordered;
  ended = ended_back (next_position m) text front cs xs ds w.ended;
}

-- one more token
token : (m : Sources) (text front cs : List ℕ) (s : Spanned) (xs ys : List Span) (ds es : List Delimiter)
    (stream : List Spanned) → IsFound (with_text m text) s
    → next_position m + length front ≤ (own_span s).start →
    (own_span s).«end» ≤ next_position m + length (front ++ cs) → AreEnded (next_position m) text front xs ds
    → Stands m text (front ++ cs) ys es stream → Stands m text front xs ds (s ∷ stream)
token m text front cs s xs ys ds es stream found low high ended w =
    let others = All-weaker (λ t. next_position m + length (front ++ cs) ≤ (own_span t).start)
    (λ t. IsBehind (with_text m text) s t) (λ t l. inl (omega arith)) stream w.behind in
    record {
      found = All-cons (IsFound (with_text m text)) s stream found w.found;
      behind = All-cons (λ t. next_position m + length front ≤ (own_span t).start) s stream low
          (later (next_position m) front cs stream w.behind);
      ordered = AllPairs-cons (IsBehind (with_text m text)) s stream others w.ordered;
      ended = ended;
    }

-- a token of a span stands within it
record IsWithin (inner outer : Span) : Type 0 where
  low : outer.start ≤ inner.start
  high : inner.«end» ≤ outer.«end»

within_itself : (span : Span) → IsWithin span span
within_itself span = record { low = omega arith; high = omega arith }

within : (t : Token) (span : Span) → IsWithin (edge t span) span
within (Opens d) span = here (nat_lt span.start span.end) refl
  where
    here : (b : Bool) → nat_lt span.start span.end ≡ b →
        IsWithin (cond b (span_from span.start (span.start + 1)) span) span
    here true h = let l = ltb-true span.start span.end h in record { low = omega arith; high = omega arith }
    here false h = within_itself span
within (Closes d) span = here (nat_lt span.start span.end) refl
  where
    here : (b : Bool) → nat_lt span.start span.end ≡ b → IsWithin (cond b (span_from (span.end - 1) span.end) span) span
    here true h = let l = ltb-true span.start span.end h in record { low = omega arith; high = omega arith }
    here false h = within_itself span
within (Ident cs) span = within_itself span
within (Literal cs) span = within_itself span
within (Punct c spacing) span = within_itself span

-- the tokens of a doc
docs : (m : Sources) (text front cs : List ℕ) (ts : List Token) (span : Span) (xs : List Span) (ds : List Delimiter)
    (stream : List Spanned)
    → source_of (with_text m text) span ≡ Some cs → span ≡ span_at (next_position m + length front) (length cs) →
    All (λ t. IsOfDoc t cs) ts
    → Stands m text (front ++ cs) xs ds stream → Stands m text front xs ds (all_at span ts ++ stream)
docs m text front cs [] span xs ds stream source there each w = gap m text front cs xs ds stream w
docs m text front cs (t ∷ ts) span xs ds stream source there each w =
    let one = All-head (λ t. IsOfDoc t cs) t ts each in
    let all = All-tail (λ t. IsOfDoc t cs) t ts each in
    let rest = docs m text front cs ts span xs ds stream source there all w in
    let s = spanned t span in
    let inside = within t span in
    let start : span.start ≡ next_position m + length front = ap (λ p. p.start) there in
    let ends : span.«end» ≡ next_position m + length front + length cs = ap (λ p. p.«end») there in
    let high : (own_span s).«end» ≤ next_position m + length (front ++ cs) = let k = length-append front cs in
    let h = inside.high in omega arith in
    let same : All (IsBehind (with_text m text) s) (all_at span ts) =
    All-map (IsBehind (with_text m text) s) (λ u. spanned u span) ts
    (All-weaker (λ u. IsOfDoc u cs) (λ u. IsBehind (with_text m text) s (spanned u span))
    (λ u d. inr (refl, cs, source, one, d)) ts all) in
    let others = All-weaker (λ u. next_position m + length (front ++ cs) ≤ (own_span u).start)
    (λ u. IsBehind (with_text m text) s u) (λ u l. inl (omega arith)) stream w.behind in
    record {
      found = All-cons (IsFound (with_text m text)) s (all_at span ts ++ stream) (cs, source, inr one) rest.found;
      behind = All-cons (λ u. next_position m + length front ≤ (own_span u).start) s (all_at span ts ++ stream)
          (let l = inside.low in omega arith) rest.behind;
      ordered = AllPairs-cons (IsBehind (with_text m text)) s (all_at span ts ++ stream)
          (All-append (IsBehind (with_text m text) s) (all_at span ts) stream same others) rest.ordered;
      ended = rest.ended;
    }

-- what is asked of a piece's characters
abbrev IsMade : PieceKind → List ℕ → List ℕ → Type 0
IsMade FrontMark cs rest = Unit {0}
IsMade White cs rest = Unit {0}
IsMade Comment cs rest = Unit {0}
IsMade (Doc kind) cs rest = IsDoc kind cs rest
IsMade (Open d) cs rest = cs ≡ piece.opening d ∷ []
IsMade (Close d) cs rest = cs ≡ piece.closing d ∷ []
IsMade Mark cs rest = (c : ℕ) × (cs ≡ c ∷ [])
IsMade kinds.Ident cs rest = Unit {0}
IsMade (kinds.Literal kind) cs rest = Unit {0}

abbrev AreMade : List Piece → Type 0
AreMade [] = Unit {0}
AreMade (p ∷ ps) = IsMade p.kind p.chars (onto ps []) × AreMade ps

made : (k : PieceKind) (cs rest : List ℕ) → Fits k cs rest → IsMade k cs rest
made FrontMark cs rest f = tt
made White cs rest f = tt
made Comment cs rest f = tt
made (Doc kind) cs rest f = f
made (Open d) cs rest f = f
made (Close d) cs rest f = f
made Mark cs rest f = (f.0, f.1)
made kinds.Ident cs rest f = tt
made (kinds.Literal kind) cs rest f = tt

made_front : (k : PieceKind) (cs rest : List ℕ) → FitsFront k cs rest → IsMade k cs rest
made_front FrontMark cs rest f = tt
made_front White cs rest f = tt
made_front Comment cs rest f = tt
made_front (Doc kind) cs rest f = f
made_front (Open d) cs rest f = f
made_front (Close d) cs rest f = f
made_front Mark cs rest f = (f.0, f.1)
made_front kinds.Ident cs rest f = tt
made_front (kinds.Literal kind) cs rest f = tt

all_made : (ps : List Piece) → AreFit ps [] → AreMade ps
all_made [] f = tt
all_made (p ∷ ps) f = (made p.kind p.chars (onto ps []) f.0, all_made ps f.1)

front_made : (ps : List Piece) → AreFitFront ps [] → AreMade ps
front_made [] f = tt
front_made (p ∷ ps) f = (made_front p.kind p.chars (onto ps []) f.0, all_made ps f.1)

-- a delimiter is printed as it is read
opened_as : (d : GroupMarks) → opening (delimiter_of d) ≡ piece.opening d ∷ []
opened_as lex.Parenthesis = refl
opened_as lex.Brace = refl
opened_as lex.Bracket = refl

closed_as : (d : GroupMarks) → closing (delimiter_of d) ≡ piece.closing d ∷ []
closed_as lex.Parenthesis = refl
closed_as lex.Brace = refl
closed_as lex.Bracket = refl

-- one token, which is written as the characters of its piece
leaf : (m : Sources) (text front cs rest : List ℕ) (t : Token) (after : List Spanned) (xs : List Span)
    (ds : List Delimiter) (stream : List Spanned) → 1 ≤ m.start → text ≡ front ++ (cs ++ rest)
    → IsSingle t → IsWritten t cs →
    (let span = span_at (next_position m + length front) (length cs) in IsStream
    (spanned t (edge t span) ∷ after) xs ds stream)
    → AreBegun (next_position m) front xs ds → ((others : List Spanned) → IsStream after xs ds others →
    Stands m text (front ++ cs) xs ds others)
    → Stands m text front xs ds stream
leaf m text front cs rest t after xs ds stream positive joined is written r b next =
    let n = next_position m + length front in
    let span = span_at n (length cs) in
    let f = single t span after xs ds stream is r in
    let inside = within t span in
    let source = found_at m text front cs rest span positive joined refl in
    let w = next f.others f.reading in
    subst (λ s. Stands m text front xs ds s) (sym f.is)
    (token m text front cs (spanned t span) xs xs ds ds f.others (cs, source, inl written)
    (let l = inside.low in omega arith) (let h = inside.high in let k = length-append front cs in omega arith)
    (ended_back (next_position m) text front cs xs ds w.ended) w)

-- an opening token, whose group ends further on
open_group : (m : Sources) (text front rest : List ℕ) (d : GroupMarks) (after : List Spanned) (xs : List Span)
    (ds : List Delimiter) (stream : List Spanned) → 1 ≤ m.start
    → (let span = span_at (next_position m + length front) 1 in IsStream
    (spanned (Opens (delimiter_of d)) (first_of span) ∷ after) xs ds stream)
    → AreBegun (next_position m) front xs ds
    → ((ys : List Span) (es : List Delimiter) (others : List Spanned) → IsStream after ys es others →
    AreBegun (next_position m) (front ++ piece.opening d ∷ []) ys es →
    Stands m text (front ++ piece.opening d ∷ []) ys es others)
    → Stands m text front xs ds stream
open_group m text front rest d after xs ds stream positive r b next =
    let base = next_position m in
    let n = base + length front in
    let e = delimiter_of d in
    let cs = piece.opening d ∷ [] in
    let f = first (Opens e) (first_of (span_at n 1)) after xs ds stream r in
    let start : f.span.start ≡ n = same_start f.span (span_at n 1) f.placed in
    let begun : IsBegun base (front ++ cs) f.span e = record {
      before = front;
      inside = [];
      joined = ap (λ o. front ++ o) (sym (append-nil cs) ∙ ap (λ o. o ++ []) (sym (opened_as d)));
      start_is =
          start;
    } in
    let w = next (f.span ∷ xs) (e ∷ ds) f.others (record {
      tokens_are = f.rest_are;
      paired = f.paired;
      opened = f.opened;
    }) (begun, begun_on base front cs xs ds b) in
    let i = w.ended.0 in
    let whole = opening e ++ (i.inside ++ closing e) in
    let joined : text ≡ front ++ (whole ++ i.rest) =
    i.joined ∙ append_assoc front cs ((i.inside ++ closing e) ++ i.rest)
    ∙ ap (λ o. front ++ o) (ap (λ o. o ++ ((i.inside ++ closing e) ++ i.rest)) (sym (opened_as d))
    ∙ sym (append_assoc (opening e) (i.inside ++ closing e) i.rest)) in
    let counts : length whole ≡ 1 + length (i.inside ++ closing e) = length-append (opening e) (i.inside ++ closing e)
    ∙ ap (λ o. length o + length (i.inside ++ closing e)) (opened_as d) in
    let ends : f.span.«end» ≡ n + length whole = let h = i.end_is in let k = length-append front cs in omega arith in
    let source = found_at m text front whole i.rest f.span positive joined
    (same_span f.span (span_at n (length whole)) start ends) in
    let inside = within (Opens e) (span_at n 1) in
    let low : n ≤ (edge (Opens e) f.span).start = let l = inside.low in let p = ap (λ s. s.start) f.placed in
    omega arith in
    let high : (edge (Opens e) f.span).«end» ≤ base + length (front ++ cs) = let h = inside.high in
    let p = ap (λ s. s.«end») f.placed in let k = length-append front cs in omega arith in
    subst (λ s. Stands m text front xs ds s) (sym f.is)
    (token m text front cs (spanned (Opens e) f.span) xs (f.span ∷ xs) ds (e ∷ ds) f.others
    (whole, source, inl (i.inside, refl)) low high (ended_back base text front cs xs ds w.ended.1) w)

-- a closing token, whose group was begun
close_group : (m : Sources) (text front rest : List ℕ) (d : GroupMarks) (after : List Spanned) (xs : List Span)
    (ds : List Delimiter) (stream : List Spanned) → 1 ≤ m.start → text ≡ front ++ (piece.closing d ∷ rest)
    → (let span = span_at (next_position m + length front) 1 in IsStream
    (spanned (Closes (delimiter_of d)) (last_of span) ∷ after) xs ds stream)
    → AreBegun (next_position m) front xs ds
    → ((ys : List Span) (es : List Delimiter) (others : List Spanned) → IsStream after ys es others →
    AreBegun (next_position m) (front ++ piece.closing d ∷ []) ys es →
    Stands m text (front ++ piece.closing d ∷ []) ys es others)
    → Stands m text front xs ds stream
close_group m text front rest d after [] ds stream positive joined r b next =
    let f = first (Closes (delimiter_of d))
    (last_of (span_at (next_position m + length front) 1)) after [] ds stream r in
    absurd f.paired
close_group m text front rest d after (x ∷ xs) [] stream positive joined r b next = absurd b
close_group m text front rest d after (x ∷ xs) (g ∷ ds) stream positive joined r b next = by
    (same_delimiter g (delimiter_of d)) refl f.opened
  where
    f : First (Closes (delimiter_of d)) (last_of (span_at (next_position m + length front) 1)) after (x ∷ xs)
        (g ∷ ds) stream
    f = first (Closes (delimiter_of d)) (last_of (span_at (next_position m + length front) 1)) after (x ∷ xs)
        (g ∷ ds) stream r

    closes : g ≡ delimiter_of d → groups_open ds f.others ≡ Some [] → Stands m text front (x ∷ xs) (g ∷ ds) stream
    closes same opened =
        let base = next_position m in
        let n = base + length front in
        let e = delimiter_of d in
        let cs = piece.closing d ∷ [] in
        let i = b.0 in
        let c : closing g ≡ cs = ap closing same ∙ closed_as d in
        let whole = opening g ++ (i.inside ++ closing g) in
        let split : text ≡ front ++ (closing g ++ rest) = joined ∙ ap (λ o. front ++ (o ++ rest)) (sym c) in
        let all : text ≡ i.before ++ (whole ++ rest) =
        split ∙ ap (λ o. o ++ (closing g ++ rest)) i.joined ∙ append_assoc i.before (opening g ++ i.inside)
        (closing g ++ rest)
        ∙ ap (λ o. i.before ++ o) (sym (append_assoc (opening g ++ i.inside) (closing g) rest)
        ∙ ap (λ o. o ++ rest) (append_assoc (opening g) i.inside (closing g))) in
        let one : length (closing g) ≡ 1 = ap length c in
        let counts : length whole ≡ length (opening g) + (length i.inside + 1) = length-append (opening g)
        (i.inside ++ closing g) ∙ ap (λ o. length (opening g) + o) (length-append i.inside (closing g)
        ∙ ap (λ o. length i.inside + o) one) in
        let fronts : length front ≡ length i.before + (length (opening g) + length i.inside) = ap length i.joined
        ∙ length-append i.before (opening g ++ i.inside)
        ∙ ap (λ o. length i.before + o) (length-append (opening g) i.inside) in
        let start : f.span.start ≡ base + length i.before = ap (λ s. s.start) (sym f.paired.0) ∙ i.start_is in
        let ends : f.span.«end» ≡ n + 1 = same_end f.span (span_at n 1) f.placed in
        let long : f.span.«end» ≡ base + length i.before + length whole = omega arith in
        let source = found_at m text i.before whole rest f.span positive all
        (same_span f.span (span_at (base + length i.before) (length whole)) start long) in
        let w = next xs ds f.others (record { tokens_are = f.rest_are; paired = f.paired.1; opened = opened })
        (begun_on base front cs xs ds b.1) in
        let inside = within (Closes e) (span_at n 1) in
        let low : n ≤ (edge (Closes e) f.span).start = let l = inside.low in let p = ap (λ s. s.start) f.placed in
        omega arith in
        let high : (edge (Closes e) f.span).«end» ≤ base + length (front ++ cs) = let h = inside.high in
        let p = ap (λ s. s.«end») f.placed in let k = length-append front cs in omega arith in
        let end_is : x.«end» ≡ n + length (closing g) = let p = ap (λ s. s.«end») f.paired.0 in omega arith in
        let ended : IsEnded base text front x g = record {
          inside = [];
          rest = rest;
          joined = split;
          end_is = end_is;
        } in
        subst (λ s. Stands m text front (x ∷ xs) (g ∷ ds) s) (sym f.is)
        (token m text front cs (spanned (Closes e) f.span) (x ∷ xs) xs (g ∷ ds) ds f.others
        (whole, source, inl (i.inside, ap (λ o. opening o ++ (i.inside ++ closing o)) same)) low high
        (ended, ended_back base text front cs xs ds w.ended) w)

    by : (y : Bool) → same_delimiter g (delimiter_of d) ≡ y →
        option_and_then (λ es. groups_open es f.others) (cond y (Some ds) None) ≡ Some [] →
        Stands m text front (x ∷ xs) (g ∷ ds) stream
    by true h o = closes (same_true g (delimiter_of d) h) o
    by false h o = cc

-- the tokens of the pieces behind the front of a text
walk : (m : Sources) (text front : List ℕ) (ps : List Piece) (xs : List Span) (ds : List Delimiter)
    (stream : List Spanned) → 1 ≤ m.start → text ≡ front ++ onto ps [] → AreMade ps
    → IsStream (tokens_onto (next_position m + length front) ps []) xs ds stream →
    AreBegun (next_position m) front xs ds → Stands m text front xs ds stream
walk m text front [] xs ds stream positive joined are r b = empty stream r
  where
    empty : (stream : List Spanned) → IsStream [] xs ds stream → Stands m text front xs ds stream
    empty [] r = record {
      found = All-nil (IsFound (with_text m text));
      behind = All-nil (λ s. next_position m + length front ≤ (own_span s).start);
      ordered = λ i j d l h. absurd (omega arith);
      ended = subst (λ ys. AreEnded (next_position m) text front ys ds) (sym r.paired) tt;
    }
    empty (s ∷ ss) r = let e : [] ≡ edged s ∷ map edged ss = r.tokens_are in cc
walk m text front (p ∷ ps) xs ds stream positive joined are r b =
    by p.kind p.chars joined are.0 r (λ ys es others q c. walk m text (front ++ p.chars) ps ys es others positive
    (joined ∙ sym (append_assoc front p.chars (onto ps []))) are.1 (moved p.chars ys es others q) c)
  where
    moved : (cs : List ℕ) (ys : List Span) (es : List Delimiter) (others : List Spanned) →
        IsStream (tokens_onto (next_position m + length front + length cs) ps []) ys es others →
        IsStream (tokens_onto (next_position m + length (front ++ cs)) ps []) ys es others
    moved cs ys es others q =
        let k : next_position m + length (front ++ cs) ≡
        next_position m + length front + length cs = let l = length-append front cs in omega arith in
        record { tokens_are = ap (λ i. tokens_onto i ps []) k ∙ q.tokens_are; paired = q.paired; opened = q.opened }

    by : (k : PieceKind) (cs : List ℕ) → text ≡ front ++ (cs ++ onto ps []) → IsMade k cs (onto ps [])
        → IsStream (tokens_onto (next_position m + length front) (record { kind = k; chars = cs } ∷ ps) []) xs ds stream
        → ((ys : List Span) (es : List Delimiter) (others : List Spanned) →
        IsStream (tokens_onto (next_position m + length front + length cs) ps []) ys es others →
        AreBegun (next_position m) (front ++ cs) ys es → Stands m text (front ++ cs) ys es others)
        → Stands m text front xs ds stream
    by FrontMark cs j is r next = gap m text front cs xs ds stream
        (next xs ds stream r (begun_on (next_position m) front cs xs ds b))
    by White cs j is r next = gap m text front cs xs ds stream
        (next xs ds stream r (begun_on (next_position m) front cs xs ds b))
    by Comment cs j is r next = gap m text front cs xs ds stream
        (next xs ds stream r (begun_on (next_position m) front cs xs ds b))
    by (Doc kind) cs j is r next =
        let span = span_at (next_position m + length front) (length cs) in
        let ts = doc_marks kind ++ doc_group (doc_text kind cs) in
        let f = doc_tokens kind (doc_text kind cs) span (tokens_onto
        (next_position m + length front + length cs) ps []) xs ds stream r in
        let each = All-weaker (Contains ts) (λ t. IsOfDoc t cs)
        (λ t c. record { kind = kind; rest = onto ps []; doc = is; among = c }) ts (All-contains_itself ts) in
        let source = found_at m text front cs (onto ps []) span positive j refl in
        subst (λ s. Stands m text front xs ds s) (sym f.is)
        (docs m text front cs ts span xs ds f.others source refl each
        (next xs ds f.others f.reading (begun_on (next_position m) front cs xs ds b)))
    by (Open d) cs j is r next =
        open_group m text front (onto ps []) d
        (tokens_onto (next_position m + length front + 1) ps []) xs ds stream positive
        (subst (λ o. IsStream (tokens_onto (next_position m + length front)
        (record { kind = Open d; chars = o } ∷ ps) []) xs ds stream) is r) b
        (subst (λ o. (ys : List Span) (es : List Delimiter) (others : List Spanned) →
        IsStream (tokens_onto (next_position m + length front + length o) ps []) ys es others →
        AreBegun (next_position m) (front ++ o) ys es → Stands m text (front ++ o) ys es others) is next)
    by (Close d) cs j is r next =
        close_group m text front (onto ps []) d
        (tokens_onto (next_position m + length front + 1) ps []) xs ds stream positive
        (subst (λ o. text ≡ front ++ (o ++ onto ps [])) is j)
        (subst (λ o. IsStream (tokens_onto (next_position m + length front)
        (record { kind = Close d; chars = o } ∷ ps) []) xs ds stream) is r) b
        (subst (λ o. (ys : List Span) (es : List Delimiter) (others : List Spanned) →
        IsStream (tokens_onto (next_position m + length front + length o) ps []) ys es others →
        AreBegun (next_position m) (front ++ o) ys es → Stands m text (front ++ o) ys es others) is next)
    by Mark cs j is r next =
        leaf m text front cs (onto ps []) (Punct (head cs) (spacing_of (is_joint (cs ++ onto ps []))))
        (tokens_onto (next_position m + length front + length cs) ps []) xs ds stream positive j tt (is.1
        ∙ ap (λ o. head o ∷ []) (sym is.1)) r b
        (λ others q. next xs ds others q (begun_on (next_position m) front cs xs ds b))
    by kinds.Ident cs j is r next =
        leaf m text front cs (onto ps []) (Ident cs) (tokens_onto
        (next_position m + length front + length cs) ps []) xs ds stream positive j tt refl r b
        (λ others q. next xs ds others q (begun_on (next_position m) front cs xs ds b))
    by (kinds.Literal kind) cs j is r next =
        leaf m text front cs (onto ps []) (Literal cs) (tokens_onto
        (next_position m + length front + length cs) ps []) xs ds stream positive j tt refl r b
        (λ others q. next xs ds others q (begun_on (next_position m) front cs xs ds b))

of_forest : (m : Sources) (text : List ℕ) (stream : List Spanned) → 1 ≤ m.start →
    IsForest (next_position m) text stream → Stands m text [] [] [] stream
of_forest m text stream positive f =
    let k : next_position m + length {A = ℕ} [] ≡ next_position m = omega arith in
    walk m text [] f.pieces [] [] stream positive f.cover.joined (front_made f.pieces f.cover.fit)
    (record {
      tokens_are = ap (λ n. tokens_onto n f.pieces []) k ∙ forest_tokens (next_position m) text stream f;
      paired = f.paired;
      opened = f.matched;
    }) tt

pub tokens_found : (m : Sources) (text : List ℕ) (stream : List Spanned) → 1 ≤ m.start →
    IsForest (next_position m) text stream → All (IsFound (with_text m text)) stream
tokens_found m text stream positive f = (of_forest m text stream positive f).found

pub tokens_ordered : (m : Sources) (text : List ℕ) (stream : List Spanned) → 1 ≤ m.start →
    IsForest (next_position m) text stream → AllPairs (IsBehind (with_text m text)) stream
tokens_ordered m text stream positive f = (of_forest m text stream positive f).ordered
