-- What a piece adds to a builder.
use Rattle.std.proofs.Common.{◌≡◌, ℕ, zero, suc, ◌+◌, ◌-◌, ◌<◌, ◌≤◌, arith, List, [], ◌∷◌, ◌++◌, refl, sym, ap, ap₂}
use Rattle.std.proofs.Common.{◌∙◌, subst, length, map, append_assoc, add_assoc}
use Rattle.std.specs.Prelude.{Bool, true, false, cond, Some, None}
use Rattle.std.specs.List.{flat_map, All}
use Rattle.std.proofs.lemmas.List.{append-nil, map-append, flat_map_more, reverse-append}
use Rattle.std.proofs.lemmas.List.Elements.{All-push, All-weaker, All-pop}
use Rattle.std.proofs.lemmas.Bool.{lt-ltb}
use Rattle.rust_map.specs.Spans.{span_from, span_part, first_of, last_of}
use Rattle.rust_map.specs.declared.span.Span.{Span}
use Rattle.rust_lex.specs.Piece.{opening, closing, FitsAt}
use Rattle.rust_lex.specs.Scan.{is_joint}
use Rattle.rust_lex.specs.declared.group_marks.GroupMarks.{GroupMarks}
use Rattle.rust_lex.specs.declared.piece.DocKind.{DocKind}
use Rattle.rust_lex.specs.declared.piece.DocKind.TheVariants as doc
use Rattle.rust_lex.specs.declared.piece.PieceKind.{PieceKind}
use Rattle.rust_lex.specs.declared.piece.PieceKind.TheVariants as piece
use Rattle.proc_macro2.specs.declared.delimiter.Delimiter.TheVariants as delimiter
use Rattle.proc_macro2.specs.Token.{Delimiter, Token, Opens, Closes, Ident, Literal, Punct, Spanned}
use Rattle.proc_macro2.specs.Groups.{same_delimiter, IsMatched}
use Rattle.proc_macro2.specs.Flat.{spanned}
use Rattle.proc_macro2.specs.Pieces.{delimiter_of, edged, edged_at, all_at, span_at, spacing_of, head, doc_marks}
use Rattle.proc_macro2.specs.Pieces.{doc_group, doc_text}
use Rattle.proc_macro2.proofs.Followed.{tokens_before}
use Rattle.proc_macro2.specs.Forest.{ArePaired, openings_closed, open_behind}
use Rattle.proc_macro2.specs.Built.{opening_of, openings_of, parent_tokens, built, IsPut, stretch_span}
use Rattle.proc_macro2.specs.Stack.{Open, Parent}
use Rattle.proc_macro2.specs.declared.builder.Stretch.{Stretch}
use Rattle.proc_macro2.proofs.GroupLemmas.{matched_append, matched_group}
use Rattle.proc_macro2.proofs.Paired.{paired_append, paired_group}

-- a stream of whole trees
pub record IsWhole (ts : List Spanned) : Type 0 where
  pub matched : IsMatched ts
  pub paired : ArePaired [] ts

-- a frame whose mark stands before n characters
pub record IsParentIn (n : ℕ) (f : Parent) : Type 0 where
  pub small : f.count < n
  pub whole : IsWhole f.before

-- what a piece adds, which n characters precede
pub record Grows (base n : ℕ) (k : PieceKind) (cs rest : List ℕ) (fs : List Parent) (ss : List Spanned)
    (gs : List Parent) (us : List Spanned) : Type 0 where
  pub tokens : built base gs us
      ≡ built base fs ss ++ edged_at (span_at (base + n) (length cs)) (tokens_before k cs rest)
  pub opened : open_behind (openings_of fs) k n ≡ Some (openings_of gs)
  pub frames : All (IsParentIn (n + length cs)) gs
  pub whole : IsWhole us

pub no_tokens : IsWhole []
no_tokens = record { matched = refl; paired = refl }

pub whole_append : (xs ys : List Spanned) → IsWhole xs → IsWhole ys → IsWhole (xs ++ ys)
whole_append xs ys h k = record
    { matched = matched_append xs ys h.matched k.matched; paired = paired_append [] [] xs ys h.paired k.paired }

pub whole_group : (d : Delimiter) (span : Span) (xs : List Spanned) → IsWhole xs
    → IsWhole (spanned (Opens d) span ∷ xs ++ spanned (Closes d) span ∷ [])
whole_group d span xs h = record
    { matched = matched_group d span xs h.matched; paired = paired_group d span xs h.paired }

pub doc_whole : (kind : DocKind) (text : List ℕ) (span : Span)
    → IsWhole (all_at span (doc_marks kind ++ doc_group text))
doc_whole doc.OuterLine text span = record { matched = refl; paired = (refl, refl) }
doc_whole doc.InnerLine text span = record { matched = refl; paired = (refl, refl) }
doc_whole doc.OuterBlock text span = record { matched = refl; paired = (refl, refl) }
doc_whole doc.InnerBlock text span = record { matched = refl; paired = (refl, refl) }

frames_on : (n m : ℕ) (fs : List Parent) → n ≤ m → All (IsParentIn n) fs → All (IsParentIn m) fs
frames_on n m fs h a = All-weaker (IsParentIn n) (IsParentIn m)
    (λ f i. record { small = (let s = i.small in omega arith); whole = i.whole }) fs a

-- more trees in the stream
built_added : (base : ℕ) (fs gs : List Parent) (ss ts us : List Spanned) → gs ≡ fs → us ≡ ss ++ ts
    → built base gs us ≡ built base fs ss ++ map edged ts
built_added base fs gs ss ts us e f =
    ap₂ (built base) e f ∙ ap (λ x. flat_map (parent_tokens base) fs ++ x) (map-append edged ss ts)
    ∙ sym (append_assoc (flat_map (parent_tokens base) fs) (map edged ss) (map edged ts))

stretched : (s : Stretch) (cs : List ℕ) → s.to ≡ s.from + length cs
    → stretch_span s ≡ span_at (s.whole.start + s.from) (length cs)
stretched s cs e = ap (span_from (s.whole.start + s.from))
    (ap (λ m. s.whole.start + m) e ∙ sym (add_assoc s.whole.start s.from (length cs)))

pub grows_added : (fs gs : List Parent) (ss us : List Spanned) (s : Stretch) (k : PieceKind) (cs rest : List ℕ)
    (ts : List Token) → gs ≡ fs → us ≡ ss ++ all_at (stretch_span s) ts → ts ≡ tokens_before k cs rest →
    open_behind (openings_of fs) k s.from ≡ Some (openings_of fs) → IsWhole (all_at (stretch_span s) ts) →
    s.to ≡ s.from + length cs → All (IsParentIn s.from) fs → IsWhole ss
    → Grows s.whole.start s.from k cs rest fs ss gs us
grows_added fs gs ss us s k cs rest ts a b t o w e f h = record {
  tokens = built_added s.whole.start fs gs ss (all_at (stretch_span s) ts) us a b
      ∙ ap (λ x. built s.whole.start fs ss ++ x) (ap₂ edged_at (stretched s cs e) t);
  opened = o ∙ ap (λ x. Some (openings_of x)) (sym a);
  frames = subst (All (IsParentIn (s.from + length cs))) (sym a)
      (frames_on s.from (s.from + length cs) fs (omega arith) f);
  whole = subst IsWhole (sym b) (whole_append ss (all_at (stretch_span s) ts) h w);
}

pub openings_push : (fs : List Parent) (f : Parent) → openings_of (fs ++ f ∷ []) ≡ opening_of f ∷ openings_of fs
openings_push fs f = ap (map opening_of) (reverse-append fs (f ∷ []))

built_opened : (base : ℕ) (fs : List Parent) (f : Parent)
    → built base (fs ++ f ∷ []) []
    ≡ built base fs f.before ++ edged (spanned (Opens f.delimiter) (span_at (base + f.count) 1)) ∷ []
built_opened base fs f =
    append-nil (flat_map (parent_tokens base) (fs ++ f ∷ [])) ∙ sym (flat_map_more (parent_tokens base) [] fs f)
    ∙ sym (append_assoc (flat_map (parent_tokens base) fs) (map edged f.before)
    (edged (spanned (Opens f.delimiter) (span_at (base + f.count) 1)) ∷ []))

pub grows_opened : (fs gs : List Parent) (ss us : List Spanned) (s : Stretch) (d : GroupMarks) (cs rest : List ℕ)
    → gs ≡ fs ++ record { delimiter = delimiter_of d; count = s.from; before = ss } ∷ [] → us ≡ []
    → cs ≡ opening d ∷ [] →
    All (IsParentIn s.from) fs → IsWhole ss → Grows s.whole.start s.from (piece.Open d) cs rest fs ss gs us
grows_opened fs gs ss us s d cs rest a b e f h =
    let frame : Parent = record { delimiter = delimiter_of d; count = s.from; before = ss } in
    let l : 1 ≡ length cs = sym (ap length e) in
    record {
      tokens = ap₂ (built s.whole.start) a b ∙ built_opened s.whole.start fs frame
          ∙ ap (λ m. built s.whole.start fs ss ++ edged_at (span_at (s.whole.start + s.from) m)
          (Opens (delimiter_of d) ∷ [])) l;
      opened = ap (λ x. Some x) (sym (openings_push fs frame)) ∙ ap (λ x. Some (openings_of x)) (sym a);
      frames = subst (All (IsParentIn (s.from + length cs))) (sym a)
          (All-push (IsParentIn (s.from + length cs)) fs frame
          (frames_on s.from (s.from + length cs) fs (omega arith) f) (record { small = omega arith; whole = h }));
      whole = subst IsWhole (sym b) no_tokens;
    }

-- the first and the last character of a span
first_is : (a b : ℕ) → a < b → first_of (span_from a b) ≡ span_from a (a + 1)
first_is a b h = rw (lt-ltb a b h) refl

last_is : (a b : ℕ) → a < b → last_of (span_from a b) ≡ span_from (b - 1) b
last_is a b h = rw (lt-ltb a b h) refl

pub same_self : (d : Delimiter) → same_delimiter d d ≡ true
same_self delimiter.Parenthesis = refl
same_self delimiter.Brace = refl
same_self delimiter.Bracket = refl
same_self delimiter.None = refl

-- a group's two tokens, where they stand
edges : (d c : Delimiter) (base n from to count : ℕ) → n < from → to ≡ from + count → count ≡ 1 → c ≡ d →
    (edged (spanned (Opens d) (span_from (base + n) (base + to))) ≡ edged (spanned (Opens c) (span_at (base + n) 1)))
    × (edged (spanned (Closes d) (span_from (base + n) (base + to)))
    ≡ edged (spanned (Closes d) (span_at (base + from) count)))
edges d c base n from to count h e o s =
    let first = first_is (base + n) (base + to) (omega arith) in
    let one = first_is (base + n) (base + n + 1) (omega arith) in
    let last = last_is (base + n) (base + to) (omega arith) in
    let end = last_is (base + from) (base + from + count) (omega arith) in
    let same : base + to ≡ base + from + count = omega arith in (
      ap₂ (λ x y. spanned (Opens x) y) (sym s) (first ∙ sym one),
      ap (spanned (Closes d)) (last ∙ ap (λ m. span_from (m - 1) m) same ∙ sym end),
    )

regrouped : (a b s : List Spanned) (x y : Spanned)
    → a ++ (b ++ (x ∷ (s ++ y ∷ []))) ≡ ((a ++ (b ++ x ∷ [])) ++ s) ++ y ∷ []
regrouped a b s x y = simp append_assoc

pub grows_closed : (fs gs : List Parent) (ss us : List Spanned) (s : Stretch) (d : GroupMarks) (cs rest : List ℕ)
    → (frame : Parent) → fs ≡ gs ++ frame ∷ [] → frame.delimiter ≡ delimiter_of d →
    us ≡ frame.before ++ (spanned (Opens (delimiter_of d)) (span_part s.whole frame.count s.to) ∷ ss ++ spanned
    (Closes (delimiter_of d)) (span_part s.whole frame.count s.to) ∷ []) → cs ≡ closing d ∷ [] →
    s.to ≡ s.from + length cs → All (IsParentIn s.from) fs → IsWhole ss
    → Grows s.whole.start s.from (piece.Close d) cs rest fs ss gs us
grows_closed fs gs ss us s d cs rest frame were same is e t f h =
    let base = s.whole.start in
    let span = span_part s.whole frame.count s.to in
    let D = delimiter_of d in
    let popped = All-pop (IsParentIn s.from) fs gs (Some frame) were f in
    let inside : IsParentIn s.from frame = popped.1 in
    let both = edges D frame.delimiter base frame.count s.from s.to (length cs) inside.small t (ap length e) same in
    let spread : map edged us ≡ map edged frame.before ++
    (edged (spanned (Opens D) span) ∷ (map edged ss ++ edged (spanned (Closes D) span) ∷ [])) =
    ap (map edged) is ∙ map-append edged frame.before (spanned (Opens D) span ∷ ss ++ spanned (Closes D) span ∷ [])
    ∙ ap (λ x. map edged frame.before ++ (edged (spanned (Opens D) span) ∷ x))
    (map-append edged ss (spanned (Closes D) span ∷ [])) in
    let moved : map edged frame.before ++
    (edged (spanned (Opens D) span) ∷ (map edged ss ++ edged (spanned (Closes D) span) ∷ []))
    ≡ map edged frame.before ++
    (edged (spanned (Opens frame.delimiter) (span_at (base + frame.count) 1)) ∷
    (map edged ss ++ edged (spanned (Closes D) (span_at (base + s.from) (length cs))) ∷ [])) =
    ap₂ (λ x y. map edged frame.before ++ (x ∷ (map edged ss ++ y ∷ []))) both.0 both.1 in
    let before : flat_map (parent_tokens base) gs ++ parent_tokens base frame ≡ flat_map (parent_tokens base) fs =
    flat_map_more (parent_tokens base) [] gs frame ∙ ap (flat_map (parent_tokens base)) (sym were) in
    record {
      tokens = ap (λ x. flat_map (parent_tokens base) gs ++ x) (spread ∙ moved)
          ∙ regrouped (flat_map (parent_tokens base) gs) (map edged frame.before) (map edged ss) _ _
          ∙ ap (λ x. (x ++ map edged ss) ++ edged (spanned (Closes D) (span_at (base + s.from) (length cs))) ∷ [])
          before;
      opened = ap (λ x. openings_closed x D) (ap openings_of were ∙ openings_push gs frame)
          ∙ ap (λ b. cond b (Some (openings_of gs)) None) (ap (λ x. same_delimiter x D) same ∙ same_self D);
      frames = frames_on s.from (s.from + length cs) gs (omega arith) popped.0;
      whole = subst IsWhole (sym is)
          (whole_append frame.before (spanned (Opens D) span ∷ ss ++ spanned (Closes D) span ∷ []) inside.whole
          (whole_group D span ss h));
    }

pub fits_open : (at : ℕ) (d : GroupMarks) (cs rest : List ℕ) → FitsAt at (piece.Open d) cs rest → cs ≡ opening d ∷ []
fits_open zero d cs rest h = h
fits_open (suc n) d cs rest h = h

pub fits_close : (at : ℕ) (d : GroupMarks) (cs rest : List ℕ) → FitsAt at (piece.Close d) cs rest
    → cs ≡ closing d ∷ []
fits_close zero d cs rest h = h
fits_close (suc n) d cs rest h = h

pub put_grows : (at : ℕ) (k : PieceKind) (old new : Open) (s : Stretch) (cs rest : List ℕ) (joint : Bool)
    → IsPut k true old new s cs joint → FitsAt at k cs rest → (k ≡ piece.Mark → joint ≡ is_joint (cs ++ rest)) →
    s.to ≡ s.from + length cs → All (IsParentIn s.from) old.groups → IsWhole old.inside
    → Grows s.whole.start s.from k cs rest old.groups old.inside new.groups new.inside
put_grows at piece.FrontMark old new s cs rest joint p q j e f h =
    grows_added old.groups new.groups old.inside new.inside s piece.FrontMark cs rest [] p.1.groups_are p.1.inside_is
    refl refl no_tokens e f h
put_grows at piece.White old new s cs rest joint p q j e f h =
    grows_added old.groups new.groups old.inside new.inside s piece.White cs rest [] p.1.groups_are p.1.inside_is refl
    refl no_tokens e f h
put_grows at piece.Comment old new s cs rest joint p q j e f h =
    grows_added old.groups new.groups old.inside new.inside s piece.Comment cs rest [] p.1.groups_are p.1.inside_is refl
    refl no_tokens e f h
put_grows at (piece.Doc kind) old new s cs rest joint p q j e f h =
    grows_added old.groups new.groups old.inside new.inside s (piece.Doc kind) cs rest
    (doc_marks kind ++ doc_group (doc_text kind cs)) p.1.groups_are p.1.inside_is refl refl
    (doc_whole kind (doc_text kind cs) (stretch_span s)) e f h
put_grows at (piece.Open d) old new s cs rest joint p q j e f h =
    grows_opened old.groups new.groups old.inside new.inside s d cs rest p.1.groups_are p.1.inside_is
    (fits_open at d cs rest q) f h
put_grows at (piece.Close d) old new s cs rest joint p q j e f h =
    grows_closed old.groups new.groups old.inside new.inside s d cs rest p.group p.groups_were p.same p.inside_is
    (fits_close at d cs rest q) e f h
put_grows at piece.Mark old new s cs rest joint p q j e f h =
    grows_added old.groups new.groups old.inside new.inside s piece.Mark cs rest
    (Punct (head cs) (spacing_of joint) ∷ []) p.1.groups_are p.1.inside_is
    (ap (λ b. Punct (head cs) (spacing_of b) ∷ []) (j refl)) refl (record { matched = refl; paired = refl }) e f h
put_grows at piece.Ident old new s cs rest joint p q j e f h =
    grows_added old.groups new.groups old.inside new.inside s piece.Ident cs rest (Ident cs ∷ []) p.1.groups_are
    p.1.inside_is refl refl (record { matched = refl; paired = refl }) e f h
put_grows at (piece.Literal kind) old new s cs rest joint p q j e f h =
    grows_added old.groups new.groups old.inside new.inside s (piece.Literal kind) cs rest (Literal cs ∷ [])
    p.1.groups_are p.1.inside_is refl refl (record { matched = refl; paired = refl }) e f h

-- what isn't put is a closing mark that closes nothing
pub record Refuses (k : PieceKind) (old : Open) : Type 0 where
  pub delimiter : GroupMarks
  pub is : k ≡ piece.Close delimiter
  pub wrong : openings_closed (openings_of old.groups) (delimiter_of delimiter) ≡ None

pub put_refuses : (k : PieceKind) (old new : Open) (s : Stretch) (cs : List ℕ) (joint : Bool)
    → IsPut k false old new s cs joint → Refuses k old
put_refuses piece.FrontMark old new s cs joint p = let e = p.0 in cc
put_refuses piece.White old new s cs joint p = let e = p.0 in cc
put_refuses piece.Comment old new s cs joint p = let e = p.0 in cc
put_refuses (piece.Doc kind) old new s cs joint p = let e = p.0 in cc
put_refuses (piece.Open d) old new s cs joint p = let e = p.0 in cc
put_refuses (piece.Close d) old new s cs joint p = record { delimiter = d; is = refl; wrong = p }
put_refuses piece.Mark old new s cs joint p = let e = p.0 in cc
put_refuses piece.Ident old new s cs joint p = let e = p.0 in cc
put_refuses (piece.Literal kind) old new s cs joint p = let e = p.0 in cc
