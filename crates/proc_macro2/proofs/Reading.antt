-- What is read of a text, up to a place: one piece on, to its end, and to its fault.
use Rattle.std.proofs.Common.{◌≡◌, ◌≢◌, ℕ, zero, suc, ◌+◌, ◌≤◌, ◌<◌, arith, List, [], ◌∷◌, ◌++◌, refl, sym, ap, ap₂}
use Rattle.std.proofs.Common.{◌∙◌, subst, length, drop, inl, inr, length-append, length-drop, append-nil}
use Rattle.std.specs.Prelude.{Some, encode_utf8_all}
use Rattle.std.specs.List.{All}
use Rattle.std.specs.Str.{chars, IsUtf8}
use Rattle.std.proofs.lemmas.List.Elements.{All-nil, All-pop}
use Rattle.std.proofs.lemmas.Str.{encodes-chars}
use Rattle.rust_map.specs.Spans.{span_from, span_part}
use Rattle.rust_map.specs.declared.span.Span.{Span}
use Rattle.rust_map.specs.Places.{place_of}
use Rattle.rust_lex.specs.Piece.{Piece, FitsAt, closing}
use Rattle.rust_lex.specs.Cover.{onto, Covers, NoPieceAt}
use Rattle.rust_lex.specs.Places.{rest_at, between_places, IsPlace, IsBehind}
use Rattle.rust_lex.specs.declared.piece.PieceKind.{PieceKind}
use Rattle.rust_lex.specs.declared.piece.PieceKind.TheVariants.{White}
use Rattle.rust_lex.proofs.Covering.{CoversTo, covers_none, covers_on}
use Rattle.rust_lex.proofs.Pieces.{between_joined}
use Rattle.rust_lex.proofs.PlacesLemmas.{rest_end}
use Rattle.proc_macro2.proofs.Followed.{tokens_onto, onto_same}
use Rattle.proc_macro2.specs.Forest.{Opening, openings, open_behind, count, IsForest, Reaches, IsFaultBehind, IsFault}
use Rattle.proc_macro2.specs.Built.{openings_of, opening_of, built}
use Rattle.proc_macro2.specs.Stack.{IsInnermost, Open}
use Rattle.proc_macro2.specs.declared.builder.Stretch.{Stretch}
use Rattle.rust_map.specs.declared.fault.LexFault.{LexFault}
use Rattle.rust_map.specs.declared.fault.LexFault.TheVariants.{Lex, MapFull, Memory}
use Rattle.proc_macro2.specs.FileForest.{HasShebang, IsFileFault, NoShebang}
use Rattle.proc_macro2.proofs.Covering.{onto_rest, count_more, tokens_at, tokens_more, openings_more}
use Rattle.proc_macro2.proofs.Building.{IsWhole, IsParentIn, Grows, Refuses, no_tokens, grows_added, fits_close}
use Rattle.proc_macro2.proofs.Building.{openings_push}

-- reading reaches the place, which n characters precede, and so far this was built
pub record ReadTo (base : ℕ) (bytes : List ℕ) (at n : ℕ) (builder : Open) : Type 0 where
  pub pieces : List Piece
  pub covers : CoversTo bytes pieces at
  pub opened : openings [] 0 pieces ≡ Some (openings_of builder.groups)
  pub counted : n ≡ count pieces
  pub begun : n ≡ 0 → at ≡ 0
  pub tokens : tokens_onto base pieces (rest_at bytes at) ≡ built base builder.groups builder.inside
  pub frames : All (IsParentIn n) builder.groups
  pub whole : IsWhole builder.inside

pub read_none : (base : ℕ) (bytes : List ℕ) (builder : Open) → IsUtf8 bytes → builder.groups ≡ [] → builder.inside ≡ []
    → ReadTo base bytes 0 0 builder
read_none base bytes builder u e f = record {
  pieces = [];
  covers = covers_none bytes u;
  opened = ap (λ x. Some (openings_of x)) (sym e);
  counted = refl;
  begun = λ h. refl;
  tokens = ap₂ (built base) (sym e) (sym f);
  frames = subst (All (IsParentIn 0)) (sym e) (All-nil (IsParentIn 0));
  whole = subst IsWhole (sym f) no_tokens;
}

-- between two places there are characters
pub some_between : (bytes : List ℕ) (at end : ℕ) → IsPlace bytes at → IsBehind bytes at end
    → 0 < length (between_places bytes at end)
some_between bytes at end p b = filled (between_places bytes at end) (between_joined bytes at end p b)
  where
    filled : (cs : List ℕ) → rest_at bytes at ≡ cs ++ rest_at bytes end → 0 < length cs
    filled [] e =
        let same : drop at bytes ≡ drop end bytes = sym (encodes-chars (drop at bytes) p.cut) ∙ ap encode_utf8_all e
        ∙ encodes-chars (drop end bytes) b.place.cut in
        let l : length (drop at bytes) ≡ length (drop end bytes) = ap length same in
        absurd (let on = b.on in let w = b.place.within in omega (arith, length-drop at bytes, length-drop end bytes))
    filled (c ∷ cs) e = omega arith

pub read_on : (base : ℕ) (bytes : List ℕ) (at end n : ℕ) (k : PieceKind) (old new : Open) → ReadTo base bytes at n old
    → FitsAt at k (between_places bytes at end) (rest_at bytes end) → IsBehind bytes at end →
    Grows base n k (between_places bytes at end) (rest_at bytes end) old.groups old.inside new.groups new.inside
    → ReadTo base bytes end (n + length (between_places bytes at end)) new
read_on base bytes at end n k old new r f b g =
    let cs = between_places bytes at end in
    let rest = rest_at bytes end in
    let p : Piece = record { kind = k; chars = cs } in
    let joined : rest_at bytes at ≡ cs ++ rest = between_joined bytes at end r.covers.place b in
    let some = some_between bytes at end r.covers.place b in
    record {
      pieces = r.pieces ++ p ∷ [];
      covers = covers_on bytes r.pieces at end k r.covers f b;
      opened = openings_more [] _ _ r.pieces p r.opened
          (subst (λ m. open_behind (openings_of old.groups) k m ≡ Some (openings_of new.groups)) r.counted g.opened);
      counted = ap (λ m. m + length cs) r.counted ∙ sym (count_more r.pieces p);
      begun = λ h. absurd (omega arith);
      tokens = tokens_more base r.pieces p (rest_at bytes at) rest joined
          ∙ ap₂ (λ x m. x ++ tokens_at (base + m) p rest) r.tokens (sym r.counted) ∙ sym g.tokens;
      frames = g.frames;
      whole = g.whole;
    }

-- a white character alone
white_one : (at : ℕ) (cs rest : List ℕ) → FitsAt at White cs rest → length cs ≡ 1
white_one zero [] rest h = absurd h
white_one (suc n) [] rest h = absurd h
white_one at (c ∷ []) rest h = refl
white_one zero (c ∷ d ∷ cs) rest h = absurd h
white_one (suc n) (c ∷ d ∷ cs) rest h = absurd h

pub read_white : (base : ℕ) (bytes : List ℕ) (at end n : ℕ) (builder : Open) → ReadTo base bytes at n builder
    → FitsAt at White (between_places bytes at end) (rest_at bytes end) → IsBehind bytes at end
    → ReadTo base bytes end (n + 1) builder
read_white base bytes at end n builder r f b =
    let cs = between_places bytes at end in
    let there : Stretch = record { whole = span_from base base; from = n; to = n + length cs } in
    let grown = grows_added builder.groups builder.groups builder.inside builder.inside there White cs
    (rest_at bytes end) [] refl (sym (append-nil builder.inside)) refl refl no_tokens refl r.frames r.whole in
    subst (λ m. ReadTo base bytes end (n + m) builder) (white_one at cs (rest_at bytes end) f)
    (read_on base bytes at end n White builder builder r f b grown)

-- so many characters stand before a place, and the others behind it
pub lengths : (base : ℕ) (bytes : List ℕ) (at n : ℕ) (builder : Open) (r : ReadTo base bytes at n builder)
    → length (chars bytes) ≡ n + length (rest_at bytes at)
lengths base bytes at n builder r =
    ap length (r.covers.covers.joined ∙ onto_rest r.pieces (rest_at bytes at))
    ∙ length-append (onto r.pieces []) (rest_at bytes at) ∙ ap (λ m. m + length (rest_at bytes at)) (sym r.counted)

pub lengths_on : (base : ℕ) (bytes : List ℕ) (at end n : ℕ) (builder : Open) → ReadTo base bytes at n builder
    → IsBehind bytes at end → n + length (between_places bytes at end) ≤ length (chars bytes)
lengths_on base bytes at end n builder r b =
    let l = lengths base bytes at n builder r in
    let e : length (rest_at bytes at) ≡ length (between_places bytes at end ++ rest_at bytes end) =
    ap length (between_joined bytes at end r.covers.place b) in
    omega (arith, length-append (between_places bytes at end) (rest_at bytes end))

-- pieces and a rest that is known
reached : (base : ℕ) (bytes rest : List ℕ) (at n : ℕ) (builder : Open) (groups : List Opening)
    (r : ReadTo base bytes at n builder) → rest_at bytes at ≡ rest → openings_of builder.groups ≡ groups
    → Reaches (chars bytes) r.pieces rest groups
reached base bytes rest at n builder groups r e g = record {
  covers = subst (λ x. Covers (chars bytes) r.pieces x) e r.covers.covers;
  opened = r.opened ∙ ap (λ x. Some x) g;
}

pub read_all : (base : ℕ) (bytes : List ℕ) (at n : ℕ) (builder : Open) → ReadTo base bytes at n builder
    → length bytes ≤ at → builder.groups ≡ [] → IsForest base (chars bytes) builder.inside
read_all base bytes at n builder r h e =
    let q = reached base bytes [] at n builder [] r (rest_end bytes at h) (ap openings_of e) in
    record {
      pieces = r.pieces;
      cover = q.covers;
      tokens_are = onto_same base r.pieces q.covers.fit ∙ ap (tokens_onto base r.pieces) (sym (rest_end bytes at h))
          ∙ r.tokens ∙ ap (λ x. built base x builder.inside) e;
      matched = r.whole.matched;
      paired = r.whole.paired;
    }

more_there : (bytes : List ℕ) (at : ℕ) → IsPlace bytes at → at < length bytes → rest_at bytes at ≢ []
more_there bytes at p h e =
    let none : drop at bytes ≡ [] = sym (encodes-chars (drop at bytes) p.cut) ∙ ap encode_utf8_all e in
    let len : length (drop at bytes) ≡ 0 = ap length none in
    omega (arith, length-drop at bytes)

-- the front of a text is that in bytes and in characters
none_by_count : (at n : ℕ) (rest : List ℕ) → (n ≡ 0 → at ≡ 0) → (at ≡ 0 → n ≡ 0) → NoPieceAt at rest → NoPieceAt n rest
none_by_count zero zero rest f g h = h
none_by_count zero (suc n) rest f g h = let e = g refl in absurd (omega arith)
none_by_count (suc at) zero rest f g h = let e = f refl in absurd (omega arith)
none_by_count (suc at) (suc n) rest f g h = h

pub stray_at : (base : ℕ) (bytes : List ℕ) (at n : ℕ) (builder : Open) → ReadTo base bytes at n builder
    → at < length bytes → NoPieceAt at (rest_at bytes at) → IsFaultBehind (chars bytes) n
stray_at base bytes at n builder r h none = inl (record {
  pieces = r.pieces;
  rest = rest_at bytes at;
  groups = openings_of builder.groups;
  reaches = reached base bytes (rest_at bytes at) at n builder (openings_of builder.groups) r refl refl;
  more = more_there bytes at r.covers.place h;
  none = subst (λ m. NoPieceAt m (rest_at bytes at)) r.counted
      (none_by_count at n (rest_at bytes at) r.begun (λ e. r.counted ∙ ap count (r.covers.front e)) none);
  there = r.counted;
})

pub unmatched_at : (base : ℕ) (bytes : List ℕ) (at end n : ℕ) (k : PieceKind) (builder : Open)
    → ReadTo base bytes at n builder → FitsAt at k (between_places bytes at end) (rest_at bytes end)
    → IsBehind bytes at end
    → Refuses k builder → IsFaultBehind (chars bytes) n
unmatched_at base bytes at end n k builder r f b w =
    let is : between_places bytes at end ≡ closing w.delimiter ∷ [] =
    fits_close at w.delimiter (between_places bytes at end) (rest_at bytes end)
    (subst (λ x. FitsAt at x (between_places bytes at end) (rest_at bytes end)) w.is f) in
    let joined : rest_at bytes at ≡ closing w.delimiter ∷ rest_at bytes end =
    between_joined bytes at end r.covers.place b ∙ ap (λ x. x ++ rest_at bytes end) is in
    inr (inl (record {
      pieces = r.pieces;
      rest = rest_at bytes end;
      groups = openings_of builder.groups;
      delimiter = w.delimiter;
      reaches = reached base bytes _ at n builder (openings_of builder.groups) r joined refl;
      wrong = w.wrong;
      there = r.counted;
    }))

pub unclosed_at : (base : ℕ) (bytes : List ℕ) (at n m : ℕ) (builder : Open) → ReadTo base bytes at n builder
    → length bytes ≤ at → IsInnermost builder.groups m → IsFaultBehind (chars bytes) m
unclosed_at base bytes at n m builder r h i = inr (inr (record {
  pieces = r.pieces;
  innermost = opening_of i.group;
  others = openings_of i.others;
  reaches = reached base bytes [] at n builder (opening_of i.group ∷ openings_of i.others) r (rest_end bytes at h)
      (ap openings_of i.are ∙ openings_push i.others i.group);
  there = sym i.count_is;
}))

pub last_frame : (base : ℕ) (bytes : List ℕ) (at n m : ℕ) (builder : Open) → ReadTo base bytes at n builder
    → IsInnermost builder.groups m → m ≤ length (chars bytes)
last_frame base bytes at n m builder r i =
    let small = (All-pop (IsParentIn n) builder.groups i.others (Some i.group) i.are r.frames).1 in
    let s = small.small in
    let l = lengths base bytes at n builder r in
    let e = i.count_is in
    omega arith

-- what is said of a fault
pub told : (bytes : List ℕ) (whole : Span) (n : ℕ) (fault : LexFault)
    → fault ≡ Lex (record { span = span_part whole n n; place = place_of (chars bytes) n })
    → IsFaultBehind (chars bytes) n → IsFault whole.start (chars bytes) fault
told bytes whole n fault e f = rw e (record { behind = n; fault = f; place_is = refl; span_is = refl })

-- and in a file
pub file_told : (bytes line rest : List ℕ) (whole : Span) (count more : ℕ) (fault : LexFault)
    → fault ≡ Lex
    (record { span = span_part whole (count + more) (count + more); place = place_of (chars bytes) (count + more) })
    → HasShebang (chars bytes) line rest count → IsFaultBehind rest more →
    IsFileFault whole.start (chars bytes) fault
file_told bytes line rest whole count more fault e h f = rw e (record {
  behind = count + more;
  fault = inr (record {
    line = line;
    rest = rest;
    count = count;
    shebang = h;
    behind = more;
    fault = f;
    there = refl;
  });
  place_is = refl;
  span_is = refl;
})

pub plain_fault : (base : ℕ) (text : List ℕ) (fault : LexFault) → NoShebang text → IsFault base text fault
    → IsFileFault base text fault
plain_fault base text (Lex error) n f =
    record { behind = f.behind; fault = inl (n, f.fault); place_is = f.place_is; span_is = f.span_is }
plain_fault base text MapFull n f = tt
plain_fault base text Memory n f = tt
