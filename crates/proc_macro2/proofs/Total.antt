-- Every text has a forest or a fault.
use Rattle.std.proofs.Common.{◌≡◌, ℕ, zero, suc, ◌+◌, ◌≤◌, arith, List, [], ◌∷◌, ◌++◌, refl, sym, ap, ◌∙◌, subst}
use Rattle.std.proofs.Common.{length, inl, inr, ⊎_elim, length-append}
use Rattle.std.specs.Prelude.{Bool, true, false, cond, Some, None, ◌⊎◌}
use Rattle.std.specs.List.{All}
use Rattle.std.proofs.lemmas.List.Elements.{All-nil}
use Rattle.rust_map.specs.declared.place.LineColumn.{LineColumn}
use Rattle.rust_map.specs.Places.{place_of}
use Rattle.rust_map.specs.Spans.{span_from}
use Rattle.rust_lex.specs.declared.group_marks.GroupMarks.{GroupMarks}
use Rattle.rust_escape.specs.declared.mode.Mode.{Mode}
use Rattle.rust_escape.specs.declared.mode.Mode.TheVariants as modes
use Rattle.rust_lex.specs.declared.piece.LiteralKind.{LiteralKind}
use Rattle.rust_lex.specs.declared.piece.PieceKind.{PieceKind}
use Rattle.rust_lex.specs.declared.piece.PieceKind.TheVariants as piece
use Rattle.rust_lex.specs.Chars.{begins, is_digit}
use Rattle.rust_lex.specs.Quoted.{opening_of as quote_of}
use Rattle.rust_lex.specs.Piece.{Piece, Fits, FitsFront, FitsAt, IsBody, IsLiteral, closing}
use Rattle.rust_lex.specs.Cover.{onto, AreFit, AreFitFront}
use Rattle.rust_lex.specs.Scan.{Scanned, Nowhere, Ends, scan_at}
use Rattle.rust_lex.proofs.Complete.{complete_at}
use Rattle.rust_lex.proofs.Sound.{FoundAt, sound_at, front_fits}
use Rattle.proc_macro2.specs.declared.delimiter.Delimiter.TheVariants as delimiter
use Rattle.proc_macro2.specs.Token.{Delimiter, Spanned}
use Rattle.proc_macro2.specs.Groups.{same_delimiter}
use Rattle.proc_macro2.specs.Pieces.{delimiter_of, all_at}
use Rattle.proc_macro2.proofs.Followed.{tokens_onto, tokens_before, onto_same}
use Rattle.proc_macro2.specs.Forest.{openings, open_behind, openings_closed, count, IsForest, Reaches}
use Rattle.proc_macro2.specs.Forest.{IsFaultBehind, IsLexicalFault}
use Rattle.proc_macro2.specs.Built.{openings_of, opening_of, built, stretch_span}
use Rattle.proc_macro2.specs.Stack.{Parent}
use Rattle.proc_macro2.specs.declared.builder.Stretch.{Stretch}
use Rattle.proc_macro2.proofs.Covering.{onto_append, count_more, tokens_at, tokens_more, openings_more}
use Rattle.proc_macro2.proofs.Building.{IsWhole, IsParentIn, Grows, no_tokens, doc_whole, fits_open, fits_close}
use Rattle.proc_macro2.proofs.Building.{openings_push, grows_added, grows_opened, grows_closed}
use Rattle.proc_macro2.proofs.Docs.{doc_long}
use Rattle.proc_macro2.proofs.Puts.{front_cases}

-- a piece has characters
opened_some : (mode : Mode) (tail : List ℕ) → [] ≡ quote_of mode ++ tail → ⊥
opened_some modes.Char tail e = cc
opened_some modes.Byte tail e = cc
opened_some modes.Str tail e = cc
opened_some modes.ByteStr tail e = cc
opened_some modes.CStr tail e = cc
opened_some modes.RawStr tail e = cc
opened_some modes.RawByteStr tail e = cc
opened_some modes.RawCStr tail e = cc

body_some : (kind : LiteralKind) (body rest : List ℕ) → IsBody kind body rest → [] ≡ body → ⊥
body_some kind body rest h e =
    ⊎_elim
    (λ (mode, tail, k, j, i). opened_some mode tail (e ∙ j))
    (λ n. (let b = subst (λ x. begins is_digit x ≡ true) (sym e) n.0 in cc))
    h

literal_some : (kind : LiteralKind) (rest : List ℕ) → IsLiteral kind [] rest → ⊥
literal_some kind rest ([], suffix, e, b, s) = body_some kind [] (suffix ++ rest) b refl
literal_some kind rest (c ∷ cs, suffix, e, b, s) = cc

fits_some : (k : PieceKind) (rest : List ℕ) → Fits k [] rest → ⊥
fits_some piece.FrontMark rest h = h
fits_some piece.White rest h = h
fits_some piece.Comment rest h = h
fits_some (piece.Doc kind) rest h = let l = doc_long kind [] rest h in omega arith
fits_some (piece.Open d) rest h = cc
fits_some (piece.Close d) rest h = cc
fits_some piece.Mark rest (c, e, m) = cc
fits_some piece.Ident rest h = ⊎_elim (λ w. w.0) (λ (name, e, w, k). cc) h.1
fits_some (piece.Literal kind) rest h = literal_some kind rest h

some_at : (n : ℕ) (k : PieceKind) (rest : List ℕ) → FitsAt n k [] rest → ⊥
some_at zero k rest h = ⊎_elim
    (λ e. (let f : FitsFront piece.FrontMark [] rest = subst (λ x. FitsFront x [] rest) e h in cc)) (fits_some k rest)
    (front_cases k [] rest h)
some_at (suc n) k rest h = fits_some k rest h

shorter : (n : ℕ) (k : PieceKind) (cs text rest : List ℕ) (m : ℕ) → FitsAt n k cs rest → text ≡ cs ++ rest
    → length text ≤ suc m → length rest ≤ m
shorter n k [] text rest m f e h = absurd (some_at n k rest f)
shorter n k (c ∷ cs) text rest m f e h = let l : length text ≡ length (c ∷ cs ++ rest) =
    ap length e in omega (arith, length-append cs rest)

-- what is read of a text, and the frames and the stream that stand for it
record Reads (base : ℕ) (text rest : List ℕ) (ps : List Piece) (fs : List Parent) (ss : List Spanned) : Type 0 where
  joined : text ≡ onto ps rest
  fit : AreFitFront ps rest
  begun : count ps ≡ 0 → ps ≡ []
  opened : openings [] 0 ps ≡ Some (openings_of fs)
  tokens : tokens_onto base ps rest ≡ built base fs ss
  frames : All (IsParentIn (count ps)) fs
  whole : IsWhole ss

reached : (base : ℕ) (text rest : List ℕ) (ps : List Piece) (fs : List Parent) (ss : List Spanned)
    → Reads base text rest ps fs ss → Reaches text ps rest (openings_of fs)
reached base text rest ps fs ss r = record { covers = record { joined = r.joined; fit = r.fit }; opened = r.opened }

at_front : (n : ℕ) (k : PieceKind) (cs rest : List ℕ) → FitsAt n k cs rest → FitsFront k cs rest
at_front zero k cs rest f = f
at_front (suc n) k cs rest f = front_fits k cs rest f

within : (n : ℕ) (k : PieceKind) (cs rest : List ℕ) → (n ≡ 0 → ⊥) → FitsAt n k cs rest → Fits k cs rest
within zero k cs rest h f = absurd (h refl)
within (suc n) k cs rest h f = f

onto_more : (ps : List Piece) (p : Piece) (rest : List ℕ) → onto (ps ++ p ∷ []) rest ≡ onto ps (p.chars ++ rest)
onto_more ps p rest = onto_append ps (p ∷ []) rest

fit_more : (ps : List Piece) (p : Piece) (rest : List ℕ) → AreFit ps (p.chars ++ rest) → Fits p.kind p.chars rest
    → AreFit (ps ++ p ∷ []) rest
fit_more [] p rest a f = (f, tt)
fit_more (q ∷ ps) p rest a f =
    (subst (λ r. Fits q.kind q.chars r) (sym (onto_more ps p rest)) a.0, fit_more ps p rest a.1 f)

fit_front : (ps : List Piece) (n : ℕ) (p : Piece) (rest : List ℕ) → (n ≡ 0 → ps ≡ []) → AreFitFront ps (p.chars ++ rest)
    → FitsAt n p.kind p.chars rest → AreFitFront (ps ++ p ∷ []) rest
fit_front [] n p rest h a f = (at_front n p.kind p.chars rest f, tt)
fit_front (q ∷ ps) n p rest h a f = (
  subst (λ r. FitsFront q.kind q.chars r) (sym (onto_more ps p rest)) a.0,
  fit_more ps p rest a.1 (within n p.kind p.chars rest (λ e. let x = h e in cc) f),
)

reads_on : (base : ℕ) (text there rest : List ℕ) (ps : List Piece) (fs gs : List Parent) (ss us : List Spanned)
    (k : PieceKind) (cs : List ℕ) → Reads base text there ps fs ss → there ≡ cs ++ rest → FitsAt (count ps) k cs rest →
    Grows base (count ps) k cs rest fs ss gs us
    → Reads base text rest (ps ++ record { kind = k; chars = cs } ∷ []) gs us
reads_on base text there rest ps fs gs ss us k cs r e f g =
    let p : Piece = record { kind = k; chars = cs } in
    record {
      joined = r.joined ∙ ap (onto ps) e ∙ sym (onto_more ps p rest);
      fit = fit_front ps (count ps) p rest r.begun (subst (AreFitFront ps) e r.fit) f;
      begun = λ z. absurd (taken cs f (sym (count_more ps p) ∙ z));
      opened = openings_more [] _ _ ps p r.opened g.opened;
      tokens = tokens_more base ps p there rest e ∙ ap (λ x. x ++ tokens_at (base + count ps) p rest) r.tokens
          ∙ sym g.tokens;
      frames = subst (λ m. All (IsParentIn m) gs) (sym (count_more ps p)) g.frames;
      whole = g.whole;
    }
  where
    taken : (ds : List ℕ) → FitsAt (count ps) k ds rest → count ps + length ds ≡ 0 → ⊥
    taken [] q z = some_at (count ps) k rest q
    taken (d ∷ ds) q z = omega arith

-- a list is empty, or has a last
record Last (fs : List Parent) : Type 0 where
  others : List Parent
  last : Parent
  is : fs ≡ others ++ last ∷ []

ending : (fs : List Parent) → (fs ≡ []) ⊎ Last fs
ending [] = inl refl
ending (f ∷ fs) =
    ⊎_elim
    (λ e. inr (record { others = []; last = f; is = ap (λ x. f ∷ x) e }))
    (λ l. inr (record { others = f ∷ l.others; last = l.last; is = ap (λ x. f ∷ x) l.is }))
    (ending fs)

pub same_true : (a b : Delimiter) → same_delimiter a b ≡ true → a ≡ b
same_true delimiter.Parenthesis delimiter.Parenthesis e = refl
same_true delimiter.Brace delimiter.Brace e = refl
same_true delimiter.Bracket delimiter.Bracket e = refl
same_true delimiter.None delimiter.None e = refl
same_true _ _ e = cc

-- a piece adds what it adds, or is a closing mark that closes nothing
record Added (base n : ℕ) (k : PieceKind) (cs rest : List ℕ) (fs : List Parent) (ss : List Spanned) : Type 0 where
  frames : List Parent
  stream : List Spanned
  grows : Grows base n k cs rest fs ss frames stream

record Wrong (k : PieceKind) (fs : List Parent) : Type 0 where
  delimiter : GroupMarks
  is : k ≡ piece.Close delimiter
  none : openings_closed (openings_of fs) (delimiter_of delimiter) ≡ None

abbrev stretch : ℕ → ℕ → List ℕ → Stretch
stretch base n cs = record { whole = span_from base base; from = n; to = n + length cs }

plain : (base n : ℕ) (k : PieceKind) (cs rest : List ℕ) (fs : List Parent) (ss : List Spanned)
    → open_behind (openings_of fs) k n ≡ Some (openings_of fs)
    → IsWhole (all_at (stretch_span (stretch base n cs)) (tokens_before k cs rest)) →
    All (IsParentIn n) fs → IsWhole ss → Added base n k cs rest fs ss
plain base n k cs rest fs ss o w f h = record {
  frames = fs;
  stream = ss ++ all_at (stretch_span (stretch base n cs)) (tokens_before k cs rest);
  grows = grows_added fs fs ss _ (stretch base n cs) k cs rest (tokens_before k cs rest) refl refl refl o w refl f h;
}

closing_added : (base n : ℕ) (d : GroupMarks) (cs rest : List ℕ) (fs : List Parent) (ss : List Spanned)
    → cs ≡ closing d ∷ [] → All (IsParentIn n) fs → IsWhole ss
    → Added base n (piece.Close d) cs rest fs ss ⊎ Wrong (piece.Close d) fs
closing_added base n d cs rest fs ss e f h =
    ⊎_elim
    (λ none. inr (record {
      delimiter = d;
      is = refl;
      none = ap (λ x. openings_closed (openings_of x) (delimiter_of d)) none;
    }))
    (λ l. by_same l.others l.last l.is (same_delimiter l.last.delimiter (delimiter_of d)) refl)
    (ending fs)
  where
    by_same : (gs : List Parent) (g : Parent) → fs ≡ gs ++ g ∷ [] → (b : Bool)
        → same_delimiter g.delimiter (delimiter_of d) ≡ b
        → Added base n (piece.Close d) cs rest fs ss ⊎ Wrong (piece.Close d) fs
    by_same gs g is true q = inl
        (record {
          frames = gs;
          stream = _;
          grows = grows_closed fs gs ss _ (stretch base n cs) d cs rest g is (same_true g.delimiter (delimiter_of d) q)
              refl e refl f h;
        })
    by_same gs g is false q = inr
        (record {
          delimiter = d;
          is = refl;
          none = ap (λ x. openings_closed x (delimiter_of d)) (ap openings_of is ∙ openings_push gs g)
              ∙ ap (λ b. cond b (Some (openings_of gs)) None) q;
        })

added : (base n : ℕ) (k : PieceKind) (cs rest : List ℕ) (fs : List Parent) (ss : List Spanned) → FitsAt n k cs rest
    → All (IsParentIn n) fs → IsWhole ss → Added base n k cs rest fs ss ⊎ Wrong k fs
added base n piece.FrontMark cs rest fs ss q f h = inl (plain base n piece.FrontMark cs rest fs ss refl no_tokens f h)
added base n piece.White cs rest fs ss q f h = inl (plain base n piece.White cs rest fs ss refl no_tokens f h)
added base n piece.Comment cs rest fs ss q f h = inl (plain base n piece.Comment cs rest fs ss refl no_tokens f h)
added base n (piece.Doc kind) cs rest fs ss q f h =
    inl (plain base n (piece.Doc kind) cs rest fs ss refl (doc_whole kind _ (stretch_span (stretch base n cs))) f h)
added base n (piece.Open d) cs rest fs ss q f h =
    inl (record {
      frames = _;
      stream = [];
      grows = grows_opened fs _ ss [] (stretch base n cs) d cs rest refl refl (fits_open n d cs rest q) f h;
    })
added base n (piece.Close d) cs rest fs ss q f h = closing_added base n d cs rest fs ss (fits_close n d cs rest q) f h
added base n piece.Mark cs rest fs ss q f h =
    inl (plain base n piece.Mark cs rest fs ss refl (record { matched = refl; paired = refl }) f h)
added base n piece.Ident cs rest fs ss q f h =
    inl (plain base n piece.Ident cs rest fs ss refl (record { matched = refl; paired = refl }) f h)
added base n (piece.Literal kind) cs rest fs ss q f h =
    inl (plain base n (piece.Literal kind) cs rest fs ss refl (record { matched = refl; paired = refl }) f h)

abbrev pub IsAnswered : ℕ → List ℕ → Type 0
IsAnswered base text = ((ts : List Spanned) × IsForest base text ts)
    ⊎ ((place : LineColumn) × IsLexicalFault text place)

faulty : (base : ℕ) (text : List ℕ) (n : ℕ) → IsFaultBehind text n → IsAnswered base text
faulty base text n f = inr (place_of text n, (n, f, refl))

at_end : (base : ℕ) (text : List ℕ) (ps : List Piece) (fs : List Parent) (ss : List Spanned)
    → Reads base text [] ps fs ss → IsAnswered base text
at_end base text ps fs ss r =
    ⊎_elim
    (λ e. inl (
      ss,
      record {
        pieces = ps;
        cover = record { joined = r.joined; fit = r.fit };
        tokens_are = onto_same base ps r.fit ∙ r.tokens ∙ ap (λ x. built base x ss) e;
        matched = r.whole.matched;
        paired = r.whole.paired;
      },
    ))
    (λ l. faulty base text l.last.count (inr (inr (record {
      pieces = ps;
      innermost = opening_of l.last;
      others = openings_of l.others;
      reaches = record {
        covers = record { joined = r.joined; fit = r.fit };
        opened = r.opened ∙ ap (λ x. Some x) (ap openings_of l.is ∙ openings_push l.others l.last);
      };
      there = refl;
    }))))
    (ending fs)

stray : (base : ℕ) (text rest : List ℕ) (ps : List Piece) (fs : List Parent) (ss : List Spanned) (c : ℕ) (cs : List ℕ)
    → rest ≡ c ∷ cs → Reads base text rest ps fs ss → scan_at (count ps) rest ≡ Nowhere → IsAnswered base text
stray base text rest ps fs ss c cs e r s = faulty base text (count ps) (inl (record {
  pieces = ps;
  rest = rest;
  groups = openings_of fs;
  reaches = reached base text rest ps fs ss r;
  more = λ n. (let wrong : c ∷ cs ≡ [] = sym e ∙ n in cc);
  none = λ k ds t q f. (let wrong : Nowhere ≡ Ends k t = sym s ∙ ap (scan_at (count ps)) q
      ∙ complete_at (count ps) k ds t f in cc);
  there = refl;
}))

wrong_mark : (base : ℕ) (text rest behind : List ℕ) (ps : List Piece) (fs : List Parent) (ss : List Spanned)
    (k : PieceKind) (cs : List ℕ) → Reads base text rest ps fs ss → rest ≡ cs ++ behind → FitsAt (count ps) k cs behind
    → Wrong k fs → IsAnswered base text
wrong_mark base text rest behind ps fs ss k cs r e f w =
    let is : cs ≡ closing w.delimiter ∷ [] =
    fits_close (count ps) w.delimiter cs behind (subst (λ x. FitsAt (count ps) x cs behind) w.is f) in
    let joined : rest ≡ closing w.delimiter ∷ behind = e ∙ ap (λ x. x ++ behind) is in
    faulty base text (count ps) (inr (inl (record {
      pieces = ps;
      rest = behind;
      groups = openings_of fs;
      delimiter = w.delimiter;
      reaches = subst (λ x. Reaches text ps x (openings_of fs)) joined (reached base text rest ps fs ss r);
      wrong = w.none;
      there = refl;
    })))

answered : (m base : ℕ) (text rest : List ℕ) (ps : List Piece) (fs : List Parent) (ss : List Spanned) → length rest ≤ m
    → Reads base text rest ps fs ss → IsAnswered base text
answered m base text [] ps fs ss h r = at_end base text ps fs ss r
answered zero base text (c ∷ cs) ps fs ss h r = absurd (omega arith)
answered (suc m) base text (c ∷ cs) ps fs ss h r =
    scanned (λ s qs gs us l q. answered m base text s qs gs us l q) (scan_at (count ps) (c ∷ cs)) refl
  where
    on : ((s : List ℕ) (qs : List Piece) (gs : List Parent) (us : List Spanned) → length s ≤ m
        → Reads base text s qs gs us → IsAnswered base text) → (k : PieceKind) (s : List ℕ)
        → FoundAt (count ps) k (c ∷ cs) s → IsAnswered base text
    on go k s f =
        ⊎_elim
        (λ a. go s _ a.frames a.stream (shorter (count ps) k f.chars (c ∷ cs) s m f.fits f.joined h)
        (reads_on base text (c ∷ cs) s ps fs a.frames ss a.stream k f.chars r f.joined f.fits a.grows))
        (λ w. wrong_mark base text (c ∷ cs) s ps fs ss k f.chars r f.joined f.fits w)
        (added base (count ps) k f.chars s fs ss f.fits r.frames r.whole)

    scanned : ((s : List ℕ) (qs : List Piece) (gs : List Parent) (us : List Spanned) → length s ≤ m
        → Reads base text s qs gs us → IsAnswered base text) → (o : Scanned) → scan_at (count ps) (c ∷ cs) ≡ o
        → IsAnswered base text
    scanned go Nowhere e = stray base text (c ∷ cs) ps fs ss c cs refl r e
    scanned go (Ends k s) e = on go k s (sound_at (count ps) (c ∷ cs) s k e)

pub forest_or_fault : (base : ℕ) (text : List ℕ) → IsAnswered base text
forest_or_fault base text =
    answered (length text) base text text [] [] [] (omega arith)
    (record {
      joined = refl;
      fit = tt;
      begun = λ e. refl;
      opened = refl;
      tokens = refl;
      frames = All-nil (IsParentIn 0);
      whole = no_tokens;
    })
