-- What a scan finds is a piece of its class.
use Rattle.std.proofs.Common.{◌≡◌, ℕ, zero, suc, List, [], ◌∷◌, ◌++◌, length, refl, sym, ap, ◌∙◌, subst, inl, inr}
use Rattle.std.proofs.Common.{⊎_elim, append_assoc, drop}
use Rattle.std.specs.Prelude.{Bool, true, false, ◌⊎◌, ◌||◌, ◌&&◌, ◌==◌, if◌then◌else◌, Option, Some, None, not, is_some}
use Rattle.std.proofs.lemmas.Bool.{and_parts, cases_Bool, or_parts, or_cases, eqb-true, and_cases, not-false, not-true}
use Rattle.rust_lex.specs.Chars.{is_first, is_next, is_digit, begins, passes, is_not_feed, is_slash}
use Rattle.rust_lex.specs.Chars.{is_slash_or_star, past}
use Rattle.rust_lex.specs.Ends.{past_suffix}
use Rattle.rust_lex.specs.Comment.{DocKind, OuterLine, InnerLine, OuterBlock, InnerBlock, IsDocText, doc_opening}
use Rattle.rust_lex.specs.Comment.{is_plain_line, is_plain_block, past_comment, is_within_line, ends_line}
use Rattle.rust_escape.specs.declared.mode.Mode.{Mode}
use Rattle.rust_escape.specs.declared.mode.Mode.TheVariants as modes
use Rattle.rust_lex.specs.Quoted.{LiteralKind, Char, literal_kind, opening_of, opener_of, IsTail}
use Rattle.rust_lex.specs.QuotedScan.{past_char, past_tail}
use Rattle.rust_lex.specs.Number.{past_number, number_kind, IsNumber}
use Rattle.rust_lex.specs.Word.{begins_raw_mark, begins_raw_name, begins_never_raw, begins_lifetime}
use Rattle.rust_lex.specs.Piece.{PieceKind, FrontMark, White, Comment, Doc, Open, Close, Mark, Ident, Literal, Fits}
use Rattle.rust_lex.specs.Piece.{FitsFront, FitsAt, IsBody, is_prefixed}
use Rattle.rust_lex.specs.Scan.{Front, white, opens, closes, quote, tick, digit, first, mark, other, front_of}
use Rattle.rust_lex.specs.Scan.{Scanned, Nowhere, Ends, suffixed, ended, line, block, slash, ticked, word, at_front}
use Rattle.rust_lex.specs.Scan.{scan, scan_front, scan_at}
use Rattle.rust_lex.proofs.Fronts.{Says, front_says, slash-mark}
use Rattle.rust_lex.proofs.Taken.{chosen, alone, option_cases, comment_taken}
use Rattle.rust_lex.proofs.Units.{FoundTail, single_found, cooked_found}
use Rattle.rust_lex.proofs.Raws.{raw_string_found}
use Rattle.rust_lex.proofs.Ends.{passed, past_word, suffix_found, number_found}
use Rattle.rust_lex.proofs.Openers.{opener_found, raw_mark_is}

pub record Found (k : PieceKind) (text rest : List ℕ) : Type 0 where
  pub chars : List ℕ
  pub joined : text ≡ chars ++ rest
  pub fits : Fits k chars rest

abbrev OnEnds : (PieceKind → List ℕ → Type 0) → Scanned → Type 0
OnEnds P Nowhere = Unit {0}
OnEnds P (Ends k r) = P k r

ends_as : (text : List ℕ) (k l : PieceKind) (r s : List ℕ) → Ends k r ≡ Ends l s → Found k text r → Found l text s
ends_as text k l r s e h = subst (OnEnds (λ k r. Found k text r)) e h

-- literals
literal_found : (kind : LiteralKind) (body after : List ℕ) → IsBody kind body after
    → Found (Literal kind) (body ++ after) (past_suffix after)
literal_found kind body after h =
    let s = suffix_found after in
    record {
      chars = body ++ s.suffix;
      joined = ap (λ x. body ++ x) s.joined ∙ sym (append_assoc body s.suffix _);
      fits = (body, s.suffix, refl, subst (λ x. IsBody kind body x) s.joined h, s.is);
    }

pub suffixed_some : (kind : LiteralKind) (o : Option (List ℕ)) (k : PieceKind) (rest : List ℕ) → suffixed kind o
    ≡ Ends k rest → (r : List ℕ) × (o ≡ Some r) × (Ends (Literal kind) (past_suffix r) ≡ Ends k rest)
suffixed_some kind None k rest e = cc
suffixed_some kind (Some r) k rest e = (r, refl, e)

pub ended_some : (kind : PieceKind) (o : Option (List ℕ)) (k : PieceKind) (rest : List ℕ) → ended kind o ≡ Ends k rest
    → (r : List ℕ) × (o ≡ Some r) × (Ends kind r ≡ Ends k rest)
ended_some kind None k rest e = cc
ended_some kind (Some r) k rest e = (r, refl, e)

tail_found : (o : Mode) (cs rest : List ℕ) → past_tail o cs ≡ Some rest → FoundTail (IsTail o) cs rest
tail_found modes.Char cs rest e = single_found modes.Char cs rest e
tail_found modes.Byte cs rest e = single_found modes.Byte cs rest e
tail_found modes.Str cs rest e = cooked_found modes.Str cs rest e
tail_found modes.ByteStr cs rest e = cooked_found modes.ByteStr cs rest e
tail_found modes.CStr cs rest e = cooked_found modes.CStr cs rest e
tail_found modes.RawStr cs rest e = raw_string_found modes.RawStr cs rest refl e
tail_found modes.RawByteStr cs rest e = raw_string_found modes.RawByteStr cs rest refl e
tail_found modes.RawCStr cs rest e = raw_string_found modes.RawCStr cs rest refl e

opened_found : (o : Mode) (cs r : List ℕ) → past_tail o cs ≡ Some r
    → Found (Literal (literal_kind o)) (opening_of o ++ cs) (past_suffix r)
opened_found o cs r e =
    let i = tail_found o cs r e in
    subst (λ x. Found (Literal (literal_kind o)) x (past_suffix r))
    (append_assoc (opening_of o) i.tail r ∙ sym (ap (λ x. opening_of o ++ x) i.joined))
    (literal_found (literal_kind o) (opening_of o ++ i.tail) r (inl (o, i.tail, refl, refl, i.is)))

quoted_found : (o : Mode) (cs rest : List ℕ) (k : PieceKind) → suffixed (literal_kind o) (past_tail o cs) ≡ Ends k rest
    → Found k (opening_of o ++ cs) rest
quoted_found o cs rest k e =
    let (r, is, same) = suffixed_some (literal_kind o) (past_tail o cs) k rest e in
    ends_as _ (Literal (literal_kind o)) k _ rest same (opened_found o cs r is)

number_scan_found : (c : ℕ) (cs rest : List ℕ) (k : PieceKind) → is_digit c ≡ true
    → suffixed (number_kind (c ∷ cs)) (past_number (c ∷ cs)) ≡ Ends k rest → Found k (c ∷ cs) rest
number_scan_found c cs rest k h e =
    let (r, is, same) = suffixed_some (number_kind (c ∷ cs)) (past_number (c ∷ cs)) k rest e in
    let t = number_found c cs r h is in
    let joined : c ∷ cs ≡ (c ∷ t.front) ++ r = ap (λ x. c ∷ x) t.joined in
    let number : IsNumber (number_kind (c ∷ cs)) (c ∷ t.front) r =
    (h, subst (λ x. past_number x ≡ Some r) joined is, ap number_kind joined) in
    ends_as _ (Literal (number_kind (c ∷ cs))) k _ rest same
    (subst (λ x. Found (Literal (number_kind (c ∷ cs))) x (past_suffix r)) (sym joined)
    (literal_found (number_kind (c ∷ cs)) (c ∷ t.front) r (inr number)))

pub ticked_none : (cs : List ℕ) → past_char modes.Char cs ≡ None → ticked cs
    ≡ (if begins_lifetime cs then Ends Mark cs else Nowhere)
unfolding ticked
ticked_none cs e = rw (e, ticked) refl

pub ticked_some : (cs rest : List ℕ) → past_char modes.Char cs ≡ Some rest → ticked cs
    ≡ Ends (Literal Char) (past_suffix rest)
unfolding ticked
ticked_some cs rest e = rw (e, ticked) refl

or_true : (b : Bool) → (b || true) ≡ true
or_true true = refl
or_true false = refl

ticked_found : (cs rest : List ℕ) (k : PieceKind) → ticked cs ≡ Ends k rest → Found k (39 ∷ cs) rest
ticked_found cs rest k e =
    ⊎_elim
    (λ n. ⊎_elim
    (λ h. ends_as _ Mark k cs rest h.1
    (record { chars = 39 ∷ []; joined = refl; fits = (39, refl, rw h.0 (or_true _)) }))
    (λ h. cc)
    (chosen (begins_lifetime cs) _ _ _ (sym (ticked_none cs n) ∙ e)))
    (λ (r, o). ends_as _ (Literal Char) k _ rest (sym (ticked_some cs r o) ∙ e) (opened_found modes.Char cs r o))
    (option_cases (past_char modes.Char cs))

-- comments and docs
doc_line_found : (kind : DocKind) (c : ℕ) (cs : List ℕ) → doc_opening kind ≡ 47 ∷ 47 ∷ c ∷ []
    → ((front rest : List ℕ) → cs ≡ front ++ rest → passes is_within_line front ≡ true → ends_line rest ≡ true
    → IsDocText kind front rest) → ends_line (past is_within_line cs) ≡ true
    → Found (Doc kind) (47 ∷ 47 ∷ c ∷ cs) (past is_within_line cs)
doc_line_found kind c cs o is h =
    let p = passed is_within_line cs in
    record {
      chars = 47 ∷ 47 ∷ c ∷ p.front;
      joined = ap (λ x. 47 ∷ 47 ∷ c ∷ x) p.joined;
      fits = (p.front, ap (λ x. x ++ p.front) (sym o), is p.front _ p.joined p.pass h);
    }

doc_block_found : (kind : DocKind) (c : ℕ) (cs r : List ℕ) → doc_opening kind ≡ 47 ∷ 42 ∷ c ∷ []
    → ((front : List ℕ) → cs ≡ front ++ r → past_comment true 0 front ≡ Some [] → IsDocText kind front r)
    → past_comment true 0 cs ≡ Some r → Found (Doc kind) (47 ∷ 42 ∷ c ∷ cs) r
doc_block_found kind c cs r o is e =
    let t = comment_taken true 0 cs r e in
    record {
      chars = 47 ∷ 42 ∷ c ∷ t.front;
      joined = ap (λ x. 47 ∷ 42 ∷ c ∷ x) t.joined;
      fits = (t.front, ap (λ x. x ++ t.front) (sym o), is t.front t.joined (alone (past_comment true 0) cs r t));
    }

-- what a line or a block that isn't plain begins with
not_plain_line : (c : ℕ) (cs : List ℕ) → is_plain_line (c ∷ cs) ≡ false
    → (c ≡ 33) ⊎ ((c ≡ 47) × (begins is_slash cs ≡ false))
not_plain_line c [] h = ⊎_elim (λ e. inr (eqb-true c 47 e, refl)) (λ e. inl (eqb-true c 33 e))
    (or_cases (c == 47) (c == 33) (not-false _ h))
not_plain_line c (d ∷ cs) h =
    ⊎_elim
    (λ e. inl (eqb-true c 33 (not-false _ e)))
    (λ e. let (k, l) = or_parts (not (c == 47)) (d == 47) e in inr (eqb-true c 47 (not-false _ k), l))
    (and_cases (not (c == 33)) (not (c == 47) || d == 47) h)

not_plain_block : (c : ℕ) (cs : List ℕ) → is_plain_block (c ∷ cs) ≡ false
    → (c ≡ 33) ⊎ ((c ≡ 42) × (begins is_slash_or_star cs ≡ false))
not_plain_block c [] h = ⊎_elim (λ e. inr (eqb-true c 42 e, refl)) (λ e. inl (eqb-true c 33 e))
    (or_cases (c == 42) (c == 33) (not-false _ h))
not_plain_block c (d ∷ cs) h =
    ⊎_elim
    (λ e. inl (eqb-true c 33 (not-false _ e)))
    (λ e. let (k, l) = or_parts (not (c == 42)) (d == 47 || d == 42) e in inr (eqb-true c 42 (not-false _ k), l))
    (and_cases (not (c == 33)) (not (c == 42) || (d == 47 || d == 42)) h)

line_rest : (c : ℕ) (cs rest : List ℕ) (k : PieceKind)
    → (if ends_line (past is_within_line cs) then Ends (Doc (if c == 33 then InnerLine else OuterLine))
    (past is_within_line cs) else Nowhere) ≡ Ends k rest
    → (ends_line (past is_within_line cs) ≡ true) ×
    (Ends (Doc (if c == 33 then InnerLine else OuterLine)) (past is_within_line cs) ≡ Ends k rest)
line_rest c cs rest k e = ⊎_elim (λ h. h) (λ h. cc) (chosen (ends_line (past is_within_line cs)) _ _ _ e)

doc_line_scan : (c : ℕ) (cs rest : List ℕ) (k : PieceKind) → is_plain_line (c ∷ cs) ≡ false
    → ends_line (past is_within_line cs) ≡ true
    → Ends (Doc (if c == 33 then InnerLine else OuterLine)) (past is_within_line cs) ≡ Ends k rest
    → Found k (47 ∷ 47 ∷ c ∷ cs) rest
doc_line_scan c cs rest k n h e =
    ⊎_elim
    (λ i.
    let e : Ends (Doc InnerLine) (past is_within_line cs) ≡ Ends k rest = rw i at e in
    subst (λ x. Found k (47 ∷ 47 ∷ x ∷ cs) rest) (sym i)
    (ends_as _ (Doc InnerLine) k _ rest e (doc_line_found InnerLine 33 cs refl (λ front r j p l. (p, l)) h)))
    (λ (i, s).
    let e : Ends (Doc OuterLine) (past is_within_line cs) ≡ Ends k rest = rw i at e in
    subst (λ x. Found k (47 ∷ 47 ∷ x ∷ cs) rest) (sym i)
    (ends_as _ (Doc OuterLine) k _ rest e
    (doc_line_found OuterLine 47 cs refl (λ front r j p l. (subst (λ x. begins is_slash x ≡ false) j s, p, l)) h)))
    (not_plain_line c cs n)

line_found : (cs rest : List ℕ) (k : PieceKind) → line cs ≡ Ends k rest → Found k (47 ∷ 47 ∷ cs) rest
unfolding line
line_found [] rest k e = ends_as _ Comment k [] rest e
    (record { chars = 47 ∷ 47 ∷ []; joined = refl; fits = (refl, inl (refl, refl, refl, refl)) })
line_found (c ∷ cs) rest k e =
    ⊎_elim
    (λ l. let p = passed is_not_feed (c ∷ cs) in
    ends_as _ Comment k _ rest l.1
    (record {
      chars = 47 ∷ 47 ∷ p.front;
      joined = ap (λ x. 47 ∷ 47 ∷ x) p.joined;
      fits = (refl, inl (refl, subst (λ x. is_plain_line x ≡ true) p.joined l.0, p.pass, p.stops));
    }))
    (λ l. let (h, s) = line_rest c cs rest k l.1 in doc_line_scan c cs rest k l.0 h s)
    (chosen (is_plain_line (c ∷ cs)) _ _ _ e)

outer_begins : (front r : List ℕ) → past_comment true 0 front ≡ Some [] → begins is_slash_or_star (front ++ r) ≡ false
    → begins is_slash_or_star front ≡ false
unfolding past_comment
outer_begins [] r e h = cc
outer_begins (c ∷ front) r e h = h

doc_block_scan : (c : ℕ) (cs r rest : List ℕ) (k : PieceKind) → is_plain_block (c ∷ cs) ≡ false → past_comment true 0 cs
    ≡ Some r → Ends (Doc (if c == 33 then InnerBlock else OuterBlock)) r ≡ Ends k rest → Found k (47 ∷ 42 ∷ c ∷ cs) rest
doc_block_scan c cs r rest k n h e =
    ⊎_elim
    (λ i.
    let e : Ends (Doc InnerBlock) r ≡ Ends k rest = rw i at e in
    subst (λ x. Found k (47 ∷ 42 ∷ x ∷ cs) rest) (sym i)
    (ends_as _ (Doc InnerBlock) k r rest e (doc_block_found InnerBlock 33 cs r refl (λ front j p. p) h)))
    (λ (i, s).
    let e : Ends (Doc OuterBlock) r ≡ Ends k rest = rw i at e in
    subst (λ x. Found k (47 ∷ 42 ∷ x ∷ cs) rest) (sym i)
    (ends_as _ (Doc OuterBlock) k r rest e
    (doc_block_found OuterBlock 42 cs r refl
    (λ front j p. (outer_begins front r p (subst (λ x. begins is_slash_or_star x ≡ false) j s), p)) h)))
    (not_plain_block c cs n)

block_found : (cs rest : List ℕ) (k : PieceKind) → block cs ≡ Ends k rest → Found k (47 ∷ 42 ∷ cs) rest
unfolding block
block_found [] rest k e = cc
block_found (c ∷ cs) rest k e =
    ⊎_elim
    (λ l.
    let (r, is, same) = ended_some Comment (past_comment false 0 (c ∷ cs)) k rest l.1 in
    let t = comment_taken false 0 (c ∷ cs) r is in
    ends_as _ Comment k r rest same
    (record {
      chars = 47 ∷ 42 ∷ t.front;
      joined = ap (λ x. 47 ∷ 42 ∷ x) t.joined;
      fits = (
        refl,
        inr (
          refl,
          subst (λ x. is_plain_block x ≡ true) t.joined l.0,
          alone (past_comment false 0) (c ∷ cs) r t,
        ),
      );
    }))
    (λ l.
    let (r, is, same) = ended_some (Doc (if c == 33 then InnerBlock else OuterBlock)) (past_comment true 0 cs) k rest
    l.1 in
    doc_block_scan c cs r rest k l.0 is same)
    (chosen (is_plain_block (c ∷ cs)) _ _ _ e)

slash_found : (cs rest : List ℕ) (k : PieceKind) → slash cs ≡ Ends k rest → Found k (47 ∷ cs) rest
unfolding slash
slash_found [] rest k e = ends_as _ Mark k [] rest e
    (record { chars = 47 ∷ []; joined = refl; fits = (47, refl, rw slash-mark refl) })
slash_found (c ∷ cs) rest k e =
    ⊎_elim
    (λ h. subst (λ x. Found k (47 ∷ x ∷ cs) rest) (sym (eqb-true c 47 h.0)) (line_found cs rest k h.1))
    (λ h. ⊎_elim
    (λ m. subst (λ x. Found k (47 ∷ x ∷ cs) rest) (sym (eqb-true c 42 m.0)) (block_found cs rest k m.1))
    (λ m. ends_as _ Mark k _ rest m.1
    (record { chars = 47 ∷ []; joined = refl; fits = (47, refl, rw (slash-mark, h.0, m.0) refl) }))
    (chosen (c == 42) _ _ _ h.1))
    (chosen (c == 47) _ _ _ e)

-- words
pub word_none : (cs : List ℕ) → (begins_raw_mark cs && begins_raw_name (drop 2 cs)) ≡ false → opener_of cs ≡ None
    → word cs ≡ Ends Ident (past is_next cs)
unfolding word
word_none cs h e = rw (h, word) (rw (e, word) refl)

pub word_some : (cs : List ℕ) (o : Mode) → (begins_raw_mark cs && begins_raw_name (drop 2 cs)) ≡ false → opener_of cs
    ≡ Some o → word cs ≡ suffixed (literal_kind o) (past_tail o (drop (length (opening_of o)) cs))
unfolding word
word_some cs o h e = rw (h, word) (rw (e, word) refl)

pub word_raw : (cs : List ℕ) → (begins_raw_mark cs && begins_raw_name (drop 2 cs)) ≡ true → word cs
    ≡ Ends Ident (past is_next (drop 2 cs))
unfolding word
word_raw cs h = rw (h, word) refl

name_found : (cs : List ℕ) → begins_raw_name cs ≡ true → Found Ident (114 ∷ 35 ∷ cs) (past is_next cs)
name_found [] h = cc
name_found (c ∷ cs) h =
    let (f, n) = and_parts (is_first c) (not (begins_never_raw (c ∷ cs))) h in
    let p = passed is_next cs in
    subst (λ r. Found Ident (114 ∷ 35 ∷ c ∷ cs) r) (sym (past_word c cs f))
    (record {
      chars = 114 ∷ 35 ∷ c ∷ p.front;
      joined = ap (λ x. 114 ∷ 35 ∷ c ∷ x) p.joined;
      fits = (
        p.stops,
        inr (
          c ∷ p.front,
          refl,
          (f, p.pass),
          subst (λ x. begins_never_raw (c ∷ x) ≡ false) p.joined (not-true _ n),
        ),
      );
    })

ident_found : (c : ℕ) (cs : List ℕ) → is_first c ≡ true → opener_of (c ∷ cs) ≡ None
    → Found Ident (c ∷ cs) (past is_next (c ∷ cs))
ident_found c cs f h =
    let p = passed is_next cs in
    let n : is_prefixed (c ∷ cs) ≡ false = ap is_some h in
    subst (λ r. Found Ident (c ∷ cs) r) (sym (past_word c cs f))
    (record {
      chars = c ∷ p.front;
      joined = ap (λ x. c ∷ x) p.joined;
      fits = (p.stops, inl ((f, p.pass), subst (λ x. is_prefixed (c ∷ x) ≡ false) p.joined n));
    })

raw_word_found : (cs rest : List ℕ) (k : PieceKind) → (begins_raw_mark cs && begins_raw_name (drop 2 cs)) ≡ true
    → word cs ≡ Ends k rest → Found k cs rest
raw_word_found cs rest k h e =
    let (m, n) = and_parts (begins_raw_mark cs) (begins_raw_name (drop 2 cs)) h in
    subst (λ x. Found k x rest) (sym (raw_mark_is cs m))
    (ends_as _ Ident k _ rest (sym (word_raw cs h) ∙ e) (name_found (drop 2 cs) n))

word_found : (c : ℕ) (cs rest : List ℕ) (k : PieceKind) → is_first c ≡ true → word (c ∷ cs) ≡ Ends k rest
    → Found k (c ∷ cs) rest
word_found c cs rest k f e =
    ⊎_elim
    (λ h. raw_word_found (c ∷ cs) rest k h e)
    (λ h. ⊎_elim
    (λ n. ends_as _ Ident k _ rest (sym (word_none (c ∷ cs) h n) ∙ e) (ident_found c cs f n))
    (λ (o, i). subst (λ x. Found k x rest) (sym (opener_found (c ∷ cs) o i))
    (quoted_found o _ rest k (sym (word_some (c ∷ cs) o h i) ∙ e)))
    (option_cases (opener_of (c ∷ cs))))
    (cases_Bool (begins_raw_mark (c ∷ cs) && begins_raw_name (drop 2 (c ∷ cs))))

at_found : (f : Front) (c : ℕ) (cs rest : List ℕ) (k : PieceKind) → Says f c → at_front f c cs ≡ Ends k rest
    → Found k (c ∷ cs) rest
at_found white c cs rest k s e = ends_as _ White k cs rest e (record { chars = c ∷ []; joined = refl; fits = s })
at_found (opens d) c cs rest k s e =
    ends_as _ (Open d) k cs rest e (record { chars = c ∷ []; joined = refl; fits = ap (λ x. x ∷ []) s })
at_found (closes d) c cs rest k s e =
    ends_as _ (Close d) k cs rest e (record { chars = c ∷ []; joined = refl; fits = ap (λ x. x ∷ []) s })
at_found quote c cs rest k s e = subst (λ x. Found k (x ∷ cs) rest) (sym s) (quoted_found modes.Str cs rest k e)
at_found tick c cs rest k s e = subst (λ x. Found k (x ∷ cs) rest) (sym s) (ticked_found cs rest k e)
at_found digit c cs rest k s e = number_scan_found c cs rest k s e
at_found first c cs rest k s e = word_found c cs rest k s e
at_found mark c cs rest k s e =
    ⊎_elim
    (λ h. subst (λ x. Found k (x ∷ cs) rest) (sym (eqb-true c 47 h.0)) (slash_found cs rest k h.1))
    (λ h. ends_as _ Mark k cs rest h.1 (record { chars = c ∷ []; joined = refl; fits = (c, refl, rw (s, h.0) refl) }))
    (chosen (c == 47) _ _ _ e)
at_found other c cs rest k s e = cc

pub sound : (text rest : List ℕ) (k : PieceKind) → scan text ≡ Ends k rest → Found k text rest
sound [] rest k e = cc
sound (c ∷ cs) rest k e = at_found (front_of c) c cs rest k (front_says c) e

-- the same behind some number of characters or bytes
pub record FoundAt (at : ℕ) (k : PieceKind) (text rest : List ℕ) : Type 0 where
  pub chars : List ℕ
  pub joined : text ≡ chars ++ rest
  pub fits : FitsAt at k chars rest

pub front_fits : (k : PieceKind) (cs rest : List ℕ) → Fits k cs rest → FitsFront k cs rest
front_fits FrontMark cs rest h = elim h [ ]
front_fits White cs rest h = h
front_fits Comment cs rest h = h
front_fits (Doc kind) cs rest h = h
front_fits (Open d) cs rest h = h
front_fits (Close d) cs rest h = h
front_fits (Literal kind) cs rest h = h
front_fits Mark cs rest h = h
front_fits Ident cs rest h = h

on_front : (k : PieceKind) (text rest : List ℕ) → Found k text rest → FoundAt 0 k text rest
on_front k text rest f = record { chars = f.chars; joined = f.joined; fits = front_fits k f.chars rest f.fits }

mark_front : (cs rest : List ℕ) (k : PieceKind) → Ends FrontMark cs ≡ Ends k rest → FoundAt 0 k (65279 ∷ cs) rest
mark_front cs rest k e = subst (OnEnds (λ k r. FoundAt 0 k (65279 ∷ cs) r)) e
    (record { chars = 65279 ∷ []; joined = refl; fits = refl })

sound_front : (text rest : List ℕ) (k : PieceKind) → scan_front text ≡ Ends k rest → FoundAt 0 k text rest
sound_front [] rest k e = cc
sound_front (c ∷ cs) rest k e =
    ⊎_elim
    (λ h. subst (λ x. FoundAt 0 k (x ∷ cs) rest) (sym (eqb-true c 65279 h.0)) (mark_front cs rest k h.1))
    (λ h. on_front k (c ∷ cs) rest (sound (c ∷ cs) rest k h.1))
    (chosen (c == 65279) _ _ _ e)

pub sound_at : (at : ℕ) (text rest : List ℕ) (k : PieceKind) → scan_at at text ≡ Ends k rest → FoundAt at k text rest
sound_at zero text rest k e = sound_front text rest k e
sound_at (suc n) text rest k e = let f =
    sound text rest k e in record { chars = f.chars; joined = f.joined; fits = f.fits }
