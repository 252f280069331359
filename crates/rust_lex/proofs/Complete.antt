-- A piece of a class at the front of a text is what a scan finds there.
use Rattle.std.proofs.Common.{◌≡◌, ℕ, zero, suc, List, [], ◌∷◌, ◌++◌, length, refl, ap, ◌∙◌, subst, ⊎_elim}
use Rattle.std.proofs.Common.{append_assoc, drop}
use Rattle.std.specs.Prelude.{true, false, ◌&&◌, ◌==◌, if◌then◌else◌, Some, None, not, is_some}
use Rattle.std.proofs.lemmas.Bool.{and_parts, cases_Bool, not-true, or_parts, or_cases, eqb-true}
use Rattle.rust_lex.specs.Chars.{is_first, is_next, is_mark_but_tick, begins, is_line_feed, is_not_feed, is_slash}
use Rattle.rust_lex.specs.Chars.{is_slash_or_star, is_quote_or_hash, past}
use Rattle.rust_lex.specs.Ends.{past_suffix}
use Rattle.rust_lex.specs.Comment.{DocKind, OuterLine, InnerLine, OuterBlock, InnerBlock, IsComment, IsDoc}
use Rattle.rust_lex.specs.Comment.{is_plain_line, is_plain_block, past_comment, is_within_line, ends_line}
use Rattle.rust_escape.specs.declared.mode.Mode.{Mode}
use Rattle.rust_escape.specs.declared.mode.Mode.TheVariants as modes
use Rattle.rust_lex.specs.Quoted.{LiteralKind, Str, ByteStr, CStr, Byte, Char, literal_kind, opening_of, opener_of}
use Rattle.rust_lex.specs.Quoted.{IsQuotedLiteral, IsTail}
use Rattle.rust_lex.specs.QuotedScan.{past_char, past_units, past_tail}
use Rattle.rust_lex.specs.Number.{IsNumber}
use Rattle.rust_lex.specs.Word.{IsWord, begins_raw_mark, begins_raw_name, begins_never_raw, begins_lifetime}
use Rattle.rust_lex.specs.Piece.{PieceKind, FrontMark, White, Comment, Doc, Open, Close, Mark, Ident, Literal, Fits}
use Rattle.rust_lex.specs.Piece.{FitsFront, FitsAt, IsBody, IsIdent, is_prefixed, begins_mark}
use Rattle.rust_lex.specs.Scan.{Nowhere, Ends, suffixed, ended, line, block, slash, ticked, word, scan, scan_front}
use Rattle.rust_lex.specs.Scan.{scan_at}
use Rattle.rust_lex.proofs.Fronts.{front-first, front-white, front-mark, front-digit, front-quote, front-tick}
use Rattle.rust_lex.proofs.Fronts.{front-opening, front-closing, b-first, c-first, r-first, slash-mark}
use Rattle.rust_lex.proofs.Fronts.{byte_order-other}
use Rattle.rust_lex.proofs.Taken.{whole, option_cases, comment_taken}
use Rattle.rust_lex.proofs.Units.{single_whole, cooked_whole}
use Rattle.rust_lex.proofs.Raws.{raw_whole}
use Rattle.rust_lex.proofs.Ends.{past_all, past_word, suffix_ended}
use Rattle.rust_lex.proofs.Openers.{no_raw_mark, hashes_begin, hashes_no_name, lifetime_no_char}

-- comments and docs
line_plain : (text : List ℕ) → is_plain_line text ≡ true → line text ≡ Ends Comment (past is_not_feed text)
unfolding line
line_plain [] h = refl
line_plain (c ∷ cs) h = rw h refl

no_comment : past_comment false 0 [] ≡ None
unfolding past_comment
no_comment = refl

block_plain : (text : List ℕ) → is_plain_block text ≡ true → block text ≡ ended Comment (past_comment false 0 text)
unfolding block
block_plain [] h = rw no_comment refl
block_plain (c ∷ cs) h = rw h refl

comment_scanned : (cs rest : List ℕ) → IsComment cs rest → scan (cs ++ rest) ≡ Ends Comment rest
unfolding slash
comment_scanned [] rest h = elim h [ ]
comment_scanned (a ∷ []) rest h = elim h [ ]
comment_scanned (a ∷ b ∷ cs) rest h =
    rw (h.0, front-mark 47 slash-mark) (⊎_elim
    (λ l. rw l.0 (line_plain (cs ++ rest) l.1 ∙ ap (Ends Comment) (past_all is_not_feed cs rest l.2 l.3)))
    (λ l. rw l.0 (block_plain (cs ++ rest) l.1 ∙ ap (ended Comment)
    (whole (past_comment false 0) cs rest (comment_taken false 0 cs [] l.2))))
    h.1)

line_doc : (c : ℕ) (text rest : List ℕ) → is_plain_line (c ∷ text) ≡ false → past is_within_line text ≡ rest
    → ends_line rest ≡ true → line (c ∷ text) ≡ Ends (Doc (if c == 33 then InnerLine else OuterLine)) rest
unfolding line
line_doc c text rest h e s = rw (h, e, s) refl

block_doc : (c : ℕ) (text rest : List ℕ) → is_plain_block (c ∷ text) ≡ false → past_comment true 0 text ≡ Some rest
    → block (c ∷ text) ≡ Ends (Doc (if c == 33 then InnerBlock else OuterBlock)) rest
unfolding block
block_doc c text rest h e = rw (h, e) refl

line_stops : (rest : List ℕ) → ends_line rest ≡ true → begins is_within_line rest ≡ false
line_stops [] h = refl
line_stops (c ∷ cs) h = ⊎_elim (λ e. rw e refl)
    (λ e. let (k, _) = and_parts (c == 13) (begins is_line_feed cs) e in rw (eqb-true c 13 k) refl)
    (or_cases (c == 10) (c == 13 && begins is_line_feed cs) h)

outer_line : (text : List ℕ) → begins is_slash text ≡ false → is_plain_line (47 ∷ text) ≡ false
outer_line [] h = refl
outer_line (c ∷ cs) h = rw h refl

inner_line : (text : List ℕ) → is_plain_line (33 ∷ text) ≡ false
inner_line [] = refl
inner_line (c ∷ cs) = refl

outer_block : (text : List ℕ) → begins is_slash_or_star text ≡ false → is_plain_block (42 ∷ text) ≡ false
outer_block [] h = refl
outer_block (c ∷ cs) h = rw h refl

inner_block : (text : List ℕ) → is_plain_block (33 ∷ text) ≡ false
inner_block [] = refl
inner_block (c ∷ cs) = refl

comment_begins : (text rest : List ℕ) → past_comment true 0 text ≡ Some [] → begins is_slash_or_star text ≡ false
    → begins is_slash_or_star (text ++ rest) ≡ false
unfolding past_comment
comment_begins [] rest e h = cc
comment_begins (c ∷ cs) rest e h = h

scan_slash : (cs : List ℕ) → scan (47 ∷ cs) ≡ slash cs
scan_slash cs = rw (front-mark 47 slash-mark) refl

slash_line : (cs : List ℕ) → slash (47 ∷ cs) ≡ line cs
unfolding slash
slash_line cs = refl

slash_block : (cs : List ℕ) → slash (42 ∷ cs) ≡ block cs
unfolding slash
slash_block cs = refl

doc_scanned : (kind : DocKind) (cs rest : List ℕ) → IsDoc kind cs rest → scan (cs ++ rest) ≡ Ends (Doc kind) rest
doc_scanned OuterLine cs rest (text, e, h) =
    rw e (scan_slash _ ∙ slash_line _ ∙ line_doc 47 (text ++ rest) rest (outer_line (text ++ rest) h.0)
    (past_all is_within_line text rest h.1 (line_stops rest h.2)) h.2)
doc_scanned InnerLine cs rest (text, e, h) =
    rw e (scan_slash _ ∙ slash_line _ ∙ line_doc 33 (text ++ rest) rest (inner_line (text ++ rest))
    (past_all is_within_line text rest h.0 (line_stops rest h.1)) h.1)
doc_scanned OuterBlock cs rest (text, e, h) =
    rw e (scan_slash _ ∙ slash_block _ ∙ block_doc 42 (text ++ rest) rest
    (outer_block (text ++ rest) (comment_begins text rest h.1 h.0))
    (whole (past_comment true 0) text rest (comment_taken true 0 text [] h.1)))
doc_scanned InnerBlock cs rest (text, e, h) =
    rw e (scan_slash _ ∙ slash_block _ ∙ block_doc 33 (text ++ rest) rest (inner_block (text ++ rest))
    (whole (past_comment true 0) text rest (comment_taken true 0 text [] h)))

-- marks
slash_scanned : (rest : List ℕ) → begins is_slash_or_star rest ≡ false → slash rest ≡ Ends Mark rest
unfolding slash
slash_scanned [] h = refl
slash_scanned (d ∷ ds) h = let (a, b) = or_parts (d == 47) (d == 42) h in rw (a, b) refl

ticked_mark : (rest : List ℕ) → begins_lifetime rest ≡ true → ticked rest ≡ Ends Mark rest
unfolding ticked
ticked_mark rest h = rw (lifetime_no_char rest h, ticked) (rw h refl)

ticked_char : (cs rest : List ℕ) → past_char modes.Char cs ≡ Some rest → ticked cs ≡ suffixed Char (Some rest)
unfolding ticked
ticked_char cs rest e = rw (e, ticked) refl

scan_tick : (cs : List ℕ) → scan (39 ∷ cs) ≡ ticked cs
scan_tick cs = rw front-tick refl

pub mark_scanned : (c : ℕ) (rest : List ℕ) → begins_mark (c ∷ rest) ≡ true → scan (c ∷ rest) ≡ Ends Mark rest
mark_scanned c rest h =
    ⊎_elim
    (λ m.
    let (m, n) = and_parts (is_mark_but_tick c) (not (c == 47 && begins is_slash_or_star rest)) m in
    rw (front-mark c m) (⊎_elim
    (λ e. let q = not-true _ n in rw e (slash_scanned rest (rw e at q)))
    (λ e. rw e refl)
    (cases_Bool (c == 47))))
    (λ m. let (e, l) = and_parts (c == 39) (begins_lifetime rest) m in rw (eqb-true c 39 e)
    (scan_tick rest ∙ ticked_mark rest l))
    (or_cases _ _ h)

-- words
scan_first : (c : ℕ) (cs : List ℕ) → is_first c ≡ true → scan (c ∷ cs) ≡ word (c ∷ cs)
scan_first c cs h = rw (front-first c h) refl

word_plain : (cs : List ℕ) → opener_of cs ≡ None → word cs ≡ Ends Ident (past is_next cs)
unfolding word
word_plain cs e = rw (no_raw_mark cs e, e) refl

word_raw : (cs : List ℕ) → begins_raw_name cs ≡ true → word (114 ∷ 35 ∷ cs) ≡ Ends Ident (past is_next cs)
unfolding word
word_raw cs h = rw h refl

word_opened : (cs : List ℕ) (o : Mode) → (begins_raw_mark cs && begins_raw_name (drop 2 cs)) ≡ false → opener_of cs
    ≡ Some o → word cs ≡ suffixed (literal_kind o) (past_tail o (drop (length (opening_of o)) cs))
unfolding word
word_opened cs o h e = rw (h, e) refl

no_opener : (cs : List ℕ) → is_prefixed cs ≡ false → opener_of cs ≡ None
no_opener cs h = ⊎_elim (λ n. n) (λ (o, e). let k : is_some (Some o) ≡ false = subst (λ x. is_some x ≡ false) e h in cc)
    (option_cases (opener_of cs))

raw_scanned : (name rest : List ℕ) → IsWord name → begins_never_raw (name ++ rest) ≡ false → begins is_next rest ≡ false
    → scan (114 ∷ 35 ∷ (name ++ rest)) ≡ Ends Ident rest
raw_scanned [] rest w k s = elim w [ ]
raw_scanned (c ∷ cs) rest w k s =
    scan_first 114 _ r-first ∙ word_raw (c ∷ (cs ++ rest)) (rw (w.0, k) refl) ∙ ap (Ends Ident)
    (past_word c (cs ++ rest) w.0 ∙ past_all is_next cs rest w.1 s)

plain_scanned : (cs rest : List ℕ) → IsWord cs → is_prefixed (cs ++ rest) ≡ false → begins is_next rest ≡ false
    → scan (cs ++ rest) ≡ Ends Ident rest
plain_scanned [] rest w k s = elim w [ ]
plain_scanned (c ∷ cs) rest w k s =
    scan_first c _ w.0 ∙ word_plain (c ∷ (cs ++ rest)) (no_opener _ k) ∙ ap (Ends Ident)
    (past_word c (cs ++ rest) w.0 ∙ past_all is_next cs rest w.1 s)

ident_scanned : (cs rest : List ℕ) → IsIdent cs rest → scan (cs ++ rest) ≡ Ends Ident rest
ident_scanned cs rest h =
    ⊎_elim
    (λ w. plain_scanned cs rest w.0 w.1 h.0)
    (λ (name, e, w, k). rw e (raw_scanned name rest w k h.0))
    h.1

-- literals
tail_whole : (o : Mode) (cs t : List ℕ) → IsTail o cs → past_tail o (cs ++ t) ≡ Some t
tail_whole modes.Char cs t h = single_whole modes.Char cs t h
tail_whole modes.Byte cs t h = single_whole modes.Byte cs t h
tail_whole modes.Str cs t h = cooked_whole modes.Str cs t refl refl h
tail_whole modes.ByteStr cs t h = cooked_whole modes.ByteStr cs t refl refl h
tail_whole modes.CStr cs t h = cooked_whole modes.CStr cs t refl refl h
tail_whole modes.RawStr cs t h = raw_whole modes.RawStr cs t refl h
tail_whole modes.RawByteStr cs t h = raw_whole modes.RawByteStr cs t refl h
tail_whole modes.RawCStr cs t h = raw_whole modes.RawCStr cs t refl h

raw_opened : (cs : List ℕ) → begins is_quote_or_hash cs ≡ true → opener_of (114 ∷ cs) ≡ Some modes.RawStr
unfolding opener_of
raw_opened [] h = cc
raw_opened (c ∷ cs) h = rw h refl

raw_bytes_opened : (cs : List ℕ) → begins is_quote_or_hash cs ≡ true → opener_of (98 ∷ 114 ∷ cs) ≡ Some modes.RawByteStr
unfolding opener_of
raw_bytes_opened cs h = rw h refl

raw_nozero_opened : (cs : List ℕ) → begins is_quote_or_hash cs ≡ true → opener_of (99 ∷ 114 ∷ cs) ≡ Some modes.RawCStr
unfolding opener_of
raw_nozero_opened cs h = rw h refl

bytes_opened : (cs : List ℕ) → opener_of (98 ∷ 34 ∷ cs) ≡ Some modes.ByteStr
unfolding opener_of
bytes_opened cs = refl

byte_opened : (cs : List ℕ) → opener_of (98 ∷ 39 ∷ cs) ≡ Some modes.Byte
unfolding opener_of
byte_opened cs = refl

nozero_opened : (cs : List ℕ) → opener_of (99 ∷ 34 ∷ cs) ≡ Some modes.CStr
unfolding opener_of
nozero_opened cs = refl

scan_quote : (cs : List ℕ) → scan (34 ∷ cs) ≡ suffixed Str (past_units modes.Str 0 cs)
scan_quote cs = rw front-quote refl

-- an opening and what the inside leads to
opened : (o : Mode) (cs rest : List ℕ) → past_tail o cs ≡ Some rest → scan (opening_of o ++ cs)
    ≡ suffixed (literal_kind o) (Some rest)
opened modes.Str cs rest e = scan_quote cs ∙ ap (suffixed Str) e
opened modes.ByteStr cs rest e =
    scan_first 98 _ b-first ∙ word_opened (98 ∷ 34 ∷ cs) modes.ByteStr refl (bytes_opened cs) ∙ ap (suffixed ByteStr) e
opened modes.CStr cs rest e =
    scan_first 99 _ c-first ∙ word_opened (99 ∷ 34 ∷ cs) modes.CStr refl (nozero_opened cs) ∙ ap (suffixed CStr) e
opened modes.RawStr cs rest e =
    scan_first 114 _ r-first ∙ word_opened (114 ∷ cs) modes.RawStr (hashes_no_name modes.RawStr cs rest e)
    (raw_opened cs (hashes_begin modes.RawStr 0 cs rest e)) ∙ ap (suffixed Str) e
opened modes.RawByteStr cs rest e =
    scan_first 98 _ b-first ∙ word_opened (98 ∷ 114 ∷ cs) modes.RawByteStr refl
    (raw_bytes_opened cs (hashes_begin modes.RawByteStr 0 cs rest e)) ∙ ap (suffixed ByteStr) e
opened modes.RawCStr cs rest e =
    scan_first 99 _ c-first ∙ word_opened (99 ∷ 114 ∷ cs) modes.RawCStr refl
    (raw_nozero_opened cs (hashes_begin modes.RawCStr 0 cs rest e)) ∙ ap (suffixed CStr) e
opened modes.Byte cs rest e =
    scan_first 98 _ b-first ∙ word_opened (98 ∷ 39 ∷ cs) modes.Byte refl (byte_opened cs) ∙ ap (suffixed Byte) e
opened modes.Char cs rest e = scan_tick cs ∙ ticked_char cs rest e

quoted_scanned : (kind : LiteralKind) (body rest : List ℕ) → IsQuotedLiteral kind body → scan (body ++ rest)
    ≡ Ends (Literal kind) (past_suffix rest)
quoted_scanned kind body rest (o, inside, k, e, i) =
    rw (k, e, append_assoc) (opened o (inside ++ rest) rest (tail_whole o inside rest i))

number_scanned : (kind : LiteralKind) (body rest : List ℕ) → IsNumber kind body rest → scan (body ++ rest)
    ≡ Ends (Literal kind) (past_suffix rest)
number_scanned kind [] rest h = let f = h.0 in cc
number_scanned kind (c ∷ cs) rest h = rw (front-digit c h.0, h.1, h.2) refl

body_scanned : (kind : LiteralKind) (body rest : List ℕ) → IsBody kind body rest → scan (body ++ rest)
    ≡ Ends (Literal kind) (past_suffix rest)
body_scanned kind body rest h = ⊎_elim (λ q. quoted_scanned kind body rest q) (λ n. number_scanned kind body rest n) h

pub complete : (k : PieceKind) (cs rest : List ℕ) → Fits k cs rest → scan (cs ++ rest) ≡ Ends k rest
complete FrontMark cs rest h = elim h [ ]
complete White [] rest h = elim h [ ]
complete White (c ∷ []) rest h = rw (front-white c h) refl
complete White (c ∷ d ∷ cs) rest h = elim h [ ]
complete Comment cs rest h = comment_scanned cs rest h
complete (Doc kind) cs rest h = doc_scanned kind cs rest h
complete (Open d) cs rest h = rw (h, front-opening d) refl
complete (Close d) cs rest h = rw (h, front-closing d) refl
complete (Literal kind) cs rest (body, suffix, e, b, s) =
    rw (e, append_assoc) (body_scanned kind body (suffix ++ rest) b ∙ ap (Ends (Literal kind))
    (suffix_ended suffix rest s))
complete Mark cs rest (c, e, m) = rw e (mark_scanned c rest m)
complete Ident cs rest h = ident_scanned cs rest h

-- at the front
scan_mark : (cs : List ℕ) → scan (65279 ∷ cs) ≡ Nowhere
scan_mark cs = rw byte_order-other refl

pub front_same : (cs rest : List ℕ) (k : PieceKind) → scan cs ≡ Ends k rest → scan_front cs ≡ Ends k rest
front_same [] rest k e = cc
front_same (c ∷ cs) rest k e =
    ⊎_elim
    (λ h. let n = scan_mark cs in let f : scan (65279 ∷ cs)
    ≡ Ends k rest = subst (λ x. scan (x ∷ cs) ≡ Ends k rest) (eqb-true c 65279 h) e in cc)
    (λ h. rw h e)
    (cases_Bool (c == 65279))

complete_front : (k : PieceKind) (cs rest : List ℕ) → FitsFront k cs rest → scan_front (cs ++ rest) ≡ Ends k rest
complete_front FrontMark cs rest h = rw h refl
complete_front White cs rest h = front_same _ rest White (complete White cs rest h)
complete_front Comment cs rest h = front_same _ rest Comment (complete Comment cs rest h)
complete_front (Doc kind) cs rest h = front_same _ rest (Doc kind) (complete (Doc kind) cs rest h)
complete_front (Open d) cs rest h = front_same _ rest (Open d) (complete (Open d) cs rest h)
complete_front (Close d) cs rest h = front_same _ rest (Close d) (complete (Close d) cs rest h)
complete_front (Literal kind) cs rest h = front_same _ rest (Literal kind) (complete (Literal kind) cs rest h)
complete_front Mark cs rest h = front_same _ rest Mark (complete Mark cs rest h)
complete_front Ident cs rest h = front_same _ rest Ident (complete Ident cs rest h)

pub complete_at : (at : ℕ) (k : PieceKind) (cs rest : List ℕ) → FitsAt at k cs rest → scan_at at (cs ++ rest)
    ≡ Ends k rest
complete_at zero k cs rest h = complete_front k cs rest h
complete_at (suc n) k cs rest h = complete k cs rest h
