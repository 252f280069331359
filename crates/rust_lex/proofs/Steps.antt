-- One character on: what loops over a text go by.
use Rattle.std.proofs.Common.{◌≡◌, ℕ, zero, suc, ◌+◌, ◌-◌, ◌<◌, ◌≤◌, arith, add-one, sub-one, List, [], ◌∷◌, length}
use Rattle.std.proofs.Common.{drop, drop-cons, get_or, refl}
use Rattle.std.specs.Prelude.{Bool, true, false, ◌||◌, ◌&&◌, ◌==◌, not, nat_le, Option, Some, None}
use Rattle.std.proofs.lemmas.List.{drop_all}
use Rattle.std.proofs.lemmas.Bool.{eq-eqb, ne_eqb, or_parts, and_left, and_right}
use Rattle.rust_escape.specs.declared.mode.Mode.{Mode}
use Rattle.rust_escape.specs.declared.mode.Mode.TheVariants as modes
use Rattle.rust_lex.specs.Chars.{is_next, begins, is_not_feed, is_quote_or_hash, past}
use Rattle.rust_lex.specs.Comment.{InnerLine, OuterLine, InnerBlock, OuterBlock, past_comment, is_plain_line}
use Rattle.rust_lex.specs.Comment.{is_plain_block, is_within_line, ends_line}
use Rattle.rust_lex.specs.Quoted.{Int, opener_of}
use Rattle.rust_lex.specs.QuotedScan.{past_marks, past_close, stands, past_raw, past_hashes}
use Rattle.rust_lex.specs.Number.{base_by, base_of, past_based, past_decimal, past_number, decimal_kind, number_kind}
use Rattle.rust_lex.specs.Word.{begins_word}
use Rattle.rust_lex.specs.Piece.{Comment, Doc, Mark}
use Rattle.rust_lex.specs.Scan.{Nowhere, Ends, ended, line, block, slash}
use Rattle.rust_lex.proofs.PlacesLemmas.{rest_end}
use Rattle.rust_lex.proofs.Raws.{raw_step, raw_wrong, raw_closed, raw_end}

-- raw strings
pub marks_step_done : (n : ℕ) (cs : List ℕ) → n ≡ 0 → past_marks n cs ≡ Some cs
marks_step_done n cs e = rw e refl

pub marks_step_end : (n : ℕ) → 0 < n → past_marks n [] ≡ None
marks_step_end zero h = absurd (omega arith)
marks_step_end (suc n) h = refl

pub marks_step_more : (n m c : ℕ) (cs : List ℕ) → 0 < n → c ≡ 35 → m ≡ n - 1 → past_marks n (c ∷ cs) ≡ past_marks m cs
marks_step_more zero m c cs h e k = absurd (omega arith)
marks_step_more (suc n) m c cs h e k = rw (e, k, sub-one) refl

pub marks_step_wrong : (n c : ℕ) (cs : List ℕ) → 0 < n → (c ≡ 35 → ⊥) → past_marks n (c ∷ cs) ≡ None
marks_step_wrong zero c cs h e = absurd (omega arith)
marks_step_wrong (suc n) c cs h e = rw (ne_eqb c 35 e) refl

pub ruleset marks = (rest_end, marks_step_done, marks_step_end, marks_step_more, marks_step_wrong)

pub raw_close_quote : (n c : ℕ) (cs : List ℕ) (o : Option (List ℕ)) → c ≡ 34 → past_marks n cs ≡ o
    → past_close n (c ∷ cs) ≡ o
raw_close_quote n c cs o e h = rw e h

pub raw_close_none : (n c : ℕ) (cs : List ℕ) → (c ≡ 34 → ⊥) → past_close n (c ∷ cs) ≡ None
raw_close_none n c cs e = rw (ne_eqb c 34 e) refl

pub raw_step_closed : (a : Mode) (n c : ℕ) (cs rest : List ℕ) → c ≡ 34 → past_marks n cs ≡ Some rest
    → past_raw a n (c ∷ cs) ≡ Some rest
raw_step_closed a n c cs rest e h = raw_closed a n c cs rest (raw_close_quote n c cs (Some rest) e h)

pub raw_step_quote : (a : Mode) (n c : ℕ) (cs : List ℕ) → c ≡ 34 → past_marks n cs ≡ None → stands a c cs ≡ true
    → past_raw a n (c ∷ cs) ≡ past_raw a n cs
raw_step_quote a n c cs e h k = raw_step a n c cs (raw_close_quote n c cs None e h) k

pub raw_wrong_quote : (a : Mode) (n c : ℕ) (cs : List ℕ) → c ≡ 34 → past_marks n cs ≡ None → stands a c cs ≡ false
    → past_raw a n (c ∷ cs) ≡ None
raw_wrong_quote a n c cs e h k = raw_wrong a n c cs (raw_close_quote n c cs None e h) k

pub raw_step_other : (a : Mode) (n c : ℕ) (cs : List ℕ) → (c ≡ 34 → ⊥) → stands a c cs ≡ true → past_raw a n (c ∷ cs)
    ≡ past_raw a n cs
raw_step_other a n c cs e k = raw_step a n c cs (raw_close_none n c cs e) k

pub raw_wrong_other : (a : Mode) (n c : ℕ) (cs : List ℕ) → (c ≡ 34 → ⊥) → stands a c cs ≡ false → past_raw a n (c ∷ cs)
    ≡ None
raw_wrong_other a n c cs e k = raw_wrong a n c cs (raw_close_none n c cs e) k

pub ruleset raws = (
  rest_end,
  raw_end,
  raw_step_closed,
  raw_step_quote,
  raw_wrong_quote,
  raw_step_other,
  raw_wrong_other,
)

pub hashes_step_end : (a : Mode) (n : ℕ) → past_hashes a n [] ≡ None
unfolding past_hashes
hashes_step_end a n = refl

pub hashes_step_more : (a : Mode) (n c : ℕ) (cs : List ℕ) → c ≡ 35 → past_hashes a n (c ∷ cs) ≡ past_hashes a (n + 1) cs
unfolding past_hashes
hashes_step_more a n c cs e = rw e refl

pub hashes_step_raw : (a : Mode) (n c : ℕ) (cs : List ℕ) → (c ≡ 35 → ⊥) → (c == 34 && nat_le n 255) ≡ true
    → past_hashes a n (c ∷ cs) ≡ past_raw a n cs
unfolding past_hashes
hashes_step_raw a n c cs e h = rw (ne_eqb c 35 e, h) refl

pub hashes_step_wrong : (a : Mode) (n c : ℕ) (cs : List ℕ) → (c ≡ 35 → ⊥) → (c == 34 && nat_le n 255) ≡ false
    → past_hashes a n (c ∷ cs) ≡ None
unfolding past_hashes
hashes_step_wrong a n c cs e h = rw (ne_eqb c 35 e, h) refl

pub ruleset hashes = (rest_end, hashes_step_end, hashes_step_more, hashes_step_raw, hashes_step_wrong)

-- comments, one or two characters on
pub comment_step_end : (doc : Bool) (n : ℕ) → past_comment doc n [] ≡ None
unfolding past_comment
comment_step_end doc n = refl

pub comment_step_last : (doc : Bool) (n c : ℕ) → past_comment doc n (c ∷ []) ≡ None
unfolding past_comment
comment_step_last doc n c = refl

pub comment_step_quiet : (doc : Bool) (n c : ℕ) (cs : List ℕ) → (c == 42 || (c == 47 || c == 13)) ≡ false
    → past_comment doc n (c ∷ cs) ≡ past_comment doc n cs
unfolding past_comment
comment_step_quiet doc n c [] h = refl
comment_step_quiet doc n c (d ∷ cs) h =
    let others = or_parts (c == 42) (c == 47 || c == 13) h in
    let ends = or_parts (c == 47) (c == 13) others.1 in
    let closes = and_left (c == 42) (d == 47) others.0 in
    let opens = and_left (c == 47) (d == 42) ends.0 in
    let bare = and_right doc (c == 13 && not (d == 10)) (and_left (c == 13) (not (d == 10)) ends.1) in
    rw (closes, opens, bare) refl

pub comment_step_close : (doc : Bool) (n c d : ℕ) (cs : List ℕ) → n ≡ 0 → (c == 42 && d == 47) ≡ true
    → past_comment doc n (c ∷ d ∷ cs) ≡ Some cs
unfolding past_comment
comment_step_close doc n c d cs z h = rw (h, z) refl

pub comment_step_inner : (doc : Bool) (n c d : ℕ) (cs : List ℕ) → (n ≡ 0 → ⊥) → (c == 42 && d == 47) ≡ true
    → past_comment doc n (c ∷ d ∷ cs) ≡ past_comment doc (n - 1) cs
unfolding past_comment
comment_step_inner doc zero c d cs z h = absurd (z refl)
comment_step_inner doc (suc n) c d cs z h = rw (h, sub-one) refl

pub comment_step_open : (doc : Bool) (n c d : ℕ) (cs : List ℕ) → (c == 42 && d == 47) ≡ false → (c == 47 && d == 42)
    ≡ true → past_comment doc n (c ∷ d ∷ cs) ≡ past_comment doc (n + 1) cs
unfolding past_comment
comment_step_open doc n c d cs k h = rw (k, h, add-one) refl

pub comment_step_plain : (doc : Bool) (n c d : ℕ) (cs : List ℕ) → (c == 42 && d == 47) ≡ false → (c == 47 && d == 42)
    ≡ false → (doc && (c == 13 && not (d == 10))) ≡ false → past_comment doc n (c ∷ d ∷ cs)
    ≡ past_comment doc n (d ∷ cs)
unfolding past_comment
comment_step_plain doc n c d cs k h b = rw (k, h, b) refl

pub comment_step_bare : (doc : Bool) (n c d : ℕ) (cs : List ℕ) → (c == 42 && d == 47) ≡ false → (c == 47 && d == 42)
    ≡ false → (doc && (c == 13 && not (d == 10))) ≡ true → past_comment doc n (c ∷ d ∷ cs) ≡ None
unfolding past_comment
comment_step_bare doc n c d cs k h b = rw (k, h, b) refl

pub ruleset comments = (
  rest_end,
  comment_step_end,
  comment_step_last,
  comment_step_quiet,
  comment_step_close,
  comment_step_inner,
  comment_step_open,
  comment_step_plain,
  comment_step_bare,
)

-- behind //
pub line_end : line [] ≡ Ends Comment []
unfolding line
line_end = refl

pub line_plain : (c : ℕ) (cs : List ℕ) → is_plain_line (c ∷ cs) ≡ true → line (c ∷ cs)
    ≡ Ends Comment (past is_not_feed (c ∷ cs))
unfolding line
line_plain c cs h = rw h refl

pub line_bare : (c : ℕ) (cs : List ℕ) → is_plain_line (c ∷ cs) ≡ false → ends_line (past is_within_line cs) ≡ false
    → line (c ∷ cs) ≡ Nowhere
unfolding line
line_bare c cs h k = rw (h, k) refl

pub line_inner : (c : ℕ) (cs : List ℕ) → is_plain_line (c ∷ cs) ≡ false → ends_line (past is_within_line cs) ≡ true → c
    ≡ 33 → line (c ∷ cs) ≡ Ends (Doc InnerLine) (past is_within_line cs)
unfolding line
line_inner c cs h k e = rw (h, k, e) refl

pub line_outer : (c : ℕ) (cs : List ℕ) → is_plain_line (c ∷ cs) ≡ false → ends_line (past is_within_line cs) ≡ true
    → (c ≡ 33 → ⊥) → line (c ∷ cs) ≡ Ends (Doc OuterLine) (past is_within_line cs)
unfolding line
line_outer c cs h k e = rw (h, k, ne_eqb c 33 e) refl

pub ruleset lines = (rest_end, line_end, line_plain, line_bare, line_inner, line_outer)

-- behind /*
pub block_end : block [] ≡ Nowhere
unfolding block
block_end = refl

pub block_plain : (c : ℕ) (cs : List ℕ) → is_plain_block (c ∷ cs) ≡ true → block (c ∷ cs)
    ≡ ended Comment (past_comment false 0 (c ∷ cs))
unfolding block
block_plain c cs h = rw h refl

pub block_inner : (c : ℕ) (cs : List ℕ) → is_plain_block (c ∷ cs) ≡ false → c ≡ 33 → block (c ∷ cs)
    ≡ ended (Doc InnerBlock) (past_comment true 0 cs)
unfolding block
block_inner c cs h e = rw (h, e) refl

pub block_outer : (c : ℕ) (cs : List ℕ) → is_plain_block (c ∷ cs) ≡ false → (c ≡ 33 → ⊥) → block (c ∷ cs)
    ≡ ended (Doc OuterBlock) (past_comment true 0 cs)
unfolding block
block_outer c cs h e = rw (h, ne_eqb c 33 e) refl

pub block_open : (c : ℕ) (cs : List ℕ) → is_plain_block (c ∷ cs) ≡ false → past_comment true 0 cs ≡ None
    → block (c ∷ cs) ≡ Nowhere
unfolding block
block_open c cs h e = rw (h, e) refl

pub ruleset blocks = (rest_end, block_end, block_plain, block_inner, block_outer, block_open)

-- behind a slash
pub slash_end : slash [] ≡ Ends Mark []
unfolding slash
slash_end = refl

pub slash_line : (c : ℕ) (cs : List ℕ) → c ≡ 47 → slash (c ∷ cs) ≡ line cs
unfolding slash
slash_line c cs e = rw e refl

pub slash_block : (c : ℕ) (cs : List ℕ) → c ≡ 42 → slash (c ∷ cs) ≡ block cs
unfolding slash
slash_block c cs e = rw e refl

pub slash_mark : (c : ℕ) (cs : List ℕ) → (c ≡ 47 → ⊥) → (c ≡ 42 → ⊥) → slash (c ∷ cs) ≡ Ends Mark (c ∷ cs)
unfolding slash
slash_mark c cs h k = rw (ne_eqb c 47 h, ne_eqb c 42 k) refl

pub ruleset slashes = (rest_end, slash_end, slash_line, slash_block, slash_mark)

-- numbers
pub number_decimal : (cs : List ℕ) → base_of cs ≡ 0 → past_number cs ≡ Some (past_decimal cs)
unfolding past_number
number_decimal cs e = rw e refl

pub kind_decimal : (cs : List ℕ) → base_of cs ≡ 0 → number_kind cs ≡ decimal_kind cs
unfolding number_kind
kind_decimal cs e = rw e refl

pub number_based : (c d base : ℕ) (cs : List ℕ) → base_by c d ≡ base → (base ≡ 0 → ⊥) → past_number (c ∷ d ∷ cs)
    ≡ past_based base cs
unfolding past_number
number_based c d base cs e h = rw (e, ne_eqb base 0 h) refl

pub kind_based : (c d base : ℕ) (cs : List ℕ) → base_by c d ≡ base → (base ≡ 0 → ⊥) → number_kind (c ∷ d ∷ cs) ≡ Int
unfolding number_kind
kind_based c d base cs e h = rw (e, ne_eqb base 0 h) refl

pub ruleset numbers = (rest_end, number_decimal, kind_decimal, number_based, kind_based)

-- words
pub word_step_done : (w : List ℕ) (i : ℕ) (cs : List ℕ) → length w ≤ i → begins_word (drop i w) cs
    ≡ not (begins is_next cs)
word_step_done w i cs h = rw (drop_all i w h) refl

pub word_step_short : (w : List ℕ) (i : ℕ) → i < length w → begins_word (drop i w) [] ≡ false
word_step_short w i h = rw (drop-cons w i 0 h) refl

pub word_step_more : (w : List ℕ) (i c : ℕ) (cs : List ℕ) → i < length w → c ≡ get_or w i 0
    → begins_word (drop i w) (c ∷ cs) ≡ begins_word (drop (i + 1) w) cs
word_step_more w i c cs h e = rw (drop-cons w i 0 h, add-one, eq-eqb c (get_or w i 0) e) refl

pub word_step_wrong : (w : List ℕ) (i c : ℕ) (cs : List ℕ) → i < length w → (c ≡ get_or w i 0 → ⊥)
    → begins_word (drop i w) (c ∷ cs) ≡ false
word_step_wrong w i c cs h e = rw (drop-cons w i 0 h, ne_eqb c (get_or w i 0) e) refl

pub ruleset words = (rest_end, word_step_done, word_step_short, word_step_more, word_step_wrong)

-- openings
pub opener_end : opener_of [] ≡ None
unfolding opener_of
opener_end = refl

pub opener_last : (c : ℕ) → opener_of (c ∷ []) ≡ None
unfolding opener_of
opener_last c = refl

pub opener_other : (c : ℕ) (cs : List ℕ) → (c ≡ 98 → ⊥) → (c ≡ 99 → ⊥) → (c ≡ 114 → ⊥) → opener_of (c ∷ cs) ≡ None
unfolding opener_of
opener_other c [] b k r = refl
opener_other c (d ∷ cs) b k r = rw (ne_eqb c 98 b, ne_eqb c 99 k, ne_eqb c 114 r) refl

pub opener_raw : (c d : ℕ) (cs : List ℕ) → c ≡ 114 → (d == 34 || d == 35) ≡ true → opener_of (c ∷ d ∷ cs)
    ≡ Some modes.RawStr
unfolding opener_of
opener_raw c d cs e h = rw (e, h) refl

pub opener_no_raw : (c d : ℕ) (cs : List ℕ) → c ≡ 114 → (d == 34 || d == 35) ≡ false → opener_of (c ∷ d ∷ cs) ≡ None
unfolding opener_of
opener_no_raw c d cs e h = rw (e, h) refl

pub opener_bytes : (c d : ℕ) (cs : List ℕ) → c ≡ 98 → d ≡ 34 → opener_of (c ∷ d ∷ cs) ≡ Some modes.ByteStr
unfolding opener_of
opener_bytes c d cs e h = rw (e, h) refl

pub opener_byte : (c d : ℕ) (cs : List ℕ) → c ≡ 98 → d ≡ 39 → opener_of (c ∷ d ∷ cs) ≡ Some modes.Byte
unfolding opener_of
opener_byte c d cs e h = rw (e, h) refl

pub opener_raw_bytes : (c d : ℕ) (cs : List ℕ) → c ≡ 98 → d ≡ 114 → begins is_quote_or_hash cs ≡ true
    → opener_of (c ∷ d ∷ cs) ≡ Some modes.RawByteStr
unfolding opener_of
opener_raw_bytes c d cs e h k = rw (e, h, k) refl

pub opener_no_bytes : (c d : ℕ) (cs : List ℕ) → c ≡ 98 → (d ≡ 34 → ⊥) → (d ≡ 39 → ⊥)
    → (d == 114 && begins is_quote_or_hash cs) ≡ false → opener_of (c ∷ d ∷ cs) ≡ None
unfolding opener_of
opener_no_bytes c d cs e h k r = rw (e, ne_eqb d 34 h, ne_eqb d 39 k, r) refl

pub opener_zero : (c d : ℕ) (cs : List ℕ) → c ≡ 99 → d ≡ 34 → opener_of (c ∷ d ∷ cs) ≡ Some modes.CStr
unfolding opener_of
opener_zero c d cs e h = rw (e, h) refl

pub opener_raw_zero : (c d : ℕ) (cs : List ℕ) → c ≡ 99 → d ≡ 114 → begins is_quote_or_hash cs ≡ true
    → opener_of (c ∷ d ∷ cs) ≡ Some modes.RawCStr
unfolding opener_of
opener_raw_zero c d cs e h k = rw (e, h, k) refl

pub opener_no_zero : (c d : ℕ) (cs : List ℕ) → c ≡ 99 → (d ≡ 34 → ⊥) → (d == 114 && begins is_quote_or_hash cs) ≡ false
    → opener_of (c ∷ d ∷ cs) ≡ None
unfolding opener_of
opener_no_zero c d cs e h r = rw (e, ne_eqb d 34 h, r) refl

pub ruleset openers = (
  rest_end,
  opener_end,
  opener_last,
  opener_other,
  opener_raw,
  opener_no_raw,
  opener_bytes,
  opener_byte,
  opener_raw_bytes,
  opener_no_bytes,
  opener_zero,
  opener_raw_zero,
  opener_no_zero,
)
