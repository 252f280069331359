-- What stands before the end of a text stands before a line feed too, whatever follows that.
use Rattle.std.proofs.Common.{◌≡◌, ℕ, List, [], ◌∷◌, ◌++◌, drop, append-nil, append_assoc, refl, sym, ap, ap₂, ◌∙◌}
use Rattle.std.proofs.Common.{subst, inl, inr, ⊎_elim}
use Rattle.std.specs.Prelude.{Bool, true, false, not, ◌&&◌, ◌||◌, ◌==◌, nat_lt, Some, if◌then◌else◌}
use Rattle.std.proofs.lemmas.Bool.{and_parts, cases_Bool, or_cases, or_left}
use Rattle.unicode_ident.proofs.Computing.{unicode_ident}
use Rattle.rust_lex.specs.declared.piece.DocKind.{DocKind}
use Rattle.rust_lex.specs.declared.piece.DocKind.TheVariants as doc
use Rattle.rust_lex.specs.declared.piece.LiteralKind.{LiteralKind}
use Rattle.rust_lex.specs.declared.piece.PieceKind.{PieceKind}
use Rattle.rust_lex.specs.declared.piece.PieceKind.TheVariants as piece
use Rattle.rust_lex.specs.Chars.{begins, past, is_first, is_next, is_digit, is_not_feed, is_slash, is_tick}
use Rattle.rust_lex.specs.Chars.{is_slash_or_star, is_tick_or_hash, is_underscore}
use Rattle.rust_lex.specs.Comment.{IsComment, IsDocText, ends_line, is_plain_block, is_plain_line}
use Rattle.rust_lex.specs.Number.{IsNumber, base_by, base_of, begins_exponent, begins_fraction, decimal_kind}
use Rattle.rust_lex.specs.Number.{is_digit_of, is_digit_of_or_line, is_digit_or_line, is_dot_or_first, is_sign}
use Rattle.rust_lex.specs.Number.{is_exponent_letter, is_split, number_kind, past_based, past_decimal, past_exponent}
use Rattle.rust_lex.specs.Number.{past_fraction, past_lead, past_number, past_sign}
use Rattle.rust_lex.specs.Piece.{Piece, Fits, FitsFront, IsIdent, IsLiteral, IsSuffix, begins_mark, is_prefixed}
use Rattle.rust_lex.specs.Quoted.{opener_of}
use Rattle.rust_lex.specs.Word.{begins_never_raw, begins_lifetime, begins_raw_mark, begins_raw_name}
use Rattle.rust_lex.specs.Cover.{onto, AreFit, AreFitFront}
use Rattle.rust_lex.proofs.Alone.{kept_same, one_prefix}
use Rattle.rust_lex.proofs.Numbers.{base_small}
use Rattle.rust_lex.proofs.Taken.{chosen}

-- the characters at the front that pass, where a line feed doesn't
pub begins_feed : (p : ℕ → Bool) (t x : List ℕ) → p 10 ≡ false → begins p (t ++ 10 ∷ x) ≡ begins p t
begins_feed p [] x stops = stops
begins_feed p (c ∷ t) x stops = refl

pub past_feed : (p : ℕ → Bool) (t x : List ℕ) → p 10 ≡ false → past p (t ++ 10 ∷ x) ≡ past p t ++ 10 ∷ x
past_feed p [] x stops = rw stops refl
past_feed p (c ∷ t) x stops = ⊎_elim (λ y. rw y (past_feed p t x stops)) (λ n. rw n refl) (cases_Bool (p c))

drop_feed : (p : ℕ → Bool) (t x : List ℕ) → begins p t ≡ true → drop 1 (t ++ 10 ∷ x) ≡ drop 1 t ++ 10 ∷ x
drop_feed p [] x h = cc
drop_feed p (c ∷ t) x h = refl

stops_next : is_next 10 ≡ false
unfolding is_next unicode_ident
stops_next = refl

stops_first : is_first 10 ≡ false
unfolding is_first unicode_ident
stops_first = refl

stops_dot_or_first : is_dot_or_first 10 ≡ false
unfolding is_first unicode_ident
stops_dot_or_first = refl

stops_digit : is_digit 10 ≡ false
unfolding is_digit
stops_digit = refl

stops_digit_or_line : is_digit_or_line 10 ≡ false
unfolding is_digit
stops_digit_or_line = refl

-- the parts of a number without a prefix
fraction_begins : (t x : List ℕ) → begins_fraction (t ++ 10 ∷ x) ≡ begins_fraction t
fraction_begins [] x = refl
fraction_begins (c ∷ t) x = ap (λ b. c == 46 && not b) (begins_feed is_dot_or_first t x stops_dot_or_first)

fraction_past : (t x : List ℕ) → past_fraction (t ++ 10 ∷ x) ≡ past_fraction t ++ 10 ∷ x
fraction_past t x =
    ⊎_elim
    (λ y. let z : begins_fraction (t ++ 10 ∷ x) ≡ true = fraction_begins t x ∙ y in
    rw (z, y) (ap (past is_digit_or_line) (dropped t x y)
    ∙ past_feed is_digit_or_line (drop 1 t) x stops_digit_or_line))
    (λ n. let z : begins_fraction (t ++ 10 ∷ x) ≡ false = fraction_begins t x ∙ n in rw (z, n) refl)
    (cases_Bool (begins_fraction t))
  where
    dropped : (t x : List ℕ) → begins_fraction t ≡ true → drop 1 (t ++ 10 ∷ x) ≡ drop 1 t ++ 10 ∷ x
    dropped [] x h = cc
    dropped (c ∷ t) x h = refl

sign_past : (t x : List ℕ) → past_sign (t ++ 10 ∷ x) ≡ past_sign t ++ 10 ∷ x
sign_past t x =
    ⊎_elim
    (λ y. let z : begins is_sign (t ++ 10 ∷ x) ≡ true = begins_feed is_sign t x refl ∙ y in
    rw (z, y) (drop_feed is_sign t x y))
    (λ n. let z : begins is_sign (t ++ 10 ∷ x) ≡ false = begins_feed is_sign t x refl ∙ n in rw (z, n) refl)
    (cases_Bool (begins is_sign t))

lead_past : (t x : List ℕ) → past_lead (t ++ 10 ∷ x) ≡ past_lead t ++ 10 ∷ x
lead_past t x =
    ap (λ r. past is_underscore (past_sign r)) (past_feed is_underscore t x refl)
    ∙ ap (past is_underscore) (sign_past (past is_underscore t) x)
    ∙ past_feed is_underscore (past_sign (past is_underscore t)) x refl

exponent_begins : (t x : List ℕ) → begins_exponent (t ++ 10 ∷ x) ≡ begins_exponent t
exponent_begins [] x = refl
exponent_begins (c ∷ t) x = ap (λ b. is_exponent_letter c && b)
    (ap (begins is_digit) (lead_past t x) ∙ begins_feed is_digit (past_lead t) x stops_digit)

exponent_past : (t x : List ℕ) → past_exponent (t ++ 10 ∷ x) ≡ past_exponent t ++ 10 ∷ x
exponent_past t x =
    ⊎_elim
    (λ y. let z : begins_exponent (t ++ 10 ∷ x) ≡ true = exponent_begins t x ∙ y in
    rw (z, y) (ap (λ r. past is_digit_or_line (past_lead r)) (dropped t x y)
    ∙ ap (past is_digit_or_line) (lead_past (drop 1 t) x)
    ∙ past_feed is_digit_or_line (past_lead (drop 1 t)) x stops_digit_or_line))
    (λ n. let z : begins_exponent (t ++ 10 ∷ x) ≡ false = exponent_begins t x ∙ n in rw (z, n) refl)
    (cases_Bool (begins_exponent t))
  where
    dropped : (t x : List ℕ) → begins_exponent t ≡ true → drop 1 (t ++ 10 ∷ x) ≡ drop 1 t ++ 10 ∷ x
    dropped [] x h = cc
    dropped (c ∷ t) x h = refl

decimal_past : (t x : List ℕ) → past_decimal (t ++ 10 ∷ x) ≡ past_decimal t ++ 10 ∷ x
decimal_past t x =
    let digits = past_feed is_digit_or_line t x stops_digit_or_line in
    ap (λ r. past_exponent (past_fraction r)) digits
    ∙ ap past_exponent (fraction_past (past is_digit_or_line t) x)
    ∙ exponent_past (past_fraction (past is_digit_or_line t)) x

split_same : (t x : List ℕ) → is_split (t ++ 10 ∷ x) ≡ is_split t
split_same t x =
    let digits = past_feed is_digit_or_line t x stops_digit_or_line in
    ap₂ (λ a b. a || b)
    (ap begins_fraction digits ∙ fraction_begins (past is_digit_or_line t) x)
    (ap begins_exponent digits ∙ exponent_begins (past is_digit_or_line t) x)

decimal_same : (t x : List ℕ) → decimal_kind (t ++ 10 ∷ x) ≡ decimal_kind t
decimal_same t x = rw (split_same t x) refl

-- a number with a prefix
either_way : (a : Bool) (n : ℕ) → (if a then n else n) ≡ n
either_way true n = refl
either_way false n = refl

base_same : (t x : List ℕ) → base_of (t ++ 10 ∷ x) ≡ base_of t
base_same [] [] = refl
base_same [] (d ∷ x) = refl
base_same (c ∷ []) x = either_way (c == 48) 0
base_same (c ∷ d ∷ t) x = refl

some_same : (a b : List ℕ) → Some a ≡ Some b → a ≡ b
some_same a b e = cc

based_past : (base : ℕ) (t x rest : List ℕ) → nat_lt 36 base ≡ false → past_based base t ≡ Some rest
    → past_based base (t ++ 10 ∷ x) ≡ Some (rest ++ 10 ∷ x)
based_past base t x rest small e =
    let behind : past (is_digit_of_or_line base) (t ++ 10 ∷ x) ≡ past (is_digit_of_or_line base) t ++ 10 ∷ x =
    past_feed (is_digit_of_or_line base) t x (rw small refl) in
    let first : begins (is_digit_of base) (past is_underscore (t ++ 10 ∷ x))
    ≡ begins (is_digit_of base) (past is_underscore t) =
    ap (begins (is_digit_of base)) (past_feed is_underscore t x refl)
    ∙ begins_feed (is_digit_of base) (past is_underscore t) x small in
    let large : begins is_digit (past (is_digit_of_or_line base) (t ++ 10 ∷ x))
    ≡ begins is_digit (past (is_digit_of_or_line base) t) =
    ap (begins is_digit) behind ∙ begins_feed is_digit (past (is_digit_of_or_line base) t) x stops_digit in
    ⊎_elim
    (λ h.
    let same : past (is_digit_of_or_line base) t ≡ rest = some_same _ rest h.1 in
    let good : (begins (is_digit_of base) (past is_underscore (t ++ 10 ∷ x))
    && not (begins is_digit (past (is_digit_of_or_line base) (t ++ 10 ∷ x)))) ≡ true =
    ap₂ (λ a b. a && not b) first large ∙ h.0 in
    rw good (ap (λ r. Some r) (behind ∙ ap (λ r. r ++ 10 ∷ x) same)))
    (λ h. cc)
    (chosen (begins (is_digit_of base) (past is_underscore t)
    && not (begins is_digit (past (is_digit_of_or_line base) t))) _ _ _ e)

plain_past : (t x rest : List ℕ) → (base_of t == 0) ≡ true → past_number t ≡ Some rest
    → past_number (t ++ 10 ∷ x) ≡ Some (rest ++ 10 ∷ x)
unfolding past_number
plain_past t x rest y e =
    let z : (base_of (t ++ 10 ∷ x) == 0) ≡ true = ap (λ b. b == 0) (base_same t x) ∙ y in
    let f : Some (past_decimal t) ≡ Some rest = rw y at e in
    rw z (ap (λ r. Some r) (decimal_past t x ∙ ap (λ r. r ++ 10 ∷ x) (some_same _ rest f)))

number_past : (t x rest : List ℕ) → past_number t ≡ Some rest → past_number (t ++ 10 ∷ x) ≡ Some (rest ++ 10 ∷ x)
unfolding past_number
number_past [] x rest e = plain_past [] x rest refl e
number_past (c ∷ []) x rest e = plain_past (c ∷ []) x rest refl e
number_past (c ∷ d ∷ t) x rest e =
    ⊎_elim
    (λ y. plain_past (c ∷ d ∷ t) x rest y e)
    (λ n. let f : past_based (base_by c d) t ≡ Some rest = rw n at e in
    rw n (based_past (base_by c d) t x rest (base_small c d) f))
    (cases_Bool (base_by c d == 0))

kind_same : (t x : List ℕ) → number_kind (t ++ 10 ∷ x) ≡ number_kind t
unfolding number_kind
kind_same t x = rw (base_same t x, decimal_same t x) refl

number_feed : (kind : LiteralKind) (cs rest x : List ℕ) → IsNumber kind cs rest → IsNumber kind cs (rest ++ 10 ∷ x)
number_feed kind cs rest x (digit, ends, is) =
    let joined : cs ++ (rest ++ 10 ∷ x) ≡ (cs ++ rest) ++ 10 ∷ x = sym (append_assoc cs rest (10 ∷ x)) in (
      digit,
      ap past_number joined ∙ number_past (cs ++ rest) x rest ends,
      is ∙ sym (ap number_kind joined ∙ kind_same (cs ++ rest) x),
    )

-- literals
suffix_feed : (suffix rest x : List ℕ) → IsSuffix suffix rest → IsSuffix suffix (rest ++ 10 ∷ x)
suffix_feed [] rest x none = begins_feed is_first rest x stops_first ∙ none
suffix_feed (c ∷ cs) rest x (first, more, ends) = (first, more, begins_feed is_next rest x stops_next ∙ ends)

literal_feed : (kind : LiteralKind) (cs rest x : List ℕ) → IsLiteral kind cs rest → IsLiteral kind cs (rest ++ 10 ∷ x)
literal_feed kind cs rest x (body, suffix, joined, is, ends) = (
  body,
  suffix,
  joined,
  ⊎_elim (λ q. inl q)
      (λ n. inr (subst (IsNumber kind body) (append_assoc suffix rest (10 ∷ x))
      (number_feed kind body (suffix ++ rest) x n)))
      is,
  suffix_feed suffix rest x ends,
)

-- identifiers
prefixed_same : (t x : List ℕ) → is_prefixed t ≡ false → is_prefixed (t ++ 10 ∷ x) ≡ false
unfolding opener_of
prefixed_same [] [] h = refl
prefixed_same [] (d ∷ x) h = refl
prefixed_same (c ∷ []) x h = one_prefix c 10 x refl refl refl refl
prefixed_same (c ∷ d ∷ []) x h = h
prefixed_same (c ∷ d ∷ e ∷ t) x h = h

kept_feed : (t x : List ℕ) → begins_never_raw (t ++ 10 ∷ x) ≡ begins_never_raw t
kept_feed t x = kept_same t (10 ∷ x) [] stops_next refl ∙ ap begins_never_raw (append-nil t)

ident_feed : (cs rest x : List ℕ) → IsIdent cs rest → IsIdent cs (rest ++ 10 ∷ x)
ident_feed cs rest x (ends, is) = (
  begins_feed is_next rest x stops_next ∙ ends,
  ⊎_elim
      (λ w. inl (w.0, ap is_prefixed (sym (append_assoc cs rest (10 ∷ x))) ∙ prefixed_same (cs ++ rest) x w.1))
      (λ (name, joined, word, kept). inr (
        name,
        joined,
        word,
        ap begins_never_raw (sym (append_assoc name rest (10 ∷ x))) ∙ kept_feed (name ++ rest) x ∙ kept,
      ))
      is,
)

-- marks
raw_mark_same : (t x : List ℕ) → begins_raw_mark (t ++ 10 ∷ x) ≡ begins_raw_mark t
raw_mark_same [] x = refl
raw_mark_same (c ∷ []) x = refl
raw_mark_same (c ∷ d ∷ t) x = refl

raw_mark_drop : (t x : List ℕ) → begins_raw_mark t ≡ true → drop 2 (t ++ 10 ∷ x) ≡ drop 2 t ++ 10 ∷ x
raw_mark_drop [] x h = cc
raw_mark_drop (c ∷ []) x h = let (_, n) = and_parts (c == 114) false h in cc
raw_mark_drop (c ∷ d ∷ t) x h = refl

raw_name_same : (t x : List ℕ) → begins_raw_name (t ++ 10 ∷ x) ≡ begins_raw_name t
raw_name_same t x = ap₂ (λ a b. a && not b) (begins_feed is_first t x stops_first) (kept_feed t x)

word_ends : (p : ℕ → Bool) (t x : List ℕ) → p 10 ≡ false
    → begins p (past is_next (t ++ 10 ∷ x)) ≡ begins p (past is_next t)
word_ends p t x stops = ap (begins p) (past_feed is_next t x stops_next) ∙ begins_feed p (past is_next t) x stops

lifetime_same : (t x : List ℕ) → begins_lifetime (t ++ 10 ∷ x) ≡ begins_lifetime t
unfolding begins_lifetime
lifetime_same t x =
    ⊎_elim
    (λ y.
    let z : begins_raw_mark (t ++ 10 ∷ x) ≡ true = raw_mark_same t x ∙ y in
    let name : begins_raw_name (drop 2 (t ++ 10 ∷ x)) ≡ begins_raw_name (drop 2 t) =
    ap begins_raw_name (raw_mark_drop t x y) ∙ raw_name_same (drop 2 t) x in
    let ends : begins is_tick (past is_next (drop 2 (t ++ 10 ∷ x))) ≡ begins is_tick (past is_next (drop 2 t)) =
    ap (λ r. begins is_tick (past is_next r)) (raw_mark_drop t x y) ∙ word_ends is_tick (drop 2 t) x refl in
    rw (z, y) (ap₂ (λ a b. a && not b) name ends))
    (λ n.
    let z : begins_raw_mark (t ++ 10 ∷ x) ≡ false = raw_mark_same t x ∙ n in
    rw (z, n) (ap₂ (λ a b. a && not b) (begins_feed is_first t x stops_first) (word_ends is_tick_or_hash t x refl)))
    (cases_Bool (begins_raw_mark t))

mark_same : (c : ℕ) (rest x : List ℕ) → begins_mark (c ∷ (rest ++ 10 ∷ x)) ≡ begins_mark (c ∷ rest)
mark_same c rest x = rw (begins_feed is_slash_or_star rest x refl, lifetime_same rest x) refl

-- comments
line_opened : (a b : Bool) → (not b && (not a || false)) ≡ not (a || b)
line_opened true true = refl
line_opened true false = refl
line_opened false true = refl
line_opened false false = refl

plain_line_same : (t x : List ℕ) → is_plain_line (t ++ 10 ∷ x) ≡ is_plain_line t
plain_line_same [] [] = refl
plain_line_same [] (d ∷ x) = refl
plain_line_same (c ∷ []) x = line_opened (c == 47) (c == 33)
plain_line_same (c ∷ d ∷ t) x = refl

plain_block_same : (t x : List ℕ) → is_plain_block (t ++ 10 ∷ x) ≡ is_plain_block t
plain_block_same [] [] = refl
plain_block_same [] (d ∷ x) = refl
plain_block_same (c ∷ []) x = line_opened (c == 42) (c == 33)
plain_block_same (c ∷ d ∷ t) x = refl

comment_feed : (cs rest x : List ℕ) → IsComment cs rest → IsComment cs (rest ++ 10 ∷ x)
comment_feed [] rest x h = h
comment_feed (a ∷ []) rest x h = h
comment_feed (a ∷ b ∷ cs) rest x (slash, is) =
    let joined : cs ++ (rest ++ 10 ∷ x) ≡ (cs ++ rest) ++ 10 ∷ x = sym (append_assoc cs rest (10 ∷ x)) in (
      slash,
      ⊎_elim
          (λ l. inl (
            l.0,
            ap is_plain_line joined ∙ plain_line_same (cs ++ rest) x ∙ l.1,
            l.2,
            begins_feed is_not_feed rest x refl ∙ l.3,
          ))
          (λ k. inr (k.0, ap is_plain_block joined ∙ plain_block_same (cs ++ rest) x ∙ k.1, k.2))
          is,
    )

line_ends : (rest x : List ℕ) → ends_line rest ≡ true → ends_line (rest ++ 10 ∷ x) ≡ true
line_ends [] x h = refl
line_ends (c ∷ []) x h =
    ⊎_elim
    (λ e. or_left (c == 10) (c == 13 && true) e)
    (λ e. let (_, n) = and_parts (c == 13) false e in cc)
    (or_cases (c == 10) (c == 13 && false) h)
line_ends (c ∷ d ∷ rest) x h = h

doc_text_feed : (kind : DocKind) (text rest x : List ℕ) → IsDocText kind text rest
    → IsDocText kind text (rest ++ 10 ∷ x)
doc_text_feed doc.OuterLine text rest x (opens, line, ends) = (
  ap (begins is_slash) (sym (append_assoc text rest (10 ∷ x))) ∙ begins_feed is_slash (text ++ rest) x refl ∙ opens,
  line,
  line_ends rest x ends,
)
doc_text_feed doc.InnerLine text rest x (line, ends) = (line, line_ends rest x ends)
doc_text_feed doc.OuterBlock text rest x h = h
doc_text_feed doc.InnerBlock text rest x h = h

-- a piece before a rest is one before the rest and a line feed
pub fits_before_feed : (kind : PieceKind) (cs rest x : List ℕ) → Fits kind cs rest → Fits kind cs (rest ++ 10 ∷ x)
fits_before_feed piece.FrontMark cs rest x f = f
fits_before_feed piece.White cs rest x f = f
fits_before_feed piece.Comment cs rest x f = comment_feed cs rest x f
fits_before_feed (piece.Doc kind) cs rest x (text, joined, is) = (text, joined, doc_text_feed kind text rest x is)
fits_before_feed (piece.Open d) cs rest x f = f
fits_before_feed (piece.Close d) cs rest x f = f
fits_before_feed piece.Mark cs rest x (c, is, mark) = (c, is, mark_same c rest x ∙ mark)
fits_before_feed piece.Ident cs rest x f = ident_feed cs rest x f
fits_before_feed (piece.Literal kind) cs rest x f = literal_feed kind cs rest x f

-- and at the front of a text
front_before_feed : (kind : PieceKind) (cs rest x : List ℕ) → FitsFront kind cs rest
    → FitsFront kind cs (rest ++ 10 ∷ x)
front_before_feed piece.FrontMark cs rest x f = f
front_before_feed piece.White cs rest x f = f
front_before_feed piece.Comment cs rest x f = comment_feed cs rest x f
front_before_feed (piece.Doc kind) cs rest x f = fits_before_feed (piece.Doc kind) cs rest x f
front_before_feed (piece.Open d) cs rest x f = f
front_before_feed (piece.Close d) cs rest x f = f
front_before_feed piece.Mark cs rest x f = fits_before_feed piece.Mark cs rest x f
front_before_feed piece.Ident cs rest x f = ident_feed cs rest x f
front_before_feed (piece.Literal kind) cs rest x f = literal_feed kind cs rest x f

pub onto_rest : (ps : List Piece) (rest : List ℕ) → onto ps rest ≡ onto ps [] ++ rest
onto_rest [] rest = refl
onto_rest (p ∷ ps) rest = ap (λ r. p.chars ++ r) (onto_rest ps rest) ∙ sym (append_assoc p.chars (onto ps []) rest)

-- pieces that fit before the end of a text fit before a line feed, whatever follows that
pub fit_before_feed : (ps : List Piece) (x : List ℕ) → AreFit ps [] → AreFit ps (10 ∷ x)
fit_before_feed [] x f = tt
fit_before_feed (p ∷ ps) x f = (
  subst (Fits p.kind p.chars) (sym (onto_rest ps (10 ∷ x))) (fits_before_feed p.kind p.chars (onto ps []) x f.0),
  fit_before_feed ps x f.1,
)

pub fit_front_before_feed : (ps : List Piece) (x : List ℕ) → AreFitFront ps [] → AreFitFront ps (10 ∷ x)
fit_front_before_feed [] x f = tt
fit_front_before_feed (p ∷ ps) x f = (
  subst (FitsFront p.kind p.chars) (sym (onto_rest ps (10 ∷ x)))
      (front_before_feed p.kind p.chars (onto ps []) x f.0),
  fit_before_feed ps x f.1,
)
