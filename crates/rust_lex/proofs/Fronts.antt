-- What a character that passes a test begins.
use Rattle.std.proofs.Common.{◌≡◌, ℕ, zero, suc, ◌+◌, ◌≤◌, ◌<◌, arith, List, [], ◌∷◌, refl, sym, subst, ⊎_elim, map}
use Rattle.std.specs.Prelude.{true, false, cond, ◌||◌, ◌&&◌, ◌==◌, if◌then◌else◌, nat_le, nat_lt}
use Rattle.std.specs.List.{list_all}
use Rattle.std.proofs.lemmas.Bool.Decides.{nat_tests}
use Rattle.std.proofs.lemmas.Bool.{or_cases, eqb-true, cond_both, or_right, eq-eqb, ne_eqb, cases_eq}
use Rattle.std.proofs.lemmas.Bool.{false_from_ne_true, and_parts, leb-true, lt-leb, ltb-true, or_from, and_right}
use Rattle.std.specs.Char.{is_ascii_alphanumeric, is_ascii_digit}
use Rattle.unicode_ident.proofs.Computing.{unicode_ident}
use Rattle.unicode_ident.specs.Ident.{is_xid_start, is_xid_continue}
use Rattle.unicode_ident.proofs.IdentLemmas.{is_xid_continue-ascii, is_xid_start-is_xid_continue}
use Rattle.rust_lex.specs.Chars.{is_among, whites, marks_but_tick, is_white, is_narrow_white, is_first, is_next}
use Rattle.rust_lex.specs.Chars.{is_digit, is_mark_but_tick}
use Rattle.rust_lex.specs.Piece.{GroupMarks, Parenthesis, Bracket, Brace, opening, closing}
use Rattle.rust_lex.specs.Scan.{Front, white, opens, closes, quote, tick, digit, first, mark, other, front_of}

abbrev pub Each : (ℕ → Type 0) → List ℕ → Type 0
Each P [] = Unit {0}
Each P (c ∷ cs) = P c × Each P cs

pub among_each : (P : ℕ → Type 0) (cs : List ℕ) → Each P cs → (c : ℕ) → is_among cs c ≡ true → P c
among_each P [] h c e = cc
among_each P (d ∷ cs) h c e =
    ⊎_elim (λ same. subst P (eqb-true d c same) h.0) (λ other. among_each P cs h.1 c other) (or_cases _ _ e)

-- what is the same of each character of a list
each_is : (f : ℕ → Front) (x : Front) (cs : List ℕ) → map f cs ≡ map (λ d. x) cs → Each (λ d. f d ≡ x) cs
each_is f x [] e = tt
each_is f x (c ∷ cs) e =
    let here : f c ≡ x = cc in
    let others : map f cs ≡ map (λ d. x) cs = cc in
    (here, each_is f x cs others)

pub front-first : (c : ℕ) → is_first c ≡ true → front_of c ≡ first
unfolding front_of
front-first c h = rw h refl

pub front-white : (c : ℕ) → is_white c ≡ true → front_of c ≡ white
unfolding front_of is_white is_first unicode_ident
front-white c h = among_each (λ d. front_of d ≡ white) whites (each_is front_of white whites refl) c h

pub front-mark : (c : ℕ) → is_mark_but_tick c ≡ true → front_of c ≡ mark
unfolding front_of is_white is_first is_mark_but_tick unicode_ident
front-mark c h = among_each (λ d. front_of d ≡ mark) marks_but_tick (each_is front_of mark marks_but_tick refl) c h

pub front-quote : front_of 34 ≡ quote
unfolding front_of is_white is_first is_mark_but_tick is_digit unicode_ident
front-quote = refl

pub front-tick : front_of 39 ≡ tick
unfolding front_of is_white is_first is_mark_but_tick is_digit unicode_ident
front-tick = refl

pub front-opening : (d : GroupMarks) → front_of (opening d) ≡ opens d
unfolding front_of is_white is_first is_mark_but_tick is_digit unicode_ident
front-opening Parenthesis = refl
front-opening Bracket = refl
front-opening Brace = refl

pub front-closing : (d : GroupMarks) → front_of (closing d) ≡ closes d
unfolding front_of is_white is_first is_mark_but_tick is_digit unicode_ident
front-closing Parenthesis = refl
front-closing Bracket = refl
front-closing Brace = refl

pub first-next : (c : ℕ) → is_first c ≡ true → is_next c ≡ true
unfolding is_first is_next unicode_ident
first-next c h = ⊎_elim (λ s. is_xid_start-is_xid_continue c s)
    (λ e. subst (λ d. is_xid_continue d ≡ true) (sym (eqb-true c 95 e)) refl) (or_cases _ _ h)

pub b-first : is_first 98 ≡ true
unfolding is_first unicode_ident
b-first = refl

-- what the class of a character says of it
abbrev pub Says : Front → ℕ → Type 0
Says white c = is_white c ≡ true
Says (opens d) c = c ≡ opening d
Says (closes d) c = c ≡ closing d
Says quote c = c ≡ 34
Says tick c = c ≡ 39
Says digit c = is_digit c ≡ true
Says first c = is_first c ≡ true
Says mark c = is_mark_but_tick c ≡ true
Says other c = Unit {0}

pub front_says : (c : ℕ) → Says (front_of c) c
unfolding front_of
front_says c =
    let P : Front → Type 0 = λ f. Says f c in
    cond_both (is_first c) _ _ P (λ h. h) (λ _.
    cond_both (is_white c) _ _ P (λ h. h) (λ _.
    cond_both (is_mark_but_tick c) _ _ P (λ h. h) (λ _.
    cond_both (is_digit c) _ _ P (λ h. h) (λ _.
    cond_both (c == 34) _ _ P (λ h. eqb-true c 34 h) (λ _.
    cond_both (c == 39) _ _ P (λ h. eqb-true c 39 h) (λ _.
    cond_both (c == 40) _ _ P (λ h. eqb-true c 40 h) (λ _.
    cond_both (c == 41) _ _ P (λ h. eqb-true c 41 h) (λ _.
    cond_both (c == 91) _ _ P (λ h. eqb-true c 91 h) (λ _.
    cond_both (c == 93) _ _ P (λ h. eqb-true c 93 h) (λ _.
    cond_both (c == 123) _ _ P (λ h. eqb-true c 123 h) (λ _.
    cond_both (c == 125) _ _ P (λ h. eqb-true c 125 h) (λ _. tt))))))))))))

pub slash-mark : is_mark_but_tick 47 ≡ true
unfolding is_mark_but_tick
slash-mark = refl

abbrev pub up_from : ℕ → ℕ → List ℕ
up_from lo zero = []
up_from lo (suc n) = lo ∷ up_from (lo + 1) n

pub in_between : (lo n c : ℕ) → lo ≤ c → c < lo + n → is_among (up_from lo n) c ≡ true
in_between lo zero c l h = absurd (omega arith)
in_between lo (suc n) c l h =
    ⊎_elim
    (λ e. rw (eq-eqb lo c (sym e)) refl)
    (λ e. or_right (lo == c) _ (in_between (lo + 1) n c (omega arith) (omega arith)))
    (cases_eq c lo)

in_range : (x : Front) (lo n c : ℕ) → map front_of (up_from lo n) ≡ map (λ d. x) (up_from lo n)
    → is_among (up_from lo n) c ≡ true → front_of c ≡ x
in_range x lo n c e h = among_each (λ d. front_of d ≡ x) (up_from lo n) (each_is front_of x (up_from lo n) e) c h

pub range-97 : (c : ℕ) → 97 ≤ c → c ≤ 122 → front_of c ≡ first
unfolding front_of is_white is_first is_mark_but_tick is_digit unicode_ident
range-97 c l h = in_range first 97 26 c refl (in_between 97 26 c l (omega arith))

pub range-65 : (c : ℕ) → 65 ≤ c → c ≤ 90 → front_of c ≡ first
unfolding front_of is_white is_first is_mark_but_tick is_digit unicode_ident
range-65 c l h = in_range first 65 26 c refl (in_between 65 26 c l (omega arith))

pub range-95 : (c : ℕ) → 95 ≤ c → c ≤ 95 → front_of c ≡ first
unfolding front_of is_white is_first is_mark_but_tick is_digit unicode_ident
range-95 c l h = in_range first 95 1 c refl (in_between 95 1 c l (omega arith))

pub range-9 : (c : ℕ) → 9 ≤ c → c ≤ 13 → front_of c ≡ white
unfolding front_of is_white is_first is_mark_but_tick is_digit unicode_ident
range-9 c l h = in_range white 9 5 c refl (in_between 9 5 c l (omega arith))

pub range-32 : (c : ℕ) → 32 ≤ c → c ≤ 32 → front_of c ≡ white
unfolding front_of is_white is_first is_mark_but_tick is_digit unicode_ident
range-32 c l h = in_range white 32 1 c refl (in_between 32 1 c l (omega arith))

pub range-48 : (c : ℕ) → 48 ≤ c → c ≤ 57 → front_of c ≡ digit
unfolding front_of is_white is_first is_mark_but_tick is_digit unicode_ident
range-48 c l h = in_range digit 48 10 c refl (in_between 48 10 c l (omega arith))

pub range-40 : (c : ℕ) → 40 ≤ c → c ≤ 40 → front_of c ≡ (opens Parenthesis)
unfolding front_of is_white is_first is_mark_but_tick is_digit unicode_ident
range-40 c l h = in_range (opens Parenthesis) 40 1 c refl (in_between 40 1 c l (omega arith))

pub range-41 : (c : ℕ) → 41 ≤ c → c ≤ 41 → front_of c ≡ (closes Parenthesis)
unfolding front_of is_white is_first is_mark_but_tick is_digit unicode_ident
range-41 c l h = in_range (closes Parenthesis) 41 1 c refl (in_between 41 1 c l (omega arith))

pub range-91 : (c : ℕ) → 91 ≤ c → c ≤ 91 → front_of c ≡ (opens Bracket)
unfolding front_of is_white is_first is_mark_but_tick is_digit unicode_ident
range-91 c l h = in_range (opens Bracket) 91 1 c refl (in_between 91 1 c l (omega arith))

pub range-93 : (c : ℕ) → 93 ≤ c → c ≤ 93 → front_of c ≡ (closes Bracket)
unfolding front_of is_white is_first is_mark_but_tick is_digit unicode_ident
range-93 c l h = in_range (closes Bracket) 93 1 c refl (in_between 93 1 c l (omega arith))

pub range-123 : (c : ℕ) → 123 ≤ c → c ≤ 123 → front_of c ≡ (opens Brace)
unfolding front_of is_white is_first is_mark_but_tick is_digit unicode_ident
range-123 c l h = in_range (opens Brace) 123 1 c refl (in_between 123 1 c l (omega arith))

pub range-125 : (c : ℕ) → 125 ≤ c → c ≤ 125 → front_of c ≡ (closes Brace)
unfolding front_of is_white is_first is_mark_but_tick is_digit unicode_ident
range-125 c l h = in_range (closes Brace) 125 1 c refl (in_between 125 1 c l (omega arith))

pub range-34 : (c : ℕ) → 34 ≤ c → c ≤ 34 → front_of c ≡ quote
unfolding front_of is_white is_first is_mark_but_tick is_digit unicode_ident
range-34 c l h = in_range quote 34 1 c refl (in_between 34 1 c l (omega arith))

pub range-33 : (c : ℕ) → 33 ≤ c → c ≤ 33 → front_of c ≡ mark
unfolding front_of is_white is_first is_mark_but_tick is_digit unicode_ident
range-33 c l h = in_range mark 33 1 c refl (in_between 33 1 c l (omega arith))

pub range-35 : (c : ℕ) → 35 ≤ c → c ≤ 38 → front_of c ≡ mark
unfolding front_of is_white is_first is_mark_but_tick is_digit unicode_ident
range-35 c l h = in_range mark 35 4 c refl (in_between 35 4 c l (omega arith))

pub range-42 : (c : ℕ) → 42 ≤ c → c ≤ 47 → front_of c ≡ mark
unfolding front_of is_white is_first is_mark_but_tick is_digit unicode_ident
range-42 c l h = in_range mark 42 6 c refl (in_between 42 6 c l (omega arith))

pub range-58 : (c : ℕ) → 58 ≤ c → c ≤ 64 → front_of c ≡ mark
unfolding front_of is_white is_first is_mark_but_tick is_digit unicode_ident
range-58 c l h = in_range mark 58 7 c refl (in_between 58 7 c l (omega arith))

pub range-94 : (c : ℕ) → 94 ≤ c → c ≤ 94 → front_of c ≡ mark
unfolding front_of is_white is_first is_mark_but_tick is_digit unicode_ident
range-94 c l h = in_range mark 94 1 c refl (in_between 94 1 c l (omega arith))

pub range-124 : (c : ℕ) → 124 ≤ c → c ≤ 124 → front_of c ≡ mark
unfolding front_of is_white is_first is_mark_but_tick is_digit unicode_ident
range-124 c l h = in_range mark 124 1 c refl (in_between 124 1 c l (omega arith))

pub range-126 : (c : ℕ) → 126 ≤ c → c ≤ 126 → front_of c ≡ mark
unfolding front_of is_white is_first is_mark_but_tick is_digit unicode_ident
range-126 c l h = in_range mark 126 1 c refl (in_between 126 1 c l (omega arith))

pub range-0 : (c : ℕ) → 0 ≤ c → c ≤ 8 → front_of c ≡ other
unfolding front_of is_white is_first is_mark_but_tick is_digit unicode_ident
range-0 c l h = in_range other 0 9 c refl (in_between 0 9 c l (omega arith))

pub range-14 : (c : ℕ) → 14 ≤ c → c ≤ 31 → front_of c ≡ other
unfolding front_of is_white is_first is_mark_but_tick is_digit unicode_ident
range-14 c l h = in_range other 14 18 c refl (in_between 14 18 c l (omega arith))

pub range-39 : (c : ℕ) → 39 ≤ c → c ≤ 39 → front_of c ≡ tick
unfolding front_of is_white is_first is_mark_but_tick is_digit unicode_ident
range-39 c l h = in_range tick 39 1 c refl (in_between 39 1 c l (omega arith))

pub range-92 : (c : ℕ) → 92 ≤ c → c ≤ 92 → front_of c ≡ other
unfolding front_of is_white is_first is_mark_but_tick is_digit unicode_ident
range-92 c l h = in_range other 92 1 c refl (in_between 92 1 c l (omega arith))

pub range-96 : (c : ℕ) → 96 ≤ c → c ≤ 96 → front_of c ≡ other
unfolding front_of is_white is_first is_mark_but_tick is_digit unicode_ident
range-96 c l h = in_range other 96 1 c refl (in_between 96 1 c l (omega arith))

pub range-127 : (c : ℕ) → 127 ≤ c → c ≤ 127 → front_of c ≡ other
unfolding front_of is_white is_first is_mark_but_tick is_digit unicode_ident
range-127 c l h = in_range other 127 1 c refl (in_between 127 1 c l (omega arith))

below_128 : (ds : List ℕ) → list_all (λ d. nat_lt d 128) ds ≡ true → (c : ℕ) → 128 ≤ c → is_among ds c ≡ false
below_128 [] h c l = refl
below_128 (d ∷ ds) h c l =
    let (here, others) = and_parts (nat_lt d 128) (list_all (λ d. nat_lt d 128) ds) h in
    let small = ltb-true d 128 here in
    or_from (d == c) (is_among ds c) (ne_eqb d c (λ e. absurd (omega arith))) (below_128 ds others c l)

pub wide_is : (c : ℕ) → 128 ≤ c → front_of c ≡ (if is_xid_start c then first else (if is_white c then white else other))
unfolding front_of is_first is_mark_but_tick is_digit
wide_is c l =
    let not_line : (c == 95) ≡ false = ne_eqb c 95 (λ e. absurd (omega arith)) in
    let q : (c == 34) ≡ false = ne_eqb c 34 (λ e. absurd (omega arith)) in
    let k : (c == 39) ≡ false = ne_eqb c 39 (λ e. absurd (omega arith)) in
    let a : (c == 40) ≡ false = ne_eqb c 40 (λ e. absurd (omega arith)) in
    let b : (c == 41) ≡ false = ne_eqb c 41 (λ e. absurd (omega arith)) in
    let d : (c == 91) ≡ false = ne_eqb c 91 (λ e. absurd (omega arith)) in
    let f : (c == 93) ≡ false = ne_eqb c 93 (λ e. absurd (omega arith)) in
    let g : (c == 123) ≡ false = ne_eqb c 123 (λ e. absurd (omega arith)) in
    let h : (c == 125) ≡ false = ne_eqb c 125 (λ e. absurd (omega arith)) in
    let m : is_among marks_but_tick c ≡ false = below_128 marks_but_tick refl c l in
    let n : is_ascii_digit c ≡ false = and_right (nat_le 48 c) (nat_le c 57) (lt-leb c 57 (omega arith)) in
    elim (is_xid_start c) as (λ s. cond (s || (c == 95)) first
    (cond (is_white c) white (cond (is_among marks_but_tick c) mark
    (cond (is_ascii_digit c) digit
    (cond (c == 34) quote (cond (c == 39) tick
    (cond (c == 40) (opens Parenthesis)
    (cond (c == 41) (closes Parenthesis)
    (cond (c == 91) (opens Bracket)
    (cond (c == 93) (closes Bracket) (cond (c == 123) (opens Brace) (cond (c == 125) (closes Brace) other)))))))))))
    ≡ cond s first (cond (is_white c) white other))
    [ true ↦ refl | false ↦ rw (not_line, m, n, q, k, a, b, d, f, g, h) refl ]

pub front-digit : (c : ℕ) → is_digit c ≡ true → front_of c ≡ digit
unfolding is_digit
front-digit c h = let (a, b) = and_parts (nat_le 48 c) (nat_le c 57) h in range-48 c (leb-true 48 c a) (leb-true c 57 b)

pub next_ascii : (c : ℕ) → c < 128 → is_next c ≡ (is_ascii_alphanumeric c || (c == 95))
unfolding is_next
next_ascii c h = is_xid_continue-ascii c h

pub ruleset fronts = (
  range-97,
  range-65,
  range-95,
  range-9,
  range-32,
  range-48,
  range-40,
  range-41,
  range-91,
  range-93,
  range-123,
  range-125,
  range-34,
  range-33,
  range-35,
  range-42,
  range-58,
  range-94,
  range-124,
  range-126,
  range-0,
  range-14,
  range-39,
  range-92,
  range-96,
  range-127,
  wide_is,
)

pub is_mark_but_tick-front : (c : ℕ) → front_of c ≡ mark → is_mark_but_tick c ≡ true
is_mark_but_tick-front c e = let P : Front → Type 0 = λ f. Says f c in subst P e (front_says c)

pub not_mark-front : (c : ℕ) → (front_of c ≡ mark → ⊥) → is_mark_but_tick c ≡ false
not_mark-front c h = false_from_ne_true _ (λ e. h (front-mark c e))

pub ruleset marking = (is_mark_but_tick-front, not_mark-front)

-- what begins no identifier, or doesn't go on with one
pub tick-next : is_next 39 ≡ false
unfolding is_next unicode_ident
tick-next = refl

pub c-first : is_first 99 ≡ true
unfolding is_first unicode_ident
c-first = refl

pub r-first : is_first 114 ≡ true
unfolding is_first unicode_ident
r-first = refl

-- the byte order mark begins nothing within a text
pub byte_order-other : front_of 65279 ≡ other
unfolding front_of is_white is_first is_mark_but_tick is_digit unicode_ident
byte_order-other = refl

-- the white characters of ASCII are the space and those from the tab to the carriage return
pub narrow_white : (c : ℕ) → (c == 32 || (nat_le 9 c && nat_le c 13)) ≡ is_narrow_white c
unfolding is_white
narrow_white c = grind (arith, nat_tests)
