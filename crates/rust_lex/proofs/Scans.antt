-- What a scan finds, case by case.
use Rattle.std.proofs.Common.{◌≡◌, ℕ, List, [], ◌∷◌, ◌++◌, arith, length, length-append, drop, refl, sym, ap, ◌∙◌}
use Rattle.std.proofs.Common.{subst, ⊎_elim}
use Rattle.std.specs.Prelude.{true, false, not, ◌&&◌, ◌||◌, ◌==◌, Some, None}
use Rattle.std.proofs.Math.Bool.{or-false}
use Rattle.std.proofs.lemmas.Bool.{cases_eq, ne_eqb, or_parts}
use Rattle.rust_lex.specs.Chars.{is_next, is_digit, is_mark_but_tick, is_slash_or_star, begins, past}
use Rattle.rust_escape.specs.declared.mode.Mode.{Mode}
use Rattle.rust_escape.specs.declared.mode.Mode.TheVariants as modes
use Rattle.rust_lex.specs.Quoted.{literal_kind, opening_of, opener_of}
use Rattle.rust_lex.specs.QuotedScan.{past_char, past_tail}
use Rattle.rust_lex.specs.Word.{begins_raw_mark, begins_raw_name, begins_lifetime}
use Rattle.rust_lex.specs.Number.{past_number}
use Rattle.rust_lex.specs.Ended.{IsFrom}
use Rattle.rust_lex.specs.Places.{rest_at, IsBehind}
use Rattle.rust_lex.specs.Piece.{Mark, Ident, begins_mark}
use Rattle.rust_lex.specs.Scan.{Front, first, digit, front_of, Nowhere, Ends, suffixed, ticked, word}
use Rattle.rust_lex.specs.Scan.{begins_char, is_mark_or_opening}
use Rattle.rust_lex.proofs.PlacesLemmas.{rest_end}
use Rattle.rust_lex.proofs.Fronts.{Says, front_says}
use Rattle.rust_lex.proofs.Ends.{past_word, number_found}
use Rattle.rust_lex.proofs.Sound.{ticked_none, ticked_some, word_none, word_some, word_raw}

-- behind '
pub ticked_mark : (cs : List ℕ) → past_char modes.Char cs ≡ None → begins_lifetime cs ≡ true → ticked cs ≡ Ends Mark cs
ticked_mark cs e h = ticked_none cs e ∙ rw h refl

pub ticked_nowhere : (cs : List ℕ) → past_char modes.Char cs ≡ None → begins_lifetime cs ≡ false → ticked cs ≡ Nowhere
ticked_nowhere cs e h = ticked_none cs e ∙ rw h refl

pub ruleset ticks = (ticked_some, ticked_mark, ticked_nowhere)

-- words
pub word_is_raw : (cs : List ℕ) → begins_raw_mark cs ≡ true → begins_raw_name (drop 2 cs) ≡ true → word cs
    ≡ Ends Ident (past is_next (drop 2 cs))
word_is_raw cs h k = word_raw cs (rw (h, k) refl)

no_opener : (c : ℕ) (cs : List ℕ) → (c == 98) ≡ false → (c == 99) ≡ false → (c == 114) ≡ false → opener_of (c ∷ cs)
    ≡ None
unfolding opener_of
no_opener c [] b d r = refl
no_opener c (e ∷ cs) b d r = rw (b, d, r) refl

-- a word that begins with none of b c r
pub plain_word : (text more : List ℕ) (c : ℕ) → text ≡ c ∷ more → (c == 98 || (c == 99 || c == 114)) ≡ false → word text
    ≡ Ends Ident (past is_next text)
plain_word text more c is none =
    let (b, others) = or_parts (c == 98) (c == 99 || c == 114) none in
    let (d, r) = or_parts (c == 99) (c == 114) others in
    rw is (word_none (c ∷ more) (rw r refl) (no_opener c more b d r))

no_mark : (cs : List ℕ) → begins_raw_mark cs ≡ false → (begins_raw_mark cs && begins_raw_name (drop 2 cs)) ≡ false
no_mark cs h = rw h refl

no_name : (cs : List ℕ) → begins_raw_name (drop 2 cs) ≡ false → begins_raw_mark cs ≡ true
    → (begins_raw_mark cs && begins_raw_name (drop 2 cs)) ≡ false
no_name cs h k = rw (k, h) refl

pub word_plain : (cs : List ℕ) → begins_raw_mark cs ≡ false → opener_of cs ≡ None → word cs
    ≡ Ends Ident (past is_next cs)
word_plain cs h e = word_none cs (no_mark cs h) e

pub word_no_name : (cs : List ℕ) → begins_raw_mark cs ≡ true → begins_raw_name (drop 2 cs) ≡ false → opener_of cs ≡ None
    → word cs ≡ Ends Ident (past is_next cs)
word_no_name cs k h e = word_none cs (no_name cs h k) e

pub word_opener : (cs : List ℕ) (o : Mode) → begins_raw_mark cs ≡ false → opener_of cs ≡ Some o → word cs
    ≡ suffixed (literal_kind o) (past_tail o (drop (length (opening_of o)) cs))
word_opener cs o h e = word_some cs o (no_mark cs h) e

pub word_raw_opener : (cs : List ℕ) (o : Mode) → begins_raw_mark cs ≡ true → begins_raw_name (drop 2 cs) ≡ false
    → opener_of cs ≡ Some o → word cs ≡ suffixed (literal_kind o) (past_tail o (drop (length (opening_of o)) cs))
word_raw_opener cs o k h e = word_some cs o (no_name cs h k) e

pub ruleset words = (word_is_raw, word_plain, word_no_name, word_opener, word_raw_opener)

-- a word's first character is of the word
pub first_next : (c : ℕ) (cs : List ℕ) → front_of c ≡ first → past is_next (c ∷ cs) ≡ past is_next cs
first_next c cs e = let P : Front → Type 0 = λ f. Says f c in past_word c cs (subst P e (front_says c))

pub digit_begins : (c : ℕ) (cs : List ℕ) → front_of c ≡ digit → is_digit c ≡ true
digit_begins c cs e = let P : Front → Type 0 = λ f. Says f c in subst P e (front_says c)

pub ruleset scans = (rest_end, first_next, digit_begins)

pub ruleset fronts = (rest_end)

pub ruleset characters = (rest_end)

-- a number has a digit at least
longer : (front rest : List ℕ) (c : ℕ) → c ∷ (front ++ rest) ≡ rest → ⊥
longer front rest c e = let l = ap length e in let m = length-append front rest in omega arith

number_moves : (cs rest : List ℕ) → begins is_digit cs ≡ true → past_number cs ≡ Some rest → cs ≡ rest → ⊥
number_moves [] rest h e s = cc
number_moves (c ∷ cs) rest h e s = let t =
    number_found c cs rest h e in longer t.front rest c (ap (λ x. c ∷ x) (sym t.joined) ∙ s)

pub number_behind : (bytes : List ℕ) (at end : ℕ) → begins is_digit (rest_at bytes at) ≡ true
    → past_number (rest_at bytes at) ≡ Some (rest_at bytes end) → IsFrom bytes at end → IsBehind bytes at end
number_behind bytes at end h e f =
    let on = f.on in
    ⊎_elim
    (λ same. absurd (number_moves (rest_at bytes at) (rest_at bytes end) h e (ap (rest_at bytes) same)))
    (λ other. record { place = f.place; on = omega arith })
    (cases_eq at end)

pub ruleset numbers = (number_behind)

-- a quote isn't one of the other marks
pub tick_no_mark : (c : ℕ) → c ≡ 39 → is_mark_but_tick c ≡ false
unfolding is_mark_but_tick
tick_no_mark c e = rw e refl

-- behind a mark a quote may be a mark or begin a character literal
pub joint_tick : (d : ℕ) (ds : List ℕ) → d ≡ 39 → (begins_mark (d ∷ ds) || begins_char (d ∷ ds)) ≡ is_mark_or_opening ds
joint_tick d ds e = rw (e, tick_no_mark 39 refl) refl

-- and another character may be a mark
pub joint_other : (d : ℕ) (ds : List ℕ) → (d ≡ 39 → ⊥)
    → (begins_mark (d ∷ ds) || begins_char (d ∷ ds))
    ≡ (is_mark_but_tick d && not (d == 47 && begins is_slash_or_star ds))
joint_other d ds n =
    let mark = is_mark_but_tick d && not (d == 47 && begins is_slash_or_star ds) in
    rw (ne_eqb d 39 n) (ap (λ b. b || false) (or-false mark) ∙ or-false mark)

pub ruleset joints = (rest_end, joint_tick, joint_other)
