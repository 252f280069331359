-- Rows of the table.
use Rattle.std.proofs.Common.{length-append, ◌≡◌, ℕ, zero, suc, ◌+◌, ◌-◌, ◌<◌, ◌≤◌, List, [], ◌∷◌, ◌++◌, length}
use Rattle.std.proofs.Common.{map, get_or, arith, refl, ap, ◌∙◌}
use Rattle.std.specs.Prelude.{Bool, true, false, ◌&&◌, ◌||◌, ◌==◌, nat_lt, codes}
use Rattle.std.specs.Char.{is_ascii_alphabetic, is_ascii_alphanumeric}
use Rattle.std.specs.List.{list_all}
use Rattle.std.specs.Str.{chars, IsAscii}
use Rattle.std.proofs.lemmas.Bool.{ltb-true}
use Rattle.std.proofs.lemmas.List.{get_or-map, get_or_past}
use Rattle.std.proofs.lemmas.Str.{chars-IsAscii}
use Rattle.unicode_ident.proofs.IdentLemmas.{is_xid_continue-ascii, is_xid_start-ascii}
use Rattle.unicode_ident.specs.Ident.{is_xid_continue}
use Rattle.rust_leaf.specs.Identifier.{is_ident_text, is_identifier, is_raw_identifier}
use Rattle.rust_leaf.specs.Mark.{is_mark}
use Rattle.syn_kinds.specs.Table.{quoted, word, words, sign, signs}

pub and_true : (a b : Bool) → (a && b) ≡ true → (a ≡ true) × (b ≡ true)
and_true true b e = (refl, e)
and_true false b e = cc

and_both : (a b : Bool) → a ≡ true → b ≡ true → (a && b) ≡ true
and_both true b e f = f
and_both false b e f = e

or_first : (a b : Bool) → a ≡ true → (a || b) ≡ true
or_first true b e = refl
or_first false b e = cc

-- what holds of all rows, and of the one for other numbers, holds of the row of each number
row_passes : (p : List ℕ → Bool) (rows : List (List ℕ)) (other : List ℕ) (kind : ℕ) → list_all p rows ≡ true → p other
    ≡ true → p (get_or rows kind other) ≡ true
row_passes p [] other kind all e = e
row_passes p (r ∷ rows) other zero all e = (and_true _ _ all).0
row_passes p (r ∷ rows) other (suc kind) all e = row_passes p rows other kind (and_true _ _ all).1 e

-- letters of ASCII and _
abbrev starts : ℕ → Bool
starts c = nat_lt c 128 && (is_ascii_alphabetic c || c == 95)

abbrev goes_on : ℕ → Bool
goes_on c = nat_lt c 128 && (is_ascii_alphanumeric c || c == 95)

abbrev pub is_plain : List ℕ → Bool
is_plain [] = false
is_plain (c ∷ cs) = starts c && list_all goes_on cs

plain_next : (c : ℕ) → goes_on c ≡ true → is_xid_continue c ≡ true
plain_next c e =
    let both = and_true _ _ e in
    is_xid_continue-ascii c (ltb-true c 128 both.0) ∙ both.1

plain_rest : (cs : List ℕ) → list_all goes_on cs ≡ true → list_all is_xid_continue cs ≡ true
plain_rest [] e = refl
plain_rest (c ∷ cs) e = and_both _ _ (plain_next c (and_true _ _ e).0) (plain_rest cs (and_true _ _ e).1)

plain_identifier : (cs : List ℕ) → is_plain cs ≡ true → is_identifier cs ≡ true
plain_identifier [] e = e
plain_identifier (c ∷ cs) e =
    let both = and_true _ _ e in
    let first = and_true _ _ both.0 in
    and_both _ _ (ap (λ b. b || c == 95) (is_xid_start-ascii c (ltb-true c 128 first.0)) ∙ first.1)
    (plain_rest cs both.1)

rest_ascii : (cs : List ℕ) → list_all goes_on cs ≡ true → IsAscii cs
rest_ascii [] e i = omega arith
rest_ascii (c ∷ cs) e zero = ltb-true c 128 (and_true _ _ (and_true _ _ e).0).0
rest_ascii (c ∷ cs) e (suc i) = rest_ascii cs (and_true _ _ e).1 i

pub plain_ascii : (cs : List ℕ) → is_plain cs ≡ true → IsAscii cs
plain_ascii [] e i = cc
plain_ascii (c ∷ cs) e zero = ltb-true c 128 (and_true _ _ (and_true _ _ e).0).0
plain_ascii (c ∷ cs) e (suc i) = rest_ascii cs (and_true _ _ e).1 i

words_are_plain : list_all is_plain words ≡ true
words_are_plain = refl

pub word_is_plain : (kind : ℕ) → is_plain (word kind) ≡ true
unfolding word
word_is_plain kind = row_passes is_plain words (codes "union") kind words_are_plain refl

-- the word of each number is an identifier, of letters of ASCII
pub word_chars : (kind : ℕ) → chars (word kind) ≡ word kind
word_chars kind = chars-IsAscii (word kind) (plain_ascii (word kind) (word_is_plain kind))

pub word_is_identifier : (kind : ℕ) → is_ident_text (word kind) ≡ true
word_is_identifier kind = or_first (is_identifier (word kind)) (is_raw_identifier (word kind))
    (plain_identifier (word kind) (word_is_plain kind))

pub word_at : (kind : ℕ) → kind < 56 → get_or (map quoted words) kind [] ≡ quoted (word kind)
unfolding word
word_at kind below = get_or-map quoted words kind (codes "union") [] below

pub word_past : (kind : ℕ) → 56 ≤ kind → word kind ≡ codes "union"
unfolding word
word_past kind past = get_or_past words kind (codes "union") past

pub sign_at : (kind : ℕ) → kind < 46 → get_or (map quoted signs) kind [] ≡ quoted (sign kind)
unfolding sign
sign_at kind below = get_or-map quoted signs kind (codes "~") [] below

pub sign_past : (kind : ℕ) → 46 ≤ kind → sign kind ≡ codes "~"
unfolding sign
sign_past kind past = get_or_past signs kind (codes "~") past

signs_are_marks : list_all (λ cs. list_all is_mark cs) signs ≡ true
unfolding is_mark
signs_are_marks = refl

pub tilde_is_mark : is_mark 126 ≡ true
unfolding is_mark
tilde_is_mark = refl

each_passes : (p : ℕ → Bool) (cs : List ℕ) (other i : ℕ) → list_all p cs ≡ true → p other ≡ true → p (get_or cs i other)
    ≡ true
each_passes p [] other i all e = e
each_passes p (c ∷ cs) other zero all e = (and_true _ _ all).0
each_passes p (c ∷ cs) other (suc i) all e = each_passes p cs other i (and_true _ _ all).1 e

sign_is_marks : (kind : ℕ) → list_all is_mark (sign kind) ≡ true
unfolding sign
sign_is_marks kind =
    row_passes (λ cs. list_all is_mark cs) signs (codes "~") kind signs_are_marks (and_both _ _ tilde_is_mark refl)

pub mark_is : (kind index : ℕ) → is_mark (get_or (sign kind) index 126) ≡ true
mark_is kind index = each_passes is_mark (sign kind) 126 index (sign_is_marks kind) tilde_is_mark

within_row : (cs : List ℕ) (index : ℕ) → index < length cs → get_or (cs ++ 96 ∷ []) index 0 ≡ get_or cs index 126
within_row [] index below = absurd (omega arith)
within_row (c ∷ cs) zero below = refl
within_row (c ∷ cs) (suc index) below = within_row cs index (omega arith)

pub mark_of_row : (row cs : List ℕ) (index : ℕ) → row ≡ quoted cs → index < length row - 2 → get_or row (index + 1) 0
    ≡ get_or cs index 126
mark_of_row row cs index e below =
    let more : length (cs ++ 96 ∷ []) ≡ length cs + 1 = length-append cs (96 ∷ []) in
    let within : index < length cs = omega (arith, ap length e, more) in
    let next : index + 1 ≡ suc index = omega arith in
    ap (λ bs. get_or bs (index + 1) 0) e ∙ ap (λ n. get_or (quoted cs) n 0) next ∙ within_row cs index within

pub underscore_chars : chars (codes "_") ≡ codes "_"
underscore_chars = chars-IsAscii (codes "_") (plain_ascii (codes "_") refl)

-- and so is _
pub underscore_is_identifier : is_ident_text (chars (codes "_")) ≡ true
underscore_is_identifier =
    ap is_ident_text underscore_chars
    ∙ or_first (is_identifier (codes "_")) (is_raw_identifier (codes "_")) (plain_identifier (codes "_") refl)
