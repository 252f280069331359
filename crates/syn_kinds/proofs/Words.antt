-- Words by their texts.
use Rattle.std.proofs.Common.{◌≡◌, ℕ, ◌+◌, ◌<◌, List, [], length, get_or, drop, arith, refl, sym, ap, ◌∙◌}
use Rattle.std.specs.Prelude.{Bool, true, false, ◌||◌, codes}
use Rattle.std.specs.List.{list_all, list_any}
use Rattle.std.specs.Str.{bytes_eq, chars}
use Rattle.std.proofs.lemmas.Bool.Decides.{nat_tests}
use Rattle.std.proofs.lemmas.List.{at_drop_more, get_or-take, get_or_default, take-append-drop}
use Rattle.std.proofs.lemmas.List.Folds.{list_all-append, list_any-append}
use Rattle.std.proofs.lemmas.Slice.Eq.{bytes_eq-Decides}
use Rattle.std.specs.Prelude.{◌∷◌, encode_utf8_all, take}
use Rattle.std.proofs.lemmas.Str.{encodes-IsAscii}
use Rattle.syn_kinds.proofs.Rows.{and_true, is_plain, plain_ascii}
use Rattle.syn_kinds.specs.Table.{begins, kept_words, word, words}
use Rattle.rust_leaf.specs.Keywords.{is_reserved, same_text}

both_ways : (a b : Bool) → (a ≡ true → b ≡ true) → (b ≡ true → a ≡ true) → a ≡ b
both_ways true b f g = sym (f refl)
both_ways false true f g = g refl
both_ways false false f g = refl

-- a test that tells whether a text is that of a word
pub text_same : (b : Bool) (w cs : List ℕ) → (b ≡ true → cs ≡ chars w) → (cs ≡ chars w → b ≡ true) → b
    ≡ same_text (chars w) cs
text_same b w cs f g =
    both_ways b (bytes_eq (chars w) cs) (λ e. (bytes_eq-Decides (chars w) cs).1 (sym (f e)))
    (λ e. g (sym ((bytes_eq-Decides (chars w) cs).0 e)))

-- what names nothing is _, or one of the rows
pub reserved_is : (cs : List ℕ) → is_reserved cs
    ≡ (same_text (codes "_") cs || list_any (λ w. same_text w cs) kept_words)
unfolding is_reserved kept_words
reserved_is cs = refl

kept_count : length kept_words ≡ 51
unfolding kept_words
kept_count = refl

kept_at : (kind : ℕ) → kind < 51 → get_or kept_words kind [] ≡ word kind
unfolding word kept_words
kept_at kind below = get_or-take 51 words kind [] below ∙ get_or_default words kind [] (codes "union") (omega arith)

or_false : (a b : Bool) → (a || b) ≡ false → (a ≡ false) × (b ≡ false)
or_false true b e = cc
or_false false b e = (refl, e)

one_differs : (a b rest : Bool) → (a ≡ true → b ≡ true) → b ≡ false → rest ≡ false → (a || rest) ≡ false
one_differs true b rest f e h = sym (f refl) ∙ e
one_differs false b rest f e h = h

-- the words from one on, and from the next one on
pub one_word : (p : List ℕ → Bool) (kind : ℕ) → kind < 51
    → list_any p (drop kind kept_words) ≡ (p (word kind) || list_any p (drop (kind + 1) kept_words))
one_word p kind below =
    at_drop_more (λ ws. list_any p ws) kept_words kind [] (omega (arith, kept_count))
    ∙ ap (λ w. p w || list_any p (drop (kind + 1) kept_words)) (kept_at kind below)

pub is_found : (p : List ℕ → Bool) (kind : ℕ) (all : Bool) → kind < 51 → p (word kind) ≡ true
    → list_any p (drop kind kept_words) ≡ all → true ≡ all
is_found p kind all below e h =
    sym (ap (λ b. b || list_any p (drop (kind + 1) kept_words)) e) ∙ sym (one_word p kind below) ∙ h

pub is_passed : (p : List ℕ → Bool) (kind : ℕ) (all : Bool) → kind < 51 → p (word kind) ≡ false
    → list_any p (drop kind kept_words) ≡ all
    → list_any p (drop (kind + 1) kept_words) ≡ all
is_passed p kind all below e h =
    sym (ap (λ b. b || list_any p (drop (kind + 1) kept_words)) e) ∙ sym (one_word p kind below) ∙ h

kept_plain : list_all is_plain kept_words ≡ true
unfolding kept_words
kept_plain = refl

plain_parts : (n : ℕ) → (list_all is_plain (take n kept_words) ≡ true) × (list_all is_plain (drop n kept_words) ≡ true)
plain_parts n =
    and_true _ _ (sym (list_all-append is_plain (take n kept_words) (drop n kept_words))
    ∙ ap (list_all is_plain) (take-append-drop n kept_words) ∙ kept_plain)

-- an identifier's first byte is that of the word that it is
same_begins : (first : ℕ) (w cs : List ℕ) → is_plain w ≡ true → take 1 (encode_utf8_all cs) ≡ first ∷ []
    → same_text w cs ≡ true
    → begins first w ≡ true
same_begins first [] cs plain begin same = cc
same_begins first (c ∷ w) cs plain begin same =
    let bytes : encode_utf8_all cs ≡ c ∷ w =
    ap encode_utf8_all (sym ((bytes_eq-Decides (c ∷ w) cs).0 same))
    ∙ encodes-IsAscii (c ∷ w) (plain_ascii (c ∷ w) plain) in
    let alone : c ∷ [] ≡ first ∷ [] = ap (take 1) (sym bytes) ∙ begin in
    let equal : c ≡ first = cc in
    grind (arith, nat_tests)

-- of plain words that begin with another byte none is the identifier
none_same : (first : ℕ) (ws : List (List ℕ)) (cs : List ℕ) → take 1 (encode_utf8_all cs) ≡ first ∷ []
    → list_all is_plain ws ≡ true
    → list_any (begins first) ws ≡ false
    → list_any (λ w. same_text w cs) ws ≡ false
none_same first [] cs begin plain others = refl
none_same first (w ∷ ws) cs begin plain others =
    let parts = and_true (is_plain w) (list_all is_plain ws) plain in
    let rest = none_same first ws cs begin parts.1 (or_false (begins first w) _ others).1 in
    one_differs (same_text w cs) (begins first w) _ (same_begins first w cs parts.0 begin)
    (or_false (begins first w) _ others).0 rest

-- no word before some rows is the identifier
pub none_before : (first from : ℕ) (cs : List ℕ) → take 1 (encode_utf8_all cs) ≡ first ∷ []
    → list_any (begins first) (take from kept_words) ≡ false
    → list_any (λ w. same_text w cs) (drop from kept_words) ≡ list_any (λ w. same_text w cs) kept_words
none_before first from cs begin others =
    let p : List ℕ → Bool = λ w. same_text w cs in
    let none = none_same first (take from kept_words) cs begin (plain_parts from).0 others in
    sym (ap (λ b. b || list_any p (drop from kept_words)) none)
    ∙ sym (list_any-append p (take from kept_words) (drop from kept_words))
    ∙ ap (list_any p) (take-append-drop from kept_words)

-- and none behind them
pub none_behind : (first to kind : ℕ) (cs : List ℕ) (all : Bool) → take 1 (encode_utf8_all cs) ≡ first ∷ []
    → list_any (begins first) (drop to kept_words) ≡ false
    → kind ≡ to
    → list_any (λ w. same_text w cs) (drop kind kept_words) ≡ all
    → false ≡ all
none_behind first to kind cs all begin others last h =
    sym (none_same first (drop to kept_words) cs begin (plain_parts to).1 others)
    ∙ ap (λ n. list_any (λ w. same_text w cs) (drop n kept_words)) (sym last) ∙ h
