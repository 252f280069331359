-- Numbers in decimal, and their suffixes.
use Rattle.std.proofs.Common.{◌≡◌, ℕ, ◌<◌, ◌^◌, List, [], ◌++◌, refl, sym, subst, ◌∙◌, ap, arith, IsTrue}
use Rattle.std.proofs.Common.{◌∷◌, lit<, pos, negsuc, ℤ, suc}
use lib.Signed.{mag}
use Rattle.std.specs.Char.{is_ascii, is_ascii_alphanumeric}
use Rattle.std.specs.Fmt.{decimal, signed_decimal}
use Rattle.std.specs.List.{list_all}
use Rattle.std.specs.Prelude.{Bool, true, ◌&&◌, String, string_bytes}
use Rattle.std.specs.Str.{chars, IsAscii}
use Rattle.std.proofs.lemmas.Fmt.{IsAscii-decimal_wide}
use Rattle.std.proofs.lemmas.List.{append-nil}
use Rattle.std.proofs.lemmas.Str.{chars-nil, chars-IsAscii}
use Rattle.std.proofs.lemmas.Bool.{and_parts, and_from, or_left}
use Rattle.std.proofs.lemmas.Bool.Decides.{nat_tests}
use Rattle.std.proofs.lemmas.Str.Ascii.{IsAscii-cons, IsAscii-nil}
use Rattle.rust_lex.specs.Chars.{is_among, is_next, passes}
use Rattle.rust_lex.proofs.Fronts.{among_each, next_ascii}
use Rattle.rust_leaf.specs.Integer.{IsIntegerSuffix}
use Rattle.rust_leaf.specs.Leaf.{text_of}
use Rattle.rust_leaf.proofs.Pushed.{ascii_pushed}
use Rattle.rust_leaf.proofs.Texts.{ascii_word}

pub decimal_pushed : {A : Type 0} (old new : String A) (n : ℕ) → n < 2 ^ 128
    → string_bytes new ≡ string_bytes old ++ decimal n → text_of new ≡ text_of old ++ decimal n
decimal_pushed old new n h e = ascii_pushed old new (decimal n) (IsAscii-decimal_wide n (omega arith)) e

ascii_signed : (z : ℤ) → mag z < 2 ^ 127 → IsAscii (signed_decimal z)
ascii_signed (pos n) h = IsAscii-decimal_wide n (omega arith)
ascii_signed (negsuc n) h = IsAscii-cons 45 (decimal (suc n)) (omega arith) (IsAscii-decimal_wide (suc n) (omega arith))

pub signed_pushed : {A : Type 0} (old new : String A) (z : ℤ) → mag z < 2 ^ 127
    → string_bytes new ≡ string_bytes old ++ signed_decimal z → text_of new ≡ text_of old ++ signed_decimal z
signed_pushed old new z h e = ascii_pushed old new (signed_decimal z) (ascii_signed z h) e

-- a number's literal is put together
pub number_literal : {A : Type 0} (begun numbered whole : String A) (number suffix : List ℕ) → string_bytes begun ≡ []
    → text_of numbered ≡ text_of begun ++ number → text_of whole ≡ text_of numbered ++ suffix
    → text_of whole ≡ number ++ suffix
number_literal begun numbered whole number suffix b n w =
    w ∙ ap (λ x. x ++ suffix) (n ∙ ap (λ x. x ++ number) (ap chars b ∙ chars-nil))

pub no_suffix : (number : List ℕ) → number ++ chars [] ≡ number
no_suffix number = ap (λ x. number ++ x) chars-nil ∙ append-nil number

-- a suffix in ASCII, which is its characters
ascii_next : (cs : List ℕ) → list_all is_ascii_alphanumeric cs ≡ true → (passes is_next cs ≡ true) × IsAscii cs
ascii_next [] h = (refl, IsAscii-nil)
ascii_next (c ∷ cs) h =
    let (here, others) = and_parts (is_ascii_alphanumeric c) (list_all is_ascii_alphanumeric cs) h in
    let (next, ascii) = ascii_next cs others in
    let small : c < 128 = grind (arith, nat_tests) in
    (and_from _ _ (next_ascii c small ∙ or_left _ _ here) next, IsAscii-cons c cs small ascii)

abbrev is_short_suffix : List ℕ → Bool
is_short_suffix [] = true
is_short_suffix (c ∷ cs) = is_among (117 ∷ 105 ∷ []) c && list_all is_ascii_alphanumeric cs

-- by a test that computes: it may stand behind an integer
pub suffix_stands : (word : List ℕ) → IsTrue (is_short_suffix word) → IsIntegerSuffix (chars word)
suffix_stands [] t = subst IsIntegerSuffix (sym chars-nil) tt
suffix_stands (c ∷ cs) t =
    let (first, others) = and_parts (is_among (117 ∷ 105 ∷ []) c) (list_all is_ascii_alphanumeric cs) t in
    let (next, ascii) = ascii_next cs others in
    let small : c < 128 = among_each (λ d. d < 128) (117 ∷ 105 ∷ []) (lit< tt, (lit< tt, tt)) c first in
    subst IsIntegerSuffix (sym (chars-IsAscii (c ∷ cs) (IsAscii-cons c cs small ascii))) (first, next)

pub suffix_is : (word : List ℕ) → IsTrue (list_all is_ascii word) → chars word ≡ word
suffix_is word t = chars-IsAscii word (ascii_word word t)

pub ruleset suffixes = (no_suffix, suffix_stands, suffix_is)
