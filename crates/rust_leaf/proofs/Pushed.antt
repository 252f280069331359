-- What a string's characters are once more has been appended.
use Rattle.std.proofs.Common.{◌≡◌, ℕ, ◌<◌, ◌^◌, Bool, false, List, [], ◌∷◌, ◌++◌, codes, refl, sym, ◌∙◌, ap, arith}
use Rattle.std.proofs.Common.{lit≤, IsTrue}
use Rattle.std.specs.List.{list_all}
use Rattle.std.specs.Char.{encode_utf8, IsScalar, digit_value, is_ascii}
use Rattle.std.specs.Fmt.{digits}
use Rattle.std.specs.Str.Parse.{AllDigits}
use Rattle.std.specs.Prelude.{String, string_bytes}
use Rattle.std.specs.Str.{chars, IsAscii}
use Rattle.std.proofs.lemmas.List.{append-nil}
use Rattle.std.proofs.lemmas.Str.{chars-nil, chars-IsAscii, chars-append, chars_past_char, IsUtf8-encode}
use Rattle.std.proofs.lemmas.Str.{IsUtf8-string_bytes}
use Rattle.std.proofs.lemmas.Bool.Decides.{nat_tests}
use Rattle.std.proofs.lemmas.Fmt.{digits_is_IsNumeral}
use Rattle.std.proofs.lemmas.Str.Ascii.{IsAscii-nil, IsAscii-cons}
use Rattle.rust_leaf.specs.Leaf.{text_of}
use Rattle.rust_leaf.proofs.Texts.{ascii_word}

pub word_pushed : {A : Type 0} (old new : String A) (word : List ℕ) → string_bytes new ≡ string_bytes old ++ word
    → text_of new ≡ text_of old ++ chars word
word_pushed old new word e = ap chars e ∙ chars-append (string_bytes old) word (IsUtf8-string_bytes old)

chars_one : (c : ℕ) → IsScalar c → chars (encode_utf8 c) ≡ c ∷ []
chars_one c s = chars_past_char (encode_utf8 c) [] c (IsUtf8-encode c s) (sym (append-nil (encode_utf8 c)))
    ∙ ap (λ cs. c ∷ cs) chars-nil

pub char_pushed : {A : Type 0} (old new : String A) (c : ℕ) → IsScalar c
    → string_bytes new ≡ string_bytes old ++ encode_utf8 c → text_of new ≡ text_of old ++ c ∷ []
char_pushed old new c s e = word_pushed old new (encode_utf8 c) e ∙ ap (λ cs. text_of old ++ cs) (chars_one c s)

pub zero_word : chars (codes "\\0") ≡ codes "\\0"
zero_word = chars-IsAscii (codes "\\0") (ascii_word (codes "\\0") refl)

pub octal_word : chars (codes "\\x00") ≡ codes "\\x00"
octal_word = chars-IsAscii (codes "\\x00") (ascii_word (codes "\\x00") refl)

pub ruleset zero_words = (zero_word, octal_word)

small_digit : (c : ℕ) → digit_value c < 16 → c < 128
small_digit c h = grind (arith, nat_tests)

ascii_digits : (ds : List ℕ) → AllDigits 16 ds → IsAscii ds
ascii_digits [] d = IsAscii-nil
ascii_digits (c ∷ cs) d = IsAscii-cons c cs (small_digit c d.0) (ascii_digits cs d.1)

pub ascii_hex : (upper : Bool) (n : ℕ) → n < 16 ^ 64 → IsAscii (digits 16 upper n)
ascii_hex upper n h = ascii_digits (digits 16 upper n) (digits_is_IsNumeral 16 upper (lit≤ tt) (lit≤ tt) n h).0.1

-- a word of ASCII characters stands for itself
pub ascii_pushed : {A : Type 0} (old new : String A) (word : List ℕ) → IsAscii word
    → string_bytes new ≡ string_bytes old ++ word → text_of new ≡ text_of old ++ word
ascii_pushed old new word a e = word_pushed old new word e ∙ ap (λ cs. text_of old ++ cs) (chars-IsAscii word a)

pub hex_pushed : {A : Type 0} (old new : String A) (n : ℕ) → n < 2 ^ 32
    → string_bytes new ≡ string_bytes old ++ digits 16 false n → text_of new ≡ text_of old ++ digits 16 false n
hex_pushed old new n h e = ascii_pushed old new (digits 16 false n) (ascii_hex false n (omega arith)) e

pub first_pushed : {A : Type 0} (old new : String A) (word : List ℕ) → string_bytes old ≡ []
    → string_bytes new ≡ string_bytes old ++ word → text_of new ≡ chars word
first_pushed old new word n e = ap chars (e ∙ ap (λ bs. bs ++ word) n)

stands : (word : List ℕ) → IsTrue (list_all is_ascii word) → chars word ≡ word
stands word t = chars-IsAscii word (ascii_word word t)

pub no_word : chars [] ≡ []
no_word = chars-nil

pub string_opening : chars (codes "\"") ≡ codes "\""
string_opening = stands (codes "\"") refl

pub character_opening : chars (codes "'") ≡ codes "'"
character_opening = stands (codes "'") refl

pub byte_opening : chars (codes "b'") ≡ codes "b'"
byte_opening = stands (codes "b'") refl

pub byte_string_opening : chars (codes "b\"") ≡ codes "b\""
byte_string_opening = stands (codes "b\"") refl

pub c_string_opening : chars (codes "c\"") ≡ codes "c\""
c_string_opening = stands (codes "c\"") refl

pub ruleset opening_words =
    (no_word, string_opening, character_opening, byte_opening, byte_string_opening, c_string_opening)
