-- Small texts, computed by the rules: for each, which piece it begins with and what stands behind that.
use Rattle.std.specs.Prelude.{◌≡◌, true, false, [], ◌∷◌, ◌++◌, refl}
use Rattle.std.specs.Prelude.{codes}
use Rattle.unicode_ident.proofs.Computing.{unicode_ident}
use Rattle.rust_lex.specs.Chars.{is_white, is_first, is_next, is_digit, is_mark_but_tick}
use Rattle.rust_lex.specs.Comment.{OuterLine, InnerLine, OuterBlock, InnerBlock, past_comment}
use Rattle.rust_escape.specs.Chars.{is_hex_digit, hex_value}
use Rattle.rust_escape.specs.Escape.{simple_value}
use Rattle.rust_escape.specs.LexicalScan.{past_lines, lexical_slash, lexical_scan}
use Rattle.rust_escape.specs.Scan.{byte_escape, digits, unicode_escape, escape}
use Rattle.rust_lex.specs.Quoted.{Str, ByteStr, CStr, Byte, Char, Int, Float, opener_of}
use Rattle.rust_lex.specs.QuotedScan.{past_unit, past_char, past_units, past_raw, past_hashes}
use Rattle.rust_lex.specs.Number.{past_number, number_kind}
use Rattle.rust_lex.specs.Word.{begins_never_raw, begins_lifetime}
use Rattle.rust_lex.specs.Piece.{White, Comment, Doc, Mark, Ident, Literal, FrontMark, begins_mark}
use Rattle.rust_lex.specs.Shebang.{begins_shebang, IsShebang}
use Rattle.rust_lex.specs.Scan.{Nowhere, Ends, front_of, line, block, slash, ticked, word, scan, scan_front, is_joint}

-- `unfolding all` lets `refl` compute a scan
unfoldable all : Unit {0}
unfolding unicode_ident is_white is_first is_next is_digit is_mark_but_tick past_comment is_hex_digit hex_value
    simple_value past_lines lexical_slash lexical_scan byte_escape digits unicode_escape escape past_unit past_char
    past_units past_raw past_hashes opener_of past_number number_kind begins_never_raw begins_lifetime front_of line
    block slash ticked word
all = tt

character : scan (codes "'a'") ≡ Ends (Literal Char) []
unfolding all
character = refl

character_suffix : scan (codes "'a'b c") ≡ Ends (Literal Char) (codes " c")
unfolding all
character_suffix = refl

character_quote : scan (codes "'''") ≡ Ends (Literal Char) []
unfolding all
character_quote = refl

character_escape : scan (codes "'\\u{1_0}'") ≡ Ends (Literal Char) []
unfolding all
character_escape = refl

character_tick : scan (codes "'\\''") ≡ Ends (Literal Char) []
unfolding all
character_tick = refl

character_backslash : scan (codes "'\\'") ≡ Nowhere
unfolding all
character_backslash = refl

lifetime : scan (codes "'a") ≡ Ends Mark (codes "a")
unfolding all
lifetime = refl

lifetime_byte_string : scan (codes "'b\"x\"") ≡ Ends Mark (codes "b\"x\"")
unfolding all
lifetime_byte_string = refl

lifetime_raw : scan (codes "'r#name#") ≡ Ends Mark (codes "r#name#")
unfolding all
lifetime_raw = refl

lifetime_hash : scan (codes "'prefix#lifetime") ≡ Nowhere
unfolding all
lifetime_hash = refl

lifetime_quoted : scan (codes "'aa'bb") ≡ Nowhere
unfolding all
lifetime_quoted = refl

lifetime_raw_quoted : scan (codes "'r#gen'a") ≡ Nowhere
unfolding all
lifetime_raw_quoted = refl

lifetime_raw_self : scan (codes "'r#self") ≡ Nowhere
unfolding all
lifetime_raw_self = refl

string : scan (codes "\"a\\\"b\" c") ≡ Ends (Literal Str) (codes " c")
unfolding all
string = refl

string_open : scan (codes "\"abc") ≡ Nowhere
unfolding all
string_open = refl

string_hex : scan (codes "\"\\x80\"") ≡ Nowhere
unfolding all
string_hex = refl

byte_string_hex : scan (codes "b\"\\x80\"") ≡ Ends (Literal ByteStr) []
unfolding all
byte_string_hex = refl

byte_string_code : scan (codes "b\"\\u{1}\"") ≡ Nowhere
unfolding all
byte_string_code = refl

c_string_hex : scan (codes "c\"\\xff\"") ≡ Ends (Literal CStr) []
unfolding all
c_string_hex = refl

c_string_zero : scan (codes "c\"\\0\"") ≡ Nowhere
unfolding all
c_string_zero = refl

c_string_code_zero : scan (codes "c\"\\u{0}\"") ≡ Nowhere
unfolding all
c_string_code_zero = refl

string_surrogate : scan (codes "\"\\u{d800}\"") ≡ Nowhere
unfolding all
string_surrogate = refl

byte : scan (codes "b'\\xff'") ≡ Ends (Literal Byte) []
unfolding all
byte = refl

raw : scan (codes "r#\"a\"b\"#c") ≡ Ends (Literal Str) []
unfolding all
raw = refl

raw_byte : scan (codes "br\"\\\"") ≡ Ends (Literal ByteStr) []
unfolding all
raw_byte = refl

raw_c : scan (codes "cr##\"\"#\"##") ≡ Ends (Literal CStr) []
unfolding all
raw_c = refl

raw_identifier : scan (codes "r#fn x") ≡ Ends Ident (codes " x")
unfolding all
raw_identifier = refl

raw_self : scan (codes "r#self") ≡ Nowhere
unfolding all
raw_self = refl

raw_selfish : scan (codes "r#selfish") ≡ Ends Ident []
unfolding all
raw_selfish = refl

hash_after_r : scan (codes "r# x") ≡ Nowhere
unfolding all
hash_after_r = refl

hash_after_br : scan (codes "br#x") ≡ Nowhere
unfolding all
hash_after_br = refl

hash_after_b : scan (codes "b#x") ≡ Ends Ident (codes "#x")
unfolding all
hash_after_b = refl

identifier : scan (codes "_a1 b") ≡ Ends Ident (codes " b")
unfolding all
identifier = refl

number_suffix : scan (codes "999r#u256") ≡ Ends (Literal Int) (codes "#u256")
unfolding all
number_suffix = refl

float_dot : scan (codes "1.") ≡ Ends (Literal Float) []
unfolding all
float_dot = refl

integer_method : scan (codes "1.f32") ≡ Ends (Literal Int) (codes ".f32")
unfolding all
integer_method = refl

integer_line : scan (codes "1._0") ≡ Ends (Literal Int) (codes "._0")
unfolding all
integer_line = refl

integer_range : scan (codes "1..2") ≡ Ends (Literal Int) (codes "..2")
unfolding all
integer_range = refl

integer_exponent : scan (codes "0E--0") ≡ Ends (Literal Int) (codes "--0")
unfolding all
integer_exponent = refl

float_lost_exponent : scan (codes "0.0ECMA") ≡ Ends (Literal Float) []
unfolding all
float_lost_exponent = refl

float_exponent : scan (codes "1e5") ≡ Ends (Literal Float) []
unfolding all
float_exponent = refl

float_sign : scan (codes "1e_+5") ≡ Ends (Literal Float) []
unfolding all
float_sign = refl

float_dots : scan (codes "1.0.0") ≡ Ends (Literal Float) (codes ".0")
unfolding all
float_dots = refl

binary_too_large : scan (codes "0b12") ≡ Nowhere
unfolding all
binary_too_large = refl

binary_empty : scan (codes "0b_") ≡ Nowhere
unfolding all
binary_empty = refl

hex_exponent : scan (codes "0x1e+1") ≡ Ends (Literal Int) (codes "+1")
unfolding all
hex_exponent = refl

octal_suffix : scan (codes "0o7u8") ≡ Ends (Literal Int) []
unfolding all
octal_suffix = refl

plain_line : scan (codes "// a") ≡ Ends Comment []
unfolding all
plain_line = refl

plain_line_four : scan (codes "////") ≡ Ends Comment []
unfolding all
plain_line_four = refl

doc_line : scan (codes "/// a") ≡ Ends (Doc OuterLine) []
unfolding all
doc_line = refl

doc_line_inner : scan (codes "//!") ≡ Ends (Doc InnerLine) []
unfolding all
doc_line_inner = refl

plain_block : scan (codes "/* /* */ */ a") ≡ Ends Comment (codes " a")
unfolding all
plain_block = refl

plain_block_open : scan (codes "/* /* */") ≡ Nowhere
unfolding all
plain_block_open = refl

plain_block_empty : scan (codes "/**/ a") ≡ Ends Comment (codes " a")
unfolding all
plain_block_empty = refl

plain_block_stars : scan (codes "/***/ a") ≡ Ends Comment (codes " a")
unfolding all
plain_block_stars = refl

doc_block : scan (codes "/** */ a") ≡ Ends (Doc OuterBlock) (codes " a")
unfolding all
doc_block = refl

doc_block_inner : scan (codes "/*!*/ a") ≡ Ends (Doc InnerBlock) (codes " a")
unfolding all
doc_block_inner = refl

slash_alone : scan (codes "/ a") ≡ Ends Mark (codes " a")
unfolding all
slash_alone = refl

backslash : scan (codes "\\") ≡ Nowhere
unfolding all
backslash = refl

empty : scan (codes "") ≡ Nowhere
unfolding all
empty = refl

front_mark : scan_front (65279 ∷ codes "a") ≡ Ends FrontMark (codes "a")
unfolding all
front_mark = refl

front_mark_later : scan (65279 ∷ codes "a") ≡ Nowhere
unfolding all
front_mark_later = refl

direction_white : scan (8206 ∷ []) ≡ Ends White []
unfolding all
direction_white = refl

doc_line_returns : scan (codes "//!" ++ (13 ∷ 10 ∷ [])) ≡ Ends (Doc InnerLine) (13 ∷ 10 ∷ [])
unfolding all
doc_line_returns = refl

doc_line_bare : scan (codes "//!" ++ (13 ∷ 97 ∷ [])) ≡ Nowhere
unfolding all
doc_line_bare = refl

plain_line_bare : scan (codes "//" ++ (13 ∷ 97 ∷ [])) ≡ Ends Comment []
unfolding all
plain_line_bare = refl

doc_block_bare : scan (codes "/*!" ++ (13 ∷ 42 ∷ 47 ∷ [])) ≡ Nowhere
unfolding all
doc_block_bare = refl

doc_block_returns : scan (codes "/*!" ++ (13 ∷ 10 ∷ 42 ∷ 47 ∷ [])) ≡ Ends (Doc InnerBlock) []
unfolding all
doc_block_returns = refl

string_bare : scan (34 ∷ 13 ∷ 34 ∷ []) ≡ Nowhere
unfolding all
string_bare = refl

string_returns : scan (34 ∷ 13 ∷ 10 ∷ 34 ∷ []) ≡ Ends (Literal Str) []
unfolding all
string_returns = refl

string_line_end : scan (34 ∷ 92 ∷ 13 ∷ 10 ∷ 32 ∷ 34 ∷ []) ≡ Ends (Literal Str) []
unfolding all
string_line_end = refl

raw_bare : scan (114 ∷ 34 ∷ 13 ∷ 34 ∷ []) ≡ Nowhere
unfolding all
raw_bare = refl

character_line_end : scan (39 ∷ 92 ∷ 10 ∷ 39 ∷ []) ≡ Nowhere
unfolding all
character_line_end = refl

character_feed : scan (39 ∷ 10 ∷ 39 ∷ []) ≡ Ends (Literal Char) []
unfolding all
character_feed = refl

float_mark : scan (codes "1e5" ++ (769 ∷ [])) ≡ Ends (Literal Float) (769 ∷ [])
unfolding all
float_mark = refl

joint_before_character : is_joint (codes "+'x'") ≡ true
unfolding all
joint_before_character = refl

no_mark_before_character : begins_mark (codes "'x'") ≡ false
unfolding all
no_mark_before_character = refl

alone_before_comment : is_joint (codes "+/* */") ≡ false
unfolding all
alone_before_comment = refl

joint_lifetime : is_joint (codes "'a") ≡ true
unfolding all
joint_lifetime = refl

joint_before_lifetime : is_joint (codes "&'a") ≡ true
unfolding all
joint_before_lifetime = refl

alone_before_byte : is_joint (codes "+b'x'") ≡ false
unfolding all
alone_before_byte = refl

shebang : begins_shebang (codes "#!/bin/x") ≡ true
unfolding all
shebang = refl

shebang_gap : begins_shebang (codes "#! \t/bin/x") ≡ true
unfolding all
shebang_gap = refl

shebang_attribute : begins_shebang (codes "#! [a]") ≡ false
unfolding all
shebang_attribute = refl

shebang_attribute_below : begins_shebang (codes "#!\n[a]") ≡ false
unfolding all
shebang_attribute_below = refl

shebang_line_comment : begins_shebang (codes "#!//c") ≡ false
unfolding all
shebang_line_comment = refl

shebang_block_comment : begins_shebang (codes "#! /*c*/ x") ≡ false
unfolding all
shebang_block_comment = refl

shebang_slash : begins_shebang (codes "#!/") ≡ true
unfolding all
shebang_slash = refl

shebang_white_alone : begins_shebang (codes "#! \t\r\nx") ≡ false
unfolding all
shebang_white_alone = refl

shebang_marks_alone : begins_shebang (codes "#!") ≡ false
unfolding all
shebang_marks_alone = refl

shebang_behind_space : begins_shebang (codes " #!/bin/x") ≡ false
unfolding all
shebang_behind_space = refl

shebang_return : IsShebang (codes "#!x\r") (codes "\ny")
unfolding all
shebang_return = (refl, refl, refl)

shebang_to_end : IsShebang (codes "#!x") []
unfolding all
shebang_to_end = (refl, refl, refl)

shebang_cut : IsShebang (codes "#!x") (codes "\r\n") → ⊥
shebang_cut (begun, line, ends) = cc
