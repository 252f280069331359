-- Characters, as numbers, and texts as lists of them.
use Rattle.std.specs.Prelude.{ℕ, Bool, true, false, ◌&&◌, ◌||◌, ◌==◌, not, nat_lt, List, [], ◌∷◌}
use Rattle.std.specs.Char.{is_ascii_digit}
use Rattle.unicode_ident.specs.Ident.{is_xid_start, is_xid_continue}
pub use Rattle.text_chars.specs.Chars.{is_among, begins, passes, past, narrow, is_line_feed, is_underscore}

-- the white characters of Unicode, and the marks U+200E and U+200F of a text's direction
abbrev pub whites : List ℕ
whites = 9 ∷ 10 ∷ 11 ∷ 12 ∷ 13 ∷ 32 ∷ 133 ∷ 160 ∷ 5760 ∷ 8192 ∷ 8193 ∷ 8194 ∷ 8195 ∷ 8196 ∷ 8197 ∷ 8198 ∷ 8199 ∷ 8200 ∷
    8201 ∷ 8202 ∷ 8206 ∷ 8207 ∷ 8232 ∷ 8233 ∷ 8239 ∷ 8287 ∷ 12288 ∷ []

unfoldable pub is_white : ℕ → Bool
is_white c = is_among whites c

-- the white characters of ASCII
abbrev pub is_narrow_white : ℕ → Bool
is_narrow_white c = is_white c && nat_lt c 128

-- an identifier begins with XID_Start or _
unfoldable pub is_first : ℕ → Bool
is_first c = is_xid_start c || c == 95

-- and goes on with XID_Continue
unfoldable pub is_next : ℕ → Bool
is_next c = is_xid_continue c

-- b c r, which prefixes of literals begin with
abbrev pub begins_prefix : ℕ → Bool
begins_prefix c = c == 98 || (c == 99 || c == 114)

-- " # ' r, one of which stands behind the first letter of a prefix, and of the mark of a raw identifier
abbrev pub is_behind_prefix : ℕ → Bool
is_behind_prefix c = (c == 34 || c == 35) || (c == 39 || c == 114)

-- a character that isn't of ASCII
abbrev pub is_wide : ℕ → Bool
is_wide c = not (nat_lt c 128)

unfoldable pub is_digit : ℕ → Bool
is_digit c = is_ascii_digit c

-- ~ ! @ # $ % ^ & * - = + | ; : , < . > / ?, which with ' are the 22 marks
abbrev pub marks_but_tick : List ℕ
marks_but_tick = 126 ∷ 33 ∷ 64 ∷ 35 ∷ 36 ∷ 37 ∷ 94 ∷ 38 ∷ 42 ∷ 45 ∷ 61 ∷ 43 ∷ 124 ∷ 59 ∷ 58 ∷ 44 ∷ 60 ∷ 46 ∷ 62 ∷ 47 ∷
    63 ∷ []

unfoldable pub is_mark_but_tick : ℕ → Bool
is_mark_but_tick c = is_among marks_but_tick c

-- a text begins with another
abbrev pub begins_with : List ℕ → List ℕ → Bool
begins_with [] cs = true
begins_with (d ∷ ds) [] = false
begins_with (d ∷ ds) (c ∷ cs) = c == d && begins_with ds cs

abbrev pub is_not_feed : ℕ → Bool
is_not_feed c = not (is_line_feed c)

abbrev pub is_hash : ℕ → Bool
is_hash c = c == 35

abbrev pub is_slash : ℕ → Bool
is_slash c = c == 47

abbrev pub is_slash_or_star : ℕ → Bool
is_slash_or_star c = c == 47 || c == 42

abbrev pub is_quote_or_hash : ℕ → Bool
is_quote_or_hash c = c == 34 || c == 35

abbrev pub is_tick : ℕ → Bool
is_tick c = c == 39

abbrev pub is_tick_or_hash : ℕ → Bool
is_tick_or_hash c = c == 39 || c == 35
