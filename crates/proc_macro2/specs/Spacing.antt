-- Well spaced tokens: those that are read back from their text, if each of them is a token.
--
-- There is no invisible group at any depth. Each ' is joint and stands before an identifier or before
-- a string that begins b" c" r" br" or cr". Each other joint mark stands before a mark with which it
-- begins no comment, or before a character literal.
use Rattle.std.specs.Prelude.{ℕ, Bool, true, false, ◌&&◌, ◌||◌, ◌==◌, not, List, [], ◌∷◌, IsTrue, codes, nat_eq}
use Rattle.std.specs.Prelude.{if◌then◌else◌}
use Rattle.std.specs.List.{starts_with}
use Rattle.proc_macro2.specs.declared.delimiter.Delimiter.TheVariants as delimiter
use Rattle.proc_macro2.specs.Token.{Delimiter, Token, Opens, Closes, Ident, Literal, Punct, Alone, Joint}

-- '
abbrev pub quote : ℕ
quote = 39

-- / and *
abbrev pub is_slash : ℕ → Bool
is_slash c = c == 47

abbrev pub is_slash_or_star : ℕ → Bool
is_slash_or_star c = c == 47 || c == 42

-- two marks that begin // or /*
abbrev pub begin_comment : ℕ → ℕ → Bool
begin_comment c d = is_slash c && is_slash_or_star d

-- a delimiter that is printed
abbrev pub is_visible : Delimiter → Bool
is_visible delimiter.None = false
is_visible _ = true

-- a string with a prefix and without #
abbrev pub is_prefixed_string : List ℕ → Bool
is_prefixed_string cs =
    starts_with nat_eq cs (codes "b\"") || starts_with nat_eq cs (codes "c\"") || starts_with nat_eq cs (codes "r\"")
    || starts_with nat_eq cs (codes "br\"") || starts_with nat_eq cs (codes "cr\"")

-- a character literal
abbrev pub is_character : List ℕ → Bool
is_character [] = false
is_character (c ∷ cs) = c == quote

-- the tokens begin with one before which a ' stands
abbrev pub follows_quote : List Token → Bool
follows_quote (Ident cs ∷ ts) = true
follows_quote (Literal cs ∷ ts) = is_prefixed_string cs
follows_quote _ = false

-- the tokens begin with one before which another joint mark stands
abbrev pub follows_mark : ℕ → List Token → Bool
follows_mark c (Punct d spacing ∷ ts) = not (begin_comment c d)
follows_mark c (Literal cs ∷ ts) = is_character cs
follows_mark c _ = false

-- a token may stand before the tokens behind it
abbrev pub may_stand : Token → List Token → Bool
may_stand (Opens d) ts = is_visible d
may_stand (Closes d) ts = is_visible d
may_stand (Ident cs) ts = true
may_stand (Literal cs) ts = true
may_stand (Punct c Alone) ts = not (c == quote)
may_stand (Punct c Joint) ts = if c == quote then follows_quote ts else follows_mark c ts

-- each token may stand before those behind it
abbrev pub IsWellSpaced : List Token → Type 0
IsWellSpaced [] = Unit {0}
IsWellSpaced (t ∷ ts) = IsTrue (may_stand t ts) × IsWellSpaced ts
