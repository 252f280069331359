-- Of an unnamed field: that its visibility is pub alone, and its type a word in parentheses that would restrict it.
use Rattle.std.specs.Prelude.{Bool, true, false, ◌&&◌, not}
use Rattle.syn_grammar.specs.Tree.{Tree, Final, First, Group, Node, Pair, Second}

-- self, super or crate, and no more
abbrev pub is_word_segments : Tree → Bool
is_word_segments (First (Pair w (Second y))) = true
is_word_segments _ = false

abbrev pub is_word_path : Tree → Bool
is_word_path (Pair (Second c) (Node k y)) = is_word_segments y
is_word_path _ = false

abbrev pub is_word_any : Tree → Bool
is_word_any (Second (Node k y)) = is_word_path y
is_word_any _ = false

abbrev pub is_word_type : Tree → Bool
is_word_type (Second (Second (Second (Second (Second (Second (Second (Second (Second (Node k y)))))))))) =
    is_word_any y
is_word_type _ = false

-- in parentheses
abbrev pub is_word_inside : Tree → Bool
is_word_inside (Final (Node k y)) = is_word_type y
is_word_inside _ = false

abbrev pub is_word_group : Tree → Bool
is_word_group (Group d y) = is_word_inside y
is_word_group _ = false

abbrev pub is_restriction : Tree → Bool
is_restriction (First (Node k y)) = is_word_group y
is_restriction _ = false

-- pub, and no restriction of its own
abbrev pub is_bare_pub : Tree → Bool
is_bare_pub (First (Pair c (Second y))) = true
is_bare_pub _ = false

abbrev pub is_clear : Tree → Bool
is_clear (Pair (Node j v) (Pair (Node k t) e)) = not (is_bare_pub v && is_restriction t)
is_clear _ = true

abbrev pub has_clear_type : Tree → Bool
has_clear_type (Pair o y) = is_clear y
has_clear_type _ = true
