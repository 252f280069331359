-- The tables of a text: where its lines begin, and where every 128th character begins.
use Rattle.std.specs.Prelude.{ℕ, ◌+◌, ◌%◌, ◌==◌, if◌then◌else◌, List, [], ◌∷◌, length}
use Rattle.std.specs.Char.{len_utf8}
use Rattle.rust_map.specs.Places.{is_line_feed}
use Rattle.rust_map.specs.Bytes.{byte_length, begun}

-- where lines begin in the rest of a text, behind each line feed: so many characters stand before it
unfoldable pub line_starts_from : ℕ → List ℕ → List ℕ
line_starts_from count [] = []
line_starts_from count (c ∷ cs) =
    if is_line_feed c
    then (count + 1) ∷ line_starts_from (count + 1) cs
    else line_starts_from (count + 1) cs

-- the table of lines of a text, where each begins: the first at its front
abbrev pub line_starts_of : List ℕ → List ℕ
line_starts_of text = 0 ∷ line_starts_from 0 text

-- where every 128th character ends in bytes, in the rest of a text: so many bytes and characters stand before it
unfoldable pub byte_steps_from : ℕ → ℕ → List ℕ → List ℕ
byte_steps_from at count [] = []
byte_steps_from at count (c ∷ cs) =
    if (count + 1) % 128 == 0
    then (at + len_utf8 c) ∷ byte_steps_from (at + len_utf8 c) (count + 1) cs
    else byte_steps_from (at + len_utf8 c) (count + 1) cs

-- the table of bytes of a text, where every 128th character begins: none is needed where each character is one byte
abbrev pub byte_steps_of : List ℕ → List ℕ
byte_steps_of text = if byte_length text == length text then [] else 0 ∷ byte_steps_from 0 0 text

-- where lines begin behind the line feeds among bytes of a text, before which so many characters stand
abbrev pub starts_by : ℕ → List ℕ → List ℕ
starts_by n [] = []
starts_by n (b ∷ bs) =
    if b == 10
    then (n + begun (b ∷ [])) ∷ starts_by (n + begun (b ∷ [])) bs
    else starts_by (n + begun (b ∷ [])) bs
