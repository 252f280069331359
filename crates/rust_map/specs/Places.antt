-- Places of a text: after its first k characters the line is 1 and the line feeds among these,
-- and the column is the number of characters after the last of these line feeds.
use Rattle.std.specs.Prelude.{ℕ, ◌+◌, Bool, ◌==◌, not, List, length, take, reverse}
use Rattle.std.specs.List.{take_while}
use Rattle.std.specs.Ordering.{nat_cmp}
use Rattle.std.specs.declared.cmp.Ordering.{Ordering}
use Rattle.std.specs.Prelude.{count_by, if◌then◌else◌}
use Rattle.rust_map.specs.declared.place.LineColumn.{LineColumn}

abbrev pub is_line_feed : ℕ → Bool
is_line_feed c = c == 10

-- the place behind these characters, which stand at the front of a text
abbrev pub place_behind : List ℕ → LineColumn
place_behind front = record {
  line = 1 + count_by is_line_feed front;
  column = length (take_while (λ c. not (is_line_feed c)) (reverse front));
}

-- the place after the first k characters of a text
abbrev pub place_of : List ℕ → ℕ → LineColumn
place_of text k = place_behind (take k text)

-- how two places lie to each other: the one in the earlier line first, and in one line the one at the earlier column
abbrev pub order_of : LineColumn → LineColumn → Ordering
order_of p q = if p.line == q.line then nat_cmp p.column q.column else nat_cmp p.line q.line
