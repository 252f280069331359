-- For callers: a character that stands in the list of marks is one of them.
use Rattle.std.specs.Prelude.{◌≡◌, ◌==◌, ℕ, true}
use Rattle.std.specs.List.{list_any}
use Rattle.rust_leaf.specs.Mark.{is_mark, marks}

pub known_mark : (c : ℕ) → list_any (λ mark. mark == c) marks ≡ true → is_mark c ≡ true
unfolding is_mark
known_mark c e = e
