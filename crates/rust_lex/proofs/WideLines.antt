-- What ends a line, or the text of a doc comment in a line, is of ASCII.
use Rattle.std.proofs.Common.{◌≡◌, ℕ, ◌≤◌, arith, List, [], ◌∷◌, refl, inl, inr}
use Rattle.std.specs.Prelude.{Bool, true}
use Rattle.std.proofs.lemmas.Bool.{cases_lt, lt-ltb, le-ltb, ne_eqb}
use Rattle.text_chars.specs.Chars.{or_wide}
use Rattle.rust_lex.specs.Chars.{is_not_feed, past}
use Rattle.rust_lex.specs.Comment.{is_within_line}

same_past : (p q : ℕ → Bool) → ((c : ℕ) → p c ≡ q c) → (cs : List ℕ) → past p cs ≡ past q cs
same_past p q h [] = refl
same_past p q h (c ∷ cs) = rw (h c, same_past p q h cs) refl

-- a test that all pass which aren't of ASCII
of_narrow : (p : ℕ → Bool) → ((c : ℕ) → 128 ≤ c → p c ≡ true) → (c : ℕ) → or_wide p c ≡ p c
of_narrow p wide c = elim (cases_lt c 128) [
  | inl l ↦ rw (lt-ltb c 128 l) refl
  | inr g ↦ rw (le-ltb c 128 g, wide c g) refl
]

wide_not_feed : (c : ℕ) → 128 ≤ c → is_not_feed c ≡ true
wide_not_feed c g = rw (ne_eqb c 10 (λ e. omega (arith, g, e))) refl

wide_within : (c : ℕ) → 128 ≤ c → is_within_line c ≡ true
wide_within c g = rw (ne_eqb c 10 (λ e. omega (arith, g, e)), ne_eqb c 13 (λ e. omega (arith, g, e))) refl

pub past_line : (cs : List ℕ) → past (or_wide is_not_feed) cs ≡ past is_not_feed cs
past_line cs = same_past (or_wide is_not_feed) is_not_feed (of_narrow is_not_feed wide_not_feed) cs

pub past_doc : (cs : List ℕ) → past (or_wide is_within_line) cs ≡ past is_within_line cs
past_doc cs = same_past (or_wide is_within_line) is_within_line (of_narrow is_within_line wide_within) cs
