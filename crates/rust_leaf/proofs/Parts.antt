-- A count that no 64 bits hold lies behind each span.
use Rattle.std.proofs.Common.{◌≡◌, ℕ, ◌+◌, ◌^◌, ◌<◌, ◌≤◌, arith, refl, ⊎_elim, leb-true, ltb-false, ltb-true}
use Rattle.std.specs.Prelude.{◌&&◌, nat_le, nat_lt, ◌⊎◌, None}
use Rattle.std.proofs.lemmas.Bool.{and_parts, cases_Bool}
use Rattle.rust_map.specs.Spans.{part_within, span_length}
use Rattle.rust_map.specs.declared.span.Span.{Span}

not_below : (a b : ℕ) → (a < b → ⊥) → b ≤ a
not_below a b n = ⊎_elim (λ t. absurd (n (ltb-true a b t))) (λ f. ltb-false a b f) (cases_Bool (nat_lt a b))

-- where one of the two is such a count, there is no part
pub no_part : (span : Span) (from to length n : ℕ) → length ≡ span_length span → length < 2 ^ 32 → (n + 1 < 2 ^ 64 → ⊥)
    → from ≡ n + 1 ⊎ to ≡ n + 1 → part_within span from to ≡ None
no_part span from to length n is small far one =
    let past = not_below (n + 1) (2 ^ 64) far in
    ⊎_elim
    (λ t. (
    let (f, e) = and_parts (nat_le from to) (nat_le (span.start + to) span.end) t in
    let ordered = leb-true from to f in
    let within = leb-true (span.start + to) span.end e in
    absurd (⊎_elim (λ k. omega arith) (λ k. omega arith) one)
    ))
    (λ no. rw no refl)
    (cases_Bool (nat_le from to && nat_le (span.start + to) span.end))
