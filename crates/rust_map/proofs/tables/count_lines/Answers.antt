use Rattle.std.proofs.Common.{ℕ, List, ◌≡◌, ◌+◌, ◌∙◌, ◌∷◌, ◌++◌, arith, sym, ap, append-nil, append_assoc}
use Rattle.std.specs.Prelude.{false}
use Rattle.std.specs.List.{list_any}
use Rattle.rust_map.specs.Bytes.{begun}
use Rattle.rust_map.specs.Places.{is_line_feed}
use Rattle.rust_map.specs.Tables.{starts_by}
use Rattle.rust_map.proofs.ByteCounts.{begun_append, begun_chars, starts_append, starts_chars, starts_none}
use Rattle.rust_map.proofs.tables.count_lines.Goals as goal

-- one chunk on
counted_on : (n m all : ℕ) (rest front back : List ℕ) → rest ≡ front ++ back → n + begun rest ≡ all → m
    ≡ n + begun front → m + begun back ≡ all
counted_on n m all rest front back e h k = let parts = ap begun e ∙ begun_append front back in omega arith

starts_on : (n m : ℕ) (done next all rest front back : List ℕ) → rest ≡ front ++ back → done ++ starts_by n rest ≡ all
    → m ≡ n + begun front → next ≡ done ++ starts_by n front → next ++ starts_by m back ≡ all
starts_on n m done next all rest front back e h k l =
    rw (l, k) (append_assoc done (starts_by n front) (starts_by (n + begun front) back) ∙
    (ap (λ x. done ++ x) (sym (ap (starts_by n) e ∙ starts_append n front back)) ∙ h))

-- a chunk without a line feed adds nothing
same_starts : (n : ℕ) (done front : List ℕ) → list_any is_line_feed front ≡ false → done ≡ done ++ starts_by n front
same_starts n done front h = sym (ap (λ x. done ++ x) (starts_none n front h) ∙ append-nil done)

pub push_starts-requires : goal.push_starts-requires
push_starts-requires c =
    let all = begun_chars c.args.text.now c.utf8.text in
    let parts = ap begun c.split_at.ensures.by_index.0 ∙ begun_append c.split_at.result.0.now c.split_at.result.1.now in
    omega arith

pub push_narrow_starts-requires-clause-room : goal.push_narrow_starts-requires-clause-room
push_narrow_starts-requires-clause-room c =
    let all = begun_chars c.args.text.now c.utf8.text in
    let parts = ap begun c.split_at.ensures.by_index.0 ∙ begun_append c.split_at.result.0.now c.split_at.result.1.now in
    omega arith

pub overflow_add-characters : goal.overflow_add-characters
overflow_add-characters c =
    let all = begun_chars c.args.text.now c.utf8.text in
    let parts = ap begun c.split_at.ensures.by_index.0 ∙ begun_append c.split_at.result.0.now c.split_at.result.1.now in
    omega arith

pub loop-rest-preserved-in_ok-characters : goal.loop-rest-preserved-in_ok-characters
loop-rest-preserved-in_ok-characters c = record {
  counted = counted_on _ _ _ _ c.split_at.result.0.now c.split_at.result.1.now c.split_at.ensures.by_index.0
      c.loop-rest.invariant.counted c.in_ok-characters.ensures.count;
  whole = starts_on _ _ _ _ _ _ c.split_at.result.0.now c.split_at.result.1.now c.split_at.ensures.by_index.0
      c.loop-rest.invariant.whole c.in_ok-characters.ensures.count c.in_ok-characters.ensures.starts;
}

pub loop-rest-preserved : goal.loop-rest-preserved
loop-rest-preserved c = record {
  counted = counted_on _ _ _ _ c.split_at.result.0.now c.split_at.result.1.now c.split_at.ensures.by_index.0
      c.loop-rest.invariant.counted c.in_ok-characters-2.ensures.count;
  whole = starts_on _ _ _ _ _ _ c.split_at.result.0.now c.split_at.result.1.now c.split_at.ensures.by_index.0
      c.loop-rest.invariant.whole c.in_ok-characters-2.ensures.count c.in_ok-characters-2.ensures.starts;
}

pub loop-rest-preserved-then-not-has_line_feed : goal.loop-rest-preserved-then-not-has_line_feed
loop-rest-preserved-then-not-has_line_feed c =
    let count = ap (λ m. c.loop-rest.characters + m) c.begun_in_few.ensures in
    record {
      counted = counted_on _ _ _ _ c.split_at.result.0.now c.split_at.result.1.now c.split_at.ensures.by_index.0
          c.loop-rest.invariant.counted count;
      whole = starts_on _ _ _ _ _ _ c.split_at.result.0.now c.split_at.result.1.now c.split_at.ensures.by_index.0
          c.loop-rest.invariant.whole count
          (same_starts c.loop-rest.characters c.loop-rest.starts.items c.split_at.result.0.now
          (sym c.has_line_feed.ensures ∙ c.if-not-has_line_feed.true));
    }

pub push_starts-requires-2 : goal.push_starts-requires-2
push_starts-requires-2 c = let all =
    begun_chars c.args.text.now c.utf8.text in omega (arith, c.loop-rest.invariant.counted)

pub returns-clause-count : goal.returns-clause-count
returns-clause-count c =
    let all = begun_chars c.args.text.now c.utf8.text in
    omega (arith, c.in_ok-characters-3.ensures.count, c.loop-rest.invariant.counted)

pub returns-clause-starts : goal.returns-clause-starts
returns-clause-starts c =
    c.in_ok-characters-3.ensures.starts ∙ c.loop-rest.invariant.whole
    ∙ ap (λ t. 0 ∷ t) (starts_chars 0 c.args.text.now c.utf8.text)
