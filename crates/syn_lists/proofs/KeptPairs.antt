-- What is kept of pairs by a loop that moves it to the front.
use Rattle.std.proofs.Common.{◌≡◌, ℕ, zero, suc, ◌+◌, ◌-◌, ◌<◌, ◌≤◌, Bool, true, false, List, [], ◌∷◌, ◌++◌}
use Rattle.std.proofs.Common.{length, get_or, take, drop, set, swap, refl, sym, ap, ◌∙◌, subst, inl, inr, arith}
use Rattle.std.proofs.Common.{append_assoc, cond, length-set}
use Rattle.std.proofs.Math.Seq.{drop-cons, take-suc-set}
use Rattle.std.proofs.lemmas.Bool.{cases_lt}
use Rattle.std.proofs.lemmas.List.{append-nil, drop_all, drop-set-lt, get_or_default, length-take-le, set-get_or}
use Rattle.std.proofs.lemmas.List.{take-set-le}
use Rattle.std.proofs.lemmas.List.Edits.{length-swap}
use Rattle.std.specs.List.Retain.{RetainsInTurn}
use Rattle.std.specs.Prelude.{Option, Some, None}
use Rattle.syn_lists.specs.Lists.{IsSeparated}
use Rattle.syn_lists.specs.Pairs.{pairs}
use Rattle.syn_lists.specs.Retained.{KeepsInFront, OnValues, RetainsPairs, bare}
use Rattle.syn_lists.proofs.Behind.{alone, both_more, pairs_count}
use Rattle.syn_lists.proofs.Kept.{front, past}

module _ {T P : Type 0} where
  drop_pairs : (n : ℕ) (vs : List T) (ps : List P) → drop n (pairs vs ps) ≡ pairs (drop n vs) (drop n ps)
  drop_pairs zero vs ps = refl
  drop_pairs (suc n) [] ps = refl
  drop_pairs (suc n) (v ∷ vs) [] =
      drop_pairs n vs [] ∙ ap (λ (qs : List P). pairs (drop n vs) qs) (drop_all n [] (omega arith))
  drop_pairs (suc n) (v ∷ vs) (p ∷ ps) = drop_pairs n vs ps

  bare_more : (xs : List (T × Option P)) (v : T) → bare (xs ++ (v, None) ∷ []) ≡ xs ++ (v, None) ∷ []
  bare_more [] v = refl
  bare_more (x ∷ []) v = refl
  bare_more (x ∷ y ∷ xs) v = ap (λ zs. x ∷ zs) (bare_more (y ∷ xs) v)

  -- pairs that all have a separator, once the last one's is gone
  bare_cut : (vs : List T) (ps : List P) (n : ℕ) → length vs ≡ suc n → length vs ≤ length ps
      → pairs vs (take n ps) ≡ bare (pairs vs ps)
  bare_cut [] ps n e h = absurd (omega (arith, e))
  bare_cut (v ∷ vs) [] n e h = absurd (omega arith)
  bare_cut (v ∷ []) (p ∷ ps) zero e h = refl
  bare_cut (v ∷ []) (p ∷ ps) (suc n) e h = absurd (omega (arith, e))
  bare_cut (v ∷ w ∷ vs) (p ∷ ps) zero e h = absurd (omega (arith, e))
  bare_cut (v ∷ w ∷ vs) (p ∷ []) (suc n) e h = absurd (omega arith)
  bare_cut (v ∷ w ∷ vs) (p ∷ q ∷ ps) (suc n) e h =
      ap (λ zs. (v, Some p) ∷ zs) (bare_cut (w ∷ vs) (q ∷ ps) n (omega (arith, e)) (omega arith))

  bare_less : (vs : List T) (ps : List P) (n : ℕ) → length vs ≡ n → length vs ≤ length ps
      → pairs vs (take (n - 1) ps) ≡ bare (pairs vs ps)
  bare_less [] ps n e h = refl
  bare_less (v ∷ vs) ps zero e h = absurd (omega (arith, e))
  bare_less (v ∷ vs) ps (suc n) e h =
      let less : suc n - 1 ≡ n = omega arith in
      ap (λ m. pairs (v ∷ vs) (take m ps)) less ∙ bare_cut (v ∷ vs) ps n e h

take_take : {X : Type 0} (m n : ℕ) (xs : List X) → m ≤ n → take m (take n xs) ≡ take m xs
take_take zero n xs h = refl
take_take (suc m) zero xs h = absurd (omega arith)
take_take (suc m) (suc n) [] h = refl
take_take (suc m) (suc n) (x ∷ xs) h = ap (λ ys. x ∷ ys) (take_take m n xs (omega arith))

take_front : {X : Type 0} (k : ℕ) (xs ys : List X) → k ≤ length xs → take k (xs ++ ys) ≡ take k xs
take_front zero xs ys h = refl
take_front (suc k) [] ys h = absurd (omega arith)
take_front (suc k) (x ∷ xs) ys h = ap (λ zs. x ∷ zs) (take_front k xs ys (omega arith))

-- what is left of a list that was lent and then cut short
pub cut_short : {X : Type 0} (k n : ℕ) (all xs ys : List X) → all ≡ take k (take n (xs ++ ys)) → k ≤ n → k ≤ length xs
    → all ≡ take k xs
cut_short k n all xs ys e within below = e ∙ take_take k n (xs ++ ys) within ∙ take_front k xs ys below

-- what stands at an index, where two lists are one from there on
here : {X : Type 0} (xs ys : List X) (i : ℕ) (x : X) → i < length ys → i < length xs → x ≡ get_or ys i x
    → drop i ys ≡ drop i xs → drop i xs ≡ x ∷ drop (i + 1) xs
here xs ys i x below within is same =
    let on : suc i ≡ i + 1 = omega arith in
    let heads : get_or ys i x ∷ drop (suc i) ys ≡ get_or xs i x ∷ drop (suc i) xs =
    sym (drop-cons ys i x below) ∙ same ∙ drop-cons xs i x within in
    drop-cons xs i x within ∙ ap (λ w. w ∷ drop (suc i) xs) (sym (ap (λ l. get_or l 0 x) heads) ∙ sym is)
    ∙ ap (λ j. x ∷ drop j xs) on

-- the front grows by what is written to its end, and by what is swapped there
front_grows : {X : Type 0} (ys : List X) (k i : ℕ) (y : X) → k ≤ i → i < length ys
    → take (k + 1) (swap (set ys i y) k i) ≡ take k ys ++ y ∷ []
front_grows ys k i y le lt =
    let on : k + 1 ≡ suc k = omega arith in
    sym (front ys k i y le lt) ∙ ap (λ j. take j (set (set ys i y) k y)) on
    ∙ take-suc-set (set ys i y) k y (omega (arith, length-set ys i y))
    ∙ ap (λ l. l ++ y ∷ []) (take-set-le k ys i y le)

front_swapped : {X : Type 0} (ps : List X) (k i : ℕ) (p : X) → k ≤ i → i < length ps → get_or ps i p ≡ p
    → take (k + 1) (swap ps k i) ≡ take k ps ++ p ∷ []
front_swapped ps k i p le lt is =
    let same : set ps i p ≡ ps = ap (λ q. set ps i q) (sym is) ∙ set-get_or ps i p in
    ap (λ l. take (k + 1) (swap l k i)) (sym same) ∙ front_grows ps k i p le lt

past_swapped : {X : Type 0} (ps : List X) (k i : ℕ) (p : X) → k ≤ i → i < length ps → get_or ps i p ≡ p
    → drop (i + 1) (swap ps k i) ≡ drop (i + 1) ps
past_swapped ps k i p le lt is =
    let same : set ps i p ≡ ps = ap (λ q. set ps i q) (sym is) ∙ set-get_or ps i p in
    ap (λ l. drop (i + 1) (swap l k i)) (sym same) ∙ sym (past ps k i p le lt)
    ∙ drop-set-lt (i + 1) (set ps i p) k p (omega arith) ∙ drop-set-lt (i + 1) ps i p (omega arith)

module _ {S T P : Type 0} (R : S → T → Bool → S → T → Type 0) (s₀ : S) (xs : List T) (qs : List P) where
  -- k values have stayed of the first i, with their separators; the calls go on at s
  pub record PairsKept (s : S) (ys : List T) (ps : List P) (k i : ℕ) : Type 0 where
    pub kept : List (T × Option P)
    pub turns : (zs : List (T × Option P)) → RetainsInTurn (OnValues R) s (drop i (pairs xs qs)) zs
        → RetainsInTurn (OnValues R) s₀ (pairs xs qs) (kept ++ zs)
    pub same : drop i ps ≡ drop i qs
    pub count : length ps ≡ length qs
    pub inside : i ≤ length qs → pairs (take k ys) (take k ps) ≡ kept
    pub ended : length qs < i → pairs (take k ys) (take (k - 1) ps) ≡ bare kept

  pub none_kept : PairsKept s₀ xs qs 0 0
  none_kept = record {
    kept = [];
    turns = λ zs h. h;
    same = refl;
    count = refl;
    inside = λ _. refl;
    ended = λ h. absurd (omega arith);
  }

  -- one pair more has been asked for
  asked : (s t : S) (front : List (T × Option P)) (i : ℕ) (x y : T) (o : Option P) (answer : Bool)
      → ((zs : List (T × Option P)) → RetainsInTurn (OnValues R) s (drop i (pairs xs qs)) zs
      → RetainsInTurn (OnValues R) s₀ (pairs xs qs) (front ++ zs)) → R s x answer t y
      → drop i (pairs xs qs) ≡ (x, o) ∷ drop (i + 1) (pairs xs qs)
      → (kept : List (T × Option P)) → kept ≡ cond answer (front ++ (y, o) ∷ []) front
      → (zs : List (T × Option P)) → RetainsInTurn (OnValues R) t (drop (i + 1) (pairs xs qs)) zs
      → RetainsInTurn (OnValues R) s₀ (pairs xs qs) (kept ++ zs)
  asked s t front i x y o true h r at kept is zs g =
      subst (RetainsInTurn (OnValues R) s₀ (pairs xs qs))
      (sym (ap (λ l. l ++ zs) is ∙ append_assoc front ((y, o) ∷ []) zs))
      (h ((y, o) ∷ zs) (subst (λ l. RetainsInTurn (OnValues R) s l ((y, o) ∷ zs)) (sym at)
      (true, t, (y, o), (r, refl), zs, g, refl)))
  asked s t front i x y o false h r at kept is zs g =
      subst (RetainsInTurn (OnValues R) s₀ (pairs xs qs)) (sym (ap (λ l. l ++ zs) is))
      (h zs (subst (λ l. RetainsInTurn (OnValues R) s l zs) (sym at) (false, t, (y, o), (r, refl), zs, g, refl)))

  -- all pairs have been asked for
  pub all_asked : (s : S) (ys : List T) (ps : List P) (k i : ℕ) → length xs ≤ i → i ≤ length xs → PairsKept s ys ps k i
      → KeepsInFront R s₀ xs qs ys ps k
  all_asked s ys ps k i past bound h =
      let none : drop i (pairs xs qs) ≡ [] = drop_all i (pairs xs qs) (omega (arith, pairs_count xs qs)) in (
        h.kept,
        subst (RetainsInTurn (OnValues R) s₀ (pairs xs qs)) (append-nil h.kept)
            (h.turns [] (subst (λ l. RetainsInTurn (OnValues R) s l []) (sym none) refl)),
        λ full. h.inside (omega arith),
        λ few. h.ended (omega arith),
      )

  module _ (even : IsSeparated xs qs) (s t : S) (ys : List T) (ps : List P) (k i : ℕ) (x y : T) (le : k ≤ i)
      (lt : i < length ys) (within : i < length xs) (is : x ≡ get_or ys i x) (from : drop i ys ≡ drop i xs)
      (h : PairsKept s ys ps k i) where
    on : suc i ≡ i + 1
    on = omega arith

    xs_at : drop i xs ≡ x ∷ drop (i + 1) xs
    xs_at = here xs ys i x lt within is from

    counted : length ps ≡ length qs
    counted = h.count

    few_values : k ≤ length (take k ys)
    few_values = omega (arith, length-take-le k ys (omega arith))

    -- a value that a separator follows
    module _ (below : i < length qs) (d p : P) (is_p : get_or qs i d ≡ p) where
      qs_at : drop i qs ≡ p ∷ drop (i + 1) qs
      qs_at = drop-cons qs i d below ∙ ap (λ q. q ∷ drop (suc i) qs) is_p ∙ ap (λ j. p ∷ drop j qs) on

      ps_at : drop i ps ≡ get_or ps i d ∷ drop (i + 1) ps
      ps_at = drop-cons ps i d (omega (arith, counted)) ∙ ap (λ j. get_or ps i d ∷ drop j ps) on

      heads : get_or ps i d ∷ drop (i + 1) ps ≡ p ∷ drop (i + 1) qs
      heads = sym ps_at ∙ h.same ∙ qs_at

      own : get_or ps i p ≡ p
      own = get_or_default ps i p d (omega (arith, counted)) ∙ ap (λ l. get_or l 0 d) heads

      tails : drop (i + 1) ps ≡ drop (i + 1) qs
      tails = ap (drop 1) heads

      with_at : drop i (pairs xs qs) ≡ (x, Some p) ∷ drop (i + 1) (pairs xs qs)
      with_at =
          drop_pairs i xs qs ∙ ap (λ vs. pairs vs (drop i qs)) xs_at
          ∙ ap (λ os. pairs (x ∷ drop (i + 1) xs) os) qs_at
          ∙ ap (λ l. (x, Some p) ∷ l) (sym (drop_pairs (i + 1) xs qs))

      stays_with : R s x true t y → PairsKept t (swap (set ys i y) k i) (swap ps k i) (k + 1) (i + 1)
      stays_with r =
          let ends : k ≤ length ps = omega (arith, counted) in
          let long : length (take k ps) ≡ length (take k ys) =
          length-take-le k ps ends ∙ sym (length-take-le k ys (omega arith)) in
          let here : i ≤ length qs = omega arith in
          let at_end : i < length ps = omega (arith, counted) in
          record {
            kept = h.kept ++ (y, Some p) ∷ [];
            turns = asked s t h.kept i x y (Some p) true h.turns r with_at _ refl;
            same = past_swapped ps k i p le at_end own ∙ tails;
            count = length-swap ps k i ∙ counted;
            inside = λ _. ap (λ vs. pairs vs (take (k + 1) (swap ps k i))) (front_grows ys k i y le lt)
                ∙ ap (λ os. pairs (take k ys ++ y ∷ []) os) (front_swapped ps k i p le at_end own)
                ∙ both_more (take k ys) (take k ps) y p long ∙ ap (λ l. l ++ (y, Some p) ∷ []) (h.inside here);
            ended = λ g. absurd (omega arith);
          }

      goes_with : R s x false t y → PairsKept t (set ys i y) ps k (i + 1)
      goes_with r =
          let here : i ≤ length qs = omega arith in
          record {
            kept = h.kept;
            turns = asked s t h.kept i x y (Some p) false h.turns r with_at _ refl;
            same = tails;
            count = counted;
            inside = λ _. ap (λ vs. pairs vs (take k ps)) (take-set-le k ys i y le) ∙ h.inside here;
            ended = λ g. absurd (omega arith);
          }

    -- the last one, that none follows
    module _ (last : length qs ≤ i) where
      at_last : i ≤ length qs
      at_last = omega (arith, even.1)

      alone_at : drop i (pairs xs qs) ≡ (x, None) ∷ drop (i + 1) (pairs xs qs)
      alone_at =
          drop_pairs i xs qs ∙ ap (λ vs. pairs vs (drop i qs)) xs_at
          ∙ ap (λ os. pairs (x ∷ drop (i + 1) xs) os) (drop_all i qs last)
          ∙ ap (λ os. (x, None) ∷ pairs (drop (i + 1) xs) os) (sym (drop_all (i + 1) qs (omega arith)))
          ∙ ap (λ l. (x, None) ∷ l) (sym (drop_pairs (i + 1) xs qs))

      both_past : drop (i + 1) ps ≡ drop (i + 1) qs
      both_past = drop_all (i + 1) ps (omega (arith, counted)) ∙ sym (drop_all (i + 1) qs (omega arith))

      stays_alone : R s x true t y → PairsKept t (swap (set ys i y) k i) ps (k + 1) (i + 1)
      stays_alone r =
          let ends : k ≤ length ps = omega (arith, counted, at_last) in
          let one : k + 1 - 1 ≡ k = omega arith in
          let few : length (take k ps) ≤ length (take k ys) = omega (arith, length-take-le k ps ends, few_values) in
          record {
            kept = h.kept ++ (y, None) ∷ [];
            turns = asked s t h.kept i x y None true h.turns r alone_at _ refl;
            same = both_past;
            count = counted;
            inside = λ g. absurd (omega arith);
            ended = λ _. ap (λ j. pairs (take (k + 1) (swap (set ys i y) k i)) (take j ps)) one
                ∙ alone _ (take k ys) (take k ps) y (front_grows ys k i y le lt) few
                ∙ ap (λ l. l ++ (y, None) ∷ []) (h.inside at_last) ∙ sym (bare_more h.kept y);
          }

      goes_alone : R s x false t y → PairsKept t (set ys i y) ps k (i + 1)
      goes_alone r =
          let ends : k ≤ length ps = omega (arith, counted, at_last) in
          let values : length (take k ys) ≡ k = length-take-le k ys (omega arith) in
          record {
            kept = h.kept;
            turns = asked s t h.kept i x y None false h.turns r alone_at _ refl;
            same = both_past;
            count = counted;
            inside = λ g. absurd (omega arith);
            ended = λ _. ap (λ vs. pairs vs (take (k - 1) ps)) (take-set-le k ys i y le)
                ∙ ap (λ os. pairs (take k ys) os) (sym (take_take (k - 1) k ps (omega arith)))
                ∙ bare_less (take k ys) (take k ps) k values (omega (arith, values, length-take-le k ps ends))
                ∙ ap bare (h.inside at_last);
          }

    any_of : (os : List P) → 0 < length os → P
    any_of [] g = absurd (omega arith)
    any_of (o ∷ os) g = o

    pub pair_stays : (rs : List P) → (i < length ps → rs ≡ swap ps k i) → (length ps ≤ i → rs ≡ ps) → R s x true t y
        → PairsKept t (swap (set ys i y) k i) rs (k + 1) (i + 1)
    pair_stays rs swapped same r =
        let now : List P → Type 0 = λ os. PairsKept t (swap (set ys i y) k i) os (k + 1) (i + 1) in
        elim (cases_lt i (length qs)) [
          | inl below ↦
              subst now (sym (swapped (omega (arith, counted)))) (stays_with below (any_of qs (omega arith)) _ refl r)
          | inr past ↦ subst now (sym (same (omega (arith, counted)))) (stays_alone past r)
        ]

    pub pair_goes : R s x false t y → PairsKept t (set ys i y) ps k (i + 1)
    pair_goes r =
        elim (cases_lt i (length qs)) [
          | inl below ↦ goes_with below (any_of qs (omega arith)) _ refl r
          | inr past ↦ goes_alone past r
        ]

-- the rest of the list has been cut off
pub retained : {S T P : Type 0} (R : S → T → Bool → S → T → Type 0) (s₀ : S) (xs all ys ws : List T)
    (qs marks ps rs : List P) (k : ℕ) → all ≡ xs → marks ≡ qs → ws ≡ take k ys
    → (length xs ≤ length qs → rs ≡ take k ps)
    → (IsSeparated xs qs → length qs < length xs → rs ≡ take (k - 1) ps)
    → (IsSeparated all marks → KeepsInFront R s₀ all marks ys ps k) → IsSeparated xs qs → RetainsPairs R s₀ xs qs ws rs
retained {T = T} {P} R s₀ xs all ys ws qs marks ps rs k same_values same_marks values full few h even =
    let Front : List T → List P → Type 0 = λ vs os. IsSeparated vs os → KeepsInFront R s₀ vs os ys ps k in
    let lent : Front xs qs = subst (λ os. Front xs os) same_marks (subst (λ vs. Front vs marks) same_values h) in
    let (kept, turns, with, without) = lent even in (
      kept,
      turns,
      λ g. ap (λ vs. pairs vs rs) values ∙ ap (λ os. pairs (take k ys) os) (full g) ∙ with g,
      λ g. ap (λ vs. pairs vs rs) values ∙ ap (λ os. pairs (take k ys) os) (few even g) ∙ without g,
    )
