-- Values with the separators behind them: how many there are, and the last one.
use Rattle.std.proofs.Common.{◌≡◌, ℕ, zero, suc, ◌+◌, ◌<◌, ◌≤◌, List, [], ◌∷◌, ◌++◌, length, get_or, take, arith}
use Rattle.std.proofs.Common.{refl, sym, ap, ◌∙◌, length-append}
use Rattle.std.proofs.lemmas.List.{length-take}
use Rattle.std.specs.Prelude.{Some, None}
use Rattle.syn_lists.specs.Pairs.{pairs}

module _ {T P : Type 0} where
  pub pairs_count : (vs : List T) (ps : List P) → length (pairs vs ps) ≡ length vs
  pairs_count [] ps = refl
  pairs_count (v ∷ vs) [] = ap suc (pairs_count vs [])
  pairs_count (v ∷ vs) (p ∷ ps) = ap suc (pairs_count vs ps)

  with_separator : (vs : List T) (ps : List P) (v : T) (d : P) → length vs < length ps
      → pairs (vs ++ v ∷ []) ps ≡ pairs vs ps ++ (v, Some (get_or ps (length vs) d)) ∷ []
  with_separator vs [] v d below = absurd (omega arith)
  with_separator [] (p ∷ ps) v d below = refl
  with_separator (u ∷ vs) (p ∷ ps) v d below = ap (λ qs. (u, Some p) ∷ qs) (with_separator vs ps v d (omega arith))

  without_separator : (vs : List T) (ps : List P) (v : T) → length ps ≤ length vs
      → pairs (vs ++ v ∷ []) ps ≡ pairs vs ps ++ (v, None) ∷ []
  without_separator [] [] v past = refl
  without_separator [] (p ∷ ps) v past = absurd (omega arith)
  without_separator (u ∷ vs) [] v past = ap (λ qs. (u, None) ∷ qs) (without_separator vs [] v (omega arith))
  without_separator (u ∷ vs) (p ∷ ps) v past = ap (λ qs. (u, Some p) ∷ qs) (without_separator vs ps v (omega arith))

  -- the last pair of some, where a separator stands behind the last value
  pub paired : (all vs : List T) (ps : List P) (v : T) (d : P) → all ≡ vs ++ v ∷ [] → length vs < length ps
      → pairs all ps ≡ pairs vs ps ++ (v, Some (get_or ps (length vs) d)) ∷ []
  paired all vs ps v d e below = ap (λ ws. pairs ws ps) e ∙ with_separator vs ps v d below

  -- and where none does
  pub alone : (all vs : List T) (ps : List P) (v : T) → all ≡ vs ++ v ∷ [] → length ps ≤ length vs
      → pairs all ps ≡ pairs vs ps ++ (v, None) ∷ []
  alone all vs ps v e past = ap (λ ws. pairs ws ps) e ∙ without_separator vs ps v past

  -- separators past the values are not looked at
  cut : (vs : List T) (ps : List P) (n : ℕ) → length vs ≤ n → pairs vs (take n ps) ≡ pairs vs ps
  cut [] ps n enough = refl
  cut (v ∷ vs) ps zero enough = absurd (omega arith)
  cut (v ∷ vs) [] (suc n) enough = refl
  cut (v ∷ vs) (p ∷ ps) (suc n) enough = ap (λ qs. (v, Some p) ∷ qs) (cut vs ps n (omega arith))

  -- a pair more behind as many separators as values
  pub both_more : (vs : List T) (qs : List P) (v : T) (p : P) → length qs ≡ length vs
      → pairs (vs ++ v ∷ []) (qs ++ p ∷ []) ≡ pairs vs qs ++ (v, Some p) ∷ []
  both_more [] [] v p same = refl
  both_more [] (q ∷ qs) v p same = absurd (omega arith)
  both_more (u ∷ vs) [] v p same = absurd (omega arith)
  both_more (u ∷ vs) (q ∷ qs) v p same = ap (λ rs. (u, Some q) ∷ rs) (both_more vs qs v p (omega arith))

  -- the last pair, once the separators are cut to as many as there are values
  pub behind : (all vs : List T) (ps few left : List P) (v : T) (p : P) (n : ℕ) → all ≡ vs ++ v ∷ []
      → few ≡ take n ps → n ≡ length vs + 1 → length vs < length few → few ≡ left ++ p ∷ [] → pairs all ps
      ≡ pairs vs left ++ (v, Some p) ∷ []
  behind all vs ps few left v p n is_all is_few is_n below is_left =
      let count : length (vs ++ v ∷ []) ≡ length vs + 1 = length-append vs (v ∷ []) in
      let few_count : length few ≤ length vs + 1 = omega (arith, ap length is_few, length-take n ps) in
      let left_count : length few ≡ length left + 1 = ap length is_left ∙ length-append left (p ∷ []) in
      ap (λ ws. pairs ws ps) is_all ∙ sym (cut (vs ++ v ∷ []) ps n (omega arith))
      ∙ ap (λ qs. pairs (vs ++ v ∷ []) qs) (sym is_few ∙ is_left) ∙ both_more vs left v p (omega arith)

  pub bare : (all vs : List T) (ps few : List P) (v : T) (n : ℕ) → all ≡ vs ++ v ∷ [] → few ≡ take n ps
      → n ≡ length vs + 1 → length few ≤ length vs → pairs all ps ≡ pairs vs few ++ (v, None) ∷ []
  bare all vs ps few v n is_all is_few is_n past =
      let count : length (vs ++ v ∷ []) ≡ length vs + 1 = length-append vs (v ∷ []) in
      ap (λ ws. pairs ws ps) is_all ∙ sym (cut (vs ++ v ∷ []) ps n (omega arith))
      ∙ ap (λ qs. pairs (vs ++ v ∷ []) qs) (sym is_few) ∙ without_separator vs few v past
