-- Values that are put behind others, one by one.
use Rattle.std.proofs.Common.{◌≡◌, ◌+◌, ◌<◌, ◌≤◌, Bool, true, false, cond, List, [], ◌∷◌, ◌++◌, length, map}
use Rattle.std.proofs.Common.{Option, Some, None, refl, sym, ap, ◌∙◌, subst, inl, inr, arith, append_assoc}
use Rattle.std.proofs.Common.{length-append}
use Rattle.std.specs.Prelude.{nat_lt, option_to_list}
use Rattle.std.proofs.lemmas.List.{append-nil, map-append, length-map}
use Rattle.std.proofs.lemmas.Bool.{cases_lt, le-ltb, lt-ltb}
use Rattle.syn_lists.specs.Added.{Extends, Separates, firsts, lacking, nothing, seconds}
use Rattle.syn_lists.specs.Lists.{IsSeparated}

module _ {P : Type 0} (by_default : P → Type 0) where
  -- one more, behind one behind which something was given, and behind one where one by default has to stand
  given_more : (given : List (Option P)) (ps : List P) (o : Option P) → Separates by_default given ps
      → length given ≤ length ps → Separates by_default (given ++ o ∷ []) (ps ++ option_to_list o)
  given_more [] ps (Some q) e full = ([], ap (λ rs. rs ++ q ∷ []) e, refl)
  given_more [] ps None e full = append-nil ps ∙ e
  given_more (Some p ∷ given) ps o (qs, e, h) full =
      let rest : length given ≤ length qs = omega (arith, ap (λ (rs : List P). length rs) e) in
      (qs ++ option_to_list o, ap (λ rs. rs ++ option_to_list o) e, given_more given qs o h rest)
  given_more (None ∷ []) ps o e full = absurd (omega (arith, ap (λ (rs : List P). length rs) e))
  given_more (None ∷ u ∷ given) ps o (p, qs, d, e, h) full =
      let rest : length (u ∷ given) ≤ length qs = omega (arith, ap (λ (rs : List P). length rs) e) in
      (p, qs ++ option_to_list o, d, ap (λ rs. rs ++ option_to_list o) e, given_more (u ∷ given) qs o h rest)

  missing_more : (given : List (Option P)) (ps : List P) (p : P) (o : Option P) → Separates by_default given ps
      → length ps < length given → by_default p → Separates by_default (given ++ o ∷ []) (ps ++ p ∷ option_to_list o)
  missing_more [] ps p o e few is = absurd (omega arith)
  missing_more (Some q ∷ given) ps p o (qs, e, h) few is =
      let rest : length qs < length given = omega (arith, ap (λ (rs : List P). length rs) e) in
      (qs ++ p ∷ option_to_list o, ap (λ rs. rs ++ p ∷ option_to_list o) e, missing_more given qs p o h rest is)
  missing_more (None ∷ []) ps p (Some q) e few is =
      (p, q ∷ [], is, ap (λ rs. rs ++ p ∷ q ∷ []) e, ([], refl, refl))
  missing_more (None ∷ []) ps p None e few is = (p, [], is, ap (λ rs. rs ++ p ∷ []) e, refl)
  missing_more (None ∷ u ∷ given) ps p o (q, qs, d, e, h) few is =
      let rest : length qs < length (u ∷ given) = omega (arith, ap (λ (rs : List P). length rs) e) in (
        q,
        qs ++ p ∷ option_to_list o,
        d,
        ap (λ rs. rs ++ p ∷ option_to_list o) e,
        missing_more (u ∷ given) qs p o h rest is,
      )

few_given : {P : Type 0} (o : Option P) → length (option_to_list o) ≤ 1
few_given None = omega arith
few_given (Some p) = omega arith

lacking_length : {T P : Type 0} (vs : List T) (ps : List P) → IsSeparated vs ps
    → length (lacking vs ps) + length ps ≡ length vs
lacking_length {P = P} vs ps even =
    let pick : Bool → List (Option P) = λ b. cond b (None ∷ []) [] in
    elim (cases_lt (length ps) (length vs)) [
      | inl below ↦ let e : lacking vs ps ≡ None ∷ [] = ap pick (lt-ltb (length ps) (length vs) below) in
          omega (arith, ap (λ (os : List (Option P)). length os) e)
      | inr past ↦ let e : lacking vs ps ≡ [] = ap pick (le-ltb (length ps) (length vs) past) in
          omega (arith, ap (λ (os : List (Option P)). length os) e)
    ]

module _ {T P : Type 0} (by_default : P → Type 0) where
  -- nothing has been put behind a list
  pub extended_none : (vs : List T) (ps : List P) → Extends by_default vs ps [] [] vs ps
  extended_none vs ps = (
    sym (append-nil vs),
    λ even. (even, ([], sym (append-nil ps), none even)),
  )
    where
      alone : (b : Bool) → Separates by_default (cond b (None ∷ []) [] ++ []) []
      alone true = refl
      alone false = refl

      none : IsSeparated vs ps → Separates by_default (lacking vs ps ++ []) []
      none even = alone (nat_lt (length ps) (length vs))

  -- one value more has been put behind it
  pub extended_more : (vs : List T) (ps : List P) (added : List T) (given : List (Option P)) (ws xs : List T)
      (qs rs : List P) (v : T) (o : Option P) → Extends by_default vs ps added given ws qs
      → length given ≡ length added → xs ≡ ws ++ v ∷ []
      → (length ws ≤ length qs → rs ≡ qs ++ option_to_list o)
      → (length qs < length ws → (p : P) × by_default p × (rs ≡ qs ++ p ∷ option_to_list o))
      → Extends by_default vs ps (added ++ v ∷ []) (given ++ o ∷ []) xs rs
  extended_more vs ps added given ws xs qs rs v o (e, h) same f full missing = (
    f ∙ ap (λ us. us ++ v ∷ []) e ∙ append_assoc vs added (v ∷ []),
    λ even. step (h even).0 (h even).1.0 (h even).1.1 (h even).1.2 even,
  )
    where
      all : List (Option P)
      all = lacking vs ps ++ given

      one : length xs ≡ length ws + 1
      one = ap length f ∙ length-append ws (v ∷ [])

      put : (ss : List P) → qs ≡ ps ++ ss → (us us' : List P) → rs ≡ qs ++ us → us' ≡ ss ++ us
          → Separates by_default (all ++ o ∷ []) us'
          → (ts : List P) × (rs ≡ ps ++ ts) × Separates by_default (lacking vs ps ++ (given ++ o ∷ [])) ts
      put ss g us us' k l sep = (
        us',
        k ∙ ap (λ (x : List P). x ++ us) g ∙ append_assoc ps ss us ∙ ap (λ (x : List P). ps ++ x) (sym l),
        subst (λ os. Separates by_default os us') (append_assoc (lacking vs ps) given (o ∷ [])) sep,
      )

      step : IsSeparated ws qs → (ss : List P) → qs ≡ ps ++ ss → Separates by_default all ss → IsSeparated vs ps
          → IsSeparated xs rs × ((ts : List P) × (rs ≡ ps ++ ts)
          × Separates by_default (lacking vs ps ++ (given ++ o ∷ [])) ts)
      step now ss g sep even =
          let few = few_given o in
          let old = lacking_length vs ps even in
          let values : length ws ≡ length vs + length added = ap length e ∙ length-append vs added in
          let separators : length qs ≡ length ps + length ss = ap length g ∙ length-append ps ss in
          let count : length all ≡ length (lacking vs ps) + length given = length-append (lacking vs ps) given in
          elim (cases_lt (length qs) (length ws)) [
            | inl below ↦
                let (p, is, k) = missing below in
                let counted : length rs ≡ length qs + (1 + length (option_to_list o)) =
                ap length k ∙ length-append qs (p ∷ option_to_list o) ∙ omega arith in
                let behind : length ss < length all = omega arith in (
                  (omega (arith, one, now.0, now.1, counted, few), omega (arith, one, now.0, now.1, counted, few)),
                  put ss g (p ∷ option_to_list o) _ k refl (missing_more by_default all ss p o sep behind is),
                )
            | inr past ↦
                let k = full past in
                let counted : length rs ≡ length qs + length (option_to_list o) =
                ap length k ∙ length-append qs (option_to_list o) in
                let even_now : length all ≤ length ss = omega arith in (
                  (omega (arith, one, now.0, now.1, counted, few), omega (arith, one, now.0, now.1, counted, few)),
                  put ss g (option_to_list o) _ k refl (given_more by_default all ss o sep even_now),
                )
          ]

module _ {T P : Type 0} (by_default : P → Type 0) (vs ws xs : List T) (ps qs rs : List P) where
  -- one value more, behind which nothing was given
  pub extended_value : (added : List T) (v : T) → Extends by_default vs ps added (nothing added) ws qs
      → xs ≡ ws ++ v ∷ [] → (length ws ≤ length qs → rs ≡ qs)
      → (length qs < length ws → (p : P) × by_default p × (rs ≡ qs ++ p ∷ []))
      → Extends by_default vs ps (added ++ v ∷ []) (nothing (added ++ v ∷ [])) xs rs
  extended_value added v h e full missing =
      let none : T → Option P = λ u. None in
      let more : map none (added ++ v ∷ []) ≡ nothing added ++ None ∷ [] = map-append none added (v ∷ []) in
      subst (λ os. Extends by_default vs ps (added ++ v ∷ []) os xs rs) (sym more)
      (extended_more by_default vs ps added (nothing added) ws xs qs rs v None h (length-map added none) e
      (λ g. full g ∙ sym (append-nil qs)) missing)

  -- one pair more
  pub extended_pair : {A : Type 0} (view : A → T × Option P) (items : List A) (a : A) (v : T) (o : Option P)
      → Extends by_default vs ps (firsts (map view items)) (seconds (map view items)) ws qs → view a ≡ (v, o)
      → xs ≡ ws ++ v ∷ [] → (length ws ≤ length qs → rs ≡ qs ++ option_to_list o)
      → (length qs < length ws → (p : P) × by_default p × (rs ≡ qs ++ p ∷ option_to_list o))
      → Extends by_default vs ps (firsts (map view (items ++ a ∷ []))) (seconds (map view (items ++ a ∷ []))) xs rs
  extended_pair view items a v o h is e full missing =
      let old : List (T × Option P) = map view items in
      let more : map view (items ++ a ∷ []) ≡ old ++ (v, o) ∷ [] =
      map-append view items (a ∷ []) ∙ ap (λ x. old ++ x ∷ []) is in
      let one : firsts (old ++ (v, o) ∷ []) ≡ firsts old ++ v ∷ [] = map-append (λ x. x.0) old ((v, o) ∷ []) in
      let two : seconds (old ++ (v, o) ∷ []) ≡ seconds old ++ o ∷ [] = map-append (λ x. x.1) old ((v, o) ∷ []) in
      let same : length (seconds old) ≡ length (firsts old) =
      length-map old (λ x. x.1) ∙ sym (length-map old (λ x. x.0)) in
      subst (λ us. Extends by_default vs ps (firsts us) (seconds us) xs rs) (sym more)
      (subst (λ us. Extends by_default vs ps us (seconds (old ++ (v, o) ∷ [])) xs rs) (sym one)
      (subst (λ os. Extends by_default vs ps (firsts old ++ v ∷ []) os xs rs) (sym two)
      (extended_more by_default vs ps (firsts old) (seconds old) ws xs qs rs v o h same e full missing)))
