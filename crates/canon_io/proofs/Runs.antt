-- What a watch says behind a whole run of calls.
use Rattle.std.proofs.Common.{◌≡◌, ℕ, zero, suc, ◌+◌, ◌<◌, ◌≤◌, inl, inr, true, List, [], ◌∷◌, ◌++◌, IsTrue, replicate}
use Rattle.std.proofs.Common.{refl, sym, ap, ◌∙◌, subst, arith, append_assoc, add-zero, zero-add, lit<, lit≤}
use Rattle.std.proofs.lemmas.Bool.{cases_lt}
use Rattle.std.proofs.lemmas.List.{replicate_more}
use Rattle.std.proofs.lemmas.Grind.{common_steps}
use Rattle.canon_io.specs.declared.watch.Answer.{Answer}
use Rattle.canon_io.specs.declared.watch.Answer.TheVariants.{Normal, Interruption, Failure}
use Rattle.canon_io.specs.declared.watch.Watch.{Watch}
use Rattle.canon_io.specs.declared.watch.Watch.TheVariants.{Sound, Failed}
use Rattle.canon_io.specs.Watch.{fresh, after, after_all, failed}
use Rattle.canon_io.specs.Runs.{HasFailure, IsFailedRun}

-- what has failed stays so
pub after_all-Failed : (answers : List Answer) → after_all Failed answers ≡ Failed
after_all-Failed [] = refl
after_all-Failed (answer ∷ answers) = after_all-Failed answers

pub after_all-append : (watch : Watch) (front back : List Answer) →
    after_all watch (front ++ back) ≡ after_all (after_all watch front) back
after_all-append watch [] back = refl
after_all-append watch (answer ∷ front) back = after_all-append (after watch answer) front back

after-counted : (n : ℕ) → n + 1 < 1000 → after (Sound n) Interruption ≡ Sound (n + 1)
after-counted n below = grind (arith, common_steps)

after-limit : (n : ℕ) → 1000 ≤ n + 1 → after (Sound n) Interruption ≡ Failed
after-limit n full = grind (arith, common_steps)

-- fewer than 1,000 interruptions are counted
after_all-counted : (n k : ℕ) → n + k < 1000 → after_all (Sound n) (replicate k Interruption) ≡ Sound (n + k)
after_all-counted n zero below = ap Sound (sym (add-zero n))
after_all-counted n (suc k) below =
    let next : n + 1 < 1000 = omega arith in
    let rest : (n + 1) + k < 1000 = omega arith in
    let same : (n + 1) + k ≡ n + suc k = omega arith in
    ap (λ w. after_all w (replicate k Interruption)) (after-counted n next) ∙ after_all-counted (n + 1) k rest
    ∙ ap Sound same

pub after_all-fresh : (k : ℕ) → k < 1000 → after_all fresh (replicate k Interruption) ≡ Sound k
after_all-fresh k below = rw zero-add at (after_all-counted 0 k (rw zero-add below))

-- and 1,000 are a failure
after_all-full : (n k : ℕ) → 1000 ≤ n + k → 0 < k → after_all (Sound n) (replicate k Interruption) ≡ Failed
after_all-full n zero full some = absurd (omega arith)
after_all-full n (suc k) full some =
    let P : Watch → Type 0 = λ w. after_all w (replicate k Interruption) ≡ Failed in
    elim (cases_lt (n + 1) 1000) [
      | inl below ↦
          let rest : 1000 ≤ (n + 1) + k = omega arith in
          let more : 0 < k = omega arith in
          subst P (sym (after-counted n below)) (after_all-full (n + 1) k rest more)
      | inr over ↦ subst P (sym (after-limit n over)) (after_all-Failed (replicate k Interruption))
    ]

pub after_all-limit : (watch : Watch) (k : ℕ) → 1000 ≤ k → after_all watch (replicate k Interruption) ≡ Failed
after_all-limit (Sound n) k full = let n_full : 1000 ≤ n + k =
    omega arith in let some : 0 < k = omega arith in after_all-full n k n_full some
after_all-limit Failed k full = after_all-Failed (replicate k Interruption)

-- ---- a failed run is seen

failed-behind : (watch : Watch) (back : List Answer) → watch ≡ Failed → failed (after_all watch back) ≡ true
failed-behind watch back e = ap (λ w. failed (after_all w back)) e ∙ ap failed (after_all-Failed back)

after-Failure : (watch : Watch) → after watch Failure ≡ Failed
after-Failure (Sound n) = refl
after-Failure Failed = refl

seen_failure : (watch : Watch) (answers : List Answer) → HasFailure answers → failed (after_all watch answers) ≡ true
seen_failure watch answers (front, back, split) =
    ap (λ l. failed (after_all watch l)) split ∙ ap failed (after_all-append watch front (Failure ∷ back))
    ∙ failed-behind (after (after_all watch front) Failure) back (after-Failure (after_all watch front))

seen_interruptions : (watch : Watch) (k : ℕ) (front back : List Answer) → 1000 ≤ k →
    failed (after_all watch (front ++ (replicate k Interruption ++ back))) ≡ true
seen_interruptions watch k front back full =
    let many = replicate k Interruption in
    ap failed (after_all-append watch front (many ++ back) ∙ after_all-append (after_all watch front) many back)
    ∙ failed-behind (after_all (after_all watch front) many) back (after_all-limit (after_all watch front) k full)

pub failed_run_seen : (answers : List Answer) → IsFailedRun answers → IsTrue (failed (after_all fresh answers))
failed_run_seen answers (inl failure) = seen_failure fresh answers failure
failed_run_seen answers (inr (front, back, split)) = ap (λ l. failed (after_all fresh l)) split
    ∙ seen_interruptions fresh 1000 front back (lit≤ tt)

-- ---- what is said to have failed did

-- a run that failed did so too behind more calls
IsFailedRun-behind : (more answers : List Answer) → IsFailedRun answers → IsFailedRun (more ++ answers)
IsFailedRun-behind more answers (inl (front, back, split)) =
    inl (more ++ front, back, ap (λ l. more ++ l) split ∙ sym (append_assoc more front (Failure ∷ back)))
IsFailedRun-behind more answers (inr (front, back, split)) =
    inr (more ++ front, back, ap (λ l. more ++ l) split ∙ sym (append_assoc more front _))

replicate-behind : (n : ℕ) (answers : List Answer) → replicate n Interruption ++ Interruption ∷ answers ≡
    replicate (n + 1) Interruption ++ answers
replicate-behind n answers = sym (append_assoc (replicate n Interruption) (Interruption ∷ []) answers)
    ∙ ap (λ l. l ++ answers) (replicate_more n Interruption)

-- the n interruptions that were counted stand before the answers
failed_run_said : (n : ℕ) (answers : List Answer) → n < 1000 → failed (after_all (Sound n) answers) ≡ true →
    IsFailedRun (replicate n Interruption ++ answers)
failed_run_said n [] below failed_is = absurd (cc)
failed_run_said n (Normal ∷ answers) below failed_is =
    let rest : IsFailedRun answers = failed_run_said 0 answers (lit< tt) failed_is in
    subst IsFailedRun (append_assoc (replicate n Interruption) (Normal ∷ []) answers)
    (IsFailedRun-behind (replicate n Interruption ++ Normal ∷ []) answers rest)
failed_run_said n (Interruption ∷ answers) below failed_is =
    elim (cases_lt (n + 1) 1000) [
      | inl more ↦
          let rest = failed_run_said (n + 1) answers more (ap (λ w. failed (after_all w answers))
          (sym (after-counted n more)) ∙ failed_is) in
          subst IsFailedRun (sym (replicate-behind n answers)) rest
      | inr over ↦
          let all : n + 1 ≡ 1000 = omega arith in
          inr ([], answers, replicate-behind n answers ∙ ap (λ k. replicate k Interruption ++ answers) all)
    ]
failed_run_said n (Failure ∷ answers) below failed_is = inl (replicate n Interruption, answers, refl)

pub failed_is_said : (answers : List Answer) → IsTrue (failed (after_all fresh answers)) → IsFailedRun answers
failed_is_said answers failed_is = failed_run_said 0 answers (lit< tt) failed_is
