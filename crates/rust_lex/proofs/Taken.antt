-- What ends by itself: what stands behind it doesn't matter.
use Rattle.std.proofs.Common.{◌≡◌, ℕ, zero, suc, List, [], ◌∷◌, ◌++◌, refl, sym, ap, ◌∙◌, subst, inl, inr, ⊎_elim}
use Rattle.std.specs.Prelude.{Bool, true, false, cond, ◌⊎◌, ◌&&◌, ◌==◌, Option, Some, None, not}
use Rattle.std.proofs.lemmas.List.{append-nil}
use Rattle.rust_lex.specs.Comment.{past_comment}

pub chosen : {X : Type 0} (b : Bool) (x y z : X) → cond b x y ≡ z → ((b ≡ true) × (x ≡ z)) ⊎ ((b ≡ false) × (y ≡ z))
chosen true x y z e = inl (refl, e)
chosen false x y z e = inr (refl, e)

-- characters were taken from the front of a text, and they are taken whatever follows them
pub record Taken (past_it : List ℕ → Option (List ℕ)) (cs rest : List ℕ) : Type 0 where
  pub front : List ℕ
  pub joined : cs ≡ front ++ rest
  pub stays : (t : List ℕ) → past_it (front ++ t) ≡ Some t

-- the same where the first of them is known
pub record TakenFrom (past_it : List ℕ → Option (List ℕ)) (c : ℕ) (cs rest : List ℕ) : Type 0 where
  pub front : List ℕ
  pub joined : cs ≡ front ++ rest
  pub stays : (t : List ℕ) → past_it (c ∷ (front ++ t)) ≡ Some t

taken_from_front : (past_it : List ℕ → Option (List ℕ)) (c : ℕ) (cs rest front : List ℕ) → past_it [] ≡ None → c ∷ cs
    ≡ front ++ rest → ((t : List ℕ) → past_it (front ++ t) ≡ Some t) → TakenFrom past_it c cs rest
taken_from_front past_it c cs rest [] n e s = let k : past_it [] ≡ Some [] = s [] in cc
taken_from_front past_it c cs rest (f ∷ fs) n e s =
    let same : f ≡ c = cc in
    let tails : cs ≡ fs ++ rest = cc in
    record { front = fs; joined = tails; stays = λ t. subst (λ x. past_it (x ∷ (fs ++ t)) ≡ Some t) same (s t) }

pub taken_from : (past_it : List ℕ → Option (List ℕ)) (c : ℕ) (cs rest : List ℕ) → past_it [] ≡ None
    → Taken past_it (c ∷ cs) rest → TakenFrom past_it c cs rest
taken_from past_it c cs rest n k = taken_from_front past_it c cs rest k.front n k.joined k.stays

-- what was taken to its end is taken before any text
pub whole : (past_it : List ℕ → Option (List ℕ)) (cs t : List ℕ) → Taken past_it cs [] → past_it (cs ++ t) ≡ Some t
whole past_it cs t k = let e : cs ≡ k.front =
    k.joined ∙ append-nil k.front in subst (λ x. past_it (x ++ t) ≡ Some t) (sym e) (k.stays t)

-- and alone
pub alone : (past_it : List ℕ → Option (List ℕ)) (cs rest : List ℕ) (k : Taken past_it cs rest) → past_it k.front
    ≡ Some []
alone past_it cs rest k = subst (λ x. past_it x ≡ Some []) (append-nil k.front) (k.stays [])

pub option_cases : {X : Type 0} (o : Option X) → (o ≡ None) ⊎ ((x : X) × (o ≡ Some x))
option_cases None = inl refl
option_cases (Some x) = inr (x, refl)

-- comments
no_comment : (doc : Bool) (n : ℕ) → past_comment doc n [] ≡ None
unfolding past_comment
no_comment doc n = refl

pub comment_taken : (doc : Bool) (n : ℕ) (cs rest : List ℕ) → past_comment doc n cs ≡ Some rest
    → Taken (past_comment doc n) cs rest
unfolding past_comment
comment_taken doc n [] rest e = cc
comment_taken doc n (c ∷ []) rest e = cc
comment_taken doc n (c ∷ d ∷ cs) rest e =
    ⊎_elim
    (λ h. (elim n as (λ n. ◌≡◌ {A = Option (List ℕ)} (elim n [ zero ↦ Some cs | suc m ↦ past_comment doc m cs ])
    (Some rest) → Taken (past_comment doc n) (c ∷ d ∷ cs) rest) [
      | zero ↦ λ q. (let same : cs
          ≡ rest = cc in record { front = c ∷ d ∷ []; joined = rw same refl; stays = λ t. rw h.0 refl })
      | suc m ↦ λ q. (let more = comment_taken doc m cs rest q in record
          { front = c ∷ d ∷ more.front; joined = ap (λ x. c ∷ d ∷ x) more.joined; stays = λ t. rw h.0 (more.stays t) })
    ]) h.1)
    (λ h. ⊎_elim
    (λ k. let more = comment_taken doc (suc n) cs rest k.1 in record {
      front = c ∷ d ∷ more.front;
      joined = ap (λ x. c ∷ d ∷ x) more.joined;
      stays = λ t. rw (h.0, k.0) (more.stays t);
    })
    (λ k. ⊎_elim
    (λ l. cc)
    (λ l. let more = taken_from (past_comment doc n) d cs rest (no_comment doc n)
    (comment_taken doc n (d ∷ cs) rest l.1) in record {
      front = c ∷ d ∷ more.front;
      joined = ap (λ x. c ∷ d ∷ x) more.joined;
      stays = λ t. rw (h.0, k.0, l.0) (more.stays t);
    })
    (chosen (doc && (c == 13 && not (d == 10))) _ _ _ k.1))
    (chosen (c == 47 && d == 42) _ _ _ h.1))
    (chosen (c == 42 && d == 47) _ _ _ e)
