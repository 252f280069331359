-- What stands in front of others, and stays there.
use Rattle.std.proofs.Common.{◌≡◌, ◌++◌, ℕ, List, [], ◌∷◌, length, take, drop, sym, ap, ◌∙◌}
use Rattle.std.proofs.lemmas.List.{append_assoc, append-nil, take-append-drop}
use Rattle.std.proofs.Math.Seq.{take-append_seam}
use Rattle.writer_rules.specs.Front.{Keeps}

-- what is put behind the old ones
pub keeps_added : {X : Type 0} (old added new : List X) → new ≡ old ++ added → Keeps old new
unfolding Keeps
keeps_added old added new e front (behind, h) =
    (behind ++ added, e ∙ ap (λ xs. xs ++ added) h ∙ append_assoc front behind added)

pub keeps_same : {X : Type 0} (old new : List X) → new ≡ old → Keeps old new
unfolding Keeps
keeps_same old new e front (behind, h) = (behind, e ∙ h)

-- some put behind others
pub keeps_both : {X : Type 0} (old middle new : List X) → Keeps old middle → Keeps middle new → Keeps old new
unfolding Keeps
keeps_both old middle new f g front h = g front (f front h)

-- one that is put behind the old ones
pub keeps_one : {X : Type 0} (old new : List X) (x : X) → new ≡ old ++ x ∷ [] → Keeps old new
keeps_one old new x e = keeps_added old (x ∷ []) new e

-- what is changed behind the old ones alone
front_taken : {X : Type 0} (old middle : List X) → Keeps old middle → take (length old) middle ≡ old
unfolding Keeps
front_taken old middle f = let g = f old ([], sym (append-nil old)) in
    ap (take (length old)) g.1 ∙ take-append_seam old g.0

pub keeps_taken : {X : Type 0} (old middle new : List X) (n : ℕ) → n ≡ length old → Keeps old middle
    → take n new ≡ take n middle → Keeps old new
keeps_taken old middle new n e f h =
    let same : take n new ≡ old = h ∙ ap (λ k. take k middle) e ∙ front_taken old middle f in
    keeps_added old (drop n new) new (sym (take-append-drop n new) ∙ ap (λ xs. xs ++ drop n new) same)

pub ruleset kept = (keeps_same, keeps_one, keeps_both)
