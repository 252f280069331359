-- The program's name and the words behind it.
use Rattle.std.proofs.Common.{◌≡◌, ◌-◌, ◌<◌, ◌∙◌, List, [], ◌∷◌, length, map, take, drop}
use Rattle.std.proofs.Common.{ap, arith, refl, sym}
use Rattle.std.proofs.Math.ListN.{get_or}
use Rattle.std.proofs.lemmas.List.{drop_all, drop_more, length-drop, take_all}
use Rattle.std.specs.Prelude.{ℕ}

-- where something is behind two, there are two
two_or_more : {X : Type 0} (xs : List X) → (take (length xs - 2) (drop 2 xs) ≡ [] → ⊥) → 1 < length xs
two_or_more [] some = absurd (some refl)
two_or_more (x ∷ []) some = absurd (some refl)
two_or_more (x ∷ y ∷ xs) some = omega arith

module _ {X : Type 0} (named : X → List ℕ) (xs : List X) (x d : X) (is : x ≡ get_or xs 1 d) (word : List ℕ)
    (says : named x ≡ word) where
  -- a word and those behind it
  behind_name : 1 < length xs → map named (drop 1 xs) ≡ word ∷ map named (drop 2 xs)
  behind_name more = ap (map named) (drop_more xs 1 d more ∙ ap (λ y. y ∷ drop 2 xs) (sym is))
      ∙ ap (λ w. w ∷ map named (drop 2 xs)) says

  -- one word alone
  pub one_word : length xs ≡ 2 → map named (drop 1 xs) ≡ word ∷ []
  one_word two = behind_name (omega (arith, two))
      ∙ ap (λ ys. word ∷ map named ys) (drop_all 2 xs (omega (arith, two)))

  -- a word and others
  pub word_and_others : (take (length xs - 2) (drop 2 xs) ≡ [] → ⊥)
      → map named (drop 1 xs) ≡ word ∷ map named (take (length xs - 2) (drop 2 xs))
  word_and_others some = behind_name (two_or_more xs some) ∙ ap (λ ys. word ∷ map named ys)
      (sym (take_all (length xs - 2) (drop 2 xs) (omega (arith, length-drop 2 xs))))
