-- Lists that are compared place by place.
use Rattle.std.proofs.Common.{List, [], ◌∷◌, refl, IsTrue}
use Rattle.std.specs.Prelude.{◌↔◌, ◌&&◌, Bool, true, false}
use lib.Pointwise.{pointwise}
use Rattle.syn_lists.specs.Alike.{AreAlike}

and_parts : (s t : Bool) → IsTrue (s && t) → IsTrue s × IsTrue t
and_parts true t h = (refl, h)
and_parts false t h = cc

and_both : (s t : Bool) → IsTrue s → IsTrue t → IsTrue (s && t)
and_both true t h k = k
and_both false t h k = cc

module _ {A : Type 0} (alike : A → A → Bool) where
  are_alike : (xs ys : List A) → IsTrue (pointwise alike xs ys) → AreAlike alike xs ys
  are_alike [] [] h = tt
  are_alike [] (y ∷ ys) h = cc
  are_alike (x ∷ xs) [] h = cc
  are_alike (x ∷ xs) (y ∷ ys) h =
      let both = and_parts (alike x y) (pointwise alike xs ys) h in
      (both.0, are_alike xs ys both.1)

  is_pointwise : (xs ys : List A) → AreAlike alike xs ys → IsTrue (pointwise alike xs ys)
  is_pointwise [] [] h = refl
  is_pointwise [] (y ∷ ys) h = absurd h
  is_pointwise (x ∷ xs) [] h = absurd h
  is_pointwise (x ∷ xs) (y ∷ ys) (one, all) =
      and_both (alike x y) (pointwise alike xs ys) one (is_pointwise xs ys all)

-- two lists that are compared, and behind them two others
pub both_alike : {A B : Type 0} (one : A → A → Bool) (other : B → B → Bool) (xs ys : List A) (vs ws : List B)
    → IsTrue (pointwise one xs ys && pointwise other vs ws) ↔ AreAlike one xs ys × AreAlike other vs ws
both_alike one other xs ys vs ws = (
  (λ h. let both = and_parts (pointwise one xs ys) (pointwise other vs ws) h in
      (are_alike one xs ys both.0, are_alike other vs ws both.1)),
  (λ (h, k). and_both (pointwise one xs ys) (pointwise other vs ws) (is_pointwise one xs ys h)
      (is_pointwise other vs ws k)),
)
