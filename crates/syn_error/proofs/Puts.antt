-- Prints of values one behind the other.
use Rattle.std.proofs.Common.{◌≡◌, ℕ, ◌+◌, ◌<◌, ◌≤◌, List, length, get_or, drop, refl, sym, subst}
use Rattle.std.proofs.lemmas.List.{drop_all, drop_more}
use Rattle.syn_error.specs.Tokens.{Puts, PutsAll}
use Rattle.proc_macro2.specs.Token.{Spanned}

-- What a print of the values from that place on makes of the tokens that stand there, a print of all of them makes of
-- the first ones.
module _ {A : Type 0} (puts : A → Puts) (values : List A) (first : List Spanned) where
  abbrev GoesOn : ℕ → List Spanned → Type 0
  GoesOn i tokens = (all : List Spanned) → PutsAll puts (drop i values) tokens all → PutsAll puts values first all

  -- one value more has been put
  pub put_more : (i : ℕ) (value : A) (old new : List Spanned) → value ≡ get_or values i value → i < length values
      → puts value old new → GoesOn i old → GoesOn (i + 1) new
  put_more i value old new is below put goes =
      λ all h. goes all (subst (λ (vs : List A). PutsAll puts vs old all) (sym (drop_more values i value below))
      (new, subst (λ (v : A). puts v old new) is put, h))

  -- all have been put
  pub put_done : (i : ℕ) (new : List Spanned) → length values ≤ i → GoesOn i new → PutsAll puts values first new
  put_done i new past goes =
      goes new (subst (λ (vs : List A). PutsAll puts vs new new) (sym (drop_all i values past)) refl)
