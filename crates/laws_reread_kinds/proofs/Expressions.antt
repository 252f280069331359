-- What is to be known of expressions, and is proved in the crate `laws_reread`: the steps and the laws of the kinds of
-- their forms, and that an expression is printed where the own parts of its forms are.
use Rattle.std.proofs.Common.{◌≡◌, refl}
use Rattle.std.specs.Prelude.{Bool, true, false, ◌||◌}
use Rattle.syn_grammar.specs.Kind.{Kind}
use Rattle.laws_reread_kinds.specs.Covered.{has_step, has_form_step, is_known}
use Rattle.laws_reread_kinds.proofs.Readies.{Step}
use Rattle.laws_reread_kinds.proofs.Printed.{KindLaw, WholeLaw}
use Rattle.laws_reread_kinds.proofs.AllKinds.{steps, laws}

pub record Expressions : Type 0 where
  pub form_steps : (k : Kind) → has_form_step k ≡ true → Step k
  pub form_laws : (k : Kind) → has_form_step k ≡ true → KindLaw k
  pub whole : WholeLaw

-- of every kind
module _ (x : Expressions) where
  pub all_steps : (k : Kind) → is_known k ≡ true → Step k
  all_steps k e = go (has_step k) refl e
    where
      go : (b : Bool) → has_step k ≡ b → (b || has_form_step k) ≡ true → Step k
      go true i h = steps k i
      go false i h = x.form_steps k h

  pub all_laws : (k : Kind) → is_known k ≡ true → KindLaw k
  all_laws k e = go (has_step k) refl e
    where
      go : (b : Bool) → has_step k ≡ b → (b || has_form_step k) ≡ true → KindLaw k
      go true i h = laws k i
      go false i h = x.form_laws k h
