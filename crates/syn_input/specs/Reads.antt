-- What is read where it stands, and else left out.
use Rattle.std.specs.Prelude.{◌≡◌, Bool, true, false, List, Option, Some, None}
use Rattle.proc_macro2.specs.Token.{Token, Spanned, plain}

-- a value where one of its kind stands first, and else nothing
abbrev pub optional : {A : Type 0} → (List Token → Bool) → (List Spanned → A → List Spanned → Type 0) → List Spanned →
    Option A → List Spanned → Type 0
optional stands reads ts None us = (stands (plain ts) ≡ false) × (us ≡ ts)
optional stands reads ts (Some x) us = (stands (plain ts) ≡ true) × reads ts x us
