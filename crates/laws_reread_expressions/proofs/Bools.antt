-- Small facts of tests and of looks.
use Rattle.std.proofs.Common.{◌≡◌, List, refl, sym}
use Rattle.std.specs.Prelude.{Bool, true, false, ◌&&◌, Option, Some, None}
use Rattle.std.proofs.lemmas.Bool.{false≢true}
use Rattle.proc_macro2.specs.Token.{Token}
use Rattle.syn_grammar.specs.Look.{seen, first_seen}

pub and_no : (b : Bool) → (b && false) ≡ false
and_no true = refl
and_no false = refl

pub or_none : (o p : Option (List Token)) → seen o ≡ false → seen p ≡ false → seen (first_seen o p) ≡ false
or_none None p e f = f
or_none (Some ts) p e f = e

pub or_parts : (o p : Option (List Token)) → seen (first_seen o p) ≡ false → (seen o ≡ false) × (seen p ≡ false)
or_parts None p e = (refl, e)
or_parts (Some ts) p e = absurd (false≢true (sym e))
