-- How true and false are written.
use Rattle.std.specs.Prelude.{ℕ, Bool, true, false, List, codes}

abbrev pub bool_text : Bool → List ℕ
bool_text true = codes "true"
bool_text false = codes "false"
