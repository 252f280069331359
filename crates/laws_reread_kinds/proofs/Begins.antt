-- What is known of the tokens of a kind's tree where it stands: they begin as the kind does, or there are none.
use Rattle.std.specs.Prelude.{◌≡◌, ◌⊎◌, Bool, true, false, List, [], ◌++◌}
use Rattle.proc_macro2.specs.Token.{Token}
use Rattle.syn_grammar.specs.Kind.{Kind}
use Rattle.syn_grammar.specs.Ranks.{skips}
use Rattle.syn_grammar.specs.Tree.{Tree, flat}
use Rattle.laws_reread_kinds.proofs.Classes.{Class, IsAmong}
use Rattle.laws_reread_kinds.proofs.Starts.{starts}

abbrev pub BeginsBy : Bool → List Class → Tree → List Token → Type 0
BeginsBy true cs x s = (flat x ≡ []) ⊎ IsAmong cs (flat x ++ s)
BeginsBy false cs x s = IsAmong cs (flat x ++ s)

abbrev pub Begins : Kind → Tree → List Token → Type 0
Begins k x s = BeginsBy (skips k) (starts k) x s
