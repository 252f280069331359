-- What is read of tokens within a number of calls.
use Rattle.std.specs.Prelude.{◌≡◌, ℕ, ◌≤◌, List}
use Rattle.proc_macro2.specs.Token.{Token}
use Rattle.syn_grammar.specs.Kind.{Kind}
use Rattle.syn_grammar.specs.Run.{Got, kind, run}
use Rattle.syn_grammar.specs.Tree.{Tree}

-- Each run of the grammar that may go so many calls deep, or deeper, reads this tree of the kind, and leaves this rest.
abbrev pub IsReadIn : ℕ → Kind → List Token → Tree → List Token → Type 0
IsReadIn calls k ts x rest = (fuel : ℕ) → calls ≤ fuel → run fuel (kind k) ts ≡ Got x rest
