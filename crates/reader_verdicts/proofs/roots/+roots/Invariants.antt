use Rattle.std.proofs.Common.{◌≡◌, drop}
use Rattle.std.specs.List.{list_any}
use Rattle.syn_grammar.specs.Verdicts.{has_root}
use Rattle.reader_verdicts.proofs.roots.+roots.Given as goal

abbrev pub invariant-some_has_root-loop-element : goal.invariant-some_has_root-loop-element
invariant-some_has_root-loop-element l =
    list_any (λ e. has_root e.tree) l.before ≡ list_any (λ e. has_root e.tree) (drop l.element-index l.before)
