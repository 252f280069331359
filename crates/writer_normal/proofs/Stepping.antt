-- What a step was to make is made of what is the same.
use Rattle.std.specs.Prelude.{◌≡◌, IfOk, MatchResult, Result}
use Rattle.std.proofs.Common.{subst}
use Rattle.syn_grammar.specs.Tree.{Tree}
use Rattle.writer_normal.specs.declared.fault.Fault.{Fault}
use Rattle.writer_normal.specs.Separators.{IsFault}

pub made_so : {Y : Type 0} (r : Result Tree Y) (x y : Tree) → IfOk r (λ z. z ≡ x) → x ≡ y → IfOk r (λ z. z ≡ y)
made_so r x y made same = subst (λ v. IfOk r (λ z. z ≡ v)) same made

pub normal_so : (r : Result Tree Fault) (x y : Tree) → MatchResult r (λ z. z ≡ x) (λ fault. IsFault fault x) → x ≡ y
    → MatchResult r (λ z. z ≡ y) (λ fault. IsFault fault y)
normal_so r x y made same = subst (λ v. MatchResult r (λ z. z ≡ v) (λ fault. IsFault fault v)) same made
