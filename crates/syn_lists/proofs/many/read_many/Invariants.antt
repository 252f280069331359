use Rattle.std.proofs.Common.{◌≡◌, ◌≤◌, ◌-◌, length, suc}
use Rattle.std.specs.Prelude.{Ok}
use Rattle.syn_input.specs.Input.{IsOnward, rest}
use Rattle.syn_lists.specs.Lists.{separators, values}
use Rattle.syn_lists.specs.ReadMany.{ReadsBy, ReadsTurns}
use Rattle.syn_lists.proofs.many.read_many.Given as goal

abbrev pub invariant-turns : goal.invariant-turns
invariant-turns g l = record {
  turns : ReadsTurns (ReadsBy (λ i r e. goal.F-post g l.reader i r e)) g.P.Parse.reads g.E.Token.stands g.P.Token.stands
      (rest l.initial.input) (values l.list) (separators l.list) (rest l.input);
  few : length (values l.list) ≤ l.most;
  even : length (values l.list) ≡ length (separators l.list);
  noted : ((i : _) (v : _) (e : _) → goal.F-post g l.reader i (Ok v) e → e.now.noted ≡ i.now.noted)
      → l.input.noted ≡ l.initial.input.noted;
  onward : IsOnward l.initial.input l.input;
}

abbrev pub decreases-turns : goal.decreases-turns
decreases-turns g l = suc l.most - length (values l.list)
