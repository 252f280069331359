use Rattle.std.proofs.Common.{◌≡◌, ◌≤◌, ◌-◌, length, suc}
use Rattle.syn_lists.specs.Lists.{separators, values}
use Rattle.syn_input.specs.Input.{IsOnward, rest}
use Rattle.syn_lists.specs.ReadLists.{ReadsPairs}
use Rattle.syn_lists.proofs.punctuated.Punctuated.parse_terminated.Given as goal

abbrev pub invariant-values : goal.invariant-values
invariant-values g l = record {
  pairs : ReadsPairs g.T.Parse.reads g.P.Parse.reads (rest l.initial.input) (values l.list) (separators l.list)
      (rest l.input);
  few : length (values l.list) ≤ l.most;
  even : length (values l.list) ≡ length (separators l.list);
  noted : l.input.noted ≡ l.initial.input.noted;
  onward : IsOnward l.initial.input l.input;
}

abbrev pub decreases-values : goal.decreases-values
decreases-values g l = suc l.most - length (values l.list)
