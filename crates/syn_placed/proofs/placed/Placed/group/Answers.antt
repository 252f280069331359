use Rattle.std.proofs.Common.{◌≡◌, ◌-◌, ◌∙◌, length, arith}
use Rattle.proc_macro2.specs.Token.{Opens, Closes}
use Rattle.syn_grammar.specs.Tree.{flat}
use Rattle.syn_placed.proofs.Cuts.{enclosed, enclosed_all, enclosed_length}
use Rattle.syn_placed.proofs.Shapes.{group_flat}
use Rattle.syn_placed.proofs.placed.Placed.group.Goals as goal

pub new-requires : goal.new-requires
new-requires c =
    let g = group_flat c.args.self.now.tree.now c.in-Some.inside.now c.in-Some.ensures in
    let es = c.args.self.now.entries.now in
    let ts = flat c.in-Some.inside.now in
    let is = c.args.self.now.is_spelled ∙ g.1 in
    let long = enclosed_length es (Opens g.0) (Closes g.0) ts is in
    let n : length es - 1 - 1 ≡ length ts = omega arith in
    enclosed (length es - 1 - 1) es (Opens g.0) (Closes g.0) ts n is

pub returns-in-Some-clause-entries : goal.returns-in-Some-clause-entries
returns-in-Some-clause-entries c =
    let g = group_flat c.args.self.now.tree.now c.in-Some.inside.now c.in-Some.ensures in
    let es = c.args.self.now.entries.now in
    let ts = flat c.in-Some.inside.now in
    let is = c.args.self.now.is_spelled ∙ g.1 in
    let long = enclosed_length es (Opens g.0) (Closes g.0) ts is in
    let n : length es - 1 - 1 ≡ length ts = omega arith in
    rw c.new.ensures.entries (enclosed_all (length es - 1 - 1) es (Opens g.0) (Closes g.0) ts n is)
