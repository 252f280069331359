use Rattle.std.proofs.Common.{arith, ap, sym, ◌∙◌}
use Rattle.reader_tree.specs.Forms.{tree_of}
use Rattle.reader_tree.proofs.Sizes.{list_below}
use Rattle.syn_grammar.specs.Kind.{UseRooted, UseTop}
use Rattle.syn_grammar.specs.Tree.{Node}
use Rattle.syn_grammar.specs.Verdicts.{has_root}
use Rattle.reader_verdicts.proofs.UseRoots.{no_root, no_rooted, no_top, root_off}
use Rattle.reader_verdicts.proofs.roots.+roots.Goals as goal

pub has_root-some_has_root-requires : goal.has_root-some_has_root-requires
has_root-some_has_root-requires t c =
    let below = list_below c.in-Elements.list.now c.args.tree.now (sym c.tree.view_is ∙ ap tree_of c.in-Elements.is) in
    omega (arith, c.decreases, below)

pub has_root-some_has_root-requires-in-None : goal.has_root-some_has_root-requires-in-None
has_root-some_has_root-requires-in-None t c =
    let below = list_below c.in-Elements.list.now c.args.tree.now (sym c.tree.view_is ∙ ap tree_of c.in-Elements.is) in
    omega (arith, c.decreases, below)

pub has_root-returns-in_default-kind : goal.has_root-returns-in_default-kind
has_root-returns-in_default-kind t c =
    root_off c.in-Node.kind c.in-Node.inner.now c.args.tree.now (sym c.tree.view_is ∙ ap tree_of c.in-Node.is)
    c.in_default-kind.not-UseTop c.in_default-kind.not-UseRooted

pub has_root-returns-in_default : goal.has_root-returns-in_default
has_root-returns-in_default t c =
    let d = c.in_default in
    no_root _ d.not-Node d.not-Group d.not-Elements ∙ ap has_root c.tree.view_is

pub top_has_root-returns-in_default : goal.top_has_root-returns-in_default
top_has_root-returns-in_default t c =
    no_top _ c.in_default.not-First c.in_default.not-Second ∙ ap (λ x. has_root (Node UseTop x)) c.inner.view_is

pub rooted_has_root-returns-in_default : goal.rooted_has_root-returns-in_default
rooted_has_root-returns-in_default t c =
    no_rooted _ c.in_default.not-First ∙ ap (λ x. has_root (Node UseRooted x)) c.inner.view_is
